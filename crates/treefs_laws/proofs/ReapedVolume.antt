-- An open volume once inodes without links were trimmed to nothing, or freed.
use Rattle.std.proofs.Common.{◌≡◌, ◌≢◌, ◌⊎◌, ℕ, ◌+◌, Bool, true, false, not, List, [], ◌∷◌, Option, None, Some, Result, Ok, refl, sym}
use Rattle.std.proofs.Common.{◌∙◌, ap, inl, inr, subst, if◌then◌else◌}
use Rattle.std.specs.Prelude.{Contains, option_map, ◌==◌}
use Rattle.std.proofs.lemmas.Bool.{cases_eq, eqb-false}
use Rattle.std.proofs.lemmas.List.Elements.{All-weaker}
use Rattle.std.proofs.lemmas.Option.{same_Some}
use Rattle.xn_model.specs.Lives.{StoreState}
use Rattle.xn_model.specs.Types.{Types}
use Rattle.xn_model.proofs.ForCallers.{filter_at, filter_from, has_number_at, has_number_from}
use Rattle.treefs_format.specs.Inodes.{kind_of}
use Rattle.treefs_format.specs.declared.fields.Fields.{Fields}
use Rattle.treefs_lookup.specs.Readable.{readable}
use Rattle.treefs_model.specs.Acts.{Ran}
use Rattle.treefs_model.specs.Files.{Content, Files, Inode}
use Rattle.treefs_model.specs.Reading.{content_at, files_of, inode_block, inode_with, key_in}
use Rattle.treefs_model.specs.declared.fault.Fault.{Fault}
use Rattle.treefs_edits.specs.Memories.{Memory, touched_times}
use Rattle.treefs_edits.specs.declared.memory.Touched.{Touched}
use Rattle.treefs_edits.specs.declared.times.Times.{Times}
use Rattle.treefs.specs.Reaping.{EmptiesOne, IsFreeing, freed_beside, freed_memory, is_freed, left_orphans, orphan_block, reap_act}
use Rattle.treefs.specs.Trimming.{TrimDoes, TrimsFirst, kept_nothing}
use Rattle.treefs.specs.declared.reap_plan.ReapPlan.{ReapPlan}
use Rattle.treefs.specs.declared.volume.Volume.{Volume}
use Rattle.treefs_values.specs.Kinds.{kinds}
use Rattle.treefs_values.specs.Ways.{block_numbered}
use Rattle.treefs_values.proofs.ForCallers.{IsAt, candidates_few}
use Rattle.treefs_laws.specs.Kept.{files_in}
use Rattle.treefs_laws.specs.Open.{IsOpen}
use Rattle.treefs_laws.specs.Orphans.{IsLeftOf, IsOrphan, IsReaped, WaitLess}
use Rattle.treefs_laws.specs.Seen.{seen_files, seen_inode}
use Rattle.treefs_laws.proofs.AsideVolume.{IsAsideIn, KeepsAside, alike_same}
use Rattle.treefs_laws.proofs.Emptied.{IsInodeAt, Leaves, empties, says}
use Rattle.treefs_laws.proofs.FreedMemory.{all_left, session_left, times_left}
use Rattle.treefs_laws.proofs.FreedStore.{freed_aside, freed_at_still, freed_gone, freed_orphan, others_there, own_freed}
use Rattle.treefs_laws.proofs.OrphansFound.{IsOrphanFound, orphan_is}
use Rattle.treefs_laws.proofs.ReapedFiles.{among_or_not, reaped_same, reaped_seen, whole_left}
use Rattle.treefs_laws.proofs.SameValues.{content_left}
use Rattle.treefs_laws.proofs.WaysApart.{file_none, inodes_apart, no_top, numbered_block, numbered_led}

some_none : {A : Type 0} (x : A) → ◌≡◌ {A = Option A} (Some x) None → ⊥
some_none x e = absurd (cc e)

seen_some : (touched : List Touched) (files : Files) (m : ℕ) → files m ≢ None → seen_files touched files m ≢ None
unfolding seen_files
seen_some touched files m some none = by (files m) some none
  where
    by : (o : Option Inode) → o ≢ None → option_map (seen_inode touched m) o ≡ None → ⊥
    by None some none = some refl
    by (Some inode) some none = some_none (seen_inode touched m inode) none

was_some : (touched : List Touched) (files : Files) (m : ℕ) → seen_files touched files m ≢ None → files m ≢ None
unfolding seen_files
was_some touched files m some none = some (ap (option_map (seen_inode touched m)) none)

module _ (T : Types) (numbers : List ℕ) (old new : StoreState) (volume : Volume) (is_open : IsOpen T old volume) where
  abbrev fs : ℕ
  fs = volume.tree.fs.number

  abbrev top : ℕ
  top = volume.tree.top

  abbrev content : ℕ → List ℕ
  content = readable old fs

  abbrev files_before : Files
  files_before = files_of (readable old fs) top

  abbrev files_now : Files
  files_now = files_of (readable new fs) top

  pub at_old : IsAt T fs volume.tree.node_type volume.tree.inode_type top old
  at_old = record { store = is_open.kept.store; root = is_open.root; volume = is_open.kept.bytes }

  -- the volume then, with its session's memory
  abbrev Said : Volume → Type 0
  Said volume' = IsOpen T new volume' × IsReaped (Contains numbers) (files_in old volume) (files_in new volume') × KeepsAside volume.tree old new

  pub same_volume : new ≡ old → (volume' : Volume) → volume' ≡ volume →
      IsOpen T new volume' × IsReaped (Contains numbers) (files_in old volume) (files_in new volume') × KeepsAside volume.tree old new
  same_volume same volume' is =
      subst (λ s. IsOpen T s volume' × IsReaped (Contains numbers) (files_in old volume) (files_in s volume') × KeepsAside volume.tree old s) (sym same)
      (subst (λ w. IsOpen T old w × IsReaped (Contains numbers) (files_in old volume) (files_in old w) × KeepsAside volume.tree old old) (sym is)
      (is_open, reaped_same (Contains numbers) (among_or_not numbers) (files_in old volume), λ a aside. (aside, alike_same content a)))

  orphan_in_files : (n : ℕ) → Contains numbers n → IsOrphanFound content top n → IsOrphan (Contains numbers) files_before n
  orphan_in_files n among o = record { among = among; inode = o.inode; there = o.there; unlinked = o.no_links }

  -- One that is trimmed to nothing

  module _ (number : ℕ) (among : Contains numbers number) (some : orphan_block content top number ≢ 0) where
    o : IsOrphanFound content top number
    o = orphan_is content top number some

    abbrev c : ℕ
    c = block_numbered content top number

    abbrev fields : Fields
    fields = o.found.fields

    abbrev InodeAt : StoreState → Type 0
    InodeAt s = IsInodeAt T volume.tree c fields s

    at : InodeAt old
    at = record {
      here = at_old;
      there = o.is.there;
      no_table = no_top volume.tree.node_type volume.tree.inode_type top (kinds old fs) content is_open.kept.bytes number o.is.number o.is.there;
      is_block = numbered_block volume.tree.node_type volume.tree.inode_type top (kinds old fs) content is_open.kept.bytes number o.is.there;
      stands = inl (number, refl);
      fields_are = sym o.is.fields;
    }

    is_kind : kind_of fields.mode ≡ Some o.found.kind
    is_kind = ap (λ (g : Fields). kind_of g.mode) o.is.fields ∙ o.is.kind

    abbrev said : StoreState → Inode
    said s = inode_with fields (content_at (readable s fs) (key_in (readable s fs) top) c fields.parent o.found.kind)

    says_at : (s : StoreState) → InodeAt s → block_numbered (readable s fs) top number ≡ c → files_of (readable s fs) top number ≡ Some (said s)
    says_at s at_s block = says T volume.tree c fields s number o.found.kind o.is.number at_s block is_kind

    module _ (result : Result (Unit {0}) Fault) (does : TrimDoes T fs volume.memory (kept_nothing (orphan_block content top number)) old new result) where
      leaves : Leaves T volume.tree c fields old new
      leaves = empties T volume.tree c fields volume.memory old new result at
          (subst (λ x. TrimDoes T fs volume.memory (kept_nothing x) old new result) o.block does)

      others_same : (m : ℕ) → m ≢ number → files_now m ≡ files_before m
      others_same m ne = leaves.others m (λ is. ne
          (inodes_apart volume.tree.node_type volume.tree.inode_type top (kinds old fs) content is_open.kept.bytes m number
          (λ z. o.is.there (sym is ∙ z)) is))

      says_now : files_now number ≡ Some (said new)
      says_now = says_at new leaves.at (leaves.numbers number)

      own_left : (inode : Inode) → files_before number ≡ Some inode →
          (x : Content) × IsLeftOf inode.content x × (files_now number ≡ Some (record inode { content = x }))
      own_left inode is =
          let same : said old ≡ inode = same_Some (said old) inode (sym (says_at old at refl) ∙ is) in (
            (said new).content,
            subst (λ (i : Inode). IsLeftOf i.content (said new).content) same
                (content_left content (readable new fs) (key_in content top) (key_in (readable new fs) top) c fields.parent o.found.kind leaves.key
                (leaves.at.fields_are ∙ sym at.fields_are) leaves.bytes (λ k few. leaves.buckets k)
                (λ is. is_open.kept.bytes.directories number o.is.number o.is.there (o.is.kind ∙ ap Some is)) candidates_few),
            says_now ∙ ap (λ (i : Inode). Some (record i { content = (said new).content })) same,
          )

      emptied : IsReaped (Contains numbers) files_before files_now
      emptied = record {
        others = λ m not_orphan. elim (cases_eq m number) [
          | inl same ↦ absurd (not_orphan (subst (IsOrphan (Contains numbers) files_before) (sym same) (orphan_in_files number among o)))
          | inr ne ↦ others_same m ne
        ];
        left = λ m inode orphan is some_left. elim (cases_eq m number) [
          | inl same ↦
              let l = own_left inode (ap files_before (sym same) ∙ is) in (l.0, l.1, ap files_now same ∙ l.2)
          | inr ne ↦ (inode.content, whole_left inode.content, others_same m ne ∙ is)
        ];
      }

      still_there : (m : ℕ) → files_before m ≢ None → files_now m ≢ None
      still_there m was none = elim (cases_eq m number) [
        | inl same ↦ some_none (said new) (sym says_now ∙ (ap files_now (sym same) ∙ none))
        | inr ne ↦ was (sym (others_same m ne) ∙ none)
      ]

      -- what no number leads to is another
      not_own : (a : ℕ) → IsAsideIn old volume.tree a → a ≢ c
      not_own a aside same = numbered_led volume.tree.node_type volume.tree.inode_type top (kinds old fs) content is_open.kept.bytes a aside.there aside.no_root
          aside.unled number (sym same)

      pub emptied_said : Said volume
      emptied_said = (
        record {
          kept = record { store = leaves.at.here.store; bytes = leaves.at.here.volume; session = is_open.kept.session };
          few = is_open.few;
          tree = is_open.tree;
          short = is_open.short;
          root = leaves.at.here.root;
          touched = All-weaker (λ touch. files_in old volume touch.number ≢ None) (λ touch. files_in new volume touch.number ≢ None)
              (λ touch was. seen_some volume.memory.touched files_now touch.number
              (still_there touch.number (was_some volume.memory.touched files_before touch.number was)))
              volume.memory.touched is_open.touched;
        },
        reaped_seen (Contains numbers) volume.memory.touched volume.memory.touched files_before files_now (λ m. inr (λ times. refl)) emptied,
        λ a aside. (leaves.beside a aside, leaves.alike_beside a (not_own a aside) aside),
      )

  pub one_emptied : (number : ℕ) → Contains numbers number → (result : Result (Unit {0}) Fault) →
      EmptiesOne T volume.tree volume.memory number old new result → Said volume
  one_emptied number among result does = by (orphan_block content top number == 0) refl does
    where
      by : (t : Bool) → (orphan_block content top number == 0) ≡ t →
          TrimsFirst T fs volume.memory (if t then None else Some (kept_nothing (orphan_block content top number))) old new result → Said volume
      by true e does = same_volume does.1 volume refl
      by false e does = emptied_said number among (eqb-false (orphan_block content top number) 0 e) result does

  -- Those that are freed

  module _ (leaf : ℕ) (own : orphan_block (readable old volume.tree.fs.number) volume.tree.top (leaf + 1) ≢ 0) (plan : ReapPlan)
      (is : IsFreeing old volume.tree.fs.number volume.tree.top numbers leaf plan) (ran : Ran T volume.tree.fs.number (reap_act plan ∷ []) old new (Ok tt))
    where
      abbrev freed_so : ℕ → Bool
      freed_so m = is_freed (freed_beside content top numbers leaf) m

      freed_none : (m : ℕ) → freed_so m ≡ true → files_now m ≡ None
      freed_none m e = freed_gone T volume.tree old new at_old numbers leaf own plan is ran m e

      left_same : (m : ℕ) → freed_so m ≡ false → files_now m ≡ files_before m
      left_same m e = elim (cases_eq m 0) [
        | inl z ↦ file_none (readable new fs) top m (ap (inode_block (readable new fs) top) z) ∙ sym (file_none content top m (ap (inode_block content top) z))
        | inr some ↦ others_there T volume.tree old new at_old numbers leaf own plan is ran m some e
      ]

      freed_was : (m : ℕ) → freed_so m ≡ true → IsOrphan (Contains numbers) files_before m
      freed_was m e =
          let f = freed_orphan T volume.tree old new at_old numbers leaf own m e in
          orphan_in_files m (has_number_at numbers m f.0) (orphan_is content top m f.1)

      reaped : IsReaped (Contains numbers) files_before files_now
      reaped = record {
        others = λ m not_orphan. by_others m not_orphan (freed_so m) refl;
        left = λ m inode orphan is_there some. by_left m inode is_there some (freed_so m) refl;
      }
        where
          by_others : (m : ℕ) → (IsOrphan (Contains numbers) files_before m → ⊥) → (t : Bool) → freed_so m ≡ t → files_now m ≡ files_before m
          by_others m not_orphan true e = absurd (not_orphan (freed_was m e))
          by_others m not_orphan false e = left_same m e

          by_left : (m : ℕ) (inode : Inode) → files_before m ≡ Some inode → files_now m ≢ None → (t : Bool) → freed_so m ≡ t →
              (x : Content) × IsLeftOf inode.content x × (files_now m ≡ Some (record inode { content = x }))
          by_left m inode is_there some true e = absurd (some (freed_none m e))
          by_left m inode is_there some false e = (inode.content, whole_left inode.content, left_same m e ∙ is_there)

      abbrev memory' : Memory
      memory' = freed_memory volume.memory (freed_beside content top numbers leaf)

      abbrev volume' : Volume
      volume' = record volume { memory = memory' }

      times_stay : (m : ℕ) → (t : Bool) → freed_so m ≡ t →
          (files_now m ≡ None) ⊎ ((times : Times) → touched_times memory'.touched m times ≡ touched_times volume.memory.touched m times)
      times_stay m true e = inl (freed_none m e)
      times_stay m false e = inr (λ times. times_left (freed_beside content top numbers leaf) m e times volume.memory.touched)

      still : IsAt T fs volume.tree.node_type volume.tree.inode_type top new
      still = freed_at_still T volume.tree old new at_old numbers leaf own plan is ran

      pub freed_said : Said (record volume {
        memory = freed_memory volume.memory (freed_beside (readable old volume.tree.fs.number) volume.tree.top numbers leaf);
      })
      freed_said = (
        record {
          kept = record {
            store = still.store;
            bytes = still.volume;
            session =
                session_left (freed_beside content top numbers leaf) volume.memory is_open.kept.session;
          };
          few = is_open.few;
          tree = is_open.tree;
          short = is_open.short;
          root = still.root;
          touched = all_left (freed_beside content top numbers leaf) (λ touch. files_in old volume touch.number ≢ None)
              (λ touch. files_in new volume' touch.number ≢ None)
              (λ touch left was. seen_some memory'.touched files_now touch.number
              (λ none. was_some volume.memory.touched files_before touch.number was (sym (left_same touch.number left) ∙ none)))
              volume.memory.touched is_open.touched;
        },
        reaped_seen (Contains numbers) volume.memory.touched memory'.touched files_before files_now (λ m. times_stay m (freed_so m) refl) reaped,
        freed_aside T volume.tree old new at_old numbers leaf own plan is ran,
      )

      pub own_gone : Contains numbers (leaf + 1) →
          files_in new (record volume { memory = freed_memory volume.memory (freed_beside (readable old volume.tree.fs.number) volume.tree.top numbers leaf) })
          (leaf + 1) ≡ None
      unfolding seen_files
      own_gone among =
          ap (option_map (seen_inode memory'.touched (leaf + 1)))
          (freed_none (leaf + 1) (own_freed T volume.tree old new at_old numbers leaf own (has_number_from numbers (leaf + 1) among)))

      pub freed_waits : WaitLess volume.memory.orphans
          (left_orphans volume.memory.orphans (freed_beside (readable old volume.tree.fs.number) volume.tree.top numbers leaf))
          (files_in new (record volume {
            memory = freed_memory volume.memory (freed_beside (readable old volume.tree.fs.number) volume.tree.top numbers leaf);
          }))
      unfolding seen_files
      freed_waits = λ n. (λ has. (filter_at (λ m. not (freed_so m)) volume.memory.orphans n has).0, λ has. by n has (freed_so n) refl)
        where
          by : (n : ℕ) → Contains volume.memory.orphans n → (t : Bool) → freed_so n ≡ t →
              Contains (left_orphans volume.memory.orphans (freed_beside content top numbers leaf)) n ⊎ (files_in new volume' n ≡ None)
          by n has true e = inr (ap (option_map (seen_inode memory'.touched n)) (freed_none n e))
          by n has false e = inl (filter_from (λ m. not (freed_so m)) volume.memory.orphans n has (ap not e))
