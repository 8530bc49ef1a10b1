-- An inode is begun: the files are as before.
use Rattle.std.proofs.Common.{◌≡◌, ◌≢◌, ℕ, ◌<◌, ◌≤◌, Bool, true, false, List, [], ◌∷◌, length, Result, Ok, Err, refl, sym, ◌∙◌, ap, inr, arith, subst}
use Rattle.std.specs.Prelude.{All, MatchBool, None, Some}
use Rattle.std.proofs.lemmas.List.Elements.{All-cons, All-nil, All-weaker}
use Rattle.xn_model.specs.Types.{Types}
use Rattle.xn_model.specs.Lives.{StoreState}
use Rattle.treefs_format.specs.Fields.{AreInRange}
use Rattle.treefs_format.specs.Inodes.{inode_bytes}
use Rattle.treefs_format.specs.declared.fields.Fields.{Fields}
use Rattle.treefs_format.specs.declared.kind.Kind.{Kind}
use Rattle.treefs_format.specs.declared.kind.Kind.TheVariants as kind
use Rattle.treefs_format.proofs.ForCallers.{mode_kind, mode_permissions, mode_short}
use Rattle.treefs_model.specs.Files.{bytes_in}
use Rattle.treefs_model.specs.Reading.{inode_with, key_in}
use Rattle.treefs_lookup.specs.Readable.{readable}
use Rattle.treefs_model.specs.declared.fault.Fault.{Fault}
use Rattle.treefs_model.specs.declared.fault.Fault.TheVariants.{Full}
use Rattle.treefs_edits.specs.Rooms.{has_room}
use Rattle.treefs_edits.specs.declared.memory.Touched.{Touched}
use Rattle.treefs_edits.specs.declared.start.Start.{Start}
use Rattle.treefs.specs.Committing.{BeginsOne}
use Rattle.treefs.specs.Creating.{BeginDoes, new_fields}
use Rattle.treefs.specs.declared.attributes.Attributes.{Attributes}
use Rattle.treefs.specs.declared.volume.Volume.{Volume}
use Rattle.treefs_values.specs.Attached.{new_content}
use Rattle.treefs_values.specs.Kinds.{kinds}
use Rattle.treefs_values.proofs.ForCallers.{AreBegun, AreNew, AreOf, IsAt, IsFineStart, New, begun_so, blocks_in, new_free, new_value}
use Rattle.treefs_laws.specs.Kept.{IsKept, files_in}
use Rattle.treefs_laws.specs.Begun.{IsBegun}
use Rattle.treefs_laws.specs.Making.{FitsAttributes, new_inode}
use Rattle.treefs_laws.specs.Open.{IsOpen}
use Rattle.treefs_laws.specs.Seen.{seen_files}
use Rattle.treefs_laws.proofs.Begun.{fine_inode}

module _ (T : Types) (state state' : StoreState) (volume : Volume) (is_open : IsOpen T state volume) (k : Kind) (attributes : Attributes)
    (fit : FitsAttributes attributes) (head : List ℕ) (wide : All (λ b. b < 256) head) (short : length head ≤ 384) where
  abbrev fs : ℕ
  fs = volume.tree.fs.number

  abbrev top : ℕ
  top = volume.tree.top

  abbrev node : ℕ
  node = volume.tree.node_type

  abbrev inode : ℕ
  inode = volume.tree.inode_type

  abbrev fields : Fields
  fields = new_fields volume.tree volume.memory k attributes 0 (length head)

  abbrev start : Start
  start = record { ty = inode; bytes = inode_bytes fields head }

  kept : IsKept T state volume
  kept = is_open.kept

  in_range : AreInRange fields
  in_range = record {
    leaf_type = omega arith;
    node_type = is_open.short.0;
    mode = mode_short k attributes.permissions fit.permissions;
    links = omega arith;
    uid = fit.uid;
    gid = fit.gid;
    size = omega arith;
    mtime = kept.session.clock;
    ctime = kept.session.clock;
    parent = omega arith;
    generation = fit.generation;
  }

  abbrev Fine : Start → Type 0
  Fine = IsFineStart T fs node inode top is_open.few is_open.tree

  fine : All Fine (start ∷ [])
  fine = All-cons Fine start [] (fine_inode T fs node inode top is_open.few is_open.tree kept.bytes.types.0 kept.bytes.some_types is_open.short fields head in_range wide short) (All-nil Fine)

  here : IsAt T fs node inode top state
  here = record { store = kept.store; root = is_open.root; volume = kept.bytes }

  abbrev Said : ℕ → Type 0
  Said block = IsOpen T state' volume × (files_in state' volume ≡ files_in state volume)
      × (k ≢ kind.Directory → IsBegun state' volume block (new_inode volume.memory.clock attributes (new_content k 0 head)))

  value_is : inode_with fields (new_content k 0 head) ≡ new_inode volume.memory.clock attributes (new_content k 0 head)
  value_is = ap (λ p. record (new_inode volume.memory.clock attributes (new_content k 0 head)) { permissions = p }) (mode_permissions k attributes.permissions fit.permissions)

  is_begun : (block : ℕ) (made : List New) → block ∷ [] ≡ blocks_in made → AreOf T fs node inode top is_open.few is_open.tree (start ∷ []) made →
      AreNew node inode (kinds state' fs) (readable state' fs) top made → k ≢ kind.Directory →
      IsBegun state' volume block (new_inode volume.memory.clock attributes (new_content k 0 head))
  is_begun block [] same of news no_directory = absurd of
  is_begun block (y ∷ z ∷ made) same of news no_directory = absurd of.2
  is_begun block (y ∷ []) same of news no_directory =
      let is : y.block ≡ block = sym (ap first_or same) in
      let new = news.0 in
      let free = new_free node inode (kinds state' fs) (readable state' fs) (key_in (readable state' fs) top) y.block fields head (new.bytes ∙ of.1) in_range
      short refl k (mode_kind k attributes.permissions fit.permissions) (λ is. absurd (no_directory is)) new.there (new.typed ∙ of.0) in
      subst (λ b. IsBegun state' volume b (new_inode volume.memory.clock attributes (new_content k 0 head))) is (record {
        unnamed = record {
          there = new.there;
          typed = new.typed ∙ of.0;
          nodes = free.tree.nodes;
          leaves = free.tree.leaves;
          no_root = new.no_root;
          unled = new.unled;
        };
        within = new.within;
        says = new_value node inode (kinds state' fs) (readable state' fs) (key_in (readable state' fs) top) y.block fields head (new.bytes ∙ of.1) in_range short
            refl k (mode_kind k attributes.permissions fit.permissions) (λ is. absurd (no_directory is)) ∙ ap Some value_is;
        bytes = head;
        bytes_are = by_kind k no_directory;
        few = omega arith;
      })
    where
      first_or : List ℕ → ℕ
      first_or [] = 0
      first_or (b ∷ bs) = b

      by_kind : (k : Kind) → k ≢ kind.Directory → bytes_in (new_content k 0 head) ≡ Ok head
      by_kind kind.Directory other = absurd (other refl)
      by_kind kind.File other = refl
      by_kind kind.SymbolicLink other = refl

  by_begun : (block : ℕ) → AreBegun T fs node inode top is_open.few is_open.tree (start ∷ []) [] (block ∷ []) state state' → Said block
  by_begun block b =
      let same : files_in state' volume ≡ files_in state volume = ap (seen_files volume.memory.touched) b.files in (
        record {
          kept = record { store = b.at.store; bytes = b.at.volume; session = kept.session };
          few = is_open.few;
          tree = is_open.tree;
          short = is_open.short;
          root = b.at.root;
          touched = All-weaker (λ (touch : Touched). files_in state volume touch.number ≢ None) (λ touch. files_in state' volume touch.number ≢ None)
              (λ touch some none. some (ap (λ f. f touch.number) (sym same) ∙ none)) volume.memory.touched is_open.touched;
        },
        same,
        is_begun block b.made b.blocks_are b.of b.news,
      )

  pub begun_no_file : (block : ℕ) → BeginDoes T state state' volume k attributes head (Ok block) → Said block
  begun_no_file block does = by (has_room state fs (length volume.memory.touched) 2 []) does
    where
      by : (t : Bool) → MatchBool t (BeginsOne T fs start state state' (Ok block)) ((◌≡◌ {A = Result ℕ Fault} (Ok block) (Err Full)) × (state' ≡ state)) → Said block
      by true (entry, begun) = by_begun block (begun_so T fs node inode top is_open.few is_open.tree (start ∷ []) [] (block ∷ []) state state' fine here
          (inr ((block, entry), state', begun, (refl, refl))))
      by false full = absurd (cc full.0)
