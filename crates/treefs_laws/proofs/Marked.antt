-- The mark of a volume as closed, or open: no file changes.
use Rattle.std.proofs.Common.{◌≡◌, ◌≢◌, ℕ, ◌+◌, ◌≤◌, Bool, true, false, List, [], ◌∷◌, ◌++◌, length, take, drop, None, Result, Ok, Err}
use Rattle.std.proofs.Common.{refl, sym, ◌∙◌, ap, inl, subst, arith, if◌then◌else◌}
use Rattle.std.specs.Prelude.{◌<◌, All}
use Rattle.std.specs.Int.{from_bool, from_le_bytes, w32}
use Rattle.std.proofs.lemmas.Bool.{eq-eqb, ne_eqb}
use Rattle.std.proofs.lemmas.List.{drop-drop}
use Rattle.std.proofs.lemmas.List.Elements.{All-append, All-cons, All-drop, All-nil, All-take}
use Rattle.xn_model.specs.Calls.{patched}
use Rattle.xn_model.specs.Lists.{put}
use Rattle.xn_model.specs.Lives.{StoreState}
use Rattle.xn_model.specs.Root.{word_at}
use Rattle.xn_model.specs.Rules.{IsConsistent}
use Rattle.xn_model.specs.Types.{Types}
use Rattle.xn_model.proofs.ForCallers.{bytes_apart, length_put}
use Rattle.treefs_model.specs.Acts.{Act, Ran, content_act}
use Rattle.treefs_model.specs.Files.{Files}
use Rattle.treefs_model.specs.Reading.{files_of, key_in}
use Rattle.treefs_model.specs.declared.fault.Fault.{Fault}
use Rattle.treefs_lookup.specs.Readable.{readable}
use Rattle.treefs_edits.specs.Plans.{Does}
use Rattle.treefs_edits.specs.Written.{written}
use Rattle.treefs.specs.Opening.{mark_plan}
use Rattle.treefs.specs.declared.volume.Volume.{Volume}
use Rattle.treefs_values.specs.Kinds.{kinds}
use Rattle.treefs_values.specs.Values.{KeepsBlocks}
use Rattle.treefs_values.specs.Volumes.{IsVolume, IsWholeBlock}
use Rattle.treefs_values.specs.Ways.{SamePointers}
use Rattle.treefs_values.proofs.ForCallers.{acts_read}
use Rattle.treefs_laws.specs.Kept.{files_in}
use Rattle.treefs_laws.specs.Open.{IsOpen}
use Rattle.treefs_laws.specs.Seen.{seen_files}
use Rattle.treefs_laws.specs.Unnamed.{KeepsUnnamed}
use Rattle.treefs_laws.proofs.AsideVolume.{alike_same, steady_keeps, unnamed_kept}
use Rattle.treefs_laws.proofs.Planned.{ran_acts}
use Rattle.treefs_laws.proofs.RootMarked.{marked_files, marked_keeps, marked_volume}
use Rattle.treefs_laws.proofs.StillOpen.{ran_root}
use Rattle.treefs_laws.proofs.TimesWritten.{refused_whole}

mark_byte : (clean : Bool) → All (λ b. b < 256) (from_bool clean ∷ [])
mark_byte true = All-cons (λ b. b < 256) 1 [] (omega arith) (All-nil (λ b. b < 256))
mark_byte false = All-cons (λ b. b < 256) 0 [] (omega arith) (All-nil (λ b. b < 256))

-- bytes of a block, with one behind the key
module _ (m : List ℕ) (block : IsWholeBlock m) (x : ℕ) (byte : All (λ b. b < 256) (x ∷ [])) where
  abbrev pub marked : List ℕ
  marked = put m 152 (x ∷ [])

  fits : 152 + length (x ∷ []) ≤ length m
  fits = let long : length m ≡ 512 = block.0 in omega arith

  pub words_stay : (o : ℕ) → o + 4 ≤ 128 → word_at marked o ≡ word_at m o
  unfolding word_at
  words_stay o low = ap (from_le_bytes w32) (bytes_apart m 152 (x ∷ []) fits 4 o (inl (omega arith)))

  pub key_stays : take 16 (drop 8 (drop 128 marked)) ≡ take 16 (drop 8 (drop 128 m))
  key_stays = ap (take 16) (drop-drop 8 128 marked)
      ∙ (bytes_apart m 152 (x ∷ []) fits 16 136 (inl (omega arith)) ∙ sym (ap (take 16) (drop-drop 8 128 m)))

  pub still_block : IsWholeBlock marked
  still_block = (
    length_put m 152 (x ∷ []) fits ∙ block.0,
    All-append (λ b. b < 256) (take 152 m ++ x ∷ []) (drop 153 m)
        (All-append (λ b. b < 256) (take 152 m) (x ∷ []) (All-take (λ b. b < 256) 152 m block.1) byte) (All-drop (λ b. b < 256) 153 m block.1),
  )

module _ (T : Types) (old new : StoreState) (volume : Volume) (clean : Bool) (is_open : IsOpen T old volume) where
  abbrev fs : ℕ
  fs = volume.tree.fs.number

  abbrev top : ℕ
  top = volume.tree.top

  abbrev Said : StoreState → Type 0
  Said s = IsOpen T s volume × (files_in s volume ≡ files_in old volume) × KeepsUnnamed old s volume volume

  abbrev content : ℕ → List ℕ
  content = readable old fs

  abbrev act : Act
  act = content_act top 24 (from_bool clean ∷ []) None

  abbrev later : ℕ → List ℕ
  later = written act content

  v : IsVolume volume.tree.node_type volume.tree.inode_type (kinds old fs) content top
  v = is_open.kept.bytes

  block : IsWholeBlock (content top)
  block = v.blocks top (λ z. v.some_types.1 (sym (v.typed.inodes 0 v.root) ∙ z))

  byte : All (λ b. b < 256) (from_bool clean ∷ [])
  byte = mark_byte clean

  here : later top ≡ marked (content top) block (from_bool clean) byte
  here = ap (λ t. if t then patched (content top) act.edit.patches else content top) (eq-eqb top top refl)

  others : (b : ℕ) → b ≢ top → later b ≡ content b
  others b ne = ap (λ t. if t then patched (content b) act.edit.patches else content b) (ne_eqb b top ne)

  words : (o : ℕ) → o + 4 ≤ 128 → word_at (later top) o ≡ word_at (content top) o
  words o low = ap (λ m. word_at m o) here ∙ words_stay (content top) block (from_bool clean) byte o low

  same_key : key_in later top ≡ key_in content top
  same_key = ap (λ m. take 16 (drop 8 (drop 128 m))) here ∙ key_stays (content top) block (from_bool clean) byte

  whole : IsWholeBlock (later top)
  whole = subst IsWholeBlock (sym here) (still_block (content top) block (from_bool clean) byte)

  keep : All KeepsBlocks (act ∷ [])
  keep = All-cons KeepsBlocks act [] refl (All-nil KeepsBlocks)

  made : Ran T fs (act ∷ []) old new (Ok tt) → Said new
  made ran = (
    record {
      kept = record {
        store = read.0;
        bytes = bytes;
        session = is_open.kept.session;
      };
      few = is_open.few;
      tree = is_open.tree;
      short = is_open.short;
      root = ran_root T fs (act ∷ []) old new is_open.kept.store keep ran ∙ is_open.root;
      touched = subst (λ (f : Files). All (λ touch. f touch.number ≢ None) volume.memory.touched) (sym files) is_open.touched;
    },
    files,
    unnamed_kept T old new volume volume is_open refl
        (steady_keeps volume.tree old new read.2
        (subst (SamePointers volume.tree.node_type volume.tree.inode_type (kinds old fs) content) (sym read.1)
        (marked_keeps volume.tree.node_type volume.tree.inode_type top (kinds old fs) content later v others words same_key whole))
        (λ b other. ap (λ m. m b) read.1 ∙ others b (λ same. other 0 (sym same))) bytes),
  )
    where
      read : IsConsistent T new × (readable new fs ≡ later) × (kinds new fs ≡ kinds old fs)
      read = acts_read T fs (act ∷ []) old new is_open.kept.store keep ran

      bytes : IsVolume volume.tree.node_type volume.tree.inode_type (kinds new fs) (readable new fs) top
      bytes = subst (λ t. IsVolume volume.tree.node_type volume.tree.inode_type t (readable new fs) top) (sym read.2)
          (subst (λ m. IsVolume volume.tree.node_type volume.tree.inode_type (kinds old fs) m top) (sym read.1)
          (marked_volume volume.tree.node_type volume.tree.inode_type top (kinds old fs) content later v others words same_key whole))

      files : files_in new volume ≡ files_in old volume
      files = ap (seen_files volume.memory.touched) (ap (λ m. files_of m top) read.1
          ∙ marked_files volume.tree.node_type volume.tree.inode_type top (kinds old fs) content later v others words same_key whole)

  pub mark_said : (result : Result (Unit {0}) Fault) → Does T fs (mark_plan top clean) old new result → Said new
  mark_said (Ok tt) does = made (ran_acts T fs (act ∷ []) old new does)
  mark_said (Err fault) does = subst Said (sym (refused_whole T fs act old new fault does)) (is_open, refl, λ block unnamed. (unnamed, alike_same content block))
