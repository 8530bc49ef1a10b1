-- The size of a file or of a symbolic link is set.
use mathlib.Core.Path.{fun_ext}
use Rattle.std.proofs.Common.{◌≡◌, ◌≢◌, ℕ, ℤ, ◌<◌, ◌≤◌, ◌^◌, Bool, true, false, List, [], ◌∷◌, Option, None, Some, refl, sym, ◌∙◌, ap, subst, arith, if◌then◌else◌}
use Rattle.std.specs.Prelude.{All, FitsSigned, fold, map, option_map, ◌==◌}
use Rattle.std.specs.Int.{w64}
use Rattle.std.proofs.lemmas.Bool.{eq-eqb, eqb-true}
use Rattle.std.proofs.lemmas.List.Elements.{All-cons, All-nil}
use Rattle.std.proofs.lemmas.Option.{same_Some}
use Rattle.xn_model.specs.Calls.{Patch, patched}
use Rattle.treefs_format.specs.Fields.{IsInRange, changed, changes_patch, fields_of}
use Rattle.treefs_format.specs.Inodes.{kind_of}
use Rattle.treefs_format.specs.declared.fields.Change.{Change}
use Rattle.treefs_format.specs.declared.fields.Change.TheVariants.{Ctime, Mtime, Size}
use Rattle.treefs_format.specs.declared.fields.Fields.{Fields}
use Rattle.treefs_format.specs.declared.kind.Kind.{Kind}
use Rattle.treefs_format.specs.declared.kind.Kind.TheVariants as kind
use Rattle.treefs_format.proofs.ForCallers.{fields_made}
use Rattle.treefs_model.specs.Acts.{changes_act, patch_act}
use Rattle.treefs_model.specs.Changes.{resized, with_bytes}
use Rattle.treefs_model.specs.Files.{Content, File, Inode, SymbolicLink, changed_at}
use Rattle.treefs_model.specs.Reading.{byte_of, content_at, files_of, inode_with, key_in}
use Rattle.treefs_lookup.specs.Bytes.{bytes_from}
use Rattle.treefs_edits.specs.Written.{written}
use Rattle.treefs_edits.specs.declared.times.Times.{Times}
use Rattle.treefs_byte_plans.specs.Fields.{size_changes}
use Rattle.treefs_byte_plans.specs.Sizes.{changed_size}
use Rattle.treefs_values.specs.Values.{AreChanges}
use Rattle.treefs_values.specs.Volumes.{IsVolume}
use Rattle.treefs_values.specs.Ways.{block_numbered}
use Rattle.treefs_values.proofs.ForCallers.{changes_keep, file_read, file_resized, inode_numbered, listed_resized, numbered_same}

-- Patches of one block, by two edits of it

pub written_twice : (b : ℕ) (p : Patch) (ps : List Patch) (content : ℕ → List ℕ) →
    written (patch_act b (p ∷ ps) None) content ≡ written (patch_act b ps None) (written (patch_act b (p ∷ []) None) content)
written_twice b p ps content = fun_ext (λ x. by x (x == b))
  where
    by : (x : ℕ) (t : Bool) → (if t then patched (content x) (p ∷ ps) else content x)
        ≡ (if t then patched (if t then patched (content x) (p ∷ []) else content x) ps else (if t then patched (content x) (p ∷ []) else content x))
    by x true = refl
    by x false = refl

-- Fields

module _ (was : Fields) (size : ℕ) (time : ℤ) (fits : FitsSigned w64 time) (few : size < 2 ^ 64) where
  abbrev times : Times
  times = record { mtime = time; ctime = time }

  abbrev changes : Option ℕ → List (List Change)
  changes o = size_changes o times ∷ []

  abbrev pub now : Option ℕ → Fields
  now o = fold (fold changed) was (changes o)

  changes_fine : (o : Option ℕ) → ((s : ℕ) → o ≡ Some s → s < 2 ^ 64) → All AreChanges (changes o)
  changes_fine None short = All-cons AreChanges (Mtime time ∷ Ctime time ∷ []) []
      (refl, All-cons IsInRange (Mtime time) (Ctime time ∷ []) fits (All-cons IsInRange (Ctime time) [] fits (All-nil IsInRange))) (All-nil AreChanges)
  changes_fine (Some s) short = All-cons AreChanges (Size s ∷ Mtime time ∷ Ctime time ∷ []) [] (
    refl,
    All-cons IsInRange (Size s) (Mtime time ∷ Ctime time ∷ []) (short s refl)
        (All-cons IsInRange (Mtime time) (Ctime time ∷ []) fits (All-cons IsInRange (Ctime time) [] fits (All-nil IsInRange))),
  ) (All-nil AreChanges)

  short_size : (s : ℕ) → changed_size was.size size ≡ Some s → s < 2 ^ 64
  short_size s is = by (size == was.size) is
    where
      by : (t : Bool) → (if t then None else Some size) ≡ Some s → s < 2 ^ 64
      by true e = absurd (cc e)
      by false e = subst (λ x. x < 2 ^ 64) (same_Some size s e) few

  now_size : (now (changed_size was.size size)).size ≡ size
  now_size = by (size == was.size) refl
    where
      by : (t : Bool) → (size == was.size) ≡ t → (now (if t then None else Some size)).size ≡ size
      by true e = sym (eqb-true size was.size e)
      by false e = refl

  now_kind : (o : Option ℕ) → kind_of (now o).mode ≡ kind_of was.mode
  now_kind None = refl
  now_kind (Some s) = refl

  now_parent : (o : Option ℕ) → (now o).parent ≡ was.parent
  now_parent None = refl
  now_parent (Some s) = refl

  now_inode : (o : Option ℕ) (x : Content) → inode_with (now o) x ≡ record (inode_with was x) { mtime = time; ctime = time }
  now_inode None x = refl
  now_inode (Some s) x = refl

-- The inode's edit, without the zeros behind it

module _ (node inode top : ℕ) (type : ℕ → ℕ) (content : ℕ → List ℕ) (v : IsVolume node inode type content top) (n : ℕ) (number : n ≢ 0)
    (there : block_numbered content top n ≢ 0) (size : ℕ) (time : ℤ) (fits : FitsSigned w64 time) (few : size < 2 ^ 64) (k : Kind)
    (is_kind : kind_of (fields_of (content (block_numbered content top n))).mode ≡ Some k) (no_directory : k ≢ kind.Directory) where
  abbrev b : ℕ
  b = block_numbered content top n

  abbrev was : Fields
  was = fields_of (content b)

  abbrev o : Option ℕ
  o = changed_size was.size size

  abbrev list : List (List Change)
  list = size_changes o (record { mtime = time; ctime = time }) ∷ []

  abbrev pub sized : ℕ → List ℕ
  sized = written (changes_act b list None) content

  fine : All AreChanges list
  fine = changes_fine was size time fits few o (short_size was size time fits few)

  abbrev pub to_size : Inode → Inode
  to_size x = record x { mtime = time; ctime = time; content = with_bytes (λ bytes. bytes_from content b 0 size) x.content }

  made : IsVolume node inode type sized top × (files_of sized top ≡ changed_at (files_of content top) n to_size)
  made = file_resized node inode top type content v n number there list fine None k is_kind no_directory (now_kind was size time fits few o) (now_parent was size time fits few o)
      to_size (λ x. now_inode was size time fits few o (with_bytes (λ bytes. bytes_from content b 0 (now was size time fits few o).size) x)
      ∙ ap (λ s. record (inode_with was x) { mtime = time; ctime = time; content = with_bytes (λ bytes. bytes_from content b 0 s) x }) (now_size was size time fits few))

  pub sized_volume : IsVolume node inode type sized top
  sized_volume = made.0

  pub sized_numbered : block_numbered sized top n ≡ b
  sized_numbered = numbered_same node inode top type content sized v.typed (changes_keep node inode top type content v n number there list fine None) n

  sized_fields : fields_of (sized b) ≡ now was size time fits few o
  sized_fields =
      let one = fine 0 [] (omega arith) in
      ap (λ t. fields_of (if t then patched (content b) (map changes_patch list) else content b)) (eq-eqb b b refl)
      ∙ fields_made (content b) (size_changes o (record { mtime = time; ctime = time })) (v.blocks b (λ z. v.some_types.1 (sym (v.typed.inodes n there) ∙ z))).0 one.0 one.1

  pub sized_size : (fields_of (sized (block_numbered sized top n))).size ≡ size
  sized_size = ap (λ x. (fields_of (sized x)).size) sized_numbered ∙ (ap (λ (g : Fields). g.size) sized_fields ∙ now_size was size time fits few)

  pub sized_kind : kind_of (fields_of (sized (block_numbered sized top n))).mode ≡ Some k
  sized_kind = ap (λ x. kind_of (fields_of (sized x)).mode) sized_numbered ∙ (ap (λ (g : Fields). kind_of g.mode) sized_fields ∙ (now_kind was size time fits few o ∙ is_kind))

  pub sized_files : files_of sized top ≡ changed_at (files_of content top) n to_size
  sized_files = made.1

  -- its value before
  abbrev pub value : Inode
  value = inode_with was (content_at content (key_in content top) b was.parent k)

  pub value_is : files_of content top n ≡ Some value
  value_is = file_read content top n b (sym (inode_numbered content top n number)) there
      ∙ ap (option_map (λ k. inode_with was (content_at content (key_in content top) b was.parent k))) is_kind

  -- the bytes that it has then
  pub bytes_then : ((p : ℕ) → was.size ≤ p → p < size → byte_of content b p ≡ 0) →
      with_bytes (λ bytes. bytes_from content b 0 size) value.content ≡ with_bytes (resized size) value.content
  bytes_then zero = by k no_directory
    where
      by : (k : Kind) → k ≢ kind.Directory → with_bytes (λ bytes. bytes_from content b 0 size) (content_at content (key_in content top) b was.parent k)
          ≡ with_bytes (resized size) (content_at content (key_in content top) b was.parent k)
      by kind.Directory other = absurd (other refl)
      by kind.File other = ap File (listed_resized (byte_of content b) was.size size zero)
      by kind.SymbolicLink other = ap SymbolicLink (listed_resized (byte_of content b) was.size size zero)
