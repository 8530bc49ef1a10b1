-- A new inode gets its number, by an edit of the table.
use Rattle.std.proofs.Common.{◌≡◌, ◌≢◌, ◌⊎◌, ℕ, ◌-◌, ◌<◌, ◌≤◌, ◌^◌, List, [], ◌∷◌, length, Option, None, Some, sym, ◌∙◌, ap, inl, inr, subst}
use Rattle.std.specs.Prelude.{IsTrue}
use Rattle.xn_model.specs.Types.{Types}
use Rattle.xn_model.specs.Lives.{StoreState}
use Rattle.xn_model.specs.Calls.{root_of}
use Rattle.treefs_format.specs.Fields.{AreInRange}
use Rattle.treefs_format.specs.Inodes.{inode_bytes, kind_of}
use Rattle.treefs_format.specs.Paths.{leaf_count, steps}
use Rattle.treefs_format.specs.Templates.{IsTree}
use Rattle.treefs_format.specs.declared.fields.Fields.{Fields}
use Rattle.treefs_format.specs.declared.kind.Kind.{Kind}
use Rattle.treefs_format.specs.declared.kind.Kind.TheVariants as kind
use Rattle.treefs_model.specs.Acts.{attach_act}
use Rattle.treefs_model.specs.Files.{Inode, with_inode}
use Rattle.treefs_model.specs.Reading.{block_at, files_of, inode_of, inode_with, key_in, pointed}
use Rattle.treefs_model.specs.Trees.{has_pointer}
use Rattle.treefs_lookup.specs.Readable.{readable}
use Rattle.treefs_values.specs.Attached.{IsFreeInode, IsPointerSet, new_content}
use Rattle.treefs_values.specs.Kinds.{kinds}
use Rattle.treefs_values.specs.Volumes.{IsVolume, IsWholeBlock}
use Rattle.treefs_values.specs.Ways.{ArePointersApart, IsWay, block_numbered}
use Rattle.treefs_values.proofs.Attaching.{attached_inodes, files_attached, volume_attached, was_free}
use Rattle.treefs_values.proofs.NewInodes.{new_free, new_value, way_none}
use Rattle.treefs_values.proofs.Pending.{IsNew, New, at_other, inode_other, new_attached, way_other, way_pointer}
use Rattle.treefs_values.proofs.Since.{IsRead}
use Rattle.treefs_values.proofs.PointerSet.{holder_whole, pointer_set}
use Rattle.treefs_values.proofs.Standing.{KeepsInodes}
use Rattle.treefs_values.proofs.Walks.{IsAt, IsEdit, still_apart}
use Rattle.treefs_values.proofs.Ways.{steps_way}

-- what is known of an inode of no number, before the table's pointer in a block comes to lead to it
pub record IsTold (node inode : ℕ) (type : ℕ → ℕ) (content : ℕ → List ℕ) (top holder block : ℕ) (value : Inode) : Type 0 where
  pub within : block < 2 ^ 32
  pub free : IsFreeInode node inode type content (key_in content top) block
  pub alone : block ≢ holder
  pub beside : (l : ℕ) (os : List ℕ) → IsWay os l → block_at content block os ≢ 0 → block_at content block os ≢ holder
  pub says : inode_of content (key_in content top) block ≡ Some value

-- a new one is so
pub new_told : (node inode top : ℕ) (type : ℕ → ℕ) (content : ℕ → List ℕ) → IsVolume node inode type content top → (x : New) →
    IsNew node inode type content top x → x.ty ≡ inode → (fields : Fields) (head : List ℕ) → x.bytes ≡ inode_bytes fields head → AreInRange fields →
    length head ≤ 384 → fields.size ≡ length head → (k : Kind) → kind_of fields.mode ≡ Some k → (k ≡ kind.Directory → head ≡ []) → (holder : ℕ) →
    IsRead content top holder → IsTold node inode type content top holder x.block (inode_with fields (new_content k fields.parent head))
new_told node inode top type content v x new of_type fields head of_bytes range short size k kind_is empty holder read = record {
  within = new.within;
  free = new_free node inode type content (key_in content top) x.block fields head bytes_are range short size k kind_is empty new.there (new.typed ∙ of_type);
  alone = λ same. by read.1 same;
  beside = λ l os way there.
      absurd (there (way_none node inode type content (key_in content top) x.block fields head bytes_are range short size l os way));
  says = new_value node inode type content (key_in content top) x.block fields head bytes_are range short size k kind_is empty;
}
  where
    bytes_are : content x.block ≡ inode_bytes fields head
    bytes_are = new.bytes ∙ of_bytes

    by : ((m : ℕ) × (holder ≡ block_numbered content top m))
        ⊎ ((m k : ℕ) × (os : List ℕ) × IsWay os k × (holder ≡ block_at content (block_numbered content top m) os)) → x.block ≢ holder
    by (inl (m, is)) same = inode_other node inode top type content v x new m (λ z. new.there (same ∙ (is ∙ z))) (sym (same ∙ is))
    by (inr (m, k, os, way, is)) same = way_other node inode top type content v x new m k os way (λ z. new.there (same ∙ (is ∙ z))) (sym (same ∙ is))

module _ (T : Types) (fs node inode top : ℕ) (few : fs < 32) (tree : IsTree T node inode) (old s1 : StoreState) (here : IsAt T fs node inode top old)
    (n : ℕ) (number : n ≢ 0) (n_few : n - 1 < leaf_count) (o : ℕ) (q : List ℕ) (steps_are : steps (n - 1) ≡ o ∷ q)
    (holder : ℕ) (holder_is : holder ≡ block_at (readable old fs) top q) (some : holder ≢ 0) (none : pointed (readable old fs) holder o ≡ 0)
    (block : ℕ) (value : Inode) (told : IsTold node inode (kinds old fs) (readable old fs) top holder block value) (behind : Option ℕ)
    (edit : IsEdit T fs (attach_act holder o inode (block ∷ []) behind) old s1) where
  v : IsVolume node inode (kinds old fs) (readable old fs) top
  v = here.volume

  way : IsWay (o ∷ q) 0
  way = subst (λ os. IsWay os 0) steps_are (steps_way (n - 1))

  at_some : block_at (readable old fs) top q ≢ 0
  at_some z = some (holder_is ∙ z)

  has : IsTrue (has_pointer node inode (kinds old fs holder) o)
  has = subst (λ b. IsTrue (has_pointer node inode (kinds old fs b) o)) (sym holder_is) (way_pointer node inode top (kinds old fs) (readable old fs) v 0 0 o q way at_some)

  typed_holder : kinds old fs holder ≢ 0
  typed_holder z = by q way holder_is at_some
    where
      by : (q : List ℕ) → IsWay (o ∷ q) 0 → holder ≡ block_at (readable old fs) top q → block_at (readable old fs) top q ≢ 0 → ⊥
      by [] _ is there = v.some_types.1 (sym (v.typed.inodes 0 there) ∙ (ap (kinds old fs) (sym is) ∙ z))
      by (p ∷ q) way is there = v.some_types.0 (sym (v.typed.nodes 0 0 (p ∷ q) way.3 there) ∙ (ap (kinds old fs) (sym is) ∙ z))

  whole : IsWholeBlock (readable old fs holder)
  whole = v.blocks holder typed_holder

  set' : IsPointerSet node inode (kinds old fs) (readable old fs) (readable s1 fs) holder o block
  set' = subst (λ c. IsPointerSet node inode (kinds old fs) (readable old fs) c holder o block) (sym edit.reads)
      (pointer_set node inode (kinds old fs) (readable old fs) holder o inode block behind v.types.0 some whole has none told.within)

  set : IsPointerSet node inode (kinds old fs) (readable old fs) (readable s1 fs) (block_at (readable old fs) top q) o block
  set = subst (λ b. IsPointerSet node inode (kinds old fs) (readable old fs) (readable s1 fs) b o block) holder_is set'

  holder_fine : IsWholeBlock (readable s1 fs (block_at (readable old fs) top q))
  holder_fine = subst (λ b. IsWholeBlock (readable s1 fs b)) holder_is (subst (λ c. IsWholeBlock (c holder)) (sym edit.reads)
      (holder_whole node inode (kinds old fs) (readable old fs) holder o inode block behind v.types.0 some whole has none told.within))

  root : root_of s1 fs ≡ Some top
  root = edit.root ∙ here.root

  apart : ArePointersApart node inode (kinds old fs) (readable s1 fs) top
  apart = subst (λ t. ArePointersApart node inode t (readable s1 fs) top) edit.types (still_apart T fs node inode top few tree old here s1 edit.store root)

  alone : block ≢ block_at (readable old fs) top q
  alone same = told.alone (same ∙ sym holder_is)

  beside : (l : ℕ) (os : List ℕ) → IsWay os l → block_at (readable old fs) block os ≢ 0 → block_at (readable old fs) block os ≢ block_at (readable old fs) top q
  beside l os way there same = told.beside l os way there (same ∙ sym holder_is)

  pub numbered_here : IsAt T fs node inode top s1
  numbered_here = record {
    store = edit.store;
    root = root;
    volume = subst (λ t. IsVolume node inode t (readable s1 fs) top) (sym edit.types)
        (volume_attached node inode top (kinds old fs) (readable old fs) (readable s1 fs) v n number n_few o q steps_are at_some block set told.free alone beside apart holder_fine);
  }

  pub numbered_was : files_of (readable old fs) top n ≡ None
  numbered_was = was_free node inode top (kinds old fs) (readable old fs) (readable s1 fs) v n number n_few o q steps_are at_some block set

  pub numbered_files : files_of (readable s1 fs) top ≡ with_inode (files_of (readable old fs) top) n (Some value)
  numbered_files =
      files_attached node inode top (kinds old fs) (readable old fs) (readable s1 fs) v n number n_few o q steps_are at_some block set told.free alone beside
      ∙ ap (with_inode (files_of (readable old fs) top) n) told.says

  pub numbered_inodes : KeepsInodes (readable old fs) (readable s1 fs) top
  numbered_inodes = attached_inodes node inode top (kinds old fs) (readable old fs) (readable s1 fs) v n number n_few o q steps_are at_some block set told.free alone beside

  pub numbered_keeps : (y : New) → IsNew node inode (kinds old fs) (readable old fs) top y → y.block ≢ block → IsNew node inode (kinds s1 fs) (readable s1 fs) top y
  numbered_keeps y is ne =
      subst (λ t. IsNew node inode t (readable s1 fs) top y) (sym edit.types)
      (new_attached node inode top (kinds old fs) (readable old fs) (readable s1 fs) y is (block_at (readable old fs) top q) o block set
      (λ same. at_other node inode top (kinds old fs) (readable old fs) v y is 0 0 o q way at_some (sym same)) ne)
