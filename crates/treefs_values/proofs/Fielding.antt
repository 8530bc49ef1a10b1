-- Fields of an inode change, between other edits.
use Rattle.std.proofs.Common.{◌≡◌, ◌≢◌, ℕ, List, Option, sym, ◌∙◌, ap, subst}
use Rattle.std.specs.Prelude.{All, fold}
use Rattle.xn_model.specs.Types.{Types}
use Rattle.xn_model.specs.Lives.{StoreState}
use Rattle.treefs_format.specs.Fields.{changed, fields_of}
use Rattle.treefs_format.specs.Inodes.{kind_of}
use Rattle.treefs_format.specs.declared.fields.Change.{Change}
use Rattle.treefs_format.specs.declared.fields.Fields.{Fields}
use Rattle.treefs_model.specs.Acts.{changes_act}
use Rattle.treefs_model.specs.Changes.{moved_to}
use Rattle.treefs_model.specs.Files.{Content, Inode, changed_at}
use Rattle.treefs_model.specs.Reading.{files_of, inode_with, key_in}
use Rattle.treefs_lookup.specs.Readable.{readable}
use Rattle.treefs_edits.specs.Written.{written}
use Rattle.treefs_values.specs.Kinds.{kinds}
use Rattle.treefs_values.specs.Values.{AreChanges}
use Rattle.treefs_values.specs.Volumes.{IsVolume}
use Rattle.treefs_values.specs.Ways.{block_numbered}
use Rattle.treefs_values.proofs.ManyChanges.{changes_inode, changes_keep, changes_key, fields_changed}
use Rattle.treefs_values.proofs.Pending.{IsNew, New, inode_other, new_written}
use Rattle.treefs_values.proofs.Putting.{written_other}
use Rattle.treefs_values.proofs.Standing.{IsKeptInode}
use Rattle.treefs_values.proofs.Walks.{IsAt, IsEdit}
use Rattle.treefs_values.proofs.Ways.{numbered_same}

module _ (T : Types) (fs node inode top : ℕ) (old new : StoreState) (here : IsAt T fs node inode top old) (n : ℕ) (number : n ≢ 0)
    (there : block_numbered (readable old fs) top n ≢ 0) (changes : List (List Change)) (fine : All AreChanges changes) (behind : Option ℕ)
    (edit : IsEdit T fs (changes_act (block_numbered (readable old fs) top n) changes behind) old new) where
  abbrev content : ℕ → List ℕ
  content = readable old fs

  v : IsVolume node inode (kinds old fs) content top
  v = here.volume

  pub fields_keep : (x : New) → IsNew node inode (kinds old fs) (readable old fs) top x → IsNew node inode (kinds new fs) (readable new fs) top x
  fields_keep x is =
      subst (λ t. IsNew node inode t (readable new fs) top x) (sym edit.types)
      (subst (λ m. IsNew node inode (kinds old fs) m top x) (sym edit.reads)
      (new_written node inode top (kinds old fs) content (written (changes_act (block_numbered content top n) changes behind) content) x is (block_numbered content top n)
      (λ same. inode_other node inode top (kinds old fs) content v x is n there (sym same)) (λ c ne. written_other (changes_act (block_numbered content top n) changes behind) content c ne)
      (changes_keep node inode top (kinds old fs) content v n number there changes fine behind)))

  pub fields_inode : (m : ℕ) → m ≢ n → m ≢ 0 → block_numbered (readable old fs) top m ≢ 0 → IsKeptInode (readable old fs) (readable new fs) top m
  fields_inode m ne some m_there = subst (λ c. IsKeptInode content c top m) (sym edit.reads)
      (changes_inode node inode top (kinds old fs) content v n number there changes fine behind m ne some m_there)

  pub fields_numbered : (m : ℕ) → block_numbered (readable new fs) top m ≡ block_numbered (readable old fs) top m
  fields_numbered m = ap (λ c. block_numbered c top m) edit.reads
      ∙ numbered_same node inode top (kinds old fs) content (written (changes_act (block_numbered content top n) changes behind) content) v.typed
      (changes_keep node inode top (kinds old fs) content v n number there changes fine behind) m

  pub fields_key : key_in (readable new fs) top ≡ key_in (readable old fs) top
  fields_key = ap (λ c. key_in c top) edit.reads ∙ changes_key node inode top (kinds old fs) content v n number there changes fine behind

  abbrev was : Fields
  was = fields_of (readable old fs (block_numbered (readable old fs) top n))

  abbrev now : Fields
  now = fold (fold changed) (fields_of (readable old fs (block_numbered (readable old fs) top n))) changes

  module _ (size : now.size ≡ was.size) (same_kind : kind_of now.mode ≡ kind_of was.mode) (change : Inode → Inode)
      (makes : (x : Content) → moved_to was.parent x ≡ x → inode_with now (moved_to now.parent x) ≡ change (inode_with was x)) where
    pub fields_here : IsAt T fs node inode top new
    fields_here = record {
      store = edit.store;
      root = edit.root ∙ here.root;
      volume = subst (λ t. IsVolume node inode t (readable new fs) top) (sym edit.types) (subst (λ m. IsVolume node inode (kinds old fs) m top) (sym edit.reads)
          (fields_changed node inode top (kinds old fs) content v n number there changes fine behind size same_kind change makes).0);
    }

    pub fields_files : files_of (readable new fs) top ≡ changed_at (files_of (readable old fs) top) n change
    fields_files = ap (λ m. files_of m top) edit.reads
        ∙ (fields_changed node inode top (kinds old fs) content v n number there changes fine behind size same_kind change makes).1
