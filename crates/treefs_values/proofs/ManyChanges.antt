-- Fields of an inode change by an edit of its block.
use Rattle.std.proofs.Common.{◌≡◌, Some, ◌≢◌, ℕ, ◌+◌, ◌<◌, ◌≤◌, List, [], ◌∷◌, length, Option, refl, sym, ◌∙◌, ap, inl, arith, subst}
use Rattle.std.specs.Prelude.{All, IsTrue, flat_map, fold, map}
use Rattle.std.proofs.lemmas.List.Elements.{All-append, All-head, All-nil, All-tail}
use Rattle.xn_model.specs.Calls.{patched}
use Rattle.treefs_format.specs.Fields.{are_adjoining, change_bytes, change_offset, changed, changes_patch, fields_of, first_offset}
use Rattle.treefs_format.specs.Inodes.{content_of, kind_of, pointers_of}
use Rattle.treefs_format.specs.declared.fields.Change.{Change}
use Rattle.treefs_format.specs.declared.fields.Change.TheVariants.{Mode, Links, Uid, Gid, Size, Mtime, Ctime, Parent}
use Rattle.treefs_format.specs.declared.fields.Fields.{Fields}
use Rattle.treefs_format.proofs.Changes.{change_low, changes_within}
use Rattle.treefs_model.specs.Acts.{changes_act}
use Rattle.treefs_lookup.specs.Bytes.{bytes_from}
use Rattle.treefs_format.specs.declared.kind.Kind.{Kind}
use Rattle.treefs_format.specs.declared.kind.Kind.TheVariants as kind
use Rattle.treefs_format.proofs.ForCallers.{fields_made, fields_others}
use Rattle.treefs_model.specs.Changes.{moved_to, with_bytes}
use Rattle.treefs_model.specs.Files.{Content, Inode, changed_at}
use Rattle.treefs_model.specs.Reading.{files_of, inode_with, key_in}
use Rattle.treefs_edits.specs.Written.{written}
use Rattle.treefs_values.specs.Parts.{IsChangedAt}
use Rattle.treefs_values.specs.Volumes.{IsWholeBlock, IsVolume}
use Rattle.treefs_values.specs.Values.{AreChanges}
use Rattle.treefs_values.specs.Ways.{SamePointers, block_numbered}
use Rattle.treefs_values.proofs.Elsewhere.{key_stays, other_alike}
use Rattle.treefs_values.proofs.Fielded.{files_fielded, files_resized, volume_fielded}
use Rattle.treefs_values.proofs.Keeping.{keeps_inode}
use Rattle.treefs_values.proofs.Standing.{IsKeptInode}
use Rattle.treefs_values.proofs.Ways.{numbered_same, way_same}
use Rattle.treefs_values.proofs.Numbered.{bytes_small}
use Rattle.treefs_values.proofs.Putting.{block_put, written_here, written_other}

small_change : (c : Change) → All (λ b. b < 256) (change_bytes c)
small_change (Mode mode) = bytes_small 0 2 mode
small_change (Links links) = bytes_small 0 4 links
small_change (Uid uid) = bytes_small 0 4 uid
small_change (Gid gid) = bytes_small 0 4 gid
small_change (Size size) = bytes_small 0 8 size
small_change (Mtime time) = bytes_small 0 8 _
small_change (Ctime time) = bytes_small 0 8 _
small_change (Parent parent) = bytes_small 0 4 parent

small_changes : (cs : List Change) → All (λ b. b < 256) (flat_map change_bytes cs)
small_changes [] = All-nil (λ b. b < 256)
small_changes (c ∷ cs) = All-append (λ b. b < 256) (change_bytes c) (flat_map change_bytes cs) (small_change c) (small_changes cs)

within : (cs : List Change) → IsTrue (are_adjoining cs) → first_offset cs + length (flat_map change_bytes cs) ≤ 48
within [] h = omega arith
within (c ∷ cs) h = changes_within (c ∷ cs) (change_offset c) (change_low c) h

pub record AreMade (m m' : List ℕ) (fields : Fields) : Type 0 where
  pub made : fields_of m' ≡ fields
  pub pointers : pointers_of m' ≡ pointers_of m
  pub contents : content_of m' ≡ content_of m
  pub is_block : IsWholeBlock m'

pub all_made : (m : List ℕ) (changes : List (List Change)) → IsWholeBlock m → All AreChanges changes →
    AreMade m (patched m (map changes_patch changes)) (fold (fold changed) (fields_of m) changes)
all_made m [] is fine = record { made = refl; pointers = refl; contents = refl; is_block = is }
all_made m (cs ∷ changes) is fine =
    let one = All-head AreChanges cs changes fine in
    let m' : List ℕ = patched m (changes_patch cs ∷ []) in
    let low = within cs one.0 in
    let is' : IsWholeBlock m' = block_put m (flat_map change_bytes cs) (first_offset cs) is (small_changes cs) (omega arith) in
    let rest = all_made m' changes is' (All-tail AreChanges cs changes fine) in
    let stay = fields_others m cs is.0 one.0 in
    record {
      made = rest.made ∙ ap (λ g. fold (fold changed) g changes) (fields_made m cs is.0 one.0 one.1);
      pointers = rest.pointers ∙ stay.0;
      contents = rest.contents ∙ stay.1;
      is_block = rest.is_block;
    }

module _ (node inode top : ℕ) (type : ℕ → ℕ) (old : ℕ → List ℕ) (v : IsVolume node inode type old top)
    (n : ℕ) (number : n ≢ 0) (there : block_numbered old top n ≢ 0) (changes : List (List Change)) (fine : All AreChanges changes) (behind : Option ℕ) where
  abbrev c : ℕ
  c = block_numbered old top n

  abbrev new : ℕ → List ℕ
  new = written (changes_act c changes behind) old

  abbrev was : Fields
  was = fields_of (old c)

  abbrev now : Fields
  now = fold (fold changed) was changes

  here : new c ≡ patched (old c) (map changes_patch changes)
  here = written_here (changes_act c changes behind) old c refl

  made : AreMade (old c) (new c) now
  made = subst (λ m. AreMade (old c) m now) (sym here) (all_made (old c) changes (v.blocks c (λ z. v.some_types.1 (sym (v.typed.inodes n there) ∙ z))) fine)

  others : IsChangedAt c old new
  others x ne = written_other (changes_act c changes behind) old x ne

  pub changes_keep : SamePointers node inode type old new
  changes_keep = keeps_inode node inode type c old new others v.types.0 (v.typed.inodes n there) made.pointers

  pub changes_inode : (m : ℕ) → m ≢ n → m ≢ 0 → block_numbered old top m ≢ 0 → IsKeptInode old new top m
  changes_inode m ne some m_there = record {
    block = numbered_same node inode top type old new v.typed changes_keep m;
    alike = other_alike node inode top type old new v.types.0 v.typed v.apart changes_keep n c number there (inl refl) others m ne some m_there;
    ways = λ l os way. way_same node inode top type old new v.typed changes_keep m l os way;
  }

  pub changes_key : key_in new top ≡ key_in old top
  changes_key = key_stays node inode top type old new v.types.0 v.typed v.apart changes_keep n c number there (inl refl) others v.root

  module _ (size : now.size ≡ was.size) (same_kind : kind_of now.mode ≡ kind_of was.mode) (change : Inode → Inode)
      (makes : (content : Content) → moved_to was.parent content ≡ content → inode_with now (moved_to now.parent content) ≡ change (inode_with was content)) where
    size' : (fields_of (new c)).size ≡ was.size
    size' = ap (λ (g : Fields). g.size) made.made ∙ size

    kind' : kind_of (fields_of (new c)).mode ≡ kind_of was.mode
    kind' = ap (λ (g : Fields). kind_of g.mode) made.made ∙ same_kind

    makes' : (content : Content) → moved_to was.parent content ≡ content →
        inode_with (fields_of (new c)) (moved_to (fields_of (new c)).parent content) ≡ change (inode_with was content)
    makes' content stands = ap (λ (g : Fields). inode_with g (moved_to g.parent content)) made.made ∙ makes content stands

    pub fields_changed : IsVolume node inode type new top × (files_of new top ≡ changed_at (files_of old top) n change)
    fields_changed = (
      volume_fielded node inode top type old new v n number there others made.pointers made.contents made.is_block kind',
      files_fielded node inode top type old new v n number there others made.pointers made.contents made.is_block size' kind' change makes',
    )

  -- Another size
  module _ (k : Kind) (is_kind : kind_of was.mode ≡ Some k) (no_directory : k ≢ kind.Directory) (same_kind : kind_of now.mode ≡ kind_of was.mode) (same_parent : now.parent ≡ was.parent)
      (change : Inode → Inode) (makes : (content : Content) → inode_with now (with_bytes (λ bytes. bytes_from old c 0 now.size) content) ≡ change (inode_with was content)) where
    pub file_resized : IsVolume node inode type new top × (files_of new top ≡ changed_at (files_of old top) n change)
    file_resized =
        let kind'' = ap (λ (g : Fields). kind_of g.mode) made.made ∙ same_kind in (
          volume_fielded node inode top type old new v n number there others made.pointers made.contents made.is_block kind'',
          files_resized node inode top type old new v n number there others made.pointers made.contents made.is_block k is_kind no_directory kind''
              (ap (λ (g : Fields). g.parent) made.made ∙ same_parent) change
              (λ content. ap (λ (g : Fields). inode_with g (with_bytes (λ bytes. bytes_from old c 0 g.size) content)) made.made ∙ makes content),
        )
