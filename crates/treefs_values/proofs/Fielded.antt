-- Fields of an inode change.
use mathlib.Core.Path.{fun_ext}
use Rattle.std.proofs.Common.{◌≡◌, ◌≢◌, ℕ, List, Option, None, Some, refl, sym, ◌∙◌, ap, inl, get_or-drop}
use Rattle.std.specs.Prelude.{map, option_map, slice_index}
use Rattle.std.specs.List.{range_with_len}
use Rattle.treefs_format.specs.Candidates.{candidates, name_hash}
use Rattle.treefs_format.specs.Fields.{fields_of}
use Rattle.treefs_format.specs.Inodes.{content_of, kind_of, pointers_of}
use Rattle.treefs_format.specs.declared.fields.Fields.{Fields}
use Rattle.treefs_format.specs.declared.kind.Kind.{Kind}
use Rattle.treefs_format.specs.declared.kind.Kind.TheVariants as kind
use Rattle.treefs_lookup.specs.Bytes.{bytes_from}
use Rattle.treefs_model.specs.Changes.{moved_to, with_bytes}
use Rattle.treefs_model.specs.Files.{Content, Directory, File, Inode, SymbolicLink, changed_at, changed_in}
use Rattle.treefs_model.specs.Reading.{byte_of, bytes_of, content_at, files_of, inode_with, key_in, leaf_block, number_of}
use Rattle.treefs_values.specs.Parts.{IsChangedAt}
use Rattle.treefs_values.specs.Volumes.{IsWholeBlock, IsVolume}
use Rattle.treefs_values.specs.Ways.{SamePointers, block_numbered}
use Rattle.treefs_values.proofs.Alike.{among_same, bucket_same, byte_same}
use Rattle.treefs_values.proofs.Apart.{leaf_no_inode}
use Rattle.treefs_values.proofs.Elsewhere.{files_changed, own_read, own_was}
use Rattle.treefs_values.proofs.Keeping.{keeps_inode}
use Rattle.treefs_values.proofs.Kept.{same_directory, still_volume}
use Rattle.treefs_values.proofs.Ways.{leaf_same}

module _ (node inode top : ℕ) (type : ℕ → ℕ) (old new : ℕ → List ℕ) (v : IsVolume node inode type old top)
    (n : ℕ) (number : n ≢ 0) (there : block_numbered old top n ≢ 0) (changed : IsChangedAt (block_numbered old top n) old new)
    (pointers : pointers_of (new (block_numbered old top n)) ≡ pointers_of (old (block_numbered old top n)))
    (contents : content_of (new (block_numbered old top n)) ≡ content_of (old (block_numbered old top n))) (is_block : IsWholeBlock (new (block_numbered old top n))) where
  abbrev c : ℕ
  c = block_numbered old top n

  abbrev key : List ℕ
  key = key_in old top

  abbrev was : Fields
  was = fields_of (old c)

  abbrev now : Fields
  now = fields_of (new c)

  keeps : SamePointers node inode type old new
  keeps = keeps_inode node inode type c old new changed v.types.0 (v.typed.inodes n there) pointers

  leaves : (i : ℕ) → leaf_block new c i ≡ leaf_block old c i
  leaves i = leaf_same node inode top type old new v.typed keeps n i

  bytes : (i : ℕ) → leaf_block old c i ≢ 0 → new (leaf_block old c i) ≡ old (leaf_block old c i)
  bytes i some = changed (leaf_block old c i) (leaf_no_inode node inode top type old v.types.0 v.typed v.apart n n i number some)

  numbers : number_of new key c ≡ number_of old key c
  numbers = fun_ext (λ name. among_same old new c leaves bytes name (candidates (name_hash key name)) (λ k. bucket_same old new c leaves bytes k contents))

  byte_alike : (p : ℕ) → byte_of new c p ≡ byte_of old c p
  byte_alike p = byte_same old new c leaves bytes p (sym (get_or-drop 128 (new c) p 0) ∙ (ap (λ m. slice_index m p) contents ∙ get_or-drop 128 (old c) p 0))

  pub volume_fielded : kind_of now.mode ≡ kind_of was.mode → IsVolume node inode type new top
  volume_fielded same_kind = still_volume node inode top type old new v n c number there (inl refl) changed keeps is_block
      (λ directory. same_directory old new key c (λ k few. bucket_same old new c leaves bytes k contents) (v.directories n number there (sym same_kind ∙ directory)))

  module _ (size : now.size ≡ was.size) where
    bytes_alike : bytes_of new c ≡ bytes_of old c
    bytes_alike = (λ j. map (fun_ext byte_alike j) (range_with_len 0 (size j)))

    content_alike : (parent : ℕ) (k : Kind) → content_at new key c parent k ≡ content_at old key c parent k
    content_alike parent kind.Directory = (λ j. Directory parent (numbers j))
    content_alike parent kind.File = (λ j. File (bytes_alike j))
    content_alike parent kind.SymbolicLink = (λ j. SymbolicLink (bytes_alike j))

    -- in another directory, if the parent is another
    content_moved : (parent parent' : ℕ) (k : Kind) → content_at old key c parent' k ≡ moved_to parent' (content_at old key c parent k)
    content_moved parent parent' kind.Directory = refl
    content_moved parent parent' kind.File = refl
    content_moved parent parent' kind.SymbolicLink = refl

    module _ (same_kind : kind_of now.mode ≡ kind_of was.mode) (change : Inode → Inode)
        (makes : (content : Content) → moved_to was.parent content ≡ content → inode_with now (moved_to now.parent content) ≡ change (inode_with was content)) where
      own_value : (k : Option Kind) → option_map (λ k. inode_with now (content_at new key c now.parent k)) k
          ≡ changed_in change (option_map (λ k. inode_with was (content_at old key c was.parent k)) k)
      own_value None = refl
      own_value (Some k) = ap Some
          (ap (inode_with now) (content_alike now.parent k ∙ content_moved was.parent now.parent k) ∙ makes (content_at old key c was.parent k) (sym (content_moved was.parent was.parent k)))

      pub files_fielded : files_of new top ≡ changed_at (files_of old top) n change
      files_fielded = files_changed node inode top type old new v.types.0 v.typed v.apart keeps n c number there (inl refl) changed v.root change
          (own_read node inode top type old new v.types.0 v.typed v.apart keeps n c number there (inl refl) changed v.root
          ∙ (ap (option_map (λ k. inode_with now (content_at new key c now.parent k))) same_kind
          ∙ (own_value (kind_of was.mode)
          ∙ sym (ap (changed_in change) (own_was node inode top type old new v.types.0 v.typed v.apart keeps n c number there (inl refl) changed)))))

  -- Another size: of a file other bytes come into sight

  abbrev seen : List ℕ
  seen = bytes_from old c 0 now.size

  module _ (k : Kind) (is_kind : kind_of was.mode ≡ Some k) (no_directory : k ≢ kind.Directory) (same_kind : kind_of now.mode ≡ kind_of was.mode) (parent : now.parent ≡ was.parent)
      (change : Inode → Inode) (makes : (content : Content) → inode_with now (with_bytes (λ bytes. seen) content) ≡ change (inode_with was content)) where
    content_seen : (k : Kind) → k ≢ kind.Directory → content_at new key c now.parent k ≡ with_bytes (λ bytes. seen) (content_at old key c was.parent k)
    content_seen kind.Directory other = absurd (other refl)
    content_seen kind.File other = (λ j. File (map (fun_ext byte_alike j) (range_with_len 0 now.size)))
    content_seen kind.SymbolicLink other = (λ j. SymbolicLink (map (fun_ext byte_alike j) (range_with_len 0 now.size)))

    pub files_resized : files_of new top ≡ changed_at (files_of old top) n change
    files_resized = files_changed node inode top type old new v.types.0 v.typed v.apart keeps n c number there (inl refl) changed v.root change
        (own_read node inode top type old new v.types.0 v.typed v.apart keeps n c number there (inl refl) changed v.root
        ∙ (ap (option_map (λ k. inode_with now (content_at new key c now.parent k))) (same_kind ∙ is_kind)
        ∙ (ap Some (ap (inode_with now) (content_seen k no_directory) ∙ makes (content_at old key c was.parent k))
        ∙ sym (ap (changed_in change) (own_was node inode top type old new v.types.0 v.typed v.apart keeps n c number there (inl refl) changed
        ∙ ap (option_map (λ k. inode_with was (content_at old key c was.parent k))) is_kind)))))
