-- An inode is the same value where its blocks have the same bytes.
use mathlib.Core.Path.{fun_ext}
use Rattle.std.proofs.Common.{◌≡◌, ◌≢◌, ℕ, ◌+◌, ◌-◌, ◌/◌, ◌%◌, List, [], ◌∷◌, refl, sym, ◌∙◌, ap, inl, inr, if◌then◌else◌}
use Rattle.std.specs.Prelude.{map, nat_lt, option_map, slice_index, ◌==◌}
use Rattle.std.specs.List.{range_with_len}
use Rattle.std.proofs.lemmas.Bool.{cases_eq, ne_eqb}
use Rattle.treefs_format.specs.Candidates.{candidates, name_hash}
use Rattle.treefs_format.specs.Fields.{fields_of}
use Rattle.treefs_format.specs.Inodes.{content_of, kind_of}
use Rattle.treefs_format.specs.declared.kind.Kind.{Kind}
use Rattle.treefs_format.specs.declared.kind.Kind.TheVariants as kind
use Rattle.treefs_model.specs.Files.{Directory, File, SymbolicLink}
use Rattle.treefs_model.specs.Reading.{bucket_of, byte_of, bytes_of, content_at, inode_of, inode_with, leaf_block, leaf_byte, number_among, number_of}

-- a bucket that stands in a leaf
pub in_leaf : (content : ℕ → List ℕ) (c k : ℕ) → k ≢ 0 → bucket_of content c k ≡ (if leaf_block content c (k - 1) == 0 then [] else content (leaf_block content c (k - 1)))
in_leaf content c k some = ap (λ t. if t then content_of (content c) else if leaf_block content c (k - 1) == 0 then [] else content (leaf_block content c (k - 1))) (ne_eqb k 0 some)

pub record IsAlike (old new : ℕ → List ℕ) (c : ℕ) : Type 0 where
  pub own : new c ≡ old c
  pub leaves : (i : ℕ) → leaf_block new c i ≡ leaf_block old c i
  pub bytes : (i : ℕ) → leaf_block old c i ≢ 0 → new (leaf_block old c i) ≡ old (leaf_block old c i)

module _ (old new : ℕ → List ℕ) (c : ℕ) (leaves : (i : ℕ) → leaf_block new c i ≡ leaf_block old c i)
    (bytes : (i : ℕ) → leaf_block old c i ≢ 0 → new (leaf_block old c i) ≡ old (leaf_block old c i)) where
  abbrev leaf_bytes : (ℕ → List ℕ) → ℕ → List ℕ
  leaf_bytes content x = if x == 0 then [] else content x

  pub leaf_same : (i : ℕ) → leaf_bytes new (leaf_block new c i) ≡ leaf_bytes old (leaf_block old c i)
  leaf_same i = ap (leaf_bytes new) (leaves i) ∙ elim (cases_eq (leaf_block old c i) 0) [
    | inl z ↦ ap (leaf_bytes new) z ∙ sym (ap (leaf_bytes old) z)
    | inr some ↦ ap (λ m. if leaf_block old c i == 0 then [] else m) (bytes i some)
  ]

  -- a bucket that stands in a leaf
  pub bucket_same : (k : ℕ) → content_of (new c) ≡ content_of (old c) → bucket_of new c k ≡ bucket_of old c k
  bucket_same k own = (λ j. if k == 0 then own j else leaf_same (k - 1) j)

  pub byte_same : (p : ℕ) → slice_index (new c) (128 + p) ≡ slice_index (old c) (128 + p) → byte_of new c p ≡ byte_of old c p
  byte_same p own = (λ j. if nat_lt p 384 then own j else leaf_byte_same (p / 512) (p % 512) j)
    where
      leaf_byte_same : (i at : ℕ) → leaf_byte new (leaf_block new c i) at ≡ leaf_byte old (leaf_block old c i) at
      leaf_byte_same i at = ap (λ x. leaf_byte new x at) (leaves i) ∙ elim (cases_eq (leaf_block old c i) 0) [
        | inl z ↦ ap (λ x. leaf_byte new x at) z ∙ sym (ap (λ x. leaf_byte old x at) z)
        | inr some ↦ ap (λ m. if leaf_block old c i == 0 then 0 else slice_index m at) (bytes i some)
      ]

  pub among_same : (name : List ℕ) (buckets : List ℕ) → ((k : ℕ) → bucket_of new c k ≡ bucket_of old c k) →
      number_among new c name buckets ≡ number_among old c name buckets
  among_same name [] same = refl
  among_same name (k ∷ buckets) same = rw (same k) (rw (among_same name buckets same) refl)

module _ (old new : ℕ → List ℕ) (c : ℕ) (alike : IsAlike old new c) where
  pub numbers_same : (key : List ℕ) → number_of new key c ≡ number_of old key c
  numbers_same key = fun_ext (λ name. among_same old new c alike.leaves alike.bytes name (candidates (name_hash key name))
      (λ k. bucket_same old new c alike.leaves alike.bytes k (ap content_of alike.own)))

  pub bytes_same : bytes_of new c ≡ bytes_of old c
  bytes_same = (λ j. map (bytes j) (range_with_len 0 (fields_of (alike.own j)).size))
    where
      bytes : byte_of new c ≡ byte_of old c
      bytes = fun_ext (λ p. byte_same old new c alike.leaves alike.bytes p (ap (λ m. slice_index m (128 + p)) alike.own))

  pub content_same : (key : List ℕ) (parent : ℕ) (k : Kind) → content_at new key c parent k ≡ content_at old key c parent k
  content_same key parent kind.Directory = (λ j. Directory parent (numbers_same key j))
  content_same key parent kind.File = (λ j. File (bytes_same j))
  content_same key parent kind.SymbolicLink = (λ j. SymbolicLink (bytes_same j))

  pub inode_alike : (key : List ℕ) → inode_of new key c ≡ inode_of old key c
  inode_alike key = (λ j. option_map (λ k. inode_with (fields_of (alike.own j)) (content_same key (fields_of (alike.own j)).parent k j)) (kind_of (fields_of (alike.own j)).mode))
