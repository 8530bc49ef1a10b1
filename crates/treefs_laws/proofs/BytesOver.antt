-- Bytes of a file once zeros are put into one of its buckets.
use Rattle.std.proofs.Common.{◌≡◌, ◌≢◌, ◌⊎◌, ℕ, ◌+◌, ◌-◌, ◌<◌, ◌≤◌, Bool, true, false, List, length, Option, refl, ◌∙◌, ap, inl, inr, arith, if◌then◌else◌}
use Rattle.std.specs.Prelude.{All, slice_index}
use Rattle.treefs_format.specs.Leaves.{greatest_size}
use Rattle.treefs_format.specs.Paths.{leaf_count}
use Rattle.treefs_model.specs.Reading.{byte_of}
use Rattle.treefs_lookup.specs.Buckets.{bucket_block}
use Rattle.treefs_lookup.specs.Bytes.{part_left}
use Rattle.treefs_values.specs.Bytes.{bucket_at, byte_over, is_within}
use Rattle.treefs_values.specs.Volumes.{IsVolume}
use Rattle.treefs_values.specs.Ways.{block_numbered}
use Rattle.treefs_values.proofs.ForCallers.{byte_put, inside, put_new, stands}

-- buckets of bytes below the greatest size
pub few_buckets : (p : ℕ) → p < greatest_size → bucket_at p ≤ leaf_count
few_buckets p low = elim (stands p) [ inl a ↦ let bucket = a.bucket in omega arith | inr b ↦ let bucket = b.bucket in omega arith ]

-- Bytes that are all 0 are put into a bucket of an inode

module _ (node inode top : ℕ) (type : ℕ → ℕ) (old : ℕ → List ℕ) (v : IsVolume node inode type old top)
    (n : ℕ) (number : n ≢ 0) (there : block_numbered old top n ≢ 0) (bytes : List ℕ) (range : All (λ b. b < 256) bytes) (some : 0 < length bytes) (first : ℕ)
    (few : bucket_at first ≤ leaf_count) (fits : length bytes ≤ part_left first) (block_there : bucket_block old (block_numbered old top n)
    (bucket_at first) ≢ 0) (behind : Option ℕ) (zeros : (i : ℕ) → slice_index bytes i ≡ 0) where
  abbrev c : ℕ
  c = block_numbered old top n

  abbrev new : ℕ → List ℕ
  new = put_new node inode top type old v n number there bytes range some first few fits block_there behind

  over : (p : ℕ) → p < greatest_size → byte_of new c p ≡ byte_over first bytes (byte_of old c) p
  over p low = byte_put node inode top type old v n number there bytes range some first few fits block_there behind p (few_buckets p low)

  pub byte_fades : (p : ℕ) → p < greatest_size → (byte_of new c p ≡ byte_of old c p) ⊎ (byte_of new c p ≡ 0)
  byte_fades p low = by (is_within first (length bytes) p) refl
    where
      by : (t : Bool) → is_within first (length bytes) p ≡ t → (byte_of new c p ≡ byte_of old c p) ⊎ (byte_of new c p ≡ 0)
      by true e = inr (over p low ∙ (ap (λ t. if t then slice_index bytes (p - first) else byte_of old c p) e ∙ zeros (p - first)))
      by false e = inl (over p low ∙ ap (λ t. if t then slice_index bytes (p - first) else byte_of old c p) e)

  pub byte_cleared : (p : ℕ) → p < greatest_size → first ≤ p → p < first + length bytes → byte_of new c p ≡ 0
  byte_cleared p low from to =
      over p low ∙ (ap (λ t. if t then slice_index bytes (p - first) else byte_of old c p) (inside first (length bytes) p from to) ∙
      zeros (p - first))
