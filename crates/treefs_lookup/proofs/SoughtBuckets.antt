-- Buckets that are passed over.
use Rattle.std.proofs.Common.{◌≡◌, ℕ, ◌+◌, ◌-◌, ◌<◌, Bool, true, false, refl, sym, ◌∙◌, ap, inl, inr, arith, ◌==◌}
use Rattle.std.specs.Prelude.{◌&&◌, not}
use Rattle.std.proofs.lemmas.Bool.{cases_lt}
use Rattle.xn_model.specs.Lives.{StoreState}
use Rattle.treefs_format.specs.Paths.{leaf_count}
use Rattle.treefs_model.specs.Reading.{bucket_of}
use Rattle.treefs_lookup.specs.Buckets.{IsBucket, bucket_block, bucket_start}
use Rattle.treefs_lookup.specs.Readable.{readable}
use Rattle.treefs_lookup.specs.Sought.{AreNotThere, AreWithout, IsNextThere, has_sought, hit_at, is_hit}
use Rattle.treefs_lookup.specs.declared.bucket.Bucket.{Bucket}
use Rattle.treefs_lookup.specs.declared.sought.Sought.{Sought}

and_false : (a b : Bool) → b ≡ false → (a && b) ≡ false
and_false true b e = e
and_false false b e = refl

module _ (state : StoreState) (fs inode : ℕ) (sought : Sought) where
  hit_is : (n : ℕ) (bucket : Bucket) → IsBucket (readable state fs) inode n bucket → is_hit state fs inode sought n ≡ hit_at state sought bucket.block bucket.start bucket.bytes.now
  hit_is n bucket is =
      sym (ap (λ b. hit_at state sought b bucket.start bucket.bytes.now) is.block
      ∙ (ap (λ s. hit_at state sought (bucket_block (readable state fs) inode n) s bucket.bytes.now) is.start
      ∙ ap (λ m. hit_at state sought (bucket_block (readable state fs) inode n) (bucket_start n) m) is.bytes))

  pub none_before : (from : ℕ) → AreWithout state fs inode sought from from
  none_before from n ge lt = absurd (omega arith)

  pub none_more : (from next : ℕ) → AreWithout state fs inode sought from next → AreNotThere (readable state fs) inode next (leaf_count + 1) →
      AreWithout state fs inode sought from (leaf_count + 1)
  none_more from next before none n ge lt = elim (cases_lt n next) [
    | inl a ↦ before n ge a
    | inr b ↦ ap (λ x. hit_at state sought x (bucket_start n) (bucket_of (readable state fs) inode n)) (none n b lt)
  ]

  pub gets_closer : (next number : ℕ) → IsNextThere (readable state fs) inode next number → leaf_count + 1 - (number + 1) < leaf_count + 1 - next
  gets_closer next number there = omega (arith, there.past, there.few)

  pub without_more : (from next number : ℕ) (bucket : Bucket) (found : Bool) → AreWithout state fs inode sought from next → IsNextThere (readable state fs) inode next number →
      IsBucket (readable state fs) inode number bucket → found ≡ has_sought state sought bucket.block bucket.start bucket.bytes.now → found ≡ false →
      AreWithout state fs inode sought from (number + 1)
  without_more from next number bucket found before there is so none n ge lt = elim (cases_lt n next) [
    | inl a ↦ before n ge a
    | inr a ↦ elim (cases_lt n number) [
      | inl b ↦ ap (λ x. hit_at state sought x (bucket_start n) (bucket_of (readable state fs) inode n)) (there.first n a b)
      | inr b ↦
          let e : n ≡ number = omega arith in
          ap (is_hit state fs inode sought) e ∙ (hit_is number bucket is ∙ and_false (not (bucket.block == 0)) (has_sought state sought bucket.block bucket.start bucket.bytes.now) (sym so ∙ none))
    ]
  ]
