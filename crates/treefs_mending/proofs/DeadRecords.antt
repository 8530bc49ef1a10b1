-- Buckets with dead records, rising: those that are not there have none.
use Rattle.std.proofs.Common.{◌≡◌, ℕ, ◌+◌, ◌-◌, ◌<◌, ◌≤◌, cond, List, [], ◌++◌, ap, ◌∙◌, arith}
use Rattle.std.proofs.lemmas.Bool.{ne_eqb}
use Rattle.treefs_format.specs.Paths.{leaf_count}
use Rattle.treefs_model.specs.Reading.{bucket_of, leaf_block}
use Rattle.treefs_lookup.specs.Buckets.{IsBucket, bucket_block, bucket_start}
use Rattle.treefs_lookup.specs.Leaves.{AreMissing}
use Rattle.treefs_lookup.specs.declared.bucket.Bucket.{Bucket}
use Rattle.treefs_mending.specs.Names.{bucket_count}
use Rattle.treefs_mending.specs.Rewritings.{bucket_rewriting, rewriting_at, rewritings, rewritings_from}
use Rattle.treefs_mending.proofs.Gathered.{gathered_more, gathered_next, gathered_none}
use Rattle.treefs_mending.proofs.LiveNames.{bucket_count_is}

module _ (content : ℕ → List ℕ) (inode : ℕ) where
  missing : (n : ℕ) → 1 ≤ n → leaf_block content inode (n - 1) ≡ 0 → bucket_rewriting content inode n ≡ []
  missing n some none =
      let nonzero : n ≡ 0 → ⊥ = λ e. omega arith in
      ap (λ b. rewriting_at b (bucket_start n) (bucket_of content inode n))
      (ap (λ b. cond b inode (leaf_block content inode (n - 1))) (ne_eqb n 0 nonzero) ∙ none)

  missing_from : (from to : ℕ) → AreMissing content inode from to → (n : ℕ) → from + 1 ≤ n → n < to + 1 → bucket_rewriting content inode n ≡ []
  missing_from from to are n ge lt = missing n (omega arith) (are (n - 1) (omega arith) (omega arith))

  pub read_rewriting : (n : ℕ) (bucket : Bucket) → IsBucket content inode n bucket →
      rewriting_at bucket.block bucket.start bucket.bytes.now ≡ bucket_rewriting content inode n
  read_rewriting n bucket is =
      ap (λ b. rewriting_at b bucket.start bucket.bytes.now) is.block
      ∙ (ap (λ s. rewriting_at (bucket_block content inode n) s bucket.bytes.now) is.start
      ∙ ap (λ m. rewriting_at (bucket_block content inode n) (bucket_start n) m) is.bytes)

  pub first_rewriting : rewritings content inode ≡ bucket_rewriting content inode 0 ++ rewritings_from content inode 1 (bucket_count - 1)
  first_rewriting = gathered_more (bucket_rewriting content inode) 0 bucket_count (omega (arith, bucket_count_is))

  pub next_rewriting : (from number : ℕ) → from ≤ number → number < leaf_count → AreMissing content inode from number →
      rewritings_from content inode (from + 1) (bucket_count - (from + 1))
      ≡ bucket_rewriting content inode (number + 1) ++ rewritings_from content inode (number + 1 + 1) (bucket_count - (number + 1 + 1))
  next_rewriting from number past few are =
      gathered_next (bucket_rewriting content inode) (from + 1) (number + 1) (bucket_count - (from + 1)) (bucket_count - (number + 1 + 1)) (omega arith)
      (omega (arith, bucket_count_is)) (omega (arith, bucket_count_is)) (missing_from from number are)

  pub last_rewriting : (from : ℕ) → from ≤ leaf_count → AreMissing content inode from leaf_count →
      rewritings_from content inode (from + 1) (bucket_count - (from + 1)) ≡ []
  last_rewriting from few are =
      gathered_none (bucket_rewriting content inode) (from + 1) (bucket_count - (from + 1))
      (λ n ge lt. missing_from from leaf_count are n ge (omega (arith, bucket_count_is)))
