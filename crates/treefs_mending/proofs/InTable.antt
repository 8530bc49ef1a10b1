-- What inodes give, numbers rising: those that are not there give nothing.
use Rattle.std.proofs.Common.{◌≡◌, ℕ, ◌+◌, ◌-◌, ◌<◌, ◌≤◌, Bool, true, false, cond, List, [], ◌++◌, refl, ap, arith, Err}
use Rattle.std.specs.Prelude.{◌==◌, ◌||◌, nat_lt}
use Rattle.treefs_format.specs.Paths.{leaf_count}
use Rattle.treefs_format.specs.Roots.{leaf_of_inode}
use Rattle.treefs_model.specs.Reading.{leaf_block}
use Rattle.treefs_model.specs.declared.fault.Fault.TheVariants.{NoEntry}
use Rattle.treefs_lookup.specs.Inodes.{found_block, inode_found}
use Rattle.treefs_lookup.specs.Leaves.{AreMissing}
use Rattle.treefs_mending.specs.Surveys.{inode_count}
use Rattle.treefs_mending.proofs.Gathered.{gathered, gathered_next, gathered_none}
use Rattle.treefs_mending.proofs.Walks.{inode_count_is}

none_either : (b : Bool) (block : ℕ) → block ≡ 0 → cond b 0 block ≡ 0
none_either true block none = refl
none_either false block none = none

module _ (content : ℕ → List ℕ) (top : ℕ) where
  -- a number that is none; one whose leaf is not there
  pub no_inode : (n : ℕ) → ((n == 0) || nat_lt leaf_count n) ≡ true → inode_found content top n ≡ Err NoEntry
  unfolding inode_found
  no_inode n out = ap (λ b. found_block content (cond b 0 (leaf_block content top (leaf_of_inode n)))) out

  pub missing_inode : (n : ℕ) → leaf_block content top (leaf_of_inode n) ≡ 0 → inode_found content top n ≡ Err NoEntry
  unfolding inode_found
  missing_inode n none = ap (found_block content) (none_either ((n == 0) || nat_lt leaf_count n) (leaf_block content top (leaf_of_inode n)) none)

  module _ {A : Type 0} (f : ℕ → List A) (nothing : (n : ℕ) → inode_found content top n ≡ Err NoEntry → f n ≡ []) where
    missing_from : (from to : ℕ) → AreMissing content top from to → (n : ℕ) → from + 1 ≤ n → n < to + 1 → f n ≡ []
    missing_from from to are n ge lt = nothing n (missing_inode n (are (n - 1) (omega arith) (omega arith)))

    pub next_inode : (from number : ℕ) → from ≤ number → number < leaf_count → AreMissing content top from number →
        gathered f (from + 1) (inode_count - from) ≡ f (number + 1) ++ gathered f (number + 1 + 1) (inode_count - (number + 1))
    next_inode from number past few are =
        gathered_next f (from + 1) (number + 1) (inode_count - from) (inode_count - (number + 1)) (omega arith)
        (omega (arith, inode_count_is)) (omega (arith, inode_count_is)) (missing_from from number are)

    pub last_inode : (from : ℕ) → from ≤ leaf_count → AreMissing content top from leaf_count → gathered f (from + 1) (inode_count - from) ≡ []
    last_inode from few are =
        gathered_none f (from + 1) (inode_count - from) (λ n ge lt. missing_from from leaf_count are n ge (omega (arith, inode_count_is)))
