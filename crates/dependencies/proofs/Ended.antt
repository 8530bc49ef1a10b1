-- What is counted of lives, where one of them ends.
use Rattle.std.proofs.Common.{◌≡◌, ℕ, ◌+◌, ◌<◌, ◌≤◌, Bool, true, List, length, Option, Some, None, refl, sym, ◌∙◌, ap, arith, slice_set, inl, inr}
use Rattle.std.specs.Prelude.{count_by, slice_index}
use Rattle.std.proofs.lemmas.Bool.{cases_lt}
use Rattle.std.proofs.lemmas.Option.{unwrap_or-slice_get}
use Rattle.std.proofs.lemmas.List.{get_or_past, set_past, take_all}
use Rattle.std.proofs.lemmas.List.Sums.{sum_by-set}
use Rattle.xn_model.specs.Lives.{Life, Lives, life_at}
use Rattle.xn_model.specs.Calls.{first_pending, life_pending, pending_in}
use Rattle.dependencies.specs.Index.{IsCounted}
use Rattle.dependencies.proofs.Counting.{counted, counts_for, marks-set, settled_less}

freed_less : (fs : ℕ) (lives : Lives) (b : ℕ) (o : Option Life) → b < length lives → life_at lives b ≡ o → counted fs (slice_set lives b None) + pending_in fs o ≡ counted fs lives
freed_less fs lives b o within here =
    let moved = sum_by-set (pending_in fs) lives b None None within in
    let before = ap (pending_in fs) (sym here ∙ unwrap_or-slice_get lives b None) in
    omega (arith, moved, before)

all_pending : (fs k : ℕ) (o : Option Life) → k ≡ life_pending o → count_by (counts_for fs) (first_pending k o) ≡ pending_in fs o
all_pending fs k None all = refl
all_pending fs k (Some l) all = ap (count_by (counts_for fs)) (take_all k l.pending (omega (arith, all)))

past_end : (fs : ℕ) (lives : Lives) (b : ℕ) → length lives ≤ b → counted fs (slice_set lives b None) + pending_in fs (life_at lives b) ≡ counted fs lives
past_end fs lives b past =
    let same = ap (counted fs) (set_past lives b None past) in
    let none = ap (pending_in fs) (unwrap_or-slice_get lives b None ∙ get_or_past lives b None past) in
    omega (arith, same, none)

-- all entries of a block are taken out of the counts
pub forgotten_counted : (lives : Lives) (free : List Bool) (pending pending' : List ℕ) (b k : ℕ) → IsCounted lives free pending → k ≡ life_pending (life_at lives b) →
    ((fs : ℕ) → fs < 32 → slice_index pending' fs + count_by (counts_for fs) (first_pending k (life_at lives b)) ≡ slice_index pending fs) →
    IsCounted (slice_set lives b None) (slice_set free b true) pending'
forgotten_counted lives free pending pending' b k h all less = record {
  marked = ap (λ ts. slice_set ts b true) h.marked ∙ sym (marks-set lives b None);
  counts = λ fs few. omega (arith, less fs few, h.counts fs few, all_pending fs k (life_at lives b) all, gone fs);
}
  where
    gone : (fs : ℕ) → counted fs (slice_set lives b None) + pending_in fs (life_at lives b) ≡ counted fs lives
    gone fs = elim (cases_lt b (length lives)) [
      | inl within ↦ freed_less fs lives b (life_at lives b) within refl
      | inr past ↦ past_end fs lives b past
    ]

-- they were counted
pub few_forgotten : (fs : ℕ) (lives : Lives) (b k : ℕ) → k ≡ life_pending (life_at lives b) → count_by (counts_for fs) (first_pending k (life_at lives b)) ≤ counted fs lives
few_forgotten fs lives b k all = omega (arith, settled_less fs lives b k)
