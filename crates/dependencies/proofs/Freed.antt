-- What is counted once a write is done and what its entries drop is free.
use Rattle.std.proofs.Common.{◌≡◌, ℕ, zero, suc, ◌+◌, ◌<◌, Bool, List, [], ◌∷◌, length, Option, Some, None, refl, sym, ◌∙◌, ap, arith, subst, inl, inr}
use Rattle.std.specs.Prelude.{Contains, slice_set, slice_index, count_by, option_map}
use Rattle.std.proofs.lemmas.Bool.{cases_eq}
use Rattle.xn_model.specs.Lives.{BlockState, Life, Lives, life_at, settle, settled_at, freed, drops_of}
use Rattle.xn_model.specs.Calls.{life_pending, pending_in, first_pending}
use Rattle.xn_model.proofs.ForCallers.{Contains-head, Contains-tail, set_other}
use Rattle.dependencies.specs.Counts.{given}
use Rattle.dependencies.specs.Index.{IsCounted, MayFree}
use Rattle.dependencies.proofs.Counting.{counts_for, counted, marks-change, marks-freed, place_is, settled_less, sum_same}

-- What a write leaves, once what its entries drop is free

pub none_pending : (fs : ℕ) (o : Option Life) → life_pending o ≡ 0 → pending_in fs o ≡ 0
none_pending fs None e = refl
none_pending fs (Some l) e = none l.pending e
  where
    none : (states : List BlockState) → length states ≡ 0 → count_by (counts_for fs) states ≡ 0
    none [] e = refl
    none (s ∷ states) e = absurd (omega arith)

pub still_none : (lives : Lives) (c d : ℕ) → life_pending (life_at lives d) ≡ 0 → life_pending (life_at (slice_set lives c None) d) ≡ 0
still_none lives c d none = elim (cases_eq d c) [
  | inl same ↦ ap (λ x. life_pending (life_at (slice_set lives c None) x)) same ∙ ap life_pending (set_none lives c)
  | inr other ↦ ap life_pending (set_other lives c d None other) ∙ none
]
  where
    set_none : (lives : Lives) (c : ℕ) → life_at (slice_set lives c None) c ≡ None
    set_none [] c = refl
    set_none (o ∷ os) zero = refl
    set_none (o ∷ os) (suc c) = set_none os c

-- blocks with nothing pending count for nobody
freed_counted : (fs : ℕ) (drops : List ℕ) (lives : Lives) → ((c : ℕ) → Contains drops c → life_pending (life_at lives c) ≡ 0) → counted fs (freed lives drops) ≡ counted fs lives
freed_counted fs [] lives none = refl
freed_counted fs (c ∷ cs) lives none =
    freed_counted fs cs (slice_set lives c None) (λ d i. still_none lives c d (none d (Contains-tail c cs d i)))
    ∙ sum_same (pending_in fs) lives c None None (sym (none_pending fs (life_at lives c) (none c (Contains-head c cs))) ∙ ap (pending_in fs) (place_is lives c))

-- what a write drops has nothing pending when the write is settled, too
pub settled_none : (lives : Lives) (b k c : ℕ) → (c ≡ b → ⊥) → life_pending (life_at lives c) ≡ 0 → life_pending (life_at (settled_at lives b k) c) ≡ 0
settled_none lives b k c other none = ap life_pending (set_other lives b c (option_map (settle k) (life_at lives b)) other) ∙ none

-- a write is settled, and what its entries drop is free
pub ended_counted : (lives : Lives) (free : List Bool) (pending pending' : List ℕ) (b k : ℕ) → IsCounted lives free pending →
    ((fs : ℕ) → fs < 32 → slice_index pending' fs + count_by (counts_for fs) (first_pending k (life_at lives b)) ≡ slice_index pending fs) →
    MayFree lives b (drops_of (first_pending k (life_at lives b))) →
    IsCounted (freed (settled_at lives b k) (drops_of (first_pending k (life_at lives b)))) (given free (drops_of (first_pending k (life_at lives b)))) pending'
ended_counted lives free pending pending' b k h less may =
    let drops = drops_of (first_pending k (life_at lives b)) in
    let none = λ (c : ℕ) (i : Contains drops c). settled_none lives b k c (λ e. may.apart (subst (Contains drops) e i)) (may.at_rest c i) in
    record {
      marked = ap (λ ts. given ts drops) (h.marked ∙ sym (marks-change lives b (settle k))) ∙ marks-freed (settled_at lives b k) drops;
      counts = λ fs low. omega (arith, less fs low, h.counts fs low, settled_less fs lives b k, freed_counted fs drops (settled_at lives b k) none);
    }
