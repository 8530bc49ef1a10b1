-- The blocks for which something is pending.
use Rattle.std.proofs.Common.{take, ◌++◌, ◌≡◌, ℕ, zero, suc, ◌+◌, ◌<◌, ◌≤◌, Bool, true, false, List, [], ◌∷◌, length, map, get_or, Option, Some, None, refl, sym, ◌∙◌, ap, arith, inl, inr}
use Rattle.std.specs.Prelude.{◌&&◌, ◌||◌, ◌==◌, is_none, nat_lt, not, position, slice_get, slice_index_or, unwrap_or}
use Rattle.std.specs.List.{list_any}
use Rattle.std.proofs.lemmas.Bool.{cases_lt, eq-eqb, false≢true, le-ltb, lt-ltb, ne_eqb}
use Rattle.std.proofs.lemmas.List.{length-map}
use Rattle.std.proofs.lemmas.Option.{unwrap_or-slice_get}
use Rattle.xn_model.specs.Lives.{entries_at, entries_in, entries_of, BlockState, Life, Lives, has_entry, life_at, safe_count}
use Rattle.xn_model.specs.Calls.{is_ready, life_pending}
use Rattle.free_map.specs.Members.{HasNoneFrom, IsLeastFrom}
use Rattle.dependencies.specs.Pending.{is_dirty, pends}
use Rattle.xn_model.proofs.ForCallers.{entries_counted}
use Rattle.dependencies.proofs.FirstEntries.{counted}
use Rattle.dependencies.proofs.Places.{least_place, no_place}

dirty_at : (lives : Lives) (k : ℕ) → slice_index_or (map is_dirty lives) k false ≡ is_dirty (life_at lives k)
dirty_at [] k = refl
dirty_at (o ∷ os) zero = refl
dirty_at (o ∷ os) (suc k) = dirty_at os k

clean : (o : Option Life) → is_dirty o ≡ false → life_pending o ≡ 0
clean o e = elim (cases_lt 0 (life_pending o)) [
  | inl more ↦ absurd (false≢true (sym e ∙ lt-ltb 0 (life_pending o) more))
  | inr none ↦ omega (arith, none)
]

pub clean_at : (dirty : List Bool) (lives : Lives) (k : ℕ) → dirty ≡ map is_dirty lives → slice_index_or dirty k false ≡ false → life_pending (life_at lives k) ≡ 0
clean_at dirty lives k e none = clean (life_at lives k) (sym (dirty_at lives k) ∙ (ap (λ ds. slice_index_or ds k false) (sym e) ∙ none))

-- What the least member from a number on says

pub next_within : (dirty : List Bool) (lives : Lives) (from at : ℕ) → dirty ≡ map is_dirty lives → IsLeastFrom dirty from at → at < length lives
next_within dirty lives from at e next = omega (arith, next.within, ap (λ ds. length ds) e, length-map lives is_dirty)

pub clean_before : (dirty : List Bool) (lives : Lives) (from at : ℕ) → dirty ≡ map is_dirty lives → IsLeastFrom dirty from at → (k : ℕ) → from ≤ k → k < at → life_pending (life_at lives k) ≡ 0
clean_before dirty lives from at e next k past below = clean_at dirty lives k e (next.least k past below)

pub clean_from : (dirty : List Bool) (lives : Lives) (from : ℕ) → dirty ≡ map is_dirty lives → HasNoneFrom dirty from → (k : ℕ) → from ≤ k → life_pending (life_at lives k) ≡ 0
clean_from dirty lives from e none k past = clean_at dirty lives k e (none k past)

-- What holds of a block with nothing pending

and_none : (t : Bool) → (t && false) ≡ false
and_none true = refl
and_none false = refl

pub not_ready : (lives : Lives) (o : Option Life) → life_pending o ≡ 0 → is_ready lives o ≡ false
not_ready lives None none = refl
not_ready lives (Some l) none = by (is_none l.begun) l.pending none
  where
    by : (t : Bool) (ps : List BlockState) → length ps ≡ 0 → (t && nat_lt 0 (safe_count lives l.ty [] ps)) ≡ false
    by t [] e = and_none t
    by t (p ∷ ps) e = absurd (omega arith)

pub pends_not : (n : ℕ) (o : Option Life) → life_pending o ≡ 0 → pends n o ≡ false
pends_not n None none = refl
pends_not n (Some l) none = by l.pending none
  where
    by : (ps : List BlockState) → length ps ≡ 0 → has_entry ps n ≡ false
    by [] e = refl
    by (p ∷ ps) e = absurd (omega arith)

-- Walks over them: what fails below a number, at each block from there on with nothing pending, and at one more

abbrev pub FailsBelow : (Option Life → Bool) → Lives → ℕ → Type 0
FailsBelow test lives n = (k : ℕ) → k < n → test (life_at lives k) ≡ false

pub fails_before : (test : Option Life → Bool) (dirty : List Bool) (lives : Lives) (from at : ℕ) → ((o : Option Life) → life_pending o ≡ 0 → test o ≡ false) → dirty ≡ map is_dirty lives →
    IsLeastFrom dirty from at → FailsBelow test lives from → FailsBelow test lives at
fails_before test dirty lives from at at_rest e next before = λ k below. elim (cases_lt k from) [
  | inl lt ↦ before k lt
  | inr past ↦ at_rest (life_at lives k) (clean_before dirty lives from at e next k (omega (arith, past)) below)
]

pub fails_more : (test : Option Life → Bool) (dirty : List Bool) (lives : Lives) (from at : ℕ) → ((o : Option Life) → life_pending o ≡ 0 → test o ≡ false) → dirty ≡ map is_dirty lives →
    IsLeastFrom dirty from at → FailsBelow test lives from → test (life_at lives at) ≡ false → FailsBelow test lives (at + 1)
fails_more test dirty lives from at at_rest e next before here = λ k below. elim (cases_lt k at) [
  | inl lt ↦ fails_before test dirty lives from at at_rest e next before k lt
  | inr past ↦ let same : k ≡ at = omega (arith, below, past) in ap (λ j. test (life_at lives j)) same ∙ here
]

pub fails_all : (test : Option Life → Bool) (dirty : List Bool) (lives : Lives) (from n : ℕ) → ((o : Option Life) → life_pending o ≡ 0 → test o ≡ false) → dirty ≡ map is_dirty lives →
    HasNoneFrom dirty from → FailsBelow test lives from → FailsBelow test lives n
fails_all test dirty lives from n at_rest e none before = λ k below. elim (cases_lt k from) [
  | inl lt ↦ before k lt
  | inr past ↦ at_rest (life_at lives k) (clean_from dirty lives from e none k (omega (arith, past)))
]

-- What a walk answers

at_place : (test : Option Life → Bool) (lives : Lives) (k : ℕ) → test (get_or lives k None) ≡ test (life_at lives k)
at_place test lives k = ap test (sym (unwrap_or-slice_get lives k None))

pub is_place : (test : Option Life → Bool) (lives : Lives) (at : ℕ) → at < length lives → FailsBelow test lives at → test (life_at lives at) ≡ true → Some at ≡ position test lives
is_place test lives at within before here = least_place test lives at None within (λ k below. at_place test lives k ∙ before k below) (at_place test lives at ∙ here)

pub is_nowhere : (test : Option Life → Bool) (lives : Lives) (n : ℕ) → length lives ≤ n → FailsBelow test lives n → None ≡ position test lives
is_nowhere test lives n all none = no_place test lives (length lives) None refl (λ k below. at_place test lives k ∙ none k (omega (arith, all, below)))

pub none_of : (test : Option Life → Bool) (lives : Lives) (n : ℕ) → length lives ≤ n → FailsBelow test lives n → list_any test lives ≡ false
none_of test [] n all none = refl
none_of test (o ∷ os) zero all none = absurd (omega arith)
none_of test (o ∷ os) (suc n) all none =
    ap (λ t. t || list_any test os) (none 0 (omega arith)) ∙ none_of test os n (omega (arith, all)) (λ k below. none (suc k) (omega (arith, below)))

entries_none : (fs : ℕ) (o : Option Life) → life_pending o ≡ 0 → entries_at fs o ≡ []
entries_none fs None none = refl
entries_none fs (Some l) none = by l.pending none
  where
    by : (ps : List BlockState) → length ps ≡ 0 → entries_in fs ps ≡ []
    by [] e = refl
    by (p ∷ ps) e = absurd (omega arith)

-- A walk passes over blocks with nothing pending

pub entries_pass : (fs n m : ℕ) (lives : Lives) → n ≤ m → ((k : ℕ) → n ≤ k → k < m → life_pending (life_at lives k) ≡ 0) → entries_of fs (take m lives) ≡ entries_of fs (take n lives)
entries_pass fs zero zero lives le none = refl
entries_pass fs zero (suc m) [] le none = refl
entries_pass fs zero (suc m) (o ∷ os) le none =
    let rest = entries_pass fs zero m os (omega arith) (λ k past below. none (suc k) (omega arith) (omega (arith, below))) in
    λ i. entries_none fs o (none 0 (omega arith) (omega arith)) i ++ rest i
entries_pass fs (suc n) zero lives le none = absurd (omega arith)
entries_pass fs (suc n) (suc m) [] le none = refl
entries_pass fs (suc n) (suc m) (o ∷ os) le none =
    ap (λ es. entries_at fs o ++ es) (entries_pass fs n m os (omega (arith, le)) (λ k past below. none (suc k) (omega (arith, past)) (omega (arith, below))))

pub counts_pass : (fs n m : ℕ) (lives : Lives) → n ≤ m → ((k : ℕ) → n ≤ k → k < m → life_pending (life_at lives k) ≡ 0) → counted fs (take m lives) ≡ counted fs (take n lives)
counts_pass fs n m lives le none =
    sym (entries_counted fs (record { lives = take m lives; next = 0 }))
    ∙ (ap (λ es. length es) (entries_pass fs n m lives le none) ∙ entries_counted fs (record { lives = take n lives; next = 0 }))

-- a block that is not dirty gets its first entry
pub first_by_dirty : (dirty : List Bool) (lives : Lives) (b : ℕ) → dirty ≡ map is_dirty lives → not (unwrap_or (slice_get dirty b) false) ≡ (life_pending (life_at lives b) == 0)
first_by_dirty dirty lives b e =
    ap (λ ds. not (unwrap_or (slice_get ds b) false)) e
    ∙ (ap not (unwrap_or-slice_get (map is_dirty lives) b false ∙ dirty_at lives b) ∙ none (life_pending (life_at lives b)))
  where
    none : (n : ℕ) → not (nat_lt 0 n) ≡ (n == 0)
    none n = elim (cases_lt 0 n) [
      | inl some ↦ ap not (lt-ltb 0 n some) ∙ sym (ne_eqb n 0 (λ e. absurd (omega (arith, e, some))))
      | inr past ↦ let zero' : n ≡ 0 = omega (arith, past) in ap not (le-ltb 0 n past) ∙ sym (eq-eqb n 0 zero')
    ]
