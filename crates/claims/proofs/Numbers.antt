-- Lists in which no number occurs twice, from their front on.
use Rattle.std.proofs.Common.{◌≡◌, ℕ, ◌+◌, ◌%◌, ◌<◌, ◌≤◌, Bool, true, false, not, List, [], ◌∷◌, ◌++◌, length, get_or, take, drop, refl, sym, ◌∙◌, ap, arith, inl, inr, subst}
use Rattle.std.specs.Prelude.{Contains, slice_set}
use Rattle.std.proofs.lemmas.Bool.{and_parts, cases_Bool, cases_eq, false≢true, not-true}
use Rattle.std.proofs.lemmas.List.{drop_more, get_or-set_other, get_or-set_same, get_or-take, get_or_default, length-take-le, take-append-drop, take_more}
use Rattle.xn_model.specs.Lists.{blocks_of, distinct, has_number}
use Rattle.xn_model.proofs.ForCallers.{Contains-cons, Contains-head, Contains-none, Contains-tail, has_number_at, has_number_from}
use Rattle.claims.proofs.ListCounts.{distinct-append, distinct-cons}

-- one number more that is not among those before it
pub distinct_more : (xs : List ℕ) (i x : ℕ) → i < length xs → x ≡ get_or xs i x → distinct (take i xs) ≡ true → has_number (take i xs) x ≡ false → distinct (take (i + 1) xs) ≡ true
distinct_more xs i x within is once out =
    ap distinct (take_more xs i x within ∙ ap (λ y. take i xs ++ y ∷ []) (sym is))
    ∙ distinct-append (take i xs) (x ∷ []) once (distinct-cons x [] (Contains-none x) refl)
    (λ n here there. elim (Contains-cons x [] n there) [
      | inl same ↦ false≢true (sym out ∙ has_number_from (take i xs) x (subst (Contains (take i xs)) (sym same) here))
      | inr none ↦ Contains-none n none
    ])

-- a number that stands before one that is like it
twice_in : (xs ys : List ℕ) (x : ℕ) → Contains xs x → distinct (xs ++ x ∷ ys) ≡ false
twice_in [] ys x i = absurd (Contains-none x i)
twice_in (z ∷ xs) ys x i = elim (cases_Bool (distinct (z ∷ (xs ++ x ∷ ys)))) [
  | inr failed ↦ failed
  | inl held ↦
      let parts = and_parts (not (has_number (xs ++ x ∷ ys) z)) (distinct (xs ++ x ∷ ys)) held in
      elim (Contains-cons z xs x i) [
        | inl same ↦
            absurd (false≢true (sym (not-true (has_number (xs ++ x ∷ ys) z) parts.0)
            ∙ has_number_from (xs ++ x ∷ ys) z (subst (Contains (xs ++ x ∷ ys)) (sym same) (in_middle xs ys x))))
        | inr there ↦ absurd (false≢true (sym (twice_in xs ys x there) ∙ parts.1))
      ]
]
  where
    in_middle : (xs ys : List ℕ) (x : ℕ) → Contains (xs ++ x ∷ ys) x
    in_middle [] ys x = Contains-head x ys
    in_middle (z ∷ xs) ys x = Contains-tail z (xs ++ x ∷ ys) x (in_middle xs ys x)

pub twice : (xs : List ℕ) (i x : ℕ) → i < length xs → x ≡ get_or xs i x → has_number (take i xs) x ≡ true → distinct xs ≡ false
twice xs i x within is there =
    let rest : drop i xs ≡ x ∷ drop (i + 1) xs = drop_more xs i x within ∙ ap (λ y. y ∷ drop (i + 1) xs) (sym is) in
    ap distinct (sym (take-append-drop i xs) ∙ ap (λ ys. take i xs ++ ys) rest)
    ∙ twice_in (take i xs) (drop (i + 1) xs) x (has_number_at (take i xs) x there)

pub none_twice : (ps : List (ℕ × ℕ)) → length ps ≡ 0 → distinct (blocks_of ps) ≡ true
none_twice [] e = refl
none_twice (p ∷ ps) e = absurd (omega arith)

-- a mark is set: those before stay marked
pub marked_more : (marks : List Bool) (xs : List ℕ) (i : ℕ) → get_or xs i 0 % 1024 < length marks → ((k : ℕ) → k < i → get_or marks (get_or xs k 0 % 1024) false ≡ true) →
    (k : ℕ) → k < i + 1 → get_or (slice_set marks (get_or xs i 0 % 1024) true) (get_or xs k 0 % 1024) false ≡ true
marked_more marks xs i within before k lt = elim (cases_eq (get_or xs k 0 % 1024) (get_or xs i 0 % 1024)) [
  | inl same ↦ ap (λ n. get_or (slice_set marks (get_or xs i 0 % 1024) true) n false) same ∙ get_or-set_same marks (get_or xs i 0 % 1024) true false within
  | inr other ↦ get_or-set_other marks (get_or xs i 0 % 1024) (get_or xs k 0 % 1024) true false other ∙ elim (cases_eq k i) [
    | inl here ↦ absurd (other (ap (λ n. get_or xs n 0 % 1024) here))
    | inr there ↦ before k (omega (arith, lt, there))
  ]
]

-- a number whose mark is not set is not among those before it
pub not_marked : (marks : List Bool) (xs : List ℕ) (i x : ℕ) → i ≤ length xs → get_or marks (x % 1024) false ≡ false → ((k : ℕ) → k < i → get_or marks (get_or xs k 0 % 1024) false ≡ true) →
    has_number (take i xs) x ≡ false
not_marked marks xs i x within none before = elim (cases_Bool (has_number (take i xs) x)) [
  | inr failed ↦ failed
  | inl held ↦
      let at = has_number_at (take i xs) x held in
      let lt : at.0 < i = omega (arith, at.1, length-take-le i xs within) in
      let here : get_or xs at.0 0 ≡ x = get_or_default xs at.0 0 x (omega (arith, lt, within)) ∙ (sym (get_or-take i xs at.0 x lt) ∙ at.2) in
      absurd (false≢true (sym none ∙ (ap (λ n. get_or marks (n % 1024) false) (sym here) ∙ before at.0 lt)))
]

-- one number alone is none twice
pub few_distinct : (xs : List ℕ) → length xs < 2 → true ≡ distinct xs
few_distinct [] few = refl
few_distinct (x ∷ []) few = refl
few_distinct (x ∷ y ∷ ys) few = absurd (omega arith)
