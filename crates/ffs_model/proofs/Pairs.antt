-- Lists of pairs in which one part is replaced, and the tests of a claim for them.
--     Replaces old new here now    the second list is the first with one part replaced
use Rattle.std.proofs.Common.{◌≡◌, ℕ, zero, suc, ◌+◌, ◌<◌, ◌≤◌, ◌≢◌, ◌⊎◌, Bool, true, not, List, [], ◌∷◌, ◌++◌, Option, Some, None, refl, sym, ◌∙◌, ap, inl, inr, arith, subst}
use Rattle.std.specs.Prelude.{Contains, filter_map, flat_map}
use Rattle.std.specs.List.{list_all, range_with_len, cons_option}
use Rattle.std.proofs.lemmas.Bool.{cases_eq, false≢true, not-true, and_parts, and_from, false_from_ne_true}
use Rattle.std.proofs.lemmas.List.{map-append}
use Rattle.std.proofs.lemmas.List.Elements.{Contains-append_cases, Contains-append_left, Contains-append_right}
use Rattle.xn_model.specs.Lists.{has_number, has_pair, blocks_of, distinct}
use Rattle.xn_model.specs.Types.{Types, named_once, within_size, inside, without, claims, changes, fits}
use Rattle.xn_model.specs.Root.{unless_empty}
use Rattle.xn_model.proofs.ForCallers.{Contains-none, Contains-head, Contains-tail, Contains-cons, blocks_of_has, different_apart, filter_at, filter_from, has_number_at, has_number_from, has_pair_from}
use Rattle.ffs_model.specs.Library.{pointed}
use Rattle.ffs_model.proofs.Library.{distinct_behind, is_not_empty}

-- Numbers

distinct_one : (n : ℕ) (ns : List ℕ) → (Contains ns n → ⊥) → distinct ns ≡ true → distinct (n ∷ ns) ≡ true
distinct_one n ns none d = and_from (not (has_number ns n)) (distinct ns) (ap not (false_from_ne_true (has_number ns n) (λ k. none (has_number_at ns n k)))) d

distinct_parts : (n : ℕ) (ns : List ℕ) → distinct (n ∷ ns) ≡ true → (Contains ns n → ⊥) × (distinct ns ≡ true)
distinct_parts n ns d = let parts = and_parts (not (has_number ns n)) (distinct ns) d in (λ i. false≢true (sym (not-true (has_number ns n) parts.0) ∙ has_number_from ns n i), parts.1)

distinct_with : (xs ys : List ℕ) (n : ℕ) → (Contains (xs ++ ys) n → ⊥) → distinct (xs ++ ys) ≡ true → distinct (xs ++ n ∷ ys) ≡ true
distinct_with [] ys n none d = distinct_one n ys none d
distinct_with (x ∷ xs) ys n none d =
    let parts = distinct_parts x (xs ++ ys) d in
    distinct_one x (xs ++ n ∷ ys)
    (λ i. elim (Contains-append_cases xs (n ∷ ys) x i) [
      | inl k ↦ parts.0 (Contains-append_left xs ys x k)
      | inr k ↦ elim (Contains-cons n ys x k) [
        | inl e ↦ none (subst (λ z. Contains (x ∷ (xs ++ ys)) z) (sym e) (Contains-head x (xs ++ ys)))
        | inr j ↦ parts.0 (Contains-append_right xs ys x j)
      ]
    ])
    (distinct_with xs ys n (λ i. none (Contains-tail x (xs ++ ys) n i)) parts.1)

distinct_without : (xs zs ys : List ℕ) → distinct (xs ++ (zs ++ ys)) ≡ true → distinct (xs ++ ys) ≡ true
distinct_without [] zs ys d = distinct_behind zs ys d
distinct_without (x ∷ xs) zs ys d =
    let parts = distinct_parts x (xs ++ (zs ++ ys)) d in
    distinct_one x (xs ++ ys)
    (λ i. elim (Contains-append_cases xs ys x i) [
      | inl k ↦ parts.0 (Contains-append_left xs (zs ++ ys) x k)
      | inr k ↦ parts.0 (Contains-append_right xs (zs ++ ys) x (Contains-append_right zs ys x k))
    ])
    (distinct_without xs zs ys parts.1)

distinct_before : (xs ys : List ℕ) → distinct (xs ++ ys) ≡ true → distinct xs ≡ true
distinct_before [] ys d = refl
distinct_before (x ∷ xs) ys d = let parts = distinct_parts x (xs ++ ys) d in distinct_one x xs (λ i. parts.0 (Contains-append_left xs ys x i)) (distinct_before xs ys parts.1)

-- Pairs

pub all_from : {A : Type 0} (p : A → Bool) (xs : List A) → ((x : A) → Contains xs x → p x ≡ true) → list_all p xs ≡ true
all_from p [] h = refl
all_from p (x ∷ xs) h = and_from (p x) (list_all p xs) (h x (Contains-head x xs)) (all_from p xs (λ y i. h y (Contains-tail x xs y i)))

inside_from : (ps qs : List (ℕ × ℕ)) → ((p : ℕ × ℕ) → Contains ps p → Contains qs p) → inside ps qs ≡ true
inside_from ps qs h = all_from (λ p. has_pair qs p) ps (λ p i. has_pair_from qs p (h p i))

without_from : (ps : List (ℕ × ℕ)) (drops : List ℕ) (p : ℕ × ℕ) → Contains ps p → (Contains drops p.0 → ⊥) → Contains (without ps drops) p
without_from ps drops p i out = filter_from (λ q. not (has_number drops q.0)) ps p i (ap not (false_from_ne_true (has_number drops p.0) (λ k. out (has_number_at drops p.0 k))))

without_at : (ps : List (ℕ × ℕ)) (drops : List ℕ) (p : ℕ × ℕ) → Contains (without ps drops) p → Contains ps p × (Contains drops p.0 → ⊥)
without_at ps drops p i =
    let r = filter_at (λ q. not (has_number drops q.0)) ps p i in
    (r.0, λ k. false≢true (sym (not-true (has_number drops p.0) r.1) ∙ has_number_from drops p.0 k))

-- A claim holds where what is named after was named before and is not dropped, or is added, and the other way round.
pub claims_from : (T : Types) (t : ℕ) (old new : List ℕ) (adds : List (ℕ × ℕ)) (drops : List ℕ) →
    ((p : ℕ × ℕ) → Contains (T.owned t new) p → (Contains (T.owned t old) p × (Contains drops p.0 → ⊥)) ⊎ Contains adds p) →
    ((p : ℕ × ℕ) → Contains (T.owned t old) p → (Contains drops p.0 → ⊥) → Contains (T.owned t new) p) → ((p : ℕ × ℕ) → Contains adds p → Contains (T.owned t new) p) →
    claims T t old new adds drops ≡ true
claims_from T t old new adds drops back stays added =
    let left = without (T.owned t old) drops in
    and_from (inside (T.owned t new) (left ++ adds)) (inside (left ++ adds) (T.owned t new))
    (inside_from (T.owned t new) (left ++ adds) (λ p i. elim (back p i) [
      | inl k ↦ Contains-append_left left adds p (without_from (T.owned t old) drops p k.0 k.1)
      | inr k ↦ Contains-append_right left adds p k
    ]))
    (inside_from (left ++ adds) (T.owned t new) (λ p i. elim (Contains-append_cases left adds p i) [
      | inl k ↦ let r = without_at (T.owned t old) drops p k in stays p r.0 r.1
      | inr k ↦ added p k
    ]))

-- A list with one part replaced by another.
pub record Replaces (old new here now : List (ℕ × ℕ)) : Type 0 where
  pub front : List (ℕ × ℕ)
  pub back : List (ℕ × ℕ)
  pub was : old ≡ front ++ (here ++ back)
  pub is : new ≡ front ++ (now ++ back)

blocks_three : (xs ys zs : List (ℕ × ℕ)) → blocks_of (xs ++ (ys ++ zs)) ≡ blocks_of xs ++ (blocks_of ys ++ blocks_of zs)
blocks_three xs ys zs = map-append (λ (p : ℕ × ℕ). p.0) xs (ys ++ zs) ∙ ap (λ ns. blocks_of xs ++ ns) (map-append (λ (p : ℕ × ℕ). p.0) ys zs)

module _ (T : Types) (t : ℕ) (old new : List ℕ) (once : named_once T t old ≡ true) (size : within_size T t new ≡ true) where
  changed : (adds : List (ℕ × ℕ)) (drops : List ℕ) → claims T t old new adds drops ≡ true → named_once T t new ≡ true → changes T t old new adds drops ≡ true
  changed adds drops claim now = and_from (claims T t old new adds drops) (fits T t new) claim (and_from (named_once T t new) (within_size T t new) now size)

  -- nothing is pointed to anew, or no longer
  pub changes_none : T.owned t new ≡ T.owned t old → changes T t old new [] [] ≡ true
  changes_none e = changed [] []
      (claims_from T t old new [] [] (λ p i. inl (subst (λ ps. Contains ps p) e i, λ k. Contains-none p.0 k)) (λ p i out. subst (λ ps. Contains ps p) (sym e) i) (λ p i. absurd (Contains-none p i)))
      (ap (λ ps. distinct (blocks_of ps)) e ∙ once)

  -- one block more is
  pub changes_add : (p : ℕ × ℕ) → Replaces (T.owned t old) (T.owned t new) [] (p ∷ []) → (Contains (blocks_of (T.owned t old)) p.0 → ⊥) → changes T t old new (p ∷ []) [] ≡ true
  changes_add p r none =
      let xs = r.front in let ys = r.back in
      let apart : distinct (blocks_of xs ++ blocks_of ys) ≡ true = ap distinct (sym (map-append (λ (q : ℕ × ℕ). q.0) xs ys)) ∙ (ap (λ ps. distinct (blocks_of ps)) (sym r.was) ∙ once) in
      let out : Contains (blocks_of xs ++ blocks_of ys) p.0 → ⊥ = λ i. none (subst (λ ps. Contains (blocks_of ps) p.0) (sym r.was) (subst (λ ns. Contains ns p.0) (sym (map-append (λ (q : ℕ × ℕ). q.0) xs ys)) i)) in
      changed (p ∷ []) []
      (claims_from T t old new (p ∷ []) []
      (λ q i. elim (Contains-append_cases xs (p ∷ ys) q (subst (λ ps. Contains ps q) r.is i)) [
        | inl k ↦ inl (subst (λ ps. Contains ps q) (sym r.was) (Contains-append_left xs ys q k), λ j. Contains-none q.0 j)
        | inr k ↦ elim (Contains-cons p ys q k) [
          | inl e ↦ inr (subst (λ z. Contains (p ∷ []) z) e (Contains-head p []))
          | inr j ↦ inl (subst (λ ps. Contains ps q) (sym r.was) (Contains-append_right xs ys q j), λ x. Contains-none q.0 x)
        ]
      ])
      (λ q i out. subst (λ ps. Contains ps q) (sym r.is) (elim (Contains-append_cases xs ys q (subst (λ ps. Contains ps q) r.was i)) [
        | inl k ↦ Contains-append_left xs (p ∷ ys) q k
        | inr k ↦ Contains-append_right xs (p ∷ ys) q (Contains-tail p ys q k)
      ]))
      (λ q i. elim (Contains-cons p [] q i) [
        | inl e ↦ subst (λ ps. Contains ps q) (sym r.is) (Contains-append_right xs (p ∷ ys) q (subst (λ z. Contains (p ∷ ys) z) e (Contains-head p ys)))
        | inr k ↦ absurd (Contains-none q k)
      ]))
      (ap (λ ps. distinct (blocks_of ps)) r.is ∙ (ap distinct (map-append (λ (q : ℕ × ℕ). q.0) xs (p ∷ ys)) ∙ distinct_with (blocks_of xs) (blocks_of ys) p.0 out apart))

  -- some blocks are no longer
  pub changes_drop : (zs : List (ℕ × ℕ)) → Replaces (T.owned t old) (T.owned t new) zs [] → changes T t old new [] (blocks_of zs) ≡ true
  changes_drop zs r =
      let xs = r.front in let ys = r.back in
      let apart : distinct (blocks_of xs ++ (blocks_of zs ++ blocks_of ys)) ≡ true = ap distinct (sym (blocks_three xs zs ys)) ∙ (ap (λ ps. distinct (blocks_of ps)) (sym r.was) ∙ once) in
      let not_left : (q : ℕ × ℕ) → Contains xs q → Contains (blocks_of zs) q.0 → ⊥ = λ q i k.
      different_apart (blocks_of xs) (blocks_of zs ++ blocks_of ys) q.0 apart (blocks_of_has xs q i) (Contains-append_left (blocks_of zs) (blocks_of ys) q.0 k) in
      let not_right : (q : ℕ × ℕ) → Contains ys q → Contains (blocks_of zs) q.0 → ⊥ = λ q i k.
      different_apart (blocks_of zs) (blocks_of ys) q.0 (distinct_behind (blocks_of xs) (blocks_of zs ++ blocks_of ys) apart) k (blocks_of_has ys q i) in
      changed [] (blocks_of zs)
      (claims_from T t old new [] (blocks_of zs)
      (λ q i. elim (Contains-append_cases xs ys q (subst (λ ps. Contains ps q) r.is i)) [
        | inl k ↦ inl (subst (λ ps. Contains ps q) (sym r.was) (Contains-append_left xs (zs ++ ys) q k), not_left q k)
        | inr k ↦ inl (subst (λ ps. Contains ps q) (sym r.was) (Contains-append_right xs (zs ++ ys) q (Contains-append_right zs ys q k)), not_right q k)
      ])
      (λ q i out. subst (λ ps. Contains ps q) (sym r.is) (elim (Contains-append_cases xs (zs ++ ys) q (subst (λ ps. Contains ps q) r.was i)) [
        | inl k ↦ Contains-append_left xs ys q k
        | inr k ↦ elim (Contains-append_cases zs ys q k) [ inl j ↦ absurd (out (blocks_of_has zs q j)) | inr j ↦ Contains-append_right xs ys q j ]
      ]))
      (λ q i. absurd (Contains-none q i)))
      (ap (λ ps. distinct (blocks_of ps)) r.is ∙ (ap distinct (map-append (λ (q : ℕ × ℕ). q.0) xs ys) ∙ distinct_without (blocks_of xs) (blocks_of zs) (blocks_of ys) apart))

-- what is dropped is distinct
pub dropped_distinct : (T : Types) (t : ℕ) (old : List ℕ) (now zs : List (ℕ × ℕ)) → named_once T t old ≡ true → Replaces (T.owned t old) now zs [] → distinct (blocks_of zs) ≡ true
dropped_distinct T t old now zs once r =
    let apart = ap distinct (sym (blocks_three r.front zs r.back)) ∙ (ap (λ ps. distinct (blocks_of ps)) (sym r.was) ∙ once) in
    distinct_before (blocks_of zs) (blocks_of r.back) (distinct_behind (blocks_of r.front) (blocks_of zs ++ blocks_of r.back) apart)

-- Parts of parts

append_three : (xs ys zs : List (ℕ × ℕ)) → (xs ++ ys) ++ zs ≡ xs ++ (ys ++ zs)
append_three [] ys zs = refl
append_three (x ∷ xs) ys zs = ap (λ r. x ∷ r) (append_three xs ys zs)

-- the list with parts in front and behind
pub within_parts : (xs ys old new here now : List (ℕ × ℕ)) → Replaces old new here now → Replaces (xs ++ (old ++ ys)) (xs ++ (new ++ ys)) here now
within_parts xs ys old new here now r = record {
  front = xs ++ r.front;
  back = r.back ++ ys;
  was = ap (λ ps. xs ++ (ps ++ ys)) r.was ∙ joined here;
  is = ap (λ ps. xs ++ (ps ++ ys)) r.is ∙ joined now;
}
  where
    joined : (zs : List (ℕ × ℕ)) → xs ++ ((r.front ++ (zs ++ r.back)) ++ ys) ≡ (xs ++ r.front) ++ (zs ++ (r.back ++ ys))
    joined zs = ap (λ ps. xs ++ ps) (append_three r.front (zs ++ r.back) ys ∙ ap (λ ps. r.front ++ ps) (append_three zs r.back ys)) ∙ sym (append_three xs r.front (zs ++ (r.back ++ ys)))

append_none : (xs : List (ℕ × ℕ)) → xs ++ [] ≡ xs
append_none [] = refl
append_none (x ∷ xs) = ap (λ r. x ∷ r) (append_none xs)

-- all of it
pub all_of : (old new : List (ℕ × ℕ)) → Replaces old new old new
all_of old new = record { front = []; back = []; was = sym (append_none old); is = sym (append_none new) }

pub replaces_in : (old old' new new' here now : List (ℕ × ℕ)) → old' ≡ old → new' ≡ new → Replaces old new here now → Replaces old' new' here now
replaces_in old old' new new' here now e f r = record { front = r.front; back = r.back; was = e ∙ r.was; is = f ∙ r.is }

-- Words that are pointers

cons_append : (o : Option (ℕ × ℕ)) (xs ys : List (ℕ × ℕ)) → cons_option o (xs ++ ys) ≡ cons_option o xs ++ ys
cons_append None xs ys = refl
cons_append (Some p) xs ys = refl

-- an empty word
pub is_empty_pair : (w ty : ℕ) → w ≡ 0 → unless_empty (w, ty) ≡ None
is_empty_pair w ty e = ap (λ x. unless_empty (x, ty)) e

module _ (word word' : ℕ → ℕ) (ty : ℕ) where
  abbrev pair : ℕ → Option (ℕ × ℕ)
  pair i = unless_empty (word i, ty)

  abbrev pair' : ℕ → Option (ℕ × ℕ)
  pair' i = unless_empty (word' i, ty)

  range_same : (n a : ℕ) → ((i : ℕ) → a ≤ i → i < a + n → word' i ≡ word i) → filter_map pair' (range_with_len a n) ≡ filter_map pair (range_with_len a n)
  range_same zero a h = refl
  range_same (suc n) a h = λ k. cons_option (unless_empty (h a (omega arith) (omega arith) k, ty)) (range_same n (a + 1) (λ i lo hi. h i (omega arith) (omega arith)) k)

  range_set : (n a j c : ℕ) → a ≤ j → j < a + n → ((i : ℕ) → a ≤ i → i < a + n → i ≢ j → word' i ≡ word i) → word j ≡ 0 → word' j ≡ c → c ≢ 0 →
      Replaces (filter_map pair (range_with_len a n)) (filter_map pair' (range_with_len a n)) [] ((c, ty) ∷ [])
  range_set zero a j c lo hi others was now some = absurd (omega arith)
  range_set (suc n) a j c lo hi others was now some =
      let rest = filter_map pair (range_with_len (a + 1) n) in
      let rest' = filter_map pair' (range_with_len (a + 1) n) in
      elim (cases_eq a j) [
        | inl e ↦
            let same : rest' ≡ rest = range_same n (a + 1) (λ i low high. others i (omega arith) (omega arith) (omega (arith, e))) in
            record {
              front = [];
              back = rest;
              was = ap (λ o. cons_option o rest) (is_empty_pair (word a) ty (ap word e ∙ was));
              is = ap (λ o. cons_option o rest') (ap (λ w. unless_empty (w, ty)) (ap word' e ∙ now) ∙ is_not_empty (c, ty) some) ∙ ap (λ ps. (c, ty) ∷ ps) same;
            }
        | inr ne ↦
            let r = range_set n (a + 1) j c (omega arith) (omega arith) (λ i low high x. others i (omega arith) (omega arith) x) was now some in
            let same : pair' a ≡ pair a = ap (λ w. unless_empty (w, ty)) (others a (omega arith) (omega arith) ne) in
            record {
              front = cons_option (pair a) r.front;
              back = r.back;
              was = ap (cons_option (pair a)) r.was ∙ cons_append (pair a) r.front r.back;
              is = ap (λ o. cons_option o rest') same ∙ (ap (cons_option (pair a)) r.is ∙ cons_append (pair a) r.front ((c, ty) ∷ r.back));
            }
      ]

  pub pointed_kept : (n : ℕ) → ((i : ℕ) → i < n → word' i ≡ word i) → pointed word' n ty ≡ pointed word n ty
  pointed_kept n h = range_same n 0 (λ i lo hi. h i (omega arith))

  -- one of them is set
  pub pointed_set : (n j c : ℕ) → j < n → ((i : ℕ) → i < n → i ≢ j → word' i ≡ word i) → word j ≡ 0 → word' j ≡ c → c ≢ 0 → Replaces (pointed word n ty) (pointed word' n ty) [] ((c, ty) ∷ [])
  pointed_set n j c few others was now some = range_set n 0 j c (omega arith) (omega arith) (λ i lo hi ne. others i (omega arith) ne) was now some

-- all are 0
pub pointed_none : (word : ℕ → ℕ) (n ty : ℕ) → ((i : ℕ) → i < n → word i ≡ 0) → pointed word n ty ≡ []
pointed_none word n ty h = go n 0 (λ i lo hi. h i (omega arith))
  where
    go : (k a : ℕ) → ((i : ℕ) → a ≤ i → i < a + k → word i ≡ 0) → filter_map (λ i. unless_empty (word i, ty)) (range_with_len a k) ≡ []
    go zero a h = refl
    go (suc k) a h = ap (λ o. cons_option o (filter_map (λ i. unless_empty (word i, ty)) (range_with_len (a + 1) k))) (is_empty_pair (word a) ty (h a (omega arith) (omega arith))) ∙ go k (a + 1) (λ i lo hi. h i (omega arith) (omega arith))

-- Lists one after another

module _ (F G : ℕ → List (ℕ × ℕ)) where
  flat_same : (n a : ℕ) → ((q : ℕ) → a ≤ q → q < a + n → G q ≡ F q) → flat_map G (range_with_len a n) ≡ flat_map F (range_with_len a n)
  flat_same zero a h = refl
  flat_same (suc n) a h = λ k. h a (omega arith) (omega arith) k ++ flat_same n (a + 1) (λ q lo hi. h q (omega arith) (omega arith)) k

  flat_set : (n a p : ℕ) (here now : List (ℕ × ℕ)) → a ≤ p → p < a + n → ((q : ℕ) → a ≤ q → q < a + n → q ≢ p → G q ≡ F q) → Replaces (F p) (G p) here now →
      Replaces (flat_map F (range_with_len a n)) (flat_map G (range_with_len a n)) here now
  flat_set zero a p here now lo hi others r = absurd (omega arith)
  flat_set (suc n) a p here now lo hi others r =
      let rest = flat_map F (range_with_len (a + 1) n) in
      let rest' = flat_map G (range_with_len (a + 1) n) in
      elim (cases_eq a p) [
        | inl e ↦
            let same : rest' ≡ rest = flat_same n (a + 1) (λ q low high. others q (omega arith) (omega arith) (omega (arith, e))) in
            replaces_in (F p ++ rest) (F a ++ rest) (G p ++ rest) (G a ++ rest') here now (ap (λ x. F x ++ rest) e) (ap (λ x. G x ++ rest') e ∙ ap (λ ps. G p ++ ps) same) (within_parts [] rest (F p) (G p) here now r)
        | inr ne ↦
            let s = flat_set n (a + 1) p here now (omega arith) (omega arith) (λ q low high x. others q (omega arith) (omega arith) x) r in
            let w = within_parts (F a) [] rest rest' here now s in
            replaces_in (F a ++ (rest ++ [])) (F a ++ rest) (F a ++ (rest' ++ [])) (G a ++ rest') here now (ap (λ ps. F a ++ ps) (sym (append_none rest)))
            (ap (λ ps. ps ++ rest') (others a (omega arith) (omega arith) ne) ∙ ap (λ ps. F a ++ ps) (sym (append_none rest'))) w
      ]

  -- all but one stay
  pub flat_replaced : (n p : ℕ) (here now : List (ℕ × ℕ)) → p < n → ((q : ℕ) → q < n → q ≢ p → G q ≡ F q) → Replaces (F p) (G p) here now →
      Replaces (flat_map F (range_with_len 0 n)) (flat_map G (range_with_len 0 n)) here now
  flat_replaced n p here now few others r = flat_set n 0 p here now (omega arith) (omega arith) (λ q lo hi ne. others q (omega arith) ne) r

  pub flat_kept : (n : ℕ) → ((q : ℕ) → q < n → G q ≡ F q) → flat_map G (range_with_len 0 n) ≡ flat_map F (range_with_len 0 n)
  flat_kept n h = flat_same n 0 (λ q lo hi. h q (omega arith))
