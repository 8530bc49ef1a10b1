-- Lists of found blocks: their places, and what a found block's children are.
use Rattle.std.proofs.Common.{◌≡◌, ℕ, zero, suc, ◌+◌, ◌<◌, ◌≤◌, ◌≢◌, ◌⊎◌, true, false, not, List, [], ◌∷◌, ◌++◌, map, length, Option, Some, None, refl, sym, ◌∙◌, ap, inl, inr, subst, eqb}
use Rattle.std.specs.Prelude.{Contains, flat_map, find, option_to_list, ◌==◌, filter_map}
use Rattle.std.specs.List.{range_with_len, IsDistinct, cons_option, AllByRecursion}
use Rattle.std.proofs.lemmas.Bool.{cases_eq, false≢true, and_parts, and_from, eqb-true, eq-eqb, ne_eqb, false_from_ne_true, cond-true, cond-false, not-true}
use Rattle.std.proofs.lemmas.Option.{same_Some, none-some}
use Rattle.std.proofs.lemmas.List.{map-append}
use Rattle.std.proofs.lemmas.List.Elements.{Contains-append_cases, Contains-append_left, Contains-append_right}
use Rattle.std.proofs.lemmas.Map.Steps.{length-le_from_distinct_below}
use Rattle.xn_model.specs.Lists.{has_number, distinct, blocks_of}
use Rattle.xn_model.specs.Root.{slot, unless_empty, templates_of}
use Rattle.xn_model.specs.Images.{block_of}
use Rattle.xn_model.specs.Mounts.{Found, found_by, found_in_slot}
use Rattle.xn_model.proofs.Lists.{Contains-none, Contains-head, Contains-cons, Contains-tail, any_at, has_number_at, has_number_from}

-- Lists in which no number occurs twice

abbrev pub places : List Found → List ℕ
places fs = map (λ f. f.block) fs

pub place_has : (fs : List Found) (f : Found) → Contains fs f → Contains (places fs) f.block
place_has [] f h = absurd (Contains-none f h)
place_has (g ∷ fs) f h = elim (Contains-cons g fs f h) [
  | inl e ↦ subst (λ (x : Found). Contains (g.block ∷ places fs) x.block) e (Contains-head g.block (places fs))
  | inr i ↦ Contains-tail g.block (places fs) f.block (place_has fs f i)
]

pub place_at : (fs : List Found) (c : ℕ) → Contains (places fs) c → (f : Found) × Contains fs f × (f.block ≡ c)
place_at [] c h = absurd (Contains-none c h)
place_at (g ∷ fs) c h = elim (Contains-cons g.block (places fs) c h) [ inl e ↦ (g, Contains-head g fs, e) | inr i ↦ let r = place_at fs c i in (r.0, Contains-tail g fs r.0 r.1, r.2) ]

pub distinct_append : (xs ys : List ℕ) → distinct xs ≡ true → distinct ys ≡ true → ((n : ℕ) → Contains xs n → Contains ys n → ⊥) → distinct (xs ++ ys) ≡ true
distinct_append [] ys d e apart = e
distinct_append (x ∷ xs) ys d e apart =
    let parts = and_parts (not (has_number xs x)) (distinct xs) d in
    and_from (not (has_number (xs ++ ys) x)) (distinct (xs ++ ys))
    (ap not (false_from_ne_true (has_number (xs ++ ys) x) (λ t. elim (Contains-append_cases xs ys x (has_number_at (xs ++ ys) x t)) [
      | inl i ↦ false≢true (sym (not-true (has_number xs x) parts.0) ∙ has_number_from xs x i)
      | inr j ↦ apart x (Contains-head x xs) j
    ])))
    (distinct_append xs ys parts.1 e (λ n i j. apart n (Contains-tail x xs n i) j))

-- two members of one block are one
pub same_found : (fs : List Found) (f g : Found) → distinct (places fs) ≡ true → Contains fs f → Contains fs g → f.block ≡ g.block → f ≡ g
same_found [] f g d h k e = absurd (Contains-none f h)
same_found (x ∷ fs) f g d h k e =
    let parts = and_parts (not (has_number (places fs) x.block)) (distinct (places fs)) d in
    let out : (y : Found) → Contains fs y → x.block ≡ y.block → ⊥ = λ y i s. false≢true (sym (not-true (has_number (places fs) x.block) parts.0) ∙ has_number_from (places fs) x.block (subst (λ n. Contains (places fs) n) (sym s) (place_has fs y i))) in
    elim (Contains-cons x fs f h) [
      | inl xf ↦ elim (Contains-cons x fs g k) [
        | inl xg ↦ sym xf ∙ xg
        | inr j ↦ absurd (out g j (ap (λ (y : Found). y.block) xf ∙ e))
      ]
      | inr i ↦ elim (Contains-cons x fs g k) [
        | inl xg ↦ absurd (out f i (ap (λ (y : Found). y.block) xg ∙ sym e))
        | inr j ↦ same_found fs f g parts.1 i j e
      ]
    ]

all_apart : (x : ℕ) (xs : List ℕ) → ((y : ℕ) → Contains xs y → x ≡ y → ⊥) → AllByRecursion (λ y. eqb x y ≡ false) xs
all_apart x [] h = tt
all_apart x (y ∷ ys) h = (ne_eqb x y (h y (Contains-head y ys)), all_apart x ys (λ z i. h z (Contains-tail y ys z i)))

is_distinct : (xs : List ℕ) → distinct xs ≡ true → IsDistinct eqb xs
unfolding IsDistinct
is_distinct [] d = tt
is_distinct (x ∷ xs) d =
    let parts = and_parts (not (has_number xs x)) (distinct xs) d in
    (all_apart x xs (λ y i e. false≢true (sym (not-true (has_number xs x) parts.0) ∙ has_number_from xs x (subst (λ n. Contains xs n) (sym e) i))), is_distinct xs parts.1)

-- numbers below n that differ are at most n
pub few_below : (xs : List ℕ) (n : ℕ) → distinct xs ≡ true → ((x : ℕ) → Contains xs x → x < n) → length xs ≤ n
few_below xs n d below = length-le_from_distinct_below xs n (is_distinct xs d) (λ q t. let r = any_at (eqb q) xs t in subst (λ x. x < n) (sym (eqb-true q r.0 r.2)) (below r.0 r.1))

-- What a found block's children are

pub by_places : (owner fs : Option ℕ) (ps : List (ℕ × ℕ)) → places (found_by owner fs ps) ≡ blocks_of ps
by_places owner fs [] = refl
by_places owner fs (p ∷ ps) = ap (λ ns. p.0 ∷ ns) (by_places owner fs ps)

pub by_at : (owner fs : Option ℕ) (ps : List (ℕ × ℕ)) (g : Found) → Contains (found_by owner fs ps) g → Contains ps (g.block, g.ty) × (g.owner ≡ owner) × (g.fs ≡ fs)
by_at owner fs [] g h = absurd (Contains-none g h)
by_at owner fs (p ∷ ps) g h = elim (Contains-cons (record { block = p.0; ty = p.1; owner = owner; fs = fs }) (found_by owner fs ps) g h) [
  | inl e ↦ (subst (λ (x : Found). Contains (p ∷ ps) (x.block, x.ty)) e (Contains-head p ps), ap (λ (x : Found). x.owner) (sym e), ap (λ (x : Found). x.fs) (sym e))
  | inr i ↦ let r = by_at owner fs ps g i in (Contains-tail p ps (g.block, g.ty) r.0, r.1, r.2)
]

pub by_from : (owner fs : Option ℕ) (ps : List (ℕ × ℕ)) (c u : ℕ) → Contains ps (c, u) → (g : Found) × Contains (found_by owner fs ps) g × (g.block ≡ c) × (g.ty ≡ u)
by_from owner fs [] c u h = absurd (Contains-none (c, u) h)
by_from owner fs (p ∷ ps) c u h = elim (Contains-cons p ps (c, u) h) [
  | inl e ↦ (record { block = p.0; ty = p.1; owner = owner; fs = fs }, Contains-head (record { block = p.0; ty = p.1; owner = owner; fs = fs }) (found_by owner fs ps), ap (λ (x : ℕ × ℕ). x.0) e, ap (λ (x : ℕ × ℕ). x.1) e)
  | inr i ↦ let r = by_from owner fs ps c u i in (r.0, Contains-tail (record { block = p.0; ty = p.1; owner = owner; fs = fs }) (found_by owner fs ps) r.0 r.1, r.2, r.3)
]

-- those in root slots
pub slots_places : (m : List ℕ) (is : List ℕ) → places (flat_map (found_in_slot m) is) ≡ blocks_of (filter_map (λ i. unless_empty (slot m i)) is)
slots_places m [] = refl
slots_places m (i ∷ is) = map-append (λ (f : Found). f.block) (found_in_slot m i) (flat_map (found_in_slot m) is) ∙ one (unless_empty (slot m i)) (slots_places m is)
  where
    one : (o : Option (ℕ × ℕ)) → places (flat_map (found_in_slot m) is) ≡ blocks_of (filter_map (λ i. unless_empty (slot m i)) is) →
        places (found_by (Some 0) (Some i) (option_to_list o)) ++ places (flat_map (found_in_slot m) is) ≡ blocks_of (cons_option o (filter_map (λ i. unless_empty (slot m i)) is))
    one None e = e
    one (Some p) e = ap (λ ns. p.0 ∷ ns) e

pub slots_at : (m : List ℕ) (is : List ℕ) (g : Found) → Contains (flat_map (found_in_slot m) is) g →
    Contains (filter_map (λ i. unless_empty (slot m i)) is) (g.block, g.ty) × (g.owner ≡ Some 0) × ((i : ℕ) × Contains is i × (unless_empty (slot m i) ≡ Some (g.block, g.ty)) × (g.fs ≡ Some i))
slots_at m [] g h = absurd (Contains-none g h)
slots_at m (i ∷ is) g h = elim (Contains-append_cases (found_in_slot m i) (flat_map (found_in_slot m) is) g h) [
  | inl here ↦ this (unless_empty (slot m i)) refl here
  | inr later ↦ let r = slots_at m is g later in (behind (unless_empty (slot m i)) r.0, r.1, (r.2.0, Contains-tail i is r.2.0 r.2.1, r.2.2, r.2.3))
]
  where
    behind : (o : Option (ℕ × ℕ)) → Contains (filter_map (λ i. unless_empty (slot m i)) is) (g.block, g.ty) → Contains (cons_option o (filter_map (λ i. unless_empty (slot m i)) is)) (g.block, g.ty)
    behind None k = k
    behind (Some p) k = Contains-tail p (filter_map (λ i. unless_empty (slot m i)) is) (g.block, g.ty) k

    this : (o : Option (ℕ × ℕ)) → unless_empty (slot m i) ≡ o → Contains (found_by (Some 0) (Some i) (option_to_list o)) g →
        Contains (cons_option o (filter_map (λ i. unless_empty (slot m i)) is)) (g.block, g.ty) × (g.owner ≡ Some 0) × ((j : ℕ) × Contains (i ∷ is) j × (unless_empty (slot m j) ≡ Some (g.block, g.ty)) × (g.fs ≡ Some j))
    this None e k = absurd (Contains-none g k)
    this (Some p) e k = elim (Contains-cons (record { block = p.0; ty = p.1; owner = Some 0; fs = Some i }) [] g k) [
      | inl same ↦
          let pair : p ≡ (g.block, g.ty) = ap (λ (x : Found). (x.block, x.ty)) same in
          (subst (λ q. Contains (p ∷ filter_map (λ i. unless_empty (slot m i)) is) q) pair (Contains-head p (filter_map (λ i. unless_empty (slot m i)) is)), ap (λ (x : Found). x.owner) (sym same), (i, Contains-head i is, e ∙ ap Some pair, ap (λ (x : Found). x.fs) (sym same)))
      | inr none ↦ absurd (Contains-none g none)
    ]

pub slots_from : (m : List ℕ) (is : List ℕ) (c u : ℕ) → Contains (filter_map (λ i. unless_empty (slot m i)) is) (c, u) → (g : Found) × Contains (flat_map (found_in_slot m) is) g × (g.block ≡ c) × (g.ty ≡ u)
slots_from m [] c u h = absurd (Contains-none (c, u) h)
slots_from m (i ∷ is) c u h = go (unless_empty (slot m i)) refl h (slots_from m is c u)
  where
    go : (o : Option (ℕ × ℕ)) → unless_empty (slot m i) ≡ o → Contains (cons_option o (filter_map (λ i. unless_empty (slot m i)) is)) (c, u) →
        (Contains (filter_map (λ i. unless_empty (slot m i)) is) (c, u) → (g : Found) × Contains (flat_map (found_in_slot m) is) g × (g.block ≡ c) × (g.ty ≡ u)) →
        (g : Found) × Contains (found_by (Some 0) (Some i) (option_to_list (unless_empty (slot m i))) ++ flat_map (found_in_slot m) is) g × (g.block ≡ c) × (g.ty ≡ u)
    go None e k more = let r = more k in (r.0, Contains-append_right (found_by (Some 0) (Some i) (option_to_list (unless_empty (slot m i)))) (flat_map (found_in_slot m) is) r.0 r.1, r.2, r.3)
    go (Some p) e k more = elim (Contains-cons p (filter_map (λ i. unless_empty (slot m i)) is) (c, u) k) [
      | inl same ↦
          let g : Found = record { block = p.0; ty = p.1; owner = Some 0; fs = Some i } in
          let here : Contains (found_by (Some 0) (Some i) (option_to_list (unless_empty (slot m i)))) g = subst (λ o. Contains (found_by (Some 0) (Some i) (option_to_list o)) g) (sym e) (Contains-head g []) in
          (g, Contains-append_left (found_by (Some 0) (Some i) (option_to_list (unless_empty (slot m i)))) (flat_map (found_in_slot m) is) g here, ap (λ (x : ℕ × ℕ). x.0) same, ap (λ (x : ℕ × ℕ). x.1) same)
      | inr j ↦ let r = more j in (r.0, Contains-append_right (found_by (Some 0) (Some i) (option_to_list (unless_empty (slot m i)))) (flat_map (found_in_slot m) is) r.0 r.1, r.2, r.3)
    ]

-- the file system of a child
abbrev pub IsChildFs : List (List ℕ) → Found → Found → Type 0
IsChildFs image f g =
    ((f.block ≢ 0) × (g.fs ≡ f.fs))
    ⊎ (((f.block ≡ 0) × Contains (templates_of (block_of image 0)) (g.block, g.ty) × (g.fs ≡ None))
    ⊎ ((f.block ≡ 0) × ((i : ℕ) × (i < 32) × ((slot (block_of image 0) i).0 ≡ g.block) × (g.fs ≡ Some i))))

pub find_from : (b : ℕ) (fs : List Found) (f : Found) → Contains fs f → f.block ≡ b → (g : Found) × (find (λ x. x.block == b) fs ≡ Some g) × Contains fs g × (g.block ≡ b)
find_from b [] f h e = absurd (Contains-none f h)
find_from b (x ∷ fs) f h e = elim (cases_eq x.block b) [
  | inl same ↦ (x, cond-true (x.block == b) (Some x) (find (λ y. y.block == b) fs) (eq-eqb x.block b same), Contains-head x fs, same)
  | inr ne ↦ elim (Contains-cons x fs f h) [
    | inl xf ↦ absurd (ne (ap (λ (y : Found). y.block) xf ∙ e))
    | inr i ↦ let r = find_from b fs f i e in (r.0, cond-false (x.block == b) (Some x) (find (λ y. y.block == b) fs) (ne_eqb x.block b ne) ∙ r.1, Contains-tail x fs r.0 r.2, r.3)
  ]
]

pub find_at : (b : ℕ) (fs : List Found) (f : Found) → find (λ x. x.block == b) fs ≡ Some f → Contains fs f × (f.block ≡ b)
find_at b [] f e = absurd (none-some f e)
find_at b (x ∷ fs) f e = elim (cases_eq x.block b) [
  | inl same ↦
      let is : x ≡ f = same_Some x f (sym (cond-true (x.block == b) (Some x) (find (λ y. y.block == b) fs) (eq-eqb x.block b same)) ∙ e) in
      (subst (λ (y : Found). Contains (x ∷ fs) y) is (Contains-head x fs), ap (λ (y : Found). y.block) (sym is) ∙ same)
  | inr ne ↦ let r = find_at b fs f (sym (cond-false (x.block == b) (Some x) (find (λ y. y.block == b) fs) (ne_eqb x.block b ne)) ∙ e) in (Contains-tail x fs f r.0, r.1)
]

pub range_length : (a n : ℕ) → length (range_with_len a n) ≡ n
range_length a zero = refl
range_length a (suc n) = ap suc (range_length (a + 1) n)

abbrev pub first_found : Found
first_found = record { block = 0; ty = 0; owner = None; fs = None }
