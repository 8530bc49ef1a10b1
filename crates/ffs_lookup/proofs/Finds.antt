-- Look-ups in lists that are made of lists, and in ranges.
use Rattle.std.proofs.Common.{◌≡◌, ℕ, zero, suc, ◌+◌, ◌<◌, ◌≤◌, Bool, true, false, cond, List, [], ◌∷◌, ◌++◌, map, Option, Some, None, refl, sym, ◌∙◌, ap, arith, ◌==◌, ◌&&◌, ◌||◌, not, find, filter_map, flat_map, is_some, option_map, option_and_then, if◌then◌else◌}
use Rattle.std.specs.List.{cons_option, list_any, range_with_len}
use Rattle.std.specs.Option.{option_or}
use Rattle.std.proofs.lemmas.List.{map-append}
use Rattle.std.proofs.lemmas.List.Folds.{find-append}
use Rattle.std.proofs.lemmas.List.Elements.{filter_map-append}
use Rattle.std.proofs.lemmas.Option.{none-some, same_Some}
use Rattle.xn_model.specs.Lists.{blocks_of}
use Rattle.xn_model.specs.Root.{unless_empty}

-- Functions that agree on a range

abbrev pub Agree : {A : Type 0} → (ℕ → A) → (ℕ → A) → ℕ → ℕ → Type 0
Agree f g a n = (i : ℕ) → a ≤ i → i < a + n → f i ≡ g i

first_agrees : {A : Type 0} (f g : ℕ → A) (a n : ℕ) → Agree f g a (suc n) → f a ≡ g a
first_agrees f g a n h = h a (omega arith) (omega arith)

rest_agrees : {A : Type 0} (f g : ℕ → A) (a n : ℕ) → Agree f g a (suc n) → Agree f g (a + 1) n
rest_agrees f g a n h i low high = h i (omega (arith, low)) (omega (arith, high))

pub map_on : {A : Type 0} (f g : ℕ → A) (a n : ℕ) → Agree f g a n → map f (range_with_len a n) ≡ map g (range_with_len a n)
map_on f g a zero h = refl
map_on f g a (suc n) h = ap (λ x. x ∷ map f (range_with_len (a + 1) n)) (first_agrees f g a n h) ∙ ap (λ xs. g a ∷ xs) (map_on f g (a + 1) n (rest_agrees f g a n h))

pub flat_map_on : {A : Type 0} (f g : ℕ → List A) (a n : ℕ) → Agree f g a n → flat_map f (range_with_len a n) ≡ flat_map g (range_with_len a n)
flat_map_on f g a zero h = refl
flat_map_on f g a (suc n) h =
    ap (λ x. x ++ flat_map f (range_with_len (a + 1) n)) (first_agrees f g a n h) ∙ ap (λ xs. g a ++ xs) (flat_map_on f g (a + 1) n (rest_agrees f g a n h))

pub filter_map_on : {A : Type 0} (f g : ℕ → Option A) (a n : ℕ) → Agree f g a n → filter_map f (range_with_len a n) ≡ filter_map g (range_with_len a n)
filter_map_on f g a zero h = refl
filter_map_on f g a (suc n) h =
    ap (λ x. cons_option x (filter_map f (range_with_len (a + 1) n))) (first_agrees f g a n h) ∙ ap (λ xs. cons_option (g a) xs) (filter_map_on f g (a + 1) n (rest_agrees f g a n h))

pub find_on : (p q : ℕ → Bool) (a n : ℕ) → Agree p q a n → find p (range_with_len a n) ≡ find q (range_with_len a n)
find_on p q a zero h = refl
find_on p q a (suc n) h =
    ap (λ t. cond t (Some a) (find p (range_with_len (a + 1) n))) (first_agrees p q a n h) ∙ ap (λ o. cond (q a) (Some a) o) (find_on p q (a + 1) n (rest_agrees p q a n h))

-- The first of what is found

abbrev pub first_of : {A : Type 0} → (ℕ → Option A) → List ℕ → Option A
first_of h [] = None
first_of h (x ∷ xs) = option_or (h x) (first_of h xs)

pub first_on : {A : Type 0} (f g : ℕ → Option A) (a n : ℕ) → Agree f g a n → first_of f (range_with_len a n) ≡ first_of g (range_with_len a n)
first_on f g a zero h = refl
first_on f g a (suc n) h =
    ap (λ x. option_or x (first_of f (range_with_len (a + 1) n))) (first_agrees f g a n h) ∙ ap (λ o. option_or (g a) o) (first_on f g (a + 1) n (rest_agrees f g a n h))

pub find_flat : {A : Type 0} (p : A → Bool) (g : ℕ → List A) (xs : List ℕ) → find p (flat_map g xs) ≡ first_of (λ i. find p (g i)) xs
find_flat p g [] = refl
find_flat p g (x ∷ xs) = find-append p (g x) (flat_map g xs) ∙ ap (option_or (find p (g x))) (find_flat p g xs)

map_or : {A B : Type 0} (f : A → B) (o r : Option A) → option_map f (option_or o r) ≡ option_or (option_map f o) (option_map f r)
map_or f None r = refl
map_or f (Some x) r = refl

pub first_map : {A B : Type 0} (f : A → B) (h : ℕ → Option A) (xs : List ℕ) → option_map f (first_of h xs) ≡ first_of (λ i. option_map f (h i)) xs
first_map f h [] = refl
first_map f h (x ∷ xs) = map_or f (h x) (first_of h xs) ∙ ap (option_or (option_map f (h x))) (first_map f h xs)

-- what is found at the first index at which there is something
pub first_found : {A : Type 0} (h : ℕ → Option A) (gap : ℕ → Bool) (a n : ℕ) → Agree (λ i. is_some (h i)) gap a n →
    first_of h (range_with_len a n) ≡ option_and_then h (find gap (range_with_len a n))
first_found h gap a zero e = refl
first_found {A} h gap a (suc n) e = step (h a) (gap a) refl (first_agrees (λ i. is_some (h i)) gap a n e) (first_found h gap (a + 1) n (rest_agrees (λ i. is_some (h i)) gap a n e))
  where
    step : (o : Option A) (t : Bool) → h a ≡ o → is_some o ≡ t → first_of h (range_with_len (a + 1) n) ≡ option_and_then h (find gap (range_with_len (a + 1) n)) →
        option_or o (first_of h (range_with_len (a + 1) n)) ≡ option_and_then h (cond t (Some a) (find gap (range_with_len (a + 1) n)))
    step (Some x) true is s r = sym is
    step (Some x) false is s r = absurd (cc s)
    step None true is s r = absurd (cc s)
    step None false is s r = r

-- where it is found
pub first_within : {A : Type 0} (h : ℕ → Option A) (a n : ℕ) (y : A) → first_of h (range_with_len a n) ≡ Some y → (i : ℕ) × (i < a + n) × (h i ≡ Some y)
first_within h a zero y e = absurd (none-some y e)
first_within {A} h a (suc n) y e = step (h a) refl e (first_within h (a + 1) n y)
  where
    step : (o : Option A) → h a ≡ o → option_or o (first_of h (range_with_len (a + 1) n)) ≡ Some y → (first_of h (range_with_len (a + 1) n) ≡ Some y → (i : ℕ) × (i < a + 1 + n) × (h i ≡ Some y)) → (i : ℕ) × (i < a + suc n) × (h i ≡ Some y)
    step (Some x) is f rest = (a, omega arith, is ∙ f)
    step None is f rest = let r = rest f in let high = r.1 in (r.0, omega (arith, high), r.2)

pub first_test : {A : Type 0} (f : ℕ → A) (t : ℕ → Bool) (xs : List ℕ) → first_of (λ i. if t i then Some (f i) else None) xs ≡ option_map f (find t xs)
first_test f t [] = refl
first_test {A} f t (x ∷ xs) = step (t x) (first_test f t xs)
  where
    step : (b : Bool) → first_of (λ i. if t i then Some (f i) else None) xs ≡ option_map f (find t xs) →
        option_or (if b then Some (f x) else None) (first_of (λ i. if t i then Some (f i) else None) xs) ≡ option_map f (cond b (Some x) (find t xs))
    step true r = refl
    step false r = r

-- Tests

pub find_map : {A B : Type 0} (p : B → Bool) (f : A → B) (xs : List A) → find p (map f xs) ≡ option_map f (find (λ x. p (f x)) xs)
find_map p f [] = refl
find_map p f (x ∷ xs) = step (p (f x)) (find_map p f xs)
  where
    step : (t : Bool) → find p (map f xs) ≡ option_map f (find (λ y. p (f y)) xs) → cond t (Some (f x)) (find p (map f xs)) ≡ option_map f (cond t (Some x) (find (λ y. p (f y)) xs))
    step true r = refl
    step false r = r

pub any_is_found : {A : Type 0} (p : A → Bool) (xs : List A) → list_any p xs ≡ is_some (find p xs)
any_is_found p [] = refl
any_is_found {A} p (x ∷ xs) = step (p x) (any_is_found p xs)
  where
    step : (t : Bool) → list_any p xs ≡ is_some (find p xs) → t || list_any p xs ≡ is_some (cond t (Some x) (find p xs))
    step true r = refl
    step false r = r

pub found_holds : {A : Type 0} (p : A → Bool) (xs : List A) (y : A) → find p xs ≡ Some y → p y ≡ true
found_holds p [] y e = absurd (none-some y e)
found_holds {A} p (x ∷ xs) y e = step (p x) refl e (found_holds p xs y)
  where
    step : (t : Bool) → p x ≡ t → cond t (Some x) (find p xs) ≡ Some y → (find p xs ≡ Some y → p y ≡ true) → p y ≡ true
    step true is f rest = ap p (sym (same_Some x y f)) ∙ is
    step false is f rest = rest f

pub found_within : (p : ℕ → Bool) (a n i : ℕ) → find p (range_with_len a n) ≡ Some i → (a ≤ i) × (i < a + n)
found_within p a zero i e = absurd (none-some i e)
found_within p a (suc n) i e = step (p a) e (found_within p (a + 1) n i)
  where
    step : (t : Bool) → cond t (Some a) (find p (range_with_len (a + 1) n)) ≡ Some i → (find p (range_with_len (a + 1) n) ≡ Some i → (a + 1 ≤ i) × (i < a + 1 + n)) → (a ≤ i) × (i < a + suc n)
    step true f rest = let s : a ≡ i = same_Some a i f in (omega (arith, s), omega (arith, s))
    step false f rest = let r = rest f in let low = r.0 in let high = r.1 in (omega (arith, low), omega (arith, high))

pub is_some_mapped : {A B : Type 0} (f : A → B) (o : Option A) → is_some (option_map f o) ≡ is_some o
is_some_mapped f None = refl
is_some_mapped f (Some x) = refl

pub map_twice : {A B C : Type 0} (f : B → C) (g : A → B) (o : Option A) → option_map f (option_map g o) ≡ option_map (λ x. f (g x)) o
map_twice f g None = refl
map_twice f g (Some x) = refl

-- Lists of lists

pub map_flat : {A B : Type 0} (f : A → B) (g : ℕ → List A) (xs : List ℕ) → map f (flat_map g xs) ≡ flat_map (λ i. map f (g i)) xs
map_flat f g [] = refl
map_flat f g (x ∷ xs) = map-append f (g x) (flat_map g xs) ∙ ap (λ ys. map f (g x) ++ ys) (map_flat f g xs)

pub filter_map_flat : {A B : Type 0} (f : A → Option B) (g : ℕ → List A) (xs : List ℕ) → filter_map f (flat_map g xs) ≡ flat_map (λ i. filter_map f (g i)) xs
filter_map_flat f g [] = refl
filter_map_flat f g (x ∷ xs) = filter_map-append f (g x) (flat_map g xs) ∙ ap (λ ys. filter_map f (g x) ++ ys) (filter_map_flat f g xs)

pub filter_map_map : {A B C : Type 0} (f : B → Option C) (g : A → B) (xs : List A) → filter_map f (map g xs) ≡ filter_map (λ x. f (g x)) xs
filter_map_map f g [] = refl
filter_map_map f g (x ∷ xs) = ap (cons_option (f (g x))) (filter_map_map f g xs)

-- Pointers that are not 0

abbrev pointed_rest : (ℕ → ℕ) → List ℕ → List (ℕ × ℕ)
pointed_rest w xs = filter_map (λ i. unless_empty (w i, 2)) xs

pub find_pointed : (q : ℕ → Bool) (w : ℕ → ℕ) (xs : List ℕ) → find q (blocks_of (filter_map (λ i. unless_empty (w i, 2)) xs)) ≡ option_map w (find (λ i. not (w i == 0) && q (w i)) xs)
find_pointed q w [] = refl
find_pointed q w (x ∷ xs) = step (w x == 0) (q (w x)) refl (find_pointed q w xs)
  where
    step : (e t : Bool) → q (w x) ≡ t → find q (blocks_of (pointed_rest w xs)) ≡ option_map w (find (λ i. not (w i == 0) && q (w i)) xs) →
        find q (blocks_of (cons_option (cond e None (Some (w x, 2))) (pointed_rest w xs))) ≡ option_map w (cond (not e && t) (Some x) (find (λ i. not (w i == 0) && q (w i)) xs))
    step true t is r = r
    step false true is r = ap (λ u. cond u (Some (w x)) (find q (blocks_of (pointed_rest w xs)))) is
    step false false is r = ap (λ u. cond u (Some (w x)) (find q (blocks_of (pointed_rest w xs)))) is ∙ r

pub flat_pointed : {A : Type 0} (g : ℕ → List A) (w : ℕ → ℕ) (xs : List ℕ) →
    flat_map g (blocks_of (filter_map (λ i. unless_empty (w i, 2)) xs)) ≡ flat_map (λ i. if w i == 0 then [] else g (w i)) xs
flat_pointed g w [] = refl
flat_pointed {A} g w (x ∷ xs) = step (w x == 0) (flat_pointed g w xs)
  where
    step : (e : Bool) → flat_map g (blocks_of (pointed_rest w xs)) ≡ flat_map (λ i. if w i == 0 then [] else g (w i)) xs →
        flat_map g (blocks_of (cons_option (cond e None (Some (w x, 2))) (pointed_rest w xs))) ≡ (if e then [] else g (w x)) ++ flat_map (λ i. if w i == 0 then [] else g (w i)) xs
    step true r = r
    step false r = ap (λ ys. g (w x) ++ ys) r
