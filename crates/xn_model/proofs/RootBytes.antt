-- What a change of one root slot leaves of block 0's bytes, and of what they name.
use Rattle.std.proofs.Common.{◌≡◌, ℕ, zero, suc, ◌+◌, ◌*◌, ◌^◌, ◌<◌, ◌≤◌, ◌≢◌, ◌⊎◌, true, cond, not, ◌&&◌, List, [], ◌∷◌, ◌++◌, map, length, get_or, set, take, drop, Option, Some, None, refl, sym, ◌∙◌, ap, inl, inr, arith, subst, add-zero}
use Rattle.std.specs.Prelude.{Contains, IsTrue, filter_map, ◌==◌, bytes_eq}
use Rattle.std.specs.Int.{w32, to_le_bytes, from_le_bytes}
use Rattle.std.specs.List.{range_with_len, cons_option}
use Rattle.std.proofs.lemmas.Bool.{cases_eq, cases_Bool, false≢true, not-true, and_parts, and_from, eqb-false, eq-eqb, ne_eqb, false_from_ne_true}
use Rattle.std.proofs.lemmas.Nat.{from_le_bytes-to_le_bytes_4}
use Rattle.std.proofs.lemmas.Option.{same_Some, none-some}
use Rattle.std.proofs.lemmas.List.{take-take, drop-drop, drop-take, map-append, get_or-append-add}
use Rattle.std.proofs.lemmas.List.FromFn.{get_or-map-range_with_len}
use Rattle.std.proofs.lemmas.Bool.{cases_lt}
use Rattle.std.proofs.lemmas.List.Elements.{Contains-append_cases, Contains-append_left, Contains-append_right}
use Rattle.xn_model.specs.Lists.{has_number, blocks_of, distinct, put, blank}
use Rattle.xn_model.specs.Types.{Types, fits, named_once, within_size}
use Rattle.xn_model.specs.Root.{word_at, header, marked, pointer, slot, with_slot, unless_empty, templates_of, roots_of, owned_by_root, HasBuiltIns, KeepsPointers}
use Rattle.xn_model.proofs.Puts.{bytes_apart, drop_past, drop_put, length_put, take_put}
use Rattle.xn_model.proofs.Lists.{Contains-none, Contains-head, Contains-cons, Contains-tail, has_number_at, has_number_from, blocks_of_has}

-- Bytes written at a place

-- four bytes before the place
word_before : (m : List ℕ) (at : ℕ) (bs : List ℕ) → at + length bs ≤ length m → (j : ℕ) → j + 4 ≤ at → take 4 (drop j (put m at bs)) ≡ take 4 (drop j m)
word_before m at bs fits j le = bytes_apart m at bs fits 4 j (inl le)

-- Numbers that are not 0

abbrev pub nonzero : List ℕ → List ℕ
nonzero [] = []
nonzero (zero ∷ ns) = nonzero ns
nonzero (suc n ∷ ns) = suc n ∷ nonzero ns

-- a number among those that are not 0
nonzero_cons : (n : ℕ) (ns : List ℕ) (x : ℕ) → Contains (nonzero (n ∷ ns)) x → ((n ≡ x) × (x ≢ 0)) ⊎ Contains (nonzero ns) x
nonzero_cons zero ns x h = inr h
nonzero_cons (suc n) ns x h = elim (Contains-cons (suc n) (nonzero ns) x h) [ inl e ↦ inl (e, λ z. let p : suc n ≡ 0 = e ∙ z in absurd (omega arith)) | inr k ↦ inr k ]

nonzero_head : (n : ℕ) (ns : List ℕ) → n ≢ 0 → Contains (nonzero (n ∷ ns)) n
nonzero_head zero ns ne = absurd (ne refl)
nonzero_head (suc n) ns ne = Contains-head (suc n) (nonzero ns)

nonzero_tail : (n : ℕ) (ns : List ℕ) (x : ℕ) → Contains (nonzero ns) x → Contains (nonzero (n ∷ ns)) x
nonzero_tail zero ns x h = h
nonzero_tail (suc n) ns x h = Contains-tail (suc n) (nonzero ns) x h

-- where all differ, the first is not among the others
different_head : (n : ℕ) (ns : List ℕ) → distinct (nonzero (n ∷ ns)) ≡ true → n ≢ 0 → Contains (nonzero ns) n → ⊥
different_head zero ns d ne h = ne refl
different_head (suc n) ns d ne h =
    let parts = and_parts (not (has_number (nonzero ns) (suc n))) (distinct (nonzero ns)) d in
    false≢true (sym (not-true (has_number (nonzero ns) (suc n)) parts.0) ∙ has_number_from (nonzero ns) (suc n) h)

different_tail : (n : ℕ) (ns : List ℕ) → distinct (nonzero (n ∷ ns)) ≡ true → distinct (nonzero ns) ≡ true
different_tail zero ns d = d
different_tail (suc n) ns d = (and_parts (not (has_number (nonzero ns) (suc n))) (distinct (nonzero ns)) d).1

different_cons : (n : ℕ) (ns : List ℕ) → distinct (nonzero ns) ≡ true → (n ≢ 0 → Contains (nonzero ns) n → ⊥) → distinct (nonzero (n ∷ ns)) ≡ true
different_cons zero ns d out = d
different_cons (suc n) ns d out = and_from (not (has_number (nonzero ns) (suc n))) (distinct (nonzero ns))
    (ap not (false_from_ne_true (has_number (nonzero ns) (suc n)) (λ t. out (λ z. absurd (omega arith)) (has_number_at (nonzero ns) (suc n) t)))) d

-- one number set
set_from : (ns : List ℕ) (k v x : ℕ) → Contains (nonzero (set ns k v)) x → ((v ≡ x) × (x ≢ 0)) ⊎ Contains (nonzero ns) x
set_from [] k v x h = inr h
set_from (n ∷ ns) zero v x h = elim (nonzero_cons v ns x h) [ inl e ↦ inl e | inr i ↦ inr (nonzero_tail n ns x i) ]
set_from (n ∷ ns) (suc k) v x h = elim (nonzero_cons n (set ns k v) x h) [
  | inl e ↦ inr (subst (λ y. Contains (nonzero (n ∷ ns)) y) e.0 (nonzero_head n ns (λ z. e.1 (sym e.0 ∙ z))))
  | inr i ↦ elim (set_from ns k v x i) [ inl e ↦ inl e | inr j ↦ inr (nonzero_tail n ns x j) ]
]

pub different_set : (ns : List ℕ) (k v : ℕ) → distinct (nonzero ns) ≡ true → (v ≢ 0 → Contains (nonzero ns) v → ⊥) → distinct (nonzero (set ns k v)) ≡ true
different_set [] k v d out = d
different_set (n ∷ ns) zero v d out = different_cons v ns (different_tail n ns d) (λ ne i. out ne (nonzero_tail n ns v i))
different_set (n ∷ ns) (suc k) v d out = different_cons n (set ns k v) (different_set ns k v (different_tail n ns d) (λ ne i. out ne (nonzero_tail n ns v i)))
    (λ ne i. elim (set_from ns k v n i) [
      | inl e ↦ out (λ z. ne (sym e.0 ∙ z)) (subst (λ y. Contains (nonzero (n ∷ ns)) y) (sym e.0) (nonzero_head n ns ne))
      | inr j ↦ different_head n ns d ne j
    ])

nonzero_has : (ns : List ℕ) (k x : ℕ) → k < length ns → get_or ns k 0 ≡ x → x ≢ 0 → Contains (nonzero ns) x
nonzero_has [] k x lt e ne = absurd (omega arith)
nonzero_has (n ∷ ns) zero x lt e ne = subst (λ y. Contains (nonzero (n ∷ ns)) y) e (nonzero_head n ns (λ z. ne (sym e ∙ z)))
nonzero_has (n ∷ ns) (suc k) x lt e ne = nonzero_tail n ns x (nonzero_has ns k x (omega arith) e ne)

-- what stood there is gone
set_removes : (ns : List ℕ) (k x : ℕ) → distinct (nonzero ns) ≡ true → k < length ns → get_or ns k 0 ≡ x → x ≢ 0 → Contains (nonzero (set ns k 0)) x → ⊥
set_removes [] k x d lt e ne h = absurd (omega arith)
set_removes (n ∷ ns) zero x d lt e ne h = different_head n ns d (λ z. ne (sym e ∙ z)) (subst (λ y. Contains (nonzero ns) y) (sym e) h)
set_removes (n ∷ ns) (suc k) x d lt e ne h = elim (nonzero_cons n (set ns k 0) x h) [
  | inl same ↦ different_head n ns d (λ z. ne (sym same.0 ∙ z)) (subst (λ y. Contains (nonzero ns) y) (sym same.0) (nonzero_has ns k x (omega arith) e ne))
  | inr i ↦ set_removes ns k x (different_tail n ns d) (omega arith) e ne i
]

-- and stands at no other place
nonzero_once : (ns : List ℕ) (i j x : ℕ) → distinct (nonzero ns) ≡ true → i < length ns → j < length ns → get_or ns i 0 ≡ x → get_or ns j 0 ≡ x → x ≢ 0 → i ≡ j
nonzero_once [] i j x d lt k e f ne = absurd (omega arith)
nonzero_once (n ∷ ns) zero zero x d lt k e f ne = refl
nonzero_once (n ∷ ns) zero (suc j) x d lt k e f ne = absurd (different_head n ns d (λ z. ne (sym e ∙ z)) (subst (λ y. Contains (nonzero ns) y) (sym e) (nonzero_has ns j x (omega arith) f ne)))
nonzero_once (n ∷ ns) (suc i) zero x d lt k e f ne = absurd (different_head n ns d (λ z. ne (sym f ∙ z)) (subst (λ y. Contains (nonzero ns) y) (sym f) (nonzero_has ns i x (omega arith) e ne)))
nonzero_once (n ∷ ns) (suc i) (suc j) x d lt k e f ne = ap suc (nonzero_once ns i j x (different_tail n ns d) (omega arith) (omega arith) e f ne)

-- The numbers that block 0 has

abbrev pub numbers_of : List ℕ → List ℕ
numbers_of m = map (λ i. pointer m i) (range_with_len 0 16) ++ map (λ i. (slot m i).0) (range_with_len 0 32)

nonzero-append : (xs ys : List ℕ) → nonzero (xs ++ ys) ≡ nonzero xs ++ nonzero ys
nonzero-append [] ys = refl
nonzero-append (zero ∷ xs) ys = nonzero-append xs ys
nonzero-append (suc x ∷ xs) ys = ap (λ zs. suc x ∷ zs) (nonzero-append xs ys)

one_block : (p : ℕ × ℕ) (ps : List (ℕ × ℕ)) (ns : List ℕ) → blocks_of ps ≡ nonzero ns → (n : ℕ) → p.0 ≡ n → blocks_of (cons_option (unless_empty p) ps) ≡ nonzero (n ∷ ns)
one_block p ps ns e zero z = ap (λ b. blocks_of (cons_option (cond b None (Some p)) ps)) (eq-eqb p.0 0 z) ∙ e
one_block p ps ns e (suc n) z =
    let ne : p.0 ≡ 0 → ⊥ = λ y. absurd (omega arith) in
    ap (λ b. blocks_of (cons_option (cond b None (Some p)) ps)) (ne_eqb p.0 0 ne) ∙ (ap (λ x. x ∷ blocks_of ps) z ∙ ap (λ xs. suc n ∷ xs) e)

unless_empty_blocks : (f : ℕ → ℕ × ℕ) (is : List ℕ) → blocks_of (filter_map (λ i. unless_empty (f i)) is) ≡ nonzero (map (λ i. (f i).0) is)
unless_empty_blocks f [] = refl
unless_empty_blocks f (i ∷ is) = one_block (f i) (filter_map (λ i. unless_empty (f i)) is) (map (λ i. (f i).0) is) (unless_empty_blocks f is) (f i).0 refl

pub named_numbers : (m : List ℕ) → blocks_of (owned_by_root m) ≡ nonzero (numbers_of m)
unfolding owned_by_root templates_of roots_of
named_numbers m =
    map-append (λ (p : ℕ × ℕ). p.0) (templates_of m) (roots_of m)
    ∙ (ap (λ xs. xs ++ blocks_of (roots_of m)) (unless_empty_blocks (λ i. (pointer m i, 1)) (range_with_len 0 16))
    ∙ (ap (λ ys. nonzero (map (λ i. pointer m i) (range_with_len 0 16)) ++ ys) (unless_empty_blocks (λ i. slot m i) (range_with_len 0 32))
    ∙ sym (nonzero-append (map (λ i. pointer m i) (range_with_len 0 16)) (map (λ i. (slot m i).0) (range_with_len 0 32)))))

-- ranges

pub range_at : (a n x : ℕ) → Contains (range_with_len a n) x → (a ≤ x) × (x < a + n)
range_at a zero x h = absurd (Contains-none x h)
range_at a (suc n) x h = elim (Contains-cons a (range_with_len (a + 1) n) x h) [ inl e ↦ (omega arith, omega arith) | inr k ↦ let r = range_at (a + 1) n x k in let lo : a + 1 ≤ x = r.0 in let hi : x < a + 1 + n = r.1 in (omega arith, omega arith) ]

range_from : (a n x : ℕ) → a ≤ x → x < a + n → Contains (range_with_len a n) x
range_from a zero x lo hi = absurd (omega arith)
range_from a (suc n) x lo hi = elim (cases_eq a x) [ inl e ↦ subst (λ y. Contains (range_with_len a (suc n)) y) e (Contains-head a (range_with_len (a + 1) n)) | inr ne ↦ Contains-tail a (range_with_len (a + 1) n) x (range_from (a + 1) n x (omega arith) (omega arith)) ]

pub map_agree : {A B : Type 0} (f g : A → B) (xs : List A) → ((x : A) → Contains xs x → f x ≡ g x) → map f xs ≡ map g xs
map_agree f g [] h = refl
map_agree f g (x ∷ xs) h = λ i. h x (Contains-head x xs) i ∷ map_agree f g xs (λ y m. h y (Contains-tail x xs y m)) i

filter_map_agree : {A B : Type 0} (f g : A → Option B) (xs : List A) → ((x : A) → Contains xs x → f x ≡ g x) → filter_map f xs ≡ filter_map g xs
filter_map_agree f g [] h = refl
filter_map_agree f g (x ∷ xs) h = λ i. cons_option (h x (Contains-head x xs) i) (filter_map_agree f g xs (λ y m. h y (Contains-tail x xs y m)) i)

pub map_set : (f g : ℕ → ℕ) (a n k v : ℕ) → g (a + k) ≡ v → ((i : ℕ) → i ≢ a + k → g i ≡ f i) → k < n → map g (range_with_len a n) ≡ set (map f (range_with_len a n)) k v
map_set f g a zero k v here other lt = absurd (omega arith)
map_set f g a (suc n) zero v here other lt = λ i. (ap g (sym (add-zero a)) ∙ here) i ∷ map_agree g f (range_with_len (a + 1) n) (λ x m. other x (let r = range_at (a + 1) n x m in let lo : a + 1 ≤ x = r.0 in omega arith)) i
map_set f g a (suc n) (suc k) v here other lt = λ i. other a (omega arith) i ∷ map_set f g (a + 1) n k v (ap g (omega arith) ∙ here) (λ x ne. other x (omega arith)) (omega arith) i

set_second : (xs ys : List ℕ) (k v : ℕ) → set (xs ++ ys) (length xs + k) v ≡ xs ++ set ys k v
set_second [] ys k v = let e : 0 + k ≡ k = omega arith in ap (λ n. set ys n v) e
set_second (x ∷ xs) ys k v = let e : suc (length xs) + k ≡ suc (length xs + k) = omega arith in ap (λ n. set (x ∷ (xs ++ ys)) n v) e ∙ ap (λ zs. x ∷ zs) (set_second xs ys k v)

-- filter_map

filter_map_at : {A B : Type 0} (f : A → Option B) (xs : List A) (y : B) → Contains (filter_map f xs) y → (x : A) × Contains xs x × (f x ≡ Some y)
filter_map_at f [] y h = absurd (Contains-none y h)
filter_map_at {A} {B} f (x ∷ xs) y h = here (f x) refl h (filter_map_at f xs y)
  where
    here : (o : Option B) → f x ≡ o → Contains (cons_option o (filter_map f xs)) y → (Contains (filter_map f xs) y → (z : A) × Contains xs z × (f z ≡ Some y)) → (z : A) × Contains (x ∷ xs) z × (f z ≡ Some y)
    here None e k more = let r = more k in (r.0, Contains-tail x xs r.0 r.1, r.2)
    here (Some b) e k more = elim (Contains-cons b (filter_map f xs) y k) [ inl same ↦ (x, Contains-head x xs, e ∙ ap Some same) | inr i ↦ let r = more i in (r.0, Contains-tail x xs r.0 r.1, r.2) ]

filter_map_from : {A B : Type 0} (f : A → Option B) (xs : List A) (x : A) (y : B) → Contains xs x → f x ≡ Some y → Contains (filter_map f xs) y
filter_map_from f [] x y h e = absurd (Contains-none x h)
filter_map_from f (z ∷ xs) x y h e = elim (Contains-cons z xs x h) [
  | inl same ↦ subst (λ o. Contains (cons_option o (filter_map f xs)) y) (sym (ap f same ∙ e)) (Contains-head y (filter_map f xs))
  | inr i ↦ behind (f z) (filter_map_from f xs x y i e)
]
  where
    behind : (o : Option _) → Contains (filter_map f xs) y → Contains (cons_option o (filter_map f xs)) y
    behind None k = k
    behind (Some b) k = Contains-tail b (filter_map f xs) y k

pub not_empty : (p q : ℕ × ℕ) → unless_empty p ≡ Some q → (p ≡ q) × (p.0 ≢ 0)
not_empty p q e = elim (cases_Bool (p.0 == 0)) [
  | inl t ↦ absurd (none-some q (ap (λ b. cond b None (Some p)) (sym t) ∙ e))
  | inr f ↦ (same_Some p q (ap (λ b. cond b None (Some p)) (sym f) ∙ e), eqb-false p.0 0 f)
]

is_not_empty : (p : ℕ × ℕ) → p.0 ≢ 0 → unless_empty p ≡ Some p
is_not_empty p ne = ap (λ b. cond b None (Some p)) (ne_eqb p.0 0 ne)

-- a block is no template and root at once
pub different_apart : (xs ys : List ℕ) (n : ℕ) → distinct (xs ++ ys) ≡ true → Contains xs n → Contains ys n → ⊥
different_apart [] ys n d h k = Contains-none n h
different_apart (x ∷ xs) ys n d h k =
    let parts = and_parts (not (has_number (xs ++ ys) x)) (distinct (xs ++ ys)) d in
    elim (Contains-cons x xs n h) [
      | inl e ↦ false≢true (sym (not-true (has_number (xs ++ ys) x) parts.0) ∙ has_number_from (xs ++ ys) x (Contains-append_right xs ys x (subst (λ y. Contains ys y) (sym e) k)))
      | inr i ↦ different_apart xs ys n parts.1 i k
    ]

pub templates_apart : (m : List ℕ) (c u v : ℕ) → distinct (blocks_of (owned_by_root m)) ≡ true → Contains (templates_of m) (c, u) → Contains (roots_of m) (c, v) → ⊥
unfolding owned_by_root
templates_apart m c u v d h k = different_apart (blocks_of (templates_of m)) (blocks_of (roots_of m)) c (ap distinct (sym (map-append (λ (p : ℕ × ℕ). p.0) (templates_of m) (roots_of m))) ∙ d)
    (blocks_of_has (templates_of m) (c, u) h) (blocks_of_has (roots_of m) (c, v) k)

pub template_type : (m : List ℕ) (c u : ℕ) → Contains (templates_of m) (c, u) → u ≡ 1
unfolding templates_of
template_type m c u h =
    let r = filter_map_at (λ i. unless_empty (pointer m i, 1)) (range_with_len 0 16) (c, u) h in
    sym (ap (λ (p : ℕ × ℕ). p.1) (not_empty (pointer m r.0, 1) (c, u) r.2).0)

pub template_owned : (m : List ℕ) (c u : ℕ) → Contains (templates_of m) (c, u) → Contains (owned_by_root m) (c, u)
unfolding owned_by_root
template_owned m c u h = Contains-append_left (templates_of m) (roots_of m) (c, u) h

pub templates_from : (m : List ℕ) (i c : ℕ) → i < 16 → pointer m i ≡ c → c ≢ 0 → Contains (templates_of m) (c, 1)
unfolding templates_of
templates_from m i c lt e ne =
    filter_map_from (λ i. unless_empty (pointer m i, 1)) (range_with_len 0 16) i (c, 1) (range_from 0 16 i (omega arith) (omega arith))
    (ap (λ n. unless_empty (n, 1)) e ∙ is_not_empty (c, 1) ne)

pub templates_at : (m : List ℕ) (c u : ℕ) → Contains (templates_of m) (c, u) → (i : ℕ) × (i < 16) × (pointer m i ≡ c) × (c ≢ 0)
unfolding templates_of
templates_at m c u h =
    let r = filter_map_at (λ i. unless_empty (pointer m i, 1)) (range_with_len 0 16) (c, u) h in
    let q = not_empty (pointer m r.0, 1) (c, u) r.2 in
    let hi : r.0 < 0 + 16 = (range_at 0 16 r.0 r.1).1 in
    (r.0, omega arith, ap (λ (x : ℕ × ℕ). x.0) q.0, λ z. q.1 (ap (λ (x : ℕ × ℕ). x.0) q.0 ∙ z))

pub roots_at : (m : List ℕ) (c u : ℕ) → Contains (roots_of m) (c, u) → (i : ℕ) × (i < 32) × (slot m i ≡ (c, u)) × (c ≢ 0)
unfolding roots_of
roots_at m c u h =
    let r = filter_map_at (λ i. unless_empty (slot m i)) (range_with_len 0 32) (c, u) h in
    let q = not_empty (slot m r.0) (c, u) r.2 in
    let hi : r.0 < 0 + 32 = (range_at 0 32 r.0 r.1).1 in
    (r.0, omega arith, q.0, λ z. q.1 (ap (λ (x : ℕ × ℕ). x.0) q.0 ∙ z))

pub roots_from : (m : List ℕ) (i c u : ℕ) → i < 32 → slot m i ≡ (c, u) → c ≢ 0 → Contains (roots_of m) (c, u)
unfolding roots_of
roots_from m i c u lt e ne =
    filter_map_from (λ i. unless_empty (slot m i)) (range_with_len 0 32) i (c, u) (range_from 0 32 i (omega arith) (omega arith))
    (ap unless_empty e ∙ is_not_empty (c, u) ne)

-- What follows from the first 72 bytes

word_by_header : (m m' : List ℕ) (j : ℕ) → j + 4 ≤ 72 → header m ≡ header m' → word_at m j ≡ word_at m' j
unfolding word_at header
word_by_header m m' j le e =
    let front : (x : List ℕ) → take 4 (drop j x) ≡ drop j (take (j + 4) (take 72 x)) = λ x. sym (drop-take j 4 x) ∙ ap (drop j) (sym (take-take (j + 4) 72 x le)) in
    ap (from_le_bytes w32) (front m ∙ (ap (λ y. drop j (take (j + 4) y)) e ∙ sym (front m')))

pub marked_by_header : (count : ℕ) (m m' : List ℕ) → header m ≡ header m' → marked count m ≡ marked count m'
unfolding marked header
marked_by_header count m m' e =
    let front : take 4 m ≡ take 4 m' = sym (take-take 4 72 m (omega arith)) ∙ (ap (take 4) e ∙ take-take 4 72 m' (omega arith)) in
    λ i. bytes_eq (front i) (88 ∷ 78 ∷ 57 ∷ 55 ∷ []) && (word_by_header m m' 4 (omega arith) e i == count)

pub templates_by_header : (m m' : List ℕ) → header m ≡ header m' → templates_of m ≡ templates_of m'
unfolding templates_of pointer
templates_by_header m m' e = filter_map_agree (λ i. unless_empty (pointer m i, 1)) (λ i. unless_empty (pointer m' i, 1)) (range_with_len 0 16)
    (λ i k. ap (λ n. unless_empty (n, 1)) (word_by_header m m' (8 + 4 * i) (let hi : i < 0 + 16 = (range_at 0 16 i k).1 in omega arith) e))

pub pointer_by_header : (m m' : List ℕ) (i : ℕ) → i < 16 → header m ≡ header m' → pointer m i ≡ pointer m' i
unfolding pointer
pointer_by_header m m' i lt e = word_by_header m m' (8 + 4 * i) (omega arith) e

pointers_by_header : (m m' : List ℕ) → header m ≡ header m' → map (λ i. pointer m i) (range_with_len 0 16) ≡ map (λ i. pointer m' i) (range_with_len 0 16)
unfolding pointer
pointers_by_header m m' e = map_agree (λ i. pointer m i) (λ i. pointer m' i) (range_with_len 0 16) (λ i k. word_by_header m m' (8 + 4 * i) (let hi : i < 0 + 16 = (range_at 0 16 i k).1 in omega arith) e)

-- A root slot among the numbers of block 0

slot_number : (m : List ℕ) (i : ℕ) → i < 32 → get_or (numbers_of m) (16 + i) 0 ≡ (slot m i).0
slot_number m i few =
    let zero_plus : 0 + i ≡ i = omega arith in
    get_or-append-add (map (λ j. pointer m j) (range_with_len 0 16)) (map (λ j. (slot m j).0) (range_with_len 0 32)) i 0 ∙ get_or-map-range_with_len (λ j. (slot m j).0) 0 32 i i 0 few zero_plus

-- no block is in two root slots
pub slots_apart : (m : List ℕ) (i j c : ℕ) → distinct (blocks_of (owned_by_root m)) ≡ true → i < 32 → j < 32 → (slot m i).0 ≡ c → (slot m j).0 ≡ c → c ≢ 0 → i ≡ j
slots_apart m i j c d few few' e f ne =
    let once : distinct (nonzero (numbers_of m)) ≡ true = ap distinct (sym (named_numbers m)) ∙ d in
    let same = nonzero_once (numbers_of m) (16 + i) (16 + j) c once (omega arith) (omega arith) (slot_number m i few ∙ e) (slot_number m j few' ∙ f) ne in
    omega arith

-- One slot changed

module _ (m : List ℕ) (fs : ℕ) (p : ℕ × ℕ) (long : length m ≡ 512) (few : fs < 32) where
  bytes : List ℕ
  bytes = to_le_bytes w32 p.0 ++ to_le_bytes w32 p.1

  room : 72 + 8 * fs + length bytes ≤ length m
  unfolding bytes
  room = let e : length (to_le_bytes w32 p.0 ++ to_le_bytes w32 p.1) ≡ 8 = refl in omega arith

  pub slot_header : header (with_slot m fs p) ≡ header m
  unfolding header with_slot bytes
  slot_header = take_put m (72 + 8 * fs) (to_le_bytes w32 p.0 ++ to_le_bytes w32 p.1) room 72 (omega arith)

  pub slot_length : length (with_slot m fs p) ≡ 512
  unfolding with_slot bytes
  slot_length = length_put m (72 + 8 * fs) (to_le_bytes w32 p.0 ++ to_le_bytes w32 p.1) room ∙ long

  pub slot_past : drop 328 (with_slot m fs p) ≡ drop 328 m
  unfolding with_slot bytes
  slot_past = drop_past m (72 + 8 * fs) (to_le_bytes w32 p.0 ++ to_le_bytes w32 p.1) room 328 (let e : length (to_le_bytes w32 p.0 ++ to_le_bytes w32 p.1) ≡ 8 = refl in omega arith)

  -- a change of a slot changes no pointer
  pub slot_keeps : KeepsPointers m (with_slot m fs p)
  slot_keeps i lt ne = pointer_by_header (with_slot m fs p) m i lt slot_header

  word_other : (j : ℕ) → (j + 4 ≤ 72 + 8 * fs) ⊎ (72 + 8 * fs + 8 ≤ j) → word_at (with_slot m fs p) j ≡ word_at m j
  unfolding with_slot word_at bytes
  word_other j h = ap (from_le_bytes w32) (elim h [
    | inl before ↦ word_before m (72 + 8 * fs) (to_le_bytes w32 p.0 ++ to_le_bytes w32 p.1) room j before
    | inr past ↦ ap (take 4) (drop_past m (72 + 8 * fs) (to_le_bytes w32 p.0 ++ to_le_bytes w32 p.1) room j (let e : length (to_le_bytes w32 p.0 ++ to_le_bytes w32 p.1) ≡ 8 = refl in omega arith))
  ])

  first_word : take 4 (drop (72 + 8 * fs) (with_slot m fs p)) ≡ to_le_bytes w32 p.0
  unfolding with_slot bytes
  first_word = ap (take 4) (drop_put m (72 + 8 * fs) (to_le_bytes w32 p.0 ++ to_le_bytes w32 p.1) room)

  second_word : take 4 (drop (76 + 8 * fs) (with_slot m fs p)) ≡ to_le_bytes w32 p.1
  unfolding with_slot bytes
  second_word =
      let e : 76 + 8 * fs ≡ 72 + 8 * fs + 4 = omega arith in
      ap (λ j. take 4 (drop j (with_slot m fs p))) e
      ∙ (ap (take 4) (sym (drop-drop 4 (72 + 8 * fs) (with_slot m fs p)))
      ∙ ap (λ y. take 4 (drop 4 y)) (drop_put m (72 + 8 * fs) (to_le_bytes w32 p.0 ++ to_le_bytes w32 p.1) room))

  pub slot_other : (i : ℕ) → i ≢ fs → slot (with_slot m fs p) i ≡ slot m i
  unfolding slot
  slot_other i ne = elim (cases_lt i fs) [
    | inl before ↦ λ k. (word_other (72 + 8 * i) (inl (omega arith)) k, word_other (76 + 8 * i) (inl (omega arith)) k)
    | inr past ↦ λ k. (word_other (72 + 8 * i) (inr (omega arith)) k, word_other (76 + 8 * i) (inr (omega arith)) k)
  ]

  module _ (small : p.0 < 2 ^ 32) (small' : p.1 < 2 ^ 32) where
    pub slot_same : slot (with_slot m fs p) fs ≡ p
    unfolding slot word_at
    slot_same = λ k. ((ap (from_le_bytes w32) first_word ∙ from_le_bytes-to_le_bytes_4 p.0 small) k, (ap (from_le_bytes w32) second_word ∙ from_le_bytes-to_le_bytes_4 p.1 small') k)

    numbers_set : numbers_of (with_slot m fs p) ≡ set (numbers_of m) (16 + fs) p.0
    numbers_set =
        let ptrs = map (λ i. pointer m i) (range_with_len 0 16) in
        let slots = map (λ i. (slot m i).0) (range_with_len 0 32) in
        let at : 0 + fs ≡ fs = omega arith in
        let here : (slot (with_slot m fs p) (0 + fs)).0 ≡ p.0 = ap (λ n. (slot (with_slot m fs p) n).0) at ∙ ap (λ (x : ℕ × ℕ). x.0) slot_same in
        ap (λ xs. xs ++ map (λ i. (slot (with_slot m fs p) i).0) (range_with_len 0 32)) (pointers_by_header (with_slot m fs p) m slot_header)
        ∙ (ap (λ ys. ptrs ++ ys) (map_set (λ i. (slot m i).0) (λ i. (slot (with_slot m fs p) i).0) 0 32 fs p.0 here (λ i ne. ap (λ (x : ℕ × ℕ). x.0) (slot_other i (λ e. ne (e ∙ sym at)))) few)
        ∙ sym (set_second ptrs slots fs p.0))

    pub slot_fits : (T : Types) → HasBuiltIns T → IsTrue (fits T 0 m) → (p.0 ≢ 0 → Contains (blocks_of (owned_by_root m)) p.0 → ⊥) → IsTrue (fits T 0 (with_slot m fs p))
    slot_fits T b fit out =
        let old = and_parts (named_once T 0 m) (within_size T 0 m) fit in
        let once : distinct (nonzero (numbers_of m)) ≡ true = ap distinct (sym (named_numbers m)) ∙ (ap (λ ps. distinct (blocks_of ps)) (sym (b.root_owns m)) ∙ old.0) in
        let out' : p.0 ≢ 0 → Contains (nonzero (numbers_of m)) p.0 → ⊥ = λ ne i. out ne (subst (λ ns. Contains ns p.0) (sym (named_numbers m)) i) in
        let new : distinct (blocks_of (owned_by_root (with_slot m fs p))) ≡ true = ap distinct (named_numbers (with_slot m fs p) ∙ ap nonzero numbers_set) ∙ different_set (numbers_of m) (16 + fs) p.0 once out' in
        let size : within_size T 0 (with_slot m fs p) ≡ true = ap (λ n. blank (drop n (with_slot m fs p))) (b.root_size (with_slot m fs p)) ∙ (ap blank slot_past ∙ (ap (λ n. blank (drop n m)) (sym (b.root_size m)) ∙ old.1)) in
        and_from (named_once T 0 (with_slot m fs p)) (within_size T 0 (with_slot m fs p)) (ap (λ ps. distinct (blocks_of ps)) (b.root_owns (with_slot m fs p)) ∙ new) size

    pub slot_names : (c u : ℕ) → Contains (owned_by_root (with_slot m fs p)) (c, u) → (((c, u) ≡ p) × (c ≢ 0)) ⊎ Contains (owned_by_root m) (c, u)
    unfolding owned_by_root
    slot_names c u h = elim (Contains-append_cases (templates_of (with_slot m fs p)) (roots_of (with_slot m fs p)) (c, u) h) [
      | inl t ↦ inr (Contains-append_left (templates_of m) (roots_of m) (c, u) (subst (λ ps. Contains ps (c, u)) (templates_by_header (with_slot m fs p) m slot_header) t))
      | inr r ↦
          let at = roots_at (with_slot m fs p) c u r in
          elim (cases_eq at.0 fs) [
            | inl same ↦ inl (sym at.2 ∙ (ap (slot (with_slot m fs p)) same ∙ slot_same), at.3)
            | inr other ↦ inr (Contains-append_right (templates_of m) (roots_of m) (c, u) (roots_from m at.0 c u at.1 (sym (slot_other at.0 other) ∙ at.2) at.3))
          ]
    ]

    -- what another place names stays
    pub slot_stays : (c u : ℕ) → Contains (owned_by_root m) (c, u) → (slot m fs ≡ (c, u) → ⊥) → Contains (owned_by_root (with_slot m fs p)) (c, u)
    unfolding owned_by_root
    slot_stays c u h out = elim (Contains-append_cases (templates_of m) (roots_of m) (c, u) h) [
      | inl t ↦ Contains-append_left (templates_of (with_slot m fs p)) (roots_of (with_slot m fs p)) (c, u) (subst (λ ps. Contains ps (c, u)) (sym (templates_by_header (with_slot m fs p) m slot_header)) t)
      | inr r ↦
          let at = roots_at m c u r in
          let other : at.0 ≢ fs = λ same. out (ap (slot m) (sym same) ∙ at.2) in
          Contains-append_right (templates_of (with_slot m fs p)) (roots_of (with_slot m fs p)) (c, u) (roots_from (with_slot m fs p) at.0 c u at.1 (slot_other at.0 other ∙ at.2) at.3)
    ]

    pub slot_owned : p.0 ≢ 0 → Contains (owned_by_root (with_slot m fs p)) p
    unfolding owned_by_root
    slot_owned ne = Contains-append_right (templates_of (with_slot m fs p)) (roots_of (with_slot m fs p)) p (roots_from (with_slot m fs p) fs p.0 p.1 few slot_same ne)

    pub slot_drops : (T : Types) → HasBuiltIns T → IsTrue (fits T 0 m) → p.0 ≡ 0 → (slot m fs).0 ≢ 0 → (u : ℕ) → Contains (owned_by_root (with_slot m fs p)) ((slot m fs).0, u) → ⊥
    slot_drops T b fit empty ne u h =
        let old = and_parts (named_once T 0 m) (within_size T 0 m) fit in
        let once : distinct (nonzero (numbers_of m)) ≡ true = ap distinct (sym (named_numbers m)) ∙ (ap (λ ps. distinct (blocks_of ps)) (sym (b.root_owns m)) ∙ old.0) in
        let c : ℕ = (slot m fs).0 in
        let block : Contains (blocks_of (owned_by_root (with_slot m fs p))) c = blocks_of_has (owned_by_root (with_slot m fs p)) (c, u) h in
        let in' : Contains (nonzero (set (numbers_of m) (16 + fs) 0)) c = subst (λ ns. Contains ns c) (named_numbers (with_slot m fs p) ∙ ap nonzero (numbers_set ∙ ap (set (numbers_of m) (16 + fs)) empty)) block in
        set_removes (numbers_of m) (16 + fs) c once (omega arith) (slot_number m fs few) ne in'
