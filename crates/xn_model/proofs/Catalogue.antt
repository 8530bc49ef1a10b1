-- What block 0's states keep of the catalogue, from one to the next.
use Rattle.std.proofs.Common.{◌≡◌, ◌≢◌, ◌⊎◌, ℕ, zero, suc, ◌-◌, ◌<◌, ◌≤◌, Bool, true, false, not, ◌&&◌, ◌||◌, List, [], ◌∷◌, ◌++◌, take, drop, Option, Some, None, refl, sym, ◌∙◌, ap, inl, inr, arith, subst}
use Rattle.std.specs.Prelude.{Contains, nat_lt, option_map, option_to_list, ◌==◌}
use Rattle.std.specs.List.{last_or}
use Rattle.std.proofs.lemmas.Bool.{and_parts, and_from, or_left, eqb-false, ltb-true, ltb-false, lt-ltb, not-true, ne_eqb}
use Rattle.std.proofs.lemmas.Option.{same_Some}
use Rattle.xn_model.specs.Root.{pointer, has_type, KeepsPointers}
use Rattle.xn_model.specs.Lives.{BlockState, Life, Lives, life_at, bytes_of, durable_bytes, root_on_disk}
use Rattle.xn_model.specs.Rules.{PointersStay}
use Rattle.xn_model.proofs.Changes.{each}
use Rattle.xn_model.proofs.Lists.{Contains-none, Contains-head, Contains-cons}
use Rattle.xn_model.proofs.Lives.{each_at}

pub keeps_self : (m : List ℕ) → KeepsPointers m m
keeps_self m i lt ne = refl

pub keeps_then : (a b c : List ℕ) → KeepsPointers a b → KeepsPointers b c → KeepsPointers a c
keeps_then a b c h k i lt ne = k i lt (λ z. ne (sym (h i lt ne) ∙ z)) ∙ h i lt ne

-- a type that is there stays
abbrev has_place : List ℕ → ℕ → Bool
has_place m u = nat_lt u 19 && not (pointer m (u - 3) == 0)

pub place_of : (m : List ℕ) (u : ℕ) → has_type m u ≡ true → (nat_lt u 3 ≡ true) ⊎ ((3 ≤ u) × (u < 19) × (pointer m (u - 3) ≢ 0))
place_of m u h = go (nat_lt u 3) refl h
  where
    go : (t : Bool) → nat_lt u 3 ≡ t → (t || has_place m u) ≡ true → (nat_lt u 3 ≡ true) ⊎ ((3 ≤ u) × (u < 19) × (pointer m (u - 3) ≢ 0))
    go true e k = inl e
    go false e k = let p = and_parts (nat_lt u 19) (not (pointer m (u - 3) == 0)) k in inr (ltb-false u 3 e, ltb-true u 19 p.0, eqb-false (pointer m (u - 3)) 0 (not-true (pointer m (u - 3) == 0) p.1))

pub has_built_in : (m : List ℕ) (u : ℕ) → u < 3 → has_type m u ≡ true
has_built_in m u lt = or_left (nat_lt u 3) (has_place m u) (lt-ltb u 3 lt)

pub has_at : (m : List ℕ) (u : ℕ) → u < 19 → pointer m (u - 3) ≢ 0 → has_type m u ≡ true
has_at m u lt ne = go (nat_lt u 3)
  where
    place : has_place m u ≡ true
    place = and_from (nat_lt u 19) (not (pointer m (u - 3) == 0)) (lt-ltb u 19 lt) (ap not (ne_eqb (pointer m (u - 3)) 0 ne))

    go : (t : Bool) → (t || has_place m u) ≡ true
    go true = refl
    go false = place

pub has_keeps : (a b : List ℕ) (u : ℕ) → KeepsPointers a b → has_type a u ≡ true → has_type b u ≡ true
has_keeps a b u k h = elim (place_of a u h) [
  | inl low ↦ or_left (nat_lt u 3) (has_place b u) low
  | inr p ↦ has_at b u p.1 (λ z. p.2 (sym (k (u - 3) (let lo = p.0 in let hi = p.1 in omega arith) p.2) ∙ z))
]

-- Along states

pub pointers_first : (s : BlockState) (xs : List BlockState) → PointersStay (s ∷ xs) → (t : BlockState) → Contains (s ∷ xs) t → KeepsPointers s.bytes t.bytes
pointers_first s [] h t i = elim (Contains-cons s [] t i) [ inl e ↦ subst (λ (x : BlockState). KeepsPointers s.bytes x.bytes) e (keeps_self s.bytes) | inr none ↦ absurd (Contains-none t none) ]
pointers_first s (x ∷ xs) h t i = elim (Contains-cons s (x ∷ xs) t i) [
  | inl e ↦ subst (λ (y : BlockState). KeepsPointers s.bytes y.bytes) e (keeps_self s.bytes)
  | inr j ↦ keeps_then s.bytes x.bytes t.bytes h.0 (pointers_first x xs h.1 t j)
]

pub pointers_tail : (s : BlockState) (xs : List BlockState) → PointersStay (s ∷ xs) → PointersStay xs
pointers_tail s [] h = tt
pointers_tail s (x ∷ xs) h = h.1

pub pointers_rest : (o : Option BlockState) (xs : List BlockState) → PointersStay (option_to_list o ++ xs) → PointersStay xs
pointers_rest None xs h = h
pointers_rest (Some d) xs h = pointers_tail d xs h

-- to the last one
pub pointers_last : (o : Option BlockState) (xs : List BlockState) (last : BlockState) → PointersStay (option_to_list o ++ xs) → last_or o xs ≡ Some last → (t : BlockState) → Contains (option_to_list o ++ xs) t → KeepsPointers t.bytes last.bytes
pointers_last None [] last h e t i = absurd (Contains-none t i)
pointers_last (Some d) [] last h e t i = elim (Contains-cons d [] t i) [
  | inl same ↦ subst (λ (x : BlockState). KeepsPointers t.bytes x.bytes) (sym same ∙ same_Some d last e) (keeps_self t.bytes)
  | inr none ↦ absurd (Contains-none t none)
]
pointers_last None (x ∷ xs) last h e t i = pointers_last (Some x) xs last h e t i
pointers_last (Some d) (x ∷ xs) last h e t i = elim (Contains-cons d (x ∷ xs) t i) [
  | inl same ↦ subst (λ (y : BlockState). KeepsPointers y.bytes last.bytes) same
      (keeps_then d.bytes x.bytes last.bytes h.0 (pointers_last (Some x) xs last h.1 e x (Contains-head x xs)))
  | inr j ↦ pointers_last (Some x) xs last h.1 e t j
]

-- with one state more
pub pointers_push : (o : Option BlockState) (xs : List BlockState) (s last : BlockState) → PointersStay (option_to_list o ++ xs) → last_or o xs ≡ Some last → KeepsPointers last.bytes s.bytes → PointersStay (option_to_list o ++ (xs ++ s ∷ []))
pointers_push None [] s last h e k = tt
pointers_push (Some d) [] s last h e k = (subst (λ (x : BlockState). KeepsPointers x.bytes s.bytes) (sym (same_Some d last e)) k, tt)
pointers_push None (x ∷ xs) s last h e k = pointers_push (Some x) xs s last h e k
pointers_push (Some d) (x ∷ xs) s last h e k = (h.0, pointers_push (Some x) xs s last h.1 e k)

-- the first k states become one
pub pointers_settled : (o : Option BlockState) (k : ℕ) (xs : List BlockState) → PointersStay (option_to_list o ++ xs) → PointersStay (option_to_list (last_or o (take k xs)) ++ drop k xs)
pointers_settled o zero xs h = h
pointers_settled o (suc k) [] h = h
pointers_settled o (suc k) (x ∷ xs) h = pointers_settled (Some x) k xs (pointers_rest o (x ∷ xs) h)

pub pointers_taken : (o : Option BlockState) (k : ℕ) (xs : List BlockState) → PointersStay (option_to_list o ++ xs) → PointersStay (option_to_list o ++ take k xs)
pointers_taken None zero xs h = tt
pointers_taken (Some d) zero xs h = tt
pointers_taken o (suc k) [] h = h
pointers_taken None (suc k) (x ∷ xs) h = pointers_taken (Some x) k xs h
pointers_taken (Some d) (suc k) (x ∷ xs) h = (h.0, pointers_taken (Some x) k xs h.1)

-- Block 0 on the disk

pub on_disk_is : (lives : Lives) (l : Life) (s : BlockState) → life_at lives 0 ≡ Some l → l.durable ≡ Some s → root_on_disk lives ≡ s.bytes
on_disk_is lives l s e d = ap durable_bytes e ∙ ap bytes_of d

pub on_disk_each : (g : ℕ → Life → Life) (lives : Lives) → ((l : Life) → bytes_of (g 0 l).durable ≡ bytes_of l.durable) → root_on_disk (each g lives) ≡ root_on_disk lives
on_disk_each g lives same = ap durable_bytes (each_at g lives 0) ∙ go (life_at lives 0)
  where
    go : (o : Option Life) → durable_bytes (option_map (g 0) o) ≡ durable_bytes o
    go None = refl
    go (Some l) = same l
