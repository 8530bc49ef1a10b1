-- What a change of one pointer of the catalogue leaves of block 0's bytes, and of what they name.
use Rattle.std.proofs.Common.{◌≡◌, ℕ, zero, suc, ◌+◌, ◌*◌, ◌^◌, ◌<◌, ◌≤◌, ◌≢◌, ◌⊎◌, true, ◌&&◌, List, [], ◌∷◌, ◌++◌, map, length, set, take, drop, refl, sym, ◌∙◌, ap, inl, inr, arith, subst}
use Rattle.std.specs.Prelude.{Contains, IsTrue, filter_map, ◌==◌, bytes_eq}
use Rattle.std.specs.Int.{w32, to_le_bytes, from_le_bytes}
use Rattle.std.specs.List.{range_with_len}
use Rattle.std.proofs.lemmas.Bool.{cases_eq, cases_lt, and_parts, and_from}
use Rattle.std.proofs.lemmas.Nat.{from_le_bytes-to_le_bytes_4}
use Rattle.std.proofs.lemmas.List.Elements.{Contains-append_cases, Contains-append_left, Contains-append_right}
use Rattle.xn_model.specs.Lists.{blocks_of, distinct, blank}
use Rattle.xn_model.specs.Types.{Types, fits, named_once, within_size}
use Rattle.xn_model.specs.Root.{word_at, marked, pointer, with_pointer, slot, unless_empty, templates_of, roots_of, owned_by_root, HasBuiltIns, KeepsPointers}
use Rattle.xn_model.proofs.Puts.{bytes_apart, drop_past, drop_put, length_put, take_put}
use Rattle.xn_model.proofs.RootBytes.{numbers_of, nonzero, named_numbers, different_set, map_agree, map_set, templates_at, templates_from, template_type}

set_first : (xs ys : List ℕ) (k v : ℕ) → k < length xs → set (xs ++ ys) k v ≡ set xs k v ++ ys
set_first [] ys k v lt = absurd (omega arith)
set_first (x ∷ xs) ys zero v lt = refl
set_first (x ∷ xs) ys (suc k) v lt = ap (λ zs. x ∷ zs) (set_first xs ys k v (omega arith))

module _ (m : List ℕ) (i b : ℕ) (long : length m ≡ 512) (few : i < 16) where
  bytes : List ℕ
  bytes = to_le_bytes w32 b

  four : length bytes ≡ 4
  unfolding bytes
  four = refl

  room : 8 + 4 * i + length bytes ≤ length m
  room = let e = four in omega arith

  pub pointer_length : length (with_pointer m i b) ≡ 512
  unfolding with_pointer bytes
  pointer_length = length_put m (8 + 4 * i) (to_le_bytes w32 b) room ∙ long

  pub pointer_past : drop 328 (with_pointer m i b) ≡ drop 328 m
  unfolding with_pointer bytes
  pointer_past = drop_past m (8 + 4 * i) (to_le_bytes w32 b) room 328 (let e = four in omega arith)

  word_other : (j : ℕ) → (j + 4 ≤ 8 + 4 * i) ⊎ (12 + 4 * i ≤ j) → word_at (with_pointer m i b) j ≡ word_at m j
  unfolding with_pointer word_at bytes
  word_other j h = ap (from_le_bytes w32) (bytes_apart m (8 + 4 * i) (to_le_bytes w32 b) room 4 j (elim h [
    | inl before ↦ inl before
    | inr past ↦ inr (let e = four in omega arith)
  ]))

  front : take 4 (with_pointer m i b) ≡ take 4 m
  unfolding with_pointer bytes
  front = take_put m (8 + 4 * i) (to_le_bytes w32 b) room 4 (omega arith)

  pub pointer_other : (j : ℕ) → j ≢ i → pointer (with_pointer m i b) j ≡ pointer m j
  unfolding pointer
  pointer_other j ne = elim (cases_lt j i) [
    | inl before ↦ word_other (8 + 4 * j) (inl (omega arith))
    | inr past ↦ word_other (8 + 4 * j) (inr (omega arith))
  ]

  pub slot_still : (j : ℕ) → slot (with_pointer m i b) j ≡ slot m j
  unfolding slot
  slot_still j = λ k. (word_other (72 + 8 * j) (inr (omega arith)) k, word_other (76 + 8 * j) (inr (omega arith)) k)

  pub roots_still : roots_of (with_pointer m i b) ≡ roots_of m
  unfolding roots_of
  roots_still = λ k. filter_map (λ j. unless_empty (slot_still j k)) (range_with_len 0 32)

  pub pointer_mark : (count : ℕ) → marked count (with_pointer m i b) ≡ marked count m
  unfolding marked
  pointer_mark count = λ k. bytes_eq (front k) (88 ∷ 78 ∷ 57 ∷ 55 ∷ []) && (word_other 4 (inl (omega arith)) k == count)

  module _ (small : b < 2 ^ 32) where
    pub pointer_same : pointer (with_pointer m i b) i ≡ b
    unfolding pointer word_at with_pointer bytes
    pointer_same = ap (λ y. from_le_bytes w32 (take 4 y)) (drop_put m (8 + 4 * i) (to_le_bytes w32 b) room) ∙ from_le_bytes-to_le_bytes_4 b small

    numbers_set : numbers_of (with_pointer m i b) ≡ set (numbers_of m) i b
    numbers_set =
        let ptrs = map (λ j. pointer m j) (range_with_len 0 16) in
        let slots = map (λ j. (slot m j).0) (range_with_len 0 32) in
        let at : 0 + i ≡ i = omega arith in
        let here : pointer (with_pointer m i b) (0 + i) ≡ b = ap (λ n. pointer (with_pointer m i b) n) at ∙ pointer_same in
        ap (λ ys. map (λ j. pointer (with_pointer m i b) j) (range_with_len 0 16) ++ ys) (map_agree (λ j. (slot (with_pointer m i b) j).0) (λ j. (slot m j).0) (range_with_len 0 32) (λ j n. ap (λ (x : ℕ × ℕ). x.0) (slot_still j)))
        ∙ (ap (λ xs. xs ++ slots) (map_set (λ j. pointer m j) (λ j. pointer (with_pointer m i b) j) 0 16 i b here (λ j ne. pointer_other j (λ e. ne (e ∙ sym at))) few)
        ∙ sym (set_first ptrs slots i b few))

    -- a block that was not named may be named there
    pub pointer_fits : (T : Types) → HasBuiltIns T → IsTrue (fits T 0 m) → (Contains (blocks_of (owned_by_root m)) b → ⊥) → IsTrue (fits T 0 (with_pointer m i b))
    pointer_fits T h fit out =
        let old = and_parts (named_once T 0 m) (within_size T 0 m) fit in
        let once : distinct (nonzero (numbers_of m)) ≡ true = ap distinct (sym (named_numbers m)) ∙ (ap (λ ps. distinct (blocks_of ps)) (sym (h.root_owns m)) ∙ old.0) in
        let out' : b ≢ 0 → Contains (nonzero (numbers_of m)) b → ⊥ = λ ne k. out (subst (λ ns. Contains ns b) (sym (named_numbers m)) k) in
        let new : distinct (blocks_of (owned_by_root (with_pointer m i b))) ≡ true = ap distinct (named_numbers (with_pointer m i b) ∙ ap nonzero numbers_set) ∙ different_set (numbers_of m) i b once out' in
        let size : within_size T 0 (with_pointer m i b) ≡ true =
        ap (λ n. blank (drop n (with_pointer m i b))) (h.root_size (with_pointer m i b)) ∙ (ap blank pointer_past ∙ (ap (λ n. blank (drop n m)) (sym (h.root_size m)) ∙ old.1)) in
        and_from (named_once T 0 (with_pointer m i b)) (within_size T 0 (with_pointer m i b)) (ap (λ ps. distinct (blocks_of ps)) (h.root_owns (with_pointer m i b)) ∙ new) size

    -- what the catalogue names
    pub templates_name : (c u : ℕ) → Contains (templates_of (with_pointer m i b)) (c, u) → ((c ≡ b) × (u ≡ 1)) ⊎ Contains (templates_of m) (c, u)
    templates_name c u h =
        let at = templates_at (with_pointer m i b) c u h in
        let ty = template_type (with_pointer m i b) c u h in
        elim (cases_eq at.0 i) [
          | inl same ↦ inl (sym at.2 ∙ (ap (pointer (with_pointer m i b)) same ∙ pointer_same), ty)
          | inr other ↦ inr (subst (λ t. Contains (templates_of m) (c, t)) (sym ty) (templates_from m at.0 c at.1 (sym (pointer_other at.0 other) ∙ at.2) at.3))
        ]

    pub pointer_names : (c u : ℕ) → Contains (owned_by_root (with_pointer m i b)) (c, u) → ((c ≡ b) × (u ≡ 1)) ⊎ Contains (owned_by_root m) (c, u)
    unfolding owned_by_root
    pointer_names c u h = elim (Contains-append_cases (templates_of (with_pointer m i b)) (roots_of (with_pointer m i b)) (c, u) h) [
      | inl t ↦ elim (templates_name c u t) [ inl new ↦ inl new | inr old ↦ inr (Contains-append_left (templates_of m) (roots_of m) (c, u) old) ]
      | inr r ↦ inr (Contains-append_right (templates_of m) (roots_of m) (c, u) (subst (λ ps. Contains ps (c, u)) roots_still r))
    ]

    pub pointer_owned : b ≢ 0 → Contains (owned_by_root (with_pointer m i b)) (b, 1)
    unfolding owned_by_root
    pointer_owned ne = Contains-append_left (templates_of (with_pointer m i b)) (roots_of (with_pointer m i b)) (b, 1) (templates_from (with_pointer m i b) i b few pointer_same ne)

    module _ (empty : pointer m i ≡ 0) where
      -- and what was named is named still
      pub pointer_keeps : KeepsPointers m (with_pointer m i b)
      pointer_keeps j lt ne = pointer_other j (λ e. ne (ap (pointer m) e ∙ empty))

      pub pointer_stays : (c u : ℕ) → Contains (owned_by_root m) (c, u) → Contains (owned_by_root (with_pointer m i b)) (c, u)
      unfolding owned_by_root
      pointer_stays c u h = elim (Contains-append_cases (templates_of m) (roots_of m) (c, u) h) [
        | inl t ↦
            let at = templates_at m c u t in
            let other : at.0 ≢ i = λ e. at.3 (sym at.2 ∙ (ap (pointer m) e ∙ empty)) in
            Contains-append_left (templates_of (with_pointer m i b)) (roots_of (with_pointer m i b)) (c, u)
            (subst (λ t. Contains (templates_of (with_pointer m i b)) (c, t)) (sym (template_type m c u t)) (templates_from (with_pointer m i b) at.0 c at.1 (pointer_other at.0 other ∙ at.2) at.3))
        | inr r ↦ Contains-append_right (templates_of (with_pointer m i b)) (roots_of (with_pointer m i b)) (c, u) (subst (λ ps. Contains ps (c, u)) (sym roots_still) r)
      ]
