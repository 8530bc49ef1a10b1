-- Where nodes have no more pointers to drop, no leaf of the trees is there but those that are kept.
use Rattle.std.proofs.Common.{◌≡◌, ◌≢◌, ◌⊎◌, ℕ, zero, suc, ◌+◌, ◌-◌, ◌/◌, ◌%◌, ◌^◌, ◌<◌, ◌≤◌, Bool, true, false, not, ◌||◌, List, [], ◌∷◌, Option, None, Some, refl, sym, ◌∙◌, ap, inl, inr, arith, subst, if◌then◌else◌}
use Rattle.std.specs.Prelude.{map, ◌==◌}
use Rattle.std.specs.List.{list_any, range_with_len}
use Rattle.std.specs.Option.{option_or}
use Rattle.std.proofs.lemmas.Bool.{cases_eq, cases_lt, eq-eqb, eqb-false, eqb-true, le-ltb}
use Rattle.treefs_format.specs.Paths.{first_leaf, height_of, leaf_count, leaf_offset, node_offset, place_in_tree, places, tree_offset, tree_steps}
use Rattle.treefs_lookup.specs.Names.{first_some}
use Rattle.treefs_model.specs.Reading.{block_at, leaf_block, pointed}
use Rattle.treefs_byte_plans.specs.Cuts.{cut_in, cut_place, is_pointed, kept_below, next_cut, own_cut, tree_cut, unless_missing}
use Rattle.treefs_byte_plans.specs.declared.cuts.Cut.{Cut}
use Rattle.treefs_laws.proofs.CutWays.{InTree, block_from, in_tree, offsets_end, places_end}

-- Nothing is found

none_of_two : (o p : Option Cut) → option_or o p ≡ None → (o ≡ None) × (p ≡ None)
none_of_two None p none = (refl, none)
none_of_two (Some cut) p none = absurd (cc none)

above : (a x : ℕ) → a ≤ x → x ≢ a → a + 1 ≤ x
above a x low ne = elim (cases_lt a x) [ inl lt ↦ omega arith | inr le ↦ absurd (ne (omega arith)) ]

none_first : (has : ℕ → Option Cut) (count a : ℕ) → first_some has (range_with_len a count) ≡ None → (x : ℕ) → a ≤ x → x < a + count → has x ≡ None
none_first has zero a none x low high = absurd (omega arith)
none_first has (suc count) a none x low high =
    let two = none_of_two (has a) (first_some has (range_with_len (a + 1) count)) none in
    elim (cases_eq x a) [
      | inl same ↦ ap has same ∙ two.0
      | inr ne ↦ none_first has count (a + 1) two.1 x (above a x low ne) (omega arith)
    ]

neither : (s t : Bool) → (s || t) ≡ false → (s ≡ false) × (t ≡ false)
neither false t none = (refl, none)
neither true t none = absurd (cc none)

none_any : (test : ℕ → Bool) (count a : ℕ) → list_any test (range_with_len a count) ≡ false → (x : ℕ) → a ≤ x → x < a + count → test x ≡ false
none_any test zero a none x low high = absurd (omega arith)
none_any test (suc count) a none x low high =
    let two = neither (test a) (list_any test (range_with_len (a + 1) count)) none in
    elim (cases_eq x a) [
      | inl same ↦ ap test same ∙ two.0
      | inr ne ↦ none_any test count (a + 1) two.1 x (above a x low ne) (omega arith)
    ]

not_false : (t : Bool) → not t ≡ false → t ≡ true
not_false true e = refl
not_false false e = absurd (cc e)

none_own : (content : ℕ → List ℕ) (block place : ℕ) → own_cut content block place ≡ None → (d : ℕ) → place ≤ d → d < 127 → pointed content block
    (node_offset d) ≡ 0
none_own content block place none d low high = by (list_any (is_pointed content block) (range_with_len place (127 - place))) refl none
  where
    by : (t : Bool) → list_any (is_pointed content block) (range_with_len place (127 - place)) ≡ t →
        ◌≡◌ {A = Option Cut} (if t then Some (record { block = block; place = place }) else None) None → pointed content block (node_offset d) ≡ 0
    by true is none = absurd (cc none)
    by false is none = eqb-true (pointed content block (node_offset d)) 0
        (not_false (pointed content block (node_offset d) == 0) (none_any (is_pointed content block) (127 - place) place is d low (omega arith)))

-- from no block no pointer leads on
pub nothing_below : (content : ℕ → List ℕ) (os : List ℕ) → block_at content 0 os ≡ 0
nothing_below content [] = refl
nothing_below content (o ∷ os) = ap (λ b. pointed content b o) (nothing_below content os)

-- Where a leaf stands that is not kept: at or past the first pointer that would go, or below the child in which the kept leaves end

abbrev StandsPast : ℕ → ℕ → ℕ → Type 0
StandsPast keep r span = (cut_place keep span ≤ r / span % 127) ⊎ ((r / span % 127 ≡ keep / span) × (keep % span ≤ r % span) × (keep % span ≢ 0))

past_by : (keep r span : ℕ) → (keep / span ≤ r / span % 127) → (r / span % 127 ≡ keep / span → keep % span ≤ r % span) → StandsPast keep r span
past_by keep r span low rest = by (keep % span == 0) refl
  where
    by : (t : Bool) → (keep % span == 0) ≡ t → StandsPast keep r span
    by true e = inl (subst (λ t. (if t then keep / span else keep / span + 1) ≤ r / span % 127) (sym e) low)
    by false e = elim (cases_eq (r / span % 127) (keep / span)) [
      | inl same ↦ inr (same, rest same, eqb-false (keep % span) 0 e)
      | inr ne ↦ inl (subst (λ t. (if t then keep / span else keep / span + 1) ≤ r / span % 127) (sym e) (above (keep / span) (r / span % 127) low ne))
    ]

past_one : (keep r : ℕ) → keep ≤ r → r < 127 → StandsPast keep r 1
past_one keep r le lt = past_by keep r 1 (omega arith) (λ same. omega arith)

past_two : (keep r : ℕ) → keep ≤ r → r < 16129 → StandsPast keep r 127
past_two keep r le lt = past_by keep r 127 (omega arith) (λ same. omega arith)

past_three : (keep r : ℕ) → keep ≤ r → r < 2048383 → StandsPast keep r 16129
past_three keep r le lt = past_by keep r 16129 (omega arith) (λ same. omega arith)

past_four : (keep r : ℕ) → keep ≤ r → r < 260144641 → StandsPast keep r 2048383
past_four keep r le lt = past_by keep r 2048383 (omega arith) (λ same. omega arith)

stands_past : (h keep r : ℕ) → h ≤ 3 → keep ≤ r → r < 127 ^ suc h → StandsPast keep r (127 ^ h)
stands_past zero keep r few le lt = past_one keep r le lt
stands_past (suc zero) keep r few le lt = past_two keep r le lt
stands_past (suc (suc zero)) keep r few le lt = past_three keep r le lt
stands_past (suc (suc (suc zero))) keep r few le lt = past_four keep r le lt
stands_past (suc (suc (suc (suc h)))) keep r few le lt = absurd (omega arith)

rest_small : (h r : ℕ) → h ≤ 3 → r % 127 ^ h < 127 ^ h
rest_small zero r few = omega arith
rest_small (suc zero) r few = omega arith
rest_small (suc (suc zero)) r few = omega arith
rest_small (suc (suc (suc zero))) r few = omega arith
rest_small (suc (suc (suc (suc h)))) r few = absurd (omega arith)

whole_rest : (keep : ℕ) → keep % 127 ^ 0 ≡ 0
whole_rest keep = omega arith

small_rest : (x : ℕ) → x % 127 < 127
small_rest x = omega arith

least : (a b : ℕ) → a ≡ b → b ≤ a
least a b same = omega arith

within : (q d : ℕ) → q ≤ d → d < 127 → d < q + (127 - q)
within q d low high = omega arith

-- Leaves of a tree

module _ (content : ℕ → List ℕ) (h block keep : ℕ) (few : h ≤ 3) (none : cut_in content (suc h) block keep ≡ None)
    (lower : (child : ℕ) → cut_in content h child (keep % 127 ^ h) ≡ None → (r : ℕ) → keep % 127 ^ h ≤ r → r < 127 ^ h → keep % 127 ^ h ≢ 0 →
    block_at content child (map node_offset (places h r)) ≡ 0) (r : ℕ) (le : keep ≤ r) (lt : r < 127 ^ suc h) where
  abbrev d : ℕ
  d = r / 127 ^ h % 127

  abbrev child : ℕ
  child = pointed content block (node_offset d)

  abbrev Nothing : Type 0
  Nothing = block_at content child (map node_offset (places h (r % 127 ^ h))) ≡ 0

  abbrev cut_below : ℕ → Option Cut
  cut_below place = unless_missing (λ child. cut_in content h child (kept_below keep (127 ^ h) place)) (pointed content block (node_offset place))

  nothing : child ≡ 0 → Nothing
  nothing z = ap (λ b. block_at content b (map node_offset (places h (r % 127 ^ h)))) z ∙ nothing_below content (map node_offset (places h (r % 127 ^ h)))

  two : (first_some cut_below (range_with_len (keep / 127 ^ h) (127 - keep / 127 ^ h)) ≡ None) × (own_cut content block (cut_place keep (127 ^ h)) ≡ None)
  two = none_of_two (first_some cut_below (range_with_len (keep / 127 ^ h) (127 - keep / 127 ^ h))) (own_cut content block (cut_place keep (127 ^ h))) none

  in_child : (t : Bool) → (child == 0) ≡ t → (if t then None else cut_in content h child (kept_below keep (127 ^ h) d)) ≡ None → d ≡ keep / 127 ^ h →
      keep % 127 ^ h ≤ r % 127 ^ h → keep % 127 ^ h ≢ 0 → Nothing
  in_child true e none same rest some = nothing (eqb-true child 0 e)
  in_child false e none same rest some =
      lower child (subst (λ k. cut_in content h child k ≡ None) (ap (λ t. if t then keep % 127 ^ h else 0) (eq-eqb d (keep / 127 ^ h) same)) none)
      (r % 127 ^ h) rest (rest_small h r few) some

  by : StandsPast keep r (127 ^ h) → Nothing
  by (inl past) = nothing (none_own content block (cut_place keep (127 ^ h)) two.1 d past (small_rest (r / 127 ^ h)))
  by (inr (same, rest, some)) =
      let low = least d (keep / 127 ^ h) same in
      in_child (child == 0) refl
      (none_first cut_below (127 - keep / 127 ^ h) (keep / 127 ^ h) two.0 d low (within (keep / 127 ^ h) d low (small_rest (r / 127 ^ h)))) same rest some

  none_at : block_at content block (map node_offset (places (suc h) r)) ≡ 0
  none_at =
      ap (λ ps. block_at content block (map node_offset ps)) (places_end h r few)
      ∙ (ap (block_at content block) (offsets_end (places h (r % 127 ^ h)) d)
      ∙ (block_from content block (node_offset d) (map node_offset (places h (r % 127 ^ h))) ∙ by (stands_past h keep r few le lt)))

none_in : (content : ℕ → List ℕ) (h block keep : ℕ) → h ≤ 3 → cut_in content (suc h) block keep ≡ None → (r : ℕ) → keep ≤ r → r < 127 ^ suc h →
    block_at content block (map node_offset (places (suc h) r)) ≡ 0
none_in content zero block keep few none r le lt =
    none_at content zero block keep few none (λ child gone r' le' lt' some. absurd (some (whole_rest keep))) r le lt
none_in content (suc h) block keep few none r le lt =
    none_at content (suc h) block keep few none (λ child gone r' le' lt' some. none_in content h child (keep % 127 ^ suc h) (omega arith) gone r' le' lt') r
    le lt

-- Of an inode

module _ (content : ℕ → List ℕ) (c keep : ℕ) (none : next_cut content c keep ≡ None) where
  none_of_tree : (h : ℕ) → suc h ≤ 4 → tree_cut content c keep (suc h) ≡ None
  none_of_tree h few = by h few
    where
      four : (tree_cut content c keep 4 ≡ None) × (first_some (tree_cut content c keep) (3 ∷ 2 ∷ 1 ∷ []) ≡ None)
      four = none_of_two (tree_cut content c keep 4) (first_some (tree_cut content c keep) (3 ∷ 2 ∷ 1 ∷ [])) none

      three : (tree_cut content c keep 3 ≡ None) × (first_some (tree_cut content c keep) (2 ∷ 1 ∷ []) ≡ None)
      three = none_of_two (tree_cut content c keep 3) (first_some (tree_cut content c keep) (2 ∷ 1 ∷ [])) four.1

      two : (tree_cut content c keep 2 ≡ None) × (first_some (tree_cut content c keep) (1 ∷ []) ≡ None)
      two = none_of_two (tree_cut content c keep 2) (first_some (tree_cut content c keep) (1 ∷ [])) three.1

      by : (h : ℕ) → suc h ≤ 4 → tree_cut content c keep (suc h) ≡ None
      by zero few = (none_of_two (tree_cut content c keep 1) None two.1).0
      by (suc zero) few = two.0
      by (suc (suc zero)) few = three.0
      by (suc (suc (suc zero))) few = four.0
      by (suc (suc (suc (suc h)))) few = absurd (omega arith)

  -- the leaf at a place of a tree
  none_there : (h r : ℕ) → suc h ≤ 4 → keep - first_leaf (suc h) ≤ r → r < 127 ^ suc h →
      block_at content (pointed content c (tree_offset (suc h))) (map node_offset (places (suc h) r)) ≡ 0
  none_there h r few le lt = by (pointed content c (tree_offset (suc h)) == 0) refl (none_of_tree h few)
    where
      by : (t : Bool) → (pointed content c (tree_offset (suc h)) == 0) ≡ t →
          (if t then None else cut_in content (suc h) (pointed content c (tree_offset (suc h))) (keep - first_leaf (suc h))) ≡ None →
          block_at content (pointed content c (tree_offset (suc h))) (map node_offset (places (suc h) r)) ≡ 0
      by true e gone =
          ap (λ b. block_at content b (map node_offset (places (suc h) r))) (eqb-true (pointed content c (tree_offset (suc h))) 0 e)
          ∙ nothing_below content (map node_offset (places (suc h) r))
      by false e gone = none_in content h (pointed content c (tree_offset (suc h))) (keep - first_leaf (suc h)) (omega arith) gone r le lt

  abbrev NoneAt : ℕ → ℕ → Type 0
  NoneAt i h = block_at content (pointed content c (tree_offset h)) (map node_offset (places h (i - first_leaf h))) ≡ 0

  pub none_from : (i : ℕ) → 16 ≤ i → i < leaf_count → keep ≤ i → leaf_block content c i ≡ 0
  none_from i low few le =
      ap (λ t. block_at content c (if t then leaf_offset i ∷ [] else tree_steps (height_of i) (place_in_tree i))) (le-ltb i 16 low)
      ∙ (block_from content c (tree_offset (height_of i)) (map node_offset (places (height_of i) (place_in_tree i))) ∙ by (height_of i) (in_tree i))
    where
      by : (h : ℕ) → InTree i h → NoneAt i h
      by h (inl a) = let lt = a.1 in absurd (omega arith)
      by h (inr (inl a)) = subst (NoneAt i) (sym a.0) (let b = a.1 in let d = a.2 in none_there 0 (i - 16) (omega arith) (omega arith) (omega arith))
      by h (inr (inr (inl a))) = subst (NoneAt i) (sym a.0) (let b = a.1 in let d = a.2 in none_there 1 (i - 143) (omega arith) (omega arith) (omega arith))
      by h (inr (inr (inr (inl a)))) = subst (NoneAt i) (sym a.0) (let b = a.1 in let d = a.2 in none_there 2 (i - 16272) (omega arith) (omega arith)
          (omega arith))
      by h (inr (inr (inr (inr a)))) = subst (NoneAt i) (sym a.0) (let b = a.1 in none_there 3 (i - 2064655) (omega arith) (omega arith) (omega arith))
