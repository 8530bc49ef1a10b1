-- Where the pointers of nodes stand that a trim drops: past all leaves that are kept.
use Rattle.std.proofs.Common.{◌≡◌, ◌≢◌, ◌⊎◌, ℕ, zero, suc, ◌+◌, ◌-◌, ◌*◌, ◌/◌, ◌%◌, ◌^◌, ◌<◌, ◌≤◌, Bool, true, false, List, [], ◌∷◌, ◌++◌, length, drop, Option, None, Some, refl, sym, ◌∙◌, ap, inl, inr, arith, subst, append_assoc, if◌then◌else◌}
use Rattle.std.specs.Prelude.{All, Contains, map, min, nat_lt, slice_index, ◌==◌}
use Rattle.std.specs.List.{list_any, range_with_len}
use Rattle.std.specs.Option.{option_or}
use Rattle.std.proofs.lemmas.Bool.{cases_lt, eqb-false, eqb-true, le-ltb, lt-leb, lt-ltb}
use Rattle.std.proofs.lemmas.List.Elements.{All-cons, All-nil}
use Rattle.std.proofs.lemmas.Option.{same_Some}
use Rattle.xn_model.proofs.ForCallers.{Contains-head, Contains-tail, any_at, range_at}
use Rattle.treefs_format.specs.Leaves.{greatest_size, leaves_kept}
use Rattle.treefs_format.specs.Paths.{first_leaf, height_of, leaf_count, leaf_offset, node_offset, place_in_tree, places, steps, tree_offset, tree_steps}
use Rattle.treefs_lookup.specs.Bytes.{file_end}
use Rattle.treefs_lookup.specs.Names.{first_some}
use Rattle.treefs_model.specs.Reading.{block_at, pointed}
use Rattle.treefs_byte_plans.specs.Cuts.{cut_in, cut_place, is_pointed, kept_below, next_cut, own_cut, tree_cut, unless_missing}
use Rattle.treefs_byte_plans.specs.declared.cuts.Cut.{Cut}
use Rattle.treefs_values.specs.Dropped.{LeadsOn}
use Rattle.treefs_values.specs.Ways.{IsWay}
use Rattle.treefs_values.proofs.ForCallers.{tree_way}

-- Ends of lists

no_end : (xs ys : List ℕ) (y : ℕ) → [] ≡ xs ++ y ∷ ys → ⊥
no_end [] ys y e = absurd (cc e)
no_end (x ∷ xs) ys y e = absurd (cc e)

first_same : (x y : ℕ) (xs ys : List ℕ) → x ∷ xs ≡ y ∷ ys → x ≡ y
first_same x y xs ys e = ap (λ (l : List ℕ). slice_index l 0) e

rest_same : (x y : ℕ) (xs ys : List ℕ) → x ∷ xs ≡ y ∷ ys → xs ≡ ys
rest_same x y xs ys e = ap (λ (l : List ℕ). drop 1 l) e

pub end_same : (xs ys : List ℕ) (a b : ℕ) → xs ++ a ∷ [] ≡ ys ++ b ∷ [] → (xs ≡ ys) × (a ≡ b)
end_same [] [] a b e = (refl, first_same a b [] [] e)
end_same [] (y ∷ ys) a b e = absurd (no_end ys [] b (rest_same a y [] (ys ++ b ∷ []) e))
end_same (x ∷ xs) [] a b e = absurd (no_end xs [] a (sym (rest_same x b (xs ++ a ∷ []) [] e)))
end_same (x ∷ xs) (y ∷ ys) a b e =
    let r = end_same xs ys a b (rest_same x y (xs ++ a ∷ []) (ys ++ b ∷ []) e) in
    let h = first_same x y (xs ++ a ∷ []) (ys ++ b ∷ []) e in
    ((λ j. h j ∷ r.0 j), r.1)

abbrev offset_place : ℕ → ℕ
offset_place o = (o - 4) / 4

of_place : (p : ℕ) → offset_place (node_offset p) ≡ p
of_place p = omega arith

of_places : (ps : List ℕ) → map offset_place (map node_offset ps) ≡ ps
of_places [] = refl
of_places (p ∷ ps) = (λ j. of_place p j ∷ of_places ps j)

of_parts : (further : List ℕ) (p : ℕ) (ps : List ℕ) → map offset_place (further ++ node_offset p ∷ map node_offset ps) ≡ map offset_place further ++ p ∷ ps
of_parts [] p ps = of_places (p ∷ ps)
of_parts (f ∷ further) p ps = ap (λ l. offset_place f ∷ l) (of_parts further p ps)

pub offsets_end : (ps : List ℕ) (d : ℕ) → map node_offset (ps ++ d ∷ []) ≡ map node_offset ps ++ node_offset d ∷ []
offsets_end [] d = refl
offsets_end (p ∷ ps) d = ap (λ l. node_offset p ∷ l) (offsets_end ps d)

pub block_from : (content : ℕ → List ℕ) (block o : ℕ) (os : List ℕ) → block_at content block (os ++ o ∷ []) ≡ block_at content (pointed content block o) os
block_from content block o [] = refl
block_from content block o (p ∷ os) = ap (λ c. pointed content c p) (block_from content block o os)

-- Places in a tree, from its top

pub places_end : (h r : ℕ) → h ≤ 3 → places (suc h) r ≡ places h (r % 127 ^ h) ++ (r / 127 ^ h % 127) ∷ []
places_end zero r low = let e : r % 127 ≡ r / 1 % 127 = omega arith in (λ j. e j ∷ [])
places_end (suc zero) r low = let a : r % 127 ≡ r % 127 % 127 = omega arith in (λ j. a j ∷ (r / 127 % 127) ∷ [])
places_end (suc (suc zero)) r low =
    let a : r % 127 ≡ r % 16129 % 127 = omega arith in
    let b : r / 127 % 127 ≡ r % 16129 / 127 % 127 = omega arith in
    let c : r / 127 / 127 % 127 ≡ r / 16129 % 127 = omega arith in
    (λ j. a j ∷ b j ∷ c j ∷ [])
places_end (suc (suc (suc zero))) r low =
    let a : r % 127 ≡ r % 2048383 % 127 = omega arith in
    let b : r / 127 % 127 ≡ r % 2048383 / 127 % 127 = omega arith in
    let c : r / 127 / 127 % 127 ≡ r % 2048383 / 127 / 127 % 127 = omega arith in
    let d : r / 127 / 127 / 127 % 127 ≡ r / 2048383 % 127 = omega arith in
    (λ j. a j ∷ b j ∷ c j ∷ d j ∷ [])
places_end (suc (suc (suc (suc h)))) r low = absurd (omega arith)

place_low : (keep span x : ℕ) → cut_place keep span ≤ x → (keep / span ≤ x) × ((keep % span ≡ 0) ⊎ (keep / span + 1 ≤ x))
place_low keep span x le = by (keep % span == 0) refl le
  where
    by : (t : Bool) → (keep % span == 0) ≡ t → (if t then keep / span else keep / span + 1) ≤ x → (keep / span ≤ x) × ((keep % span ≡ 0) ⊎ (keep / span + 1 ≤ x))
    by true e le = (le, inl (eqb-true (keep % span) 0 e))
    by false e le = (omega arith, inr le)

-- numbers of a node's children: of each, so many leaves
own_one : (keep r x : ℕ) → x ≡ r / 1 % 127 → (keep / 1 ≤ x) × ((keep % 1 ≡ 0) ⊎ (keep / 1 + 1 ≤ x)) → keep ≤ r % 127
own_one keep r x is (a, inl z) = omega arith
own_one keep r x is (a, inr b) = omega arith

own_two : (keep r x : ℕ) → x ≡ r / 127 % 127 → (keep / 127 ≤ x) × ((keep % 127 ≡ 0) ⊎ (keep / 127 + 1 ≤ x)) → keep ≤ r % 16129
own_two keep r x is (a, inl z) = omega arith
own_two keep r x is (a, inr b) = omega arith

own_three : (keep r x : ℕ) → x ≡ r / 16129 % 127 → (keep / 16129 ≤ x) × ((keep % 16129 ≡ 0) ⊎ (keep / 16129 + 1 ≤ x)) → keep ≤ r % 2048383
own_three keep r x is (a, inl z) = omega arith
own_three keep r x is (a, inr b) = omega arith

own_four : (keep r x : ℕ) → x ≡ r / 2048383 % 127 → (keep / 2048383 ≤ x) × ((keep % 2048383 ≡ 0) ⊎ (keep / 2048383 + 1 ≤ x)) → keep ≤ r % 260144641
own_four keep r x is (a, inl z) = omega arith
own_four keep r x is (a, inr b) = omega arith

own_past : (h keep r x : ℕ) → h ≤ 3 → x ≡ r / 127 ^ h % 127 → cut_place keep (127 ^ h) ≤ x → keep ≤ r % 127 ^ suc h
own_past zero keep r x low is le = own_one keep r x is (place_low keep 1 x le)
own_past (suc zero) keep r x low is le = own_two keep r x is (place_low keep 127 x le)
own_past (suc (suc zero)) keep r x low is le = own_three keep r x is (place_low keep 16129 x le)
own_past (suc (suc (suc zero))) keep r x low is le = own_four keep r x is (place_low keep 2048383 x le)
own_past (suc (suc (suc (suc h)))) keep r x low is le = absurd (omega arith)

below_low : (keep span d y : ℕ) → keep / span ≤ d → kept_below keep span d ≤ y → ((d ≡ keep / span) × (keep % span ≤ y)) ⊎ (keep / span + 1 ≤ d)
below_low keep span d y low le = by (d == keep / span) refl le
  where
    by : (t : Bool) → (d == keep / span) ≡ t → (if t then keep % span else 0) ≤ y → ((d ≡ keep / span) × (keep % span ≤ y)) ⊎ (keep / span + 1 ≤ d)
    by true e le = inl (eqb-true d (keep / span) e, le)
    by false e le = let ne = eqb-false d (keep / span) e in elim (cases_lt (keep / span) d) [ inl lt ↦ inr (omega arith) | inr ge ↦ absurd (ne (omega arith)) ]

child_one : (keep r d : ℕ) → d ≡ r / 1 % 127 → ((d ≡ keep / 1) × (keep % 1 ≤ r % 1 % 1)) ⊎ (keep / 1 + 1 ≤ d) → keep ≤ r % 127
child_one keep r d is (inl (a, b)) = omega arith
child_one keep r d is (inr a) = omega arith

child_two : (keep r d : ℕ) → d ≡ r / 127 % 127 → ((d ≡ keep / 127) × (keep % 127 ≤ r % 127 % 127)) ⊎ (keep / 127 + 1 ≤ d) → keep ≤ r % 16129
child_two keep r d is (inl (a, b)) = omega arith
child_two keep r d is (inr a) = omega arith

child_three : (keep r d : ℕ) → d ≡ r / 16129 % 127 → ((d ≡ keep / 16129) × (keep % 16129 ≤ r % 16129 % 16129)) ⊎ (keep / 16129 + 1 ≤ d) → keep ≤ r % 2048383
child_three keep r d is (inl (a, b)) = omega arith
child_three keep r d is (inr a) = omega arith

child_four : (keep r d : ℕ) → d ≡ r / 2048383 % 127 → ((d ≡ keep / 2048383) × (keep % 2048383 ≤ r % 2048383 % 2048383)) ⊎ (keep / 2048383 + 1 ≤ d) → keep ≤ r % 260144641
child_four keep r d is (inl (a, b)) = omega arith
child_four keep r d is (inr a) = omega arith

child_past : (h keep r d : ℕ) → h ≤ 3 → d ≡ r / 127 ^ h % 127 → keep / 127 ^ h ≤ d → kept_below keep (127 ^ h) d ≤ r % 127 ^ h % 127 ^ h → keep ≤ r % 127 ^ suc h
child_past zero keep r d low is at le = child_one keep r d is (below_low keep 1 d (r % 1 % 1) at le)
child_past (suc zero) keep r d low is at le = child_two keep r d is (below_low keep 127 d (r % 127 % 127) at le)
child_past (suc (suc zero)) keep r d low is at le = child_three keep r d is (below_low keep 16129 d (r % 16129 % 16129) at le)
child_past (suc (suc (suc zero))) keep r d low is at le = child_four keep r d is (below_low keep 2048383 d (r % 2048383 % 2048383) at le)
child_past (suc (suc (suc (suc h)))) keep r d low is at le = absurd (omega arith)

-- Where a cut stands below a block

some_in : (has : ℕ → Option Cut) (xs : List ℕ) (cut : Cut) → first_some has xs ≡ Some cut → (x : ℕ) × Contains xs x × (has x ≡ Some cut)
some_in has [] cut e = absurd (cc e)
some_in has (x ∷ xs) cut e = by (some_in has xs cut) (has x) refl e
  where
    by : (first_some has xs ≡ Some cut → (y : ℕ) × Contains xs y × (has y ≡ Some cut)) → (o : Option Cut) → has x ≡ o → option_or o (first_some has xs) ≡ Some cut →
        (y : ℕ) × Contains (x ∷ xs) y × (has y ≡ Some cut)
    by later None is e = let r = later e in (r.0, Contains-tail x xs r.0 r.1, r.2)
    by later (Some c) is e = (x, Contains-head x xs, is ∙ e)

child_is : (below : ℕ → Option Cut) (child : ℕ) (cut : Cut) → unless_missing below child ≡ Some cut → (child ≢ 0) × (below child ≡ Some cut)
child_is below child cut e = by (child == 0) refl e
  where
    by : (t : Bool) → (child == 0) ≡ t → (if t then None else below child) ≡ Some cut → (child ≢ 0) × (below child ≡ Some cut)
    by true is e = absurd (cc e)
    by false is e = (eqb-false child 0 is, e)

pub record IsCutAt (content : ℕ → List ℕ) (h block keep : ℕ) (cut : Cut) : Type 0 where
  pub down : List ℕ
  pub leads : block_at content block (map node_offset down) ≡ cut.block
  pub short : suc (length down) ≤ h
  pub within : All (λ j. j < 127) down
  pub there : cut.block ≢ 0
  pub place : cut.place < 127
  pub past : (r p : ℕ) (front : List ℕ) → cut.place ≤ p → places h r ≡ front ++ p ∷ down → keep ≤ r % 127 ^ h

all_end : (P : ℕ → Type 0) (xs : List ℕ) (y : ℕ) → All P xs → P y → All P (xs ++ y ∷ [])
all_end P [] y all last = All-cons P y [] last (All-nil P)
all_end P (x ∷ xs) y all last = All-cons P x (xs ++ y ∷ []) (all 0 x (omega arith)) (all_end P xs y (λ k d lt. all (suc k) d (omega arith)) last)

long_end : (xs : List ℕ) (y : ℕ) → length (xs ++ y ∷ []) ≡ suc (length xs)
long_end [] y = refl
long_end (x ∷ xs) y = ap suc (long_end xs y)

module _ (content : ℕ → List ℕ) (h block keep : ℕ) (few : h ≤ 3) (some : block ≢ 0) (cut : Cut) where
  abbrev place : ℕ
  place = cut_place keep (127 ^ h)

  own_at : own_cut content block (cut_place keep (127 ^ h)) ≡ Some cut → IsCutAt content (suc h) block keep cut
  own_at e = by (list_any (is_pointed content block) (range_with_len (cut_place keep (127 ^ h)) (127 - cut_place keep (127 ^ h)))) refl e
    where
      by : (t : Bool) → list_any (is_pointed content block) (range_with_len place (127 - place)) ≡ t →
          (if t then Some (record { block = block; place = place }) else None) ≡ Some cut → IsCutAt content (suc h) block keep cut
      by false is e = absurd (cc e)
      by true is e =
          let same : ◌≡◌ {A = Cut} (record { block = block; place = place }) cut = same_Some (record { block = block; place = place }) cut e in
          let b : block ≡ cut.block = ap (λ (c : Cut). c.block) same in
          let p : place ≡ cut.place = ap (λ (c : Cut). c.place) same in
          let x = any_at (is_pointed content block) (range_with_len place (127 - place)) is in
          let at = range_at place (127 - place) x.0 x.1 in
          record {
            down = [];
            leads = b;
            short = omega arith;
            within = All-nil (λ j. j < 127);
            there = λ z. some (b ∙ z);
            place = let low = at.0 in let high = at.1 in let q = p in omega arith;
            past = λ r y front le is.
                let ends = end_same (places h (r % 127 ^ h)) front (r / 127 ^ h % 127) y (sym (places_end h r few) ∙ is) in
                own_past h keep r y few (sym ends.1) (subst (λ z. z ≤ y) (sym p) le);
          }

  child_at : (d : ℕ) → keep / 127 ^ h ≤ d → d < 127 → (IsCutAt content h (pointed content block (node_offset d)) (kept_below keep (127 ^ h) d) cut) →
      IsCutAt content (suc h) block keep cut
  child_at d low high below = record {
    down = below.down ++ d ∷ [];
    leads = ap (block_at content block) (offsets_end below.down d) ∙ (block_from content block (node_offset d) (map node_offset below.down) ∙ below.leads);
    short = let l = long_end below.down d in let s = below.short in omega arith;
    within = all_end (λ j. j < 127) below.down d below.within high;
    there = below.there;
    place = below.place;
    past = λ r p front le is.
        let whole : front ++ p ∷ (below.down ++ d ∷ []) ≡ (front ++ p ∷ below.down) ++ d ∷ [] = sym (append_assoc front (p ∷ below.down) (d ∷ [])) in
        let ends = end_same (places h (r % 127 ^ h)) (front ++ p ∷ below.down) (r / 127 ^ h % 127) d (sym (places_end h r few) ∙ (is ∙ whole)) in
        child_past h keep r d few (sym ends.1) low (below.past (r % 127 ^ h) p front le ends.0);
  }

pub cut_at : (content : ℕ → List ℕ) (h block keep : ℕ) (cut : Cut) → h ≤ 4 → block ≢ 0 → cut_in content h block keep ≡ Some cut → IsCutAt content h block keep cut
cut_at content zero block keep cut few some e = absurd (cc e)
cut_at content (suc h) block keep cut few some e =
    by (λ d there is. cut_at content h (pointed content block (node_offset d)) (kept_below keep (127 ^ h) d) cut (omega arith) there is)
    (first_some (λ place. unless_missing (λ child. cut_in content h child (kept_below keep (127 ^ h) place)) (pointed content block (node_offset place)))
    (range_with_len (keep / 127 ^ h) (127 - keep / 127 ^ h))) refl e
  where
    by : ((d : ℕ) → pointed content block (node_offset d) ≢ 0 → cut_in content h (pointed content block (node_offset d)) (kept_below keep (127 ^ h) d) ≡ Some cut →
        IsCutAt content h (pointed content block (node_offset d)) (kept_below keep (127 ^ h) d) cut) → (o : Option Cut) →
        first_some (λ place. unless_missing (λ child. cut_in content h child (kept_below keep (127 ^ h) place)) (pointed content block (node_offset place)))
        (range_with_len (keep / 127 ^ h) (127 - keep / 127 ^ h)) ≡ o → option_or o (own_cut content block (cut_place keep (127 ^ h))) ≡ Some cut →
        IsCutAt content (suc h) block keep cut
    by below None is e = own_at content h block keep (omega arith) some cut e
    by below (Some c) is e =
        let x = some_in (λ place. unless_missing (λ child. cut_in content h child (kept_below keep (127 ^ h) place)) (pointed content block (node_offset place)))
        (range_with_len (keep / 127 ^ h) (127 - keep / 127 ^ h)) cut (is ∙ e) in
        let at = range_at (keep / 127 ^ h) (127 - keep / 127 ^ h) x.0 x.1 in
        let child = child_is (λ child. cut_in content h child (kept_below keep (127 ^ h) x.0)) (pointed content block (node_offset x.0)) cut x.2 in
        let low = at.0 in
        let high = at.1 in
        child_at content h block keep (omega arith) some cut x.0 low (omega arith) (below x.0 child.0 child.1)

-- Leaves that are kept

-- all below the last one of a size
abbrev pub IsKeptLeaf : ℕ → ℕ → Type 0
IsKeptLeaf keep i = (keep ≤ leaf_count) × ((i + 1 ≤ keep) ⊎ (keep ≡ leaf_count))

-- the heights of leaves
abbrev pub InTree : ℕ → ℕ → Type 0
InTree i h = ((h ≡ 0) × (i < 16)) ⊎ (((h ≡ 1) × (16 ≤ i) × (i < 143)) ⊎ (((h ≡ 2) × (143 ≤ i) × (i < 16272))
    ⊎ (((h ≡ 3) × (16272 ≤ i) × (i < 2064655)) ⊎ ((h ≡ 4) × (2064655 ≤ i)))))

pub in_tree : (i : ℕ) → InTree i (height_of i)
in_tree i = elim (cases_lt i 16) [
  | inl a ↦ inl (ap (λ t. if t then 0 else if nat_lt i 143 then 1 else if nat_lt i 16272 then 2 else if nat_lt i 2064655 then 3 else 4) (lt-ltb i 16 a), a)
  | inr a ↦
      let first = ap (λ t. if t then 0 else if nat_lt i 143 then 1 else if nat_lt i 16272 then 2 else if nat_lt i 2064655 then 3 else 4) (le-ltb i 16 a) in
      elim (cases_lt i 143) [
        | inl b ↦ inr (inl (first ∙ ap (λ t. if t then 1 else if nat_lt i 16272 then 2 else if nat_lt i 2064655 then 3 else 4) (lt-ltb i 143 b), a, b))
        | inr b ↦
            let second = first ∙ ap (λ t. if t then 1 else if nat_lt i 16272 then 2 else if nat_lt i 2064655 then 3 else 4) (le-ltb i 143 b) in
            elim (cases_lt i 16272) [
              | inl c ↦ inr (inr (inl (second ∙ ap (λ t. if t then 2 else if nat_lt i 2064655 then 3 else 4) (lt-ltb i 16272 c), b, c)))
              | inr c ↦
                  let third = second ∙ ap (λ t. if t then 2 else if nat_lt i 2064655 then 3 else 4) (le-ltb i 16272 c) in
                  elim (cases_lt i 2064655) [
                    | inl d ↦ inr (inr (inr (inl (third ∙ ap (λ t. if t then 3 else 4) (lt-ltb i 2064655 d), c, d))))
                    | inr d ↦ inr (inr (inr (inr (third ∙ ap (λ t. if t then 3 else 4) (le-ltb i 2064655 d), d))))
                  ]
            ]
      ]
]

tree_one : (keep i : ℕ) → 16 ≤ i → i < 143 → IsKeptLeaf keep i → keep - 16 ≤ (i - 16) % 127 → ⊥
tree_one keep i low high (few, inl kept) le = omega arith
tree_one keep i low high (few, inr all) le = omega arith

tree_two : (keep i : ℕ) → 143 ≤ i → i < 16272 → IsKeptLeaf keep i → keep - 143 ≤ (i - 143) % 16129 → ⊥
tree_two keep i low high (few, inl kept) le = omega arith
tree_two keep i low high (few, inr all) le = omega arith

tree_three : (keep i : ℕ) → 16272 ≤ i → i < 2064655 → IsKeptLeaf keep i → keep - 16272 ≤ (i - 16272) % 2048383 → ⊥
tree_three keep i low high (few, inl kept) le = omega arith
tree_three keep i low high (few, inr all) le = omega arith

tree_four : (keep i : ℕ) → 2064655 ≤ i → IsKeptLeaf keep i → keep - 2064655 ≤ (i - 2064655) % 260144641 → ⊥
tree_four keep i low (few, inl kept) le = omega arith
tree_four keep i low (few, inr all) le = omega arith

kept_not_past : (h keep i : ℕ) → InTree i h → 1 ≤ h → IsKeptLeaf keep i → keep - first_leaf h ≤ (i - first_leaf h) % 127 ^ h → ⊥
kept_not_past zero keep i tree low kept le = omega arith
kept_not_past (suc zero) keep i tree low kept le = by tree
  where
    by : InTree i 1 → ⊥
    by (inl a) = omega (arith, a.0)
    by (inr (inl a)) = tree_one keep i a.1 a.2 kept le
    by (inr (inr (inl a))) = omega (arith, a.0)
    by (inr (inr (inr (inl a)))) = omega (arith, a.0)
    by (inr (inr (inr (inr a)))) = omega (arith, a.0)
kept_not_past (suc (suc zero)) keep i tree low kept le = by tree
  where
    by : InTree i 2 → ⊥
    by (inl a) = omega (arith, a.0)
    by (inr (inl a)) = omega (arith, a.0)
    by (inr (inr (inl a))) = tree_two keep i a.1 a.2 kept le
    by (inr (inr (inr (inl a)))) = omega (arith, a.0)
    by (inr (inr (inr (inr a)))) = omega (arith, a.0)
kept_not_past (suc (suc (suc zero))) keep i tree low kept le = by tree
  where
    by : InTree i 3 → ⊥
    by (inl a) = omega (arith, a.0)
    by (inr (inl a)) = omega (arith, a.0)
    by (inr (inr (inl a))) = omega (arith, a.0)
    by (inr (inr (inr (inl a)))) = tree_three keep i a.1 a.2 kept le
    by (inr (inr (inr (inr a)))) = omega (arith, a.0)
kept_not_past (suc (suc (suc (suc zero)))) keep i tree low kept le = by tree
  where
    by : InTree i 4 → ⊥
    by (inl a) = omega (arith, a.0)
    by (inr (inl a)) = omega (arith, a.0)
    by (inr (inr (inl a))) = omega (arith, a.0)
    by (inr (inr (inr (inl a)))) = omega (arith, a.0)
    by (inr (inr (inr (inr a)))) = tree_four keep i a.1 kept le
kept_not_past (suc (suc (suc (suc (suc h))))) keep i tree low kept le = by tree
  where
    by : InTree i (suc (suc (suc (suc (suc h))))) → ⊥
    by (inl a) = omega (arith, a.0)
    by (inr (inl a)) = omega (arith, a.0)
    by (inr (inr (inl a))) = omega (arith, a.0)
    by (inr (inr (inr (inl a)))) = omega (arith, a.0)
    by (inr (inr (inr (inr a)))) = omega (arith, a.0)

-- Of an inode

pub record IsNextCut (content : ℕ → List ℕ) (c keep : ℕ) (cut : Cut) : Type 0 where
  pub above : List ℕ
  pub level : ℕ
  pub way : IsWay above (suc level)
  pub leads : block_at content c above ≡ cut.block
  pub there : cut.block ≢ 0
  pub place : cut.place < 127
  pub past : (p i : ℕ) → cut.place ≤ p → IsKeptLeaf keep i → LeadsOn (steps i) (node_offset p ∷ above) → ⊥

module _ (content : ℕ → List ℕ) (c keep : ℕ) (cut : Cut) (h : ℕ) (low : 1 ≤ h) (high : h ≤ 4) (e : tree_cut content c keep h ≡ Some cut) where
  tree : (pointed content c (tree_offset h) ≢ 0) × (cut_in content h (pointed content c (tree_offset h)) (keep - first_leaf h) ≡ Some cut)
  tree = child_is (λ tree. cut_in content h tree (keep - first_leaf h)) (pointed content c (tree_offset h)) cut e

  at : IsCutAt content h (pointed content c (tree_offset h)) (keep - first_leaf h) cut
  at = cut_at content h (pointed content c (tree_offset h)) (keep - first_leaf h) cut high tree.0 tree.1

  abbrev above : List ℕ
  above = map node_offset at.down ++ tree_offset h ∷ []

  not_past : (p i : ℕ) → cut.place ≤ p → IsKeptLeaf keep i → LeadsOn (steps i) (node_offset p ∷ above) → ⊥
  not_past p i le kept leads = by (nat_lt i 16) refl
    where
      whole : leads.0 ++ node_offset p ∷ above ≡ (leads.0 ++ node_offset p ∷ map node_offset at.down) ++ tree_offset h ∷ []
      whole = sym (append_assoc leads.0 (node_offset p ∷ map node_offset at.down) (tree_offset h ∷ []))

      by : (t : Bool) → nat_lt i 16 ≡ t → ⊥
      by true is =
          let own : leaf_offset i ∷ [] ≡ steps i = sym (ap (λ t. if t then leaf_offset i ∷ [] else tree_steps (height_of i) (place_in_tree i)) is) in
          let ends = end_same [] (leads.0 ++ node_offset p ∷ map node_offset at.down) (leaf_offset i) (tree_offset h) (own ∙ (leads.1 ∙ whole)) in
          no_end leads.0 (map node_offset at.down) (node_offset p) ends.0
      by false is =
          let own : tree_steps (height_of i) (place_in_tree i) ≡ steps i = sym (ap (λ t. if t then leaf_offset i ∷ [] else tree_steps (height_of i) (place_in_tree i)) is) in
          let ends = end_same (map node_offset (places (height_of i) (place_in_tree i))) (leads.0 ++ node_offset p ∷ map node_offset at.down)
          (tree_offset (height_of i)) (tree_offset h) (own ∙ (leads.1 ∙ whole)) in
          let last : 108 + 4 * height_of i ≡ 108 + 4 * h = ends.1 in
          let same : height_of i ≡ h = omega (arith, last) in
          let are : places (height_of i) (place_in_tree i) ≡ map offset_place leads.0 ++ p ∷ at.down =
          sym (of_places (places (height_of i) (place_in_tree i))) ∙ (ap (map offset_place) ends.0 ∙ of_parts leads.0 p at.down) in
          let there : places h (i - first_leaf h) ≡ map offset_place leads.0 ++ p ∷ at.down =
          subst (λ k. places k (i - first_leaf k) ≡ map offset_place leads.0 ++ p ∷ at.down) same are in
          kept_not_past h keep i (subst (InTree i) same (in_tree i)) low kept (at.past (i - first_leaf h) p (map offset_place leads.0) le there)

  pub tree_next : IsNextCut content c keep cut
  tree_next = record {
    above = above;
    level = h - (length at.down + 1);
    way = tree_way h (suc (h - (length at.down + 1))) at.down (let s = at.short in omega arith) low high at.within;
    leads = block_from content c (tree_offset h) (map node_offset at.down) ∙ at.leads;
    there = at.there;
    place = at.place;
    past = not_past;
  }

pub next_is : (content : ℕ → List ℕ) (c keep : ℕ) (cut : Cut) → next_cut content c keep ≡ Some cut → IsNextCut content c keep cut
next_is content c keep cut e =
    let x = some_in (tree_cut content c keep) (4 ∷ 3 ∷ 2 ∷ 1 ∷ []) cut e in
    by x.0 x.2 (heights x.0 x.1)
  where
    heights : (h : ℕ) → Contains (4 ∷ 3 ∷ 2 ∷ 1 ∷ []) h → (1 ≤ h) × (h ≤ 4)
    heights h (zero, lt, is) = let same : 4 ≡ h = is in (omega arith, omega arith)
    heights h (suc zero, lt, is) = let same : 3 ≡ h = is in (omega arith, omega arith)
    heights h (suc (suc zero), lt, is) = let same : 2 ≡ h = is in (omega arith, omega arith)
    heights h (suc (suc (suc zero)), lt, is) = let same : 1 ≡ h = is in (omega arith, omega arith)
    heights h (suc (suc (suc (suc k))), lt, is) = absurd (omega arith)

    by : (h : ℕ) → tree_cut content c keep h ≡ Some cut → (1 ≤ h) × (h ≤ 4) → IsNextCut content c keep cut
    by h is few = tree_next content c keep cut h few.0 few.1 is

-- the leaf of a byte before a size
pub byte_kept : (size b : ℕ) → 384 ≤ b → b < size → IsKeptLeaf (leaves_kept (file_end size)) (b / 512)
byte_kept size b low lt = elim (cases_lt size greatest_size) [
  | inl less ↦
      let whole : file_end size ≡ size = omega arith in
      let keep : leaves_kept (file_end size) ≡ size / 512 + min 1 (size % 512) =
      ap leaves_kept whole ∙ ap (λ t. if t then 0 else size / 512 + min 1 (size % 512)) (lt-leb size 384 (omega arith)) in
      (omega arith, inl (omega arith))
  | inr more ↦
      let whole : file_end size ≡ greatest_size = omega arith in
      let keep : leaves_kept (file_end size) ≡ leaf_count = ap leaves_kept whole in
      (omega arith, inr keep)
]
