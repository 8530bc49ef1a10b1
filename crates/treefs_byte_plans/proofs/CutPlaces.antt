-- What is left of the search for a cut, from a place on.
use Rattle.std.proofs.Common.{◌≡◌, ℕ, suc, ◌+◌, ◌-◌, ◌/◌, ◌^◌, ◌<◌, ◌≤◌, ◌≢◌, Bool, true, false, List, [], ◌∷◌, Option, None, Some, refl, sym, ◌∙◌, ap, arith, eq-eqb, ne_eqb, not, if◌then◌else◌}
use Rattle.std.specs.Prelude.{◌||◌}
use Rattle.std.specs.List.{list_any, range_with_len}
use Rattle.std.specs.Option.{option_or}
use Rattle.treefs_format.specs.Paths.{node_offset}
use Rattle.treefs_lookup.specs.Names.{first_some}
use Rattle.treefs_model.specs.Reading.{pointed}
use Rattle.treefs_byte_plans.specs.Cuts.{cut_in, cut_place, is_pointed, kept_below, own_cut, unless_missing}
use Rattle.treefs_byte_plans.specs.declared.cuts.Cut.{Cut}

pub places_more : (place : ℕ) → place < 127 → range_with_len place (127 - place) ≡ place ∷ range_with_len (place + 1) (127 - (place + 1))
places_more place lt = let e : 127 - place ≡ suc (127 - (place + 1)) = omega arith in ap (range_with_len place) e

pub places_none : (place : ℕ) → 127 ≤ place → range_with_len place (127 - place) ≡ []
places_none place ge = let e : 127 - place ≡ 0 = omega arith in ap (range_with_len place) e

-- Of one node

module _ (content : ℕ → List ℕ) (block place : ℕ) where
  unfoldable pub own_left : ℕ → Option Cut
  own_left other = if list_any (is_pointed content block) (range_with_len other (127 - other)) then Some (record { block = block; place = place }) else None

  pub own_first : own_cut content block place ≡ own_left place
  unfolding own_left
  own_first = refl

  own_test : (other : ℕ) (t : Bool) → other < 127 → is_pointed content block other ≡ t →
      own_left other ≡ (if t || list_any (is_pointed content block) (range_with_len (other + 1) (127 - (other + 1))) then Some (record { block = block; place = place }) else None)
  unfolding own_left
  own_test other t lt e =
      ap (λ l. if list_any (is_pointed content block) l then Some (record { block = block; place = place }) else None) (places_more other lt)
      ∙ ap (λ (b : Bool). if b || list_any (is_pointed content block) (range_with_len (other + 1) (127 - (other + 1))) then Some (record { block = block; place = place }) else None) e

  pub own_here : (other : ℕ) → other < 127 → pointed content block (node_offset other) ≢ 0 → own_left other ≡ Some (record { block = block; place = place })
  own_here other lt some = own_test other true lt (ap not (ne_eqb (pointed content block (node_offset other)) 0 some))

  pub own_on : (other : ℕ) → other < 127 → pointed content block (node_offset other) ≡ 0 → own_left other ≡ own_left (other + 1)
  unfolding own_left
  own_on other lt none = own_test other false lt (ap not (eq-eqb (pointed content block (node_offset other)) 0 none))

  pub own_ends : (other : ℕ) → 127 ≤ other → own_left other ≡ None
  unfolding own_left
  own_ends other ge = ap (λ l. if list_any (is_pointed content block) l then Some (record { block = block; place = place }) else None) (places_none other ge)

-- Of a tree

module _ (content : ℕ → List ℕ) (h block keep : ℕ) where
  abbrev pub below : ℕ → Option Cut
  below place = unless_missing (λ child. cut_in content h child (kept_below keep (127 ^ h) place)) (pointed content block (node_offset place))

  unfoldable pub cut_left : ℕ → Option Cut
  cut_left place = option_or (first_some below (range_with_len place (127 - place))) (own_cut content block (cut_place keep (127 ^ h)))

  pub cut_first : (height first : ℕ) → height ≡ suc h → first ≡ keep / 127 ^ h → cut_in content height block keep ≡ cut_left first
  unfolding cut_left
  cut_first height first e is = ap (λ n. cut_in content n block keep) e ∙ ap cut_left (sym is)

  pub cut_here : (place : ℕ) (cut : Cut) → place < 127 → below place ≡ Some cut → cut_left place ≡ Some cut
  unfolding cut_left
  cut_here place cut lt e =
      ap (λ l. option_or (first_some below l) (own_cut content block (cut_place keep (127 ^ h)))) (places_more place lt)
      ∙ ap (λ o. option_or (option_or o (first_some below (range_with_len (place + 1) (127 - (place + 1))))) (own_cut content block (cut_place keep (127 ^ h)))) e

  pub cut_on : (place : ℕ) → place < 127 → below place ≡ None → cut_left place ≡ cut_left (place + 1)
  unfolding cut_left
  cut_on place lt e =
      ap (λ l. option_or (first_some below l) (own_cut content block (cut_place keep (127 ^ h)))) (places_more place lt)
      ∙ ap (λ o. option_or (option_or o (first_some below (range_with_len (place + 1) (127 - (place + 1))))) (own_cut content block (cut_place keep (127 ^ h)))) e

  pub cut_ends : (place : ℕ) → 127 ≤ place → cut_left place ≡ own_cut content block (cut_place keep (127 ^ h))
  unfolding cut_left
  cut_ends place ge = ap (λ l. option_or (first_some below l) (own_cut content block (cut_place keep (127 ^ h)))) (places_none place ge)

  pub below_none : (place child : ℕ) → child ≡ pointed content block (node_offset place) → child ≡ 0 → below place ≡ None
  below_none place child is none = ap (unless_missing (λ c. cut_in content h c (kept_below keep (127 ^ h) place))) (sym is ∙ none)

  pub below_is : (place child kept span : ℕ) (found : Option Cut) → child ≡ pointed content block (node_offset place) → child ≢ 0 → span ≡ 127 ^ h →
      kept ≡ kept_below keep span place → found ≡ cut_in content h child kept → below place ≡ found
  below_is place child kept span found is some spans keeps e =
      ap (unless_missing (λ c. cut_in content h c (kept_below keep (127 ^ h) place))) (sym is)
      ∙ (ap (λ (t : Bool). if t then None else cut_in content h child (kept_below keep (127 ^ h) place)) (ne_eqb child 0 some)
      ∙ (ap (cut_in content h child) (sym (keeps ∙ ap (λ s. kept_below keep s place) spans)) ∙ sym e))
