-- The blocks that are dropped from a place on.
use Rattle.std.proofs.Common.{◌≡◌, ℕ, ◌+◌, ◌-◌, ◌<◌, ◌≤◌, ◌≢◌, Bool, List, [], ◌∷◌, ◌++◌, cond, refl, sym, ◌∙◌, ap, append_assoc, eq-eqb, ne_eqb, not, ◌==◌}
use Rattle.std.specs.Prelude.{filter, map}
use Rattle.std.specs.List.{range_with_len}
use Rattle.std.proofs.lemmas.List.{append-nil}
use Rattle.treefs_format.specs.Paths.{node_offset}
use Rattle.treefs_model.specs.Reading.{pointed}
use Rattle.treefs_byte_plans.specs.Drops.{dropped}
use Rattle.treefs_byte_plans.proofs.CutPlaces.{places_more, places_none}

module _ (content : ℕ → List ℕ) (block : ℕ) where
  abbrev kept : List ℕ → List ℕ
  kept places = filter (λ b. not (b == 0)) (map (λ p. pointed content block (node_offset p)) places)

  unfoldable pub dropped_left : ℕ → List ℕ
  dropped_left place = dropped content block place

  pub left_first : (place : ℕ) → dropped_left place ≡ dropped content block place
  unfolding dropped_left
  left_first place = refl

  pub left_none : (place : ℕ) → 127 ≤ place → dropped_left place ≡ []
  unfolding dropped_left
  left_none place ge = ap kept (places_none place ge)

  pub left_past : (place below : ℕ) → place < 127 → below ≡ pointed content block (node_offset place) → below ≡ 0 → dropped_left place ≡ dropped_left (place + 1)
  unfolding dropped_left
  left_past place below lt is none =
      ap kept (places_more place lt)
      ∙ ap (λ (t : Bool). cond (not t) (pointed content block (node_offset place) ∷ kept (range_with_len (place + 1) (127 - (place + 1)))) (kept (range_with_len (place + 1) (127 - (place + 1))))) (eq-eqb (pointed content block (node_offset place)) 0 (sym is ∙ none))

  pub left_more : (place below : ℕ) → place < 127 → below ≡ pointed content block (node_offset place) → below ≢ 0 → dropped_left place ≡ below ∷ dropped_left (place + 1)
  unfolding dropped_left
  left_more place below lt is some =
      ap kept (places_more place lt)
      ∙ (ap (λ (t : Bool). cond (not t) (pointed content block (node_offset place) ∷ kept (range_with_len (place + 1) (127 - (place + 1)))) (kept (range_with_len (place + 1) (127 - (place + 1))))) (ne_eqb (pointed content block (node_offset place)) 0 (λ e. some (is ∙ e)))
      ∙ ap (λ b. b ∷ kept (range_with_len (place + 1) (127 - (place + 1)))) (sym is))

  -- those before a place, and those from there on
  pub joined_past : (all front : List ℕ) (place below : ℕ) → place < 127 → below ≡ pointed content block (node_offset place) → below ≡ 0 → all ≡ front ++ dropped_left place → all ≡ front ++ dropped_left (place + 1)
  joined_past all front place below lt is none e = e ∙ ap (λ l. front ++ l) (left_past place below lt is none)

  pub joined_more : (all front longer : List ℕ) (place below : ℕ) → place < 127 → below ≡ pointed content block (node_offset place) → below ≢ 0 → longer ≡ front ++ below ∷ [] → all ≡ front ++ dropped_left place →
      all ≡ longer ++ dropped_left (place + 1)
  joined_more all front longer place below lt is some more e =
      e ∙ (ap (λ l. front ++ l) (left_more place below lt is some) ∙ (sym (append_assoc front (below ∷ []) (dropped_left (place + 1))) ∙ ap (λ l. l ++ dropped_left (place + 1)) (sym more)))

  pub joined_none : (all front : List ℕ) (place : ℕ) → 127 ≤ place → all ≡ front ++ dropped_left place → front ≡ all
  joined_none all front place ge e = sym (e ∙ (ap (λ l. front ++ l) (left_none place ge) ∙ append-nil front))
