-- The pointers of a node from a place on, which a drop makes 0.
use Rattle.std.proofs.Common.{◌≡◌, ℕ, ◌+◌, ◌-◌, ◌*◌, ◌<◌, ◌≤◌, not, List, [], ◌∷◌, refl, sym, ap, inl, inr, subst, arith}
use Rattle.std.specs.Prelude.{All, Contains, IsTrue, map, ◌==◌}
use Rattle.std.specs.List.{range_with_len}
use Rattle.std.proofs.lemmas.Bool.{eqb-false, not-true}
use Rattle.std.proofs.lemmas.List.Elements.{All-cons, All-nil}
use Rattle.xn_model.proofs.ForCallers.{Contains-cons, Contains-head, Contains-none, filter_at, range_at}
use Rattle.treefs_format.specs.Paths.{node_offset}
use Rattle.treefs_model.specs.Reading.{pointed}
use Rattle.treefs_model.specs.Trees.{has_pointer}
use Rattle.treefs_byte_plans.specs.Drops.{dropped}
use Rattle.treefs_values.specs.Dropped.{AreOverPointers, IsCovered, IsLedTo}
use Rattle.treefs_values.proofs.ForCallers.{node_pointer}
use Rattle.treefs_laws.proofs.Lists.{all_with, mapped_from}

module _ (place : ℕ) (low : place < 127) where
  abbrev pub node_places : List (ℕ × ℕ)
  node_places = (node_offset place, 127 - place) ∷ []

  pub covered_at : (o : ℕ) → IsCovered node_places o → (p : ℕ) × (place ≤ p) × (p < 127) × (o ≡ node_offset p)
  covered_at o cover = elim (Contains-cons (node_offset place, 127 - place) [] cover.0 cover.1) [
    | inl same ↦
        let e : o ≡ cover.0.0 + 4 * cover.2 = cover.4 in
        let f : node_offset place ≡ cover.0.0 = ap (λ (x : ℕ × ℕ). x.0) same in
        let g : 127 - place ≡ cover.0.1 = ap (λ (x : ℕ × ℕ). x.1) same in
        let lt : cover.2 < cover.0.1 = cover.3 in
        (place + cover.2, omega arith, omega arith, omega arith)
    | inr none ↦ absurd (Contains-none cover.0 none)
  ]

  -- of a block of this type
  pub places_over : (node inode t : ℕ) → t ≡ node → All (AreOverPointers node inode t) node_places
  places_over node inode t is_node = All-cons (AreOverPointers node inode t) (node_offset place, 127 - place) [] (
    omega arith,
    λ i lt.
        let same : node_offset place + 4 * i ≡ node_offset (place + i) = omega arith in
        subst (λ o. IsTrue (has_pointer node inode t o)) (sym same)
        (node_pointer node inode t (node_offset (place + i)) (place + i) is_node (omega arith) refl),
  )
      (All-nil (AreOverPointers node inode t))

  module _ (content : ℕ → List ℕ) (block : ℕ) where
    one_led : (b : ℕ) → Contains (dropped content block place) b → IsLedTo content block node_places b
    one_led b has =
        let f = filter_at (λ b. not (b == 0)) (map (λ p. pointed content block (node_offset p)) (range_with_len place (127 - place))) b has in
        let m = mapped_from (λ p. pointed content block (node_offset p)) (range_with_len place (127 - place)) b f.0 in
        let r = range_at place (127 - place) m.0 m.1 in
        let from : place ≤ m.0 = r.0 in
        let to : m.0 < place + (127 - place) = r.1 in (
          eqb-false b 0 (not-true (b == 0) f.1),
          node_offset m.0,
          ((node_offset place, 127 - place), Contains-head (node_offset place, 127 - place) [], m.0 - place, omega arith, omega arith),
          m.2,
        )

    -- the blocks that are dropped with them
    pub blocks_led : All (IsLedTo content block node_places) (dropped content block place)
    blocks_led = all_with (IsLedTo content block node_places) (dropped content block place) one_led
