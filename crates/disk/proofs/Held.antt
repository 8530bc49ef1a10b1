-- Laws of lanes that hold an image, for callers too.
use Rattle.std.proofs.Common.{◌≡◌, ℕ, ◌+◌, ◌*◌, ◌^◌, ◌<◌, ◌≤◌, List, [], ◌∷◌, ◌++◌, length, Option, Some, None, slice_get, slice_set, Contains, arith, inl, inr, refl, sym, ap, ◌∙◌}
use Rattle.std.proofs.lemmas.Bool.{cases_eq}
use Rattle.std.proofs.lemmas.List.{length-set}
use Rattle.std.proofs.lemmas.Option.{same_Some, none-some, get_or_from_slice_get, slice_get_within}
use Rattle.disk.specs.Lanes.{AreLanes}
use Rattle.disk.specs.Images.{HoldsBytes, block_of_image}
use Rattle.disk.specs.Mem.{MemoryLane, AreFreshLanes, fresh_lane}
use Rattle.disk.proofs.SliceGet.{slice_get-set_same, slice_get-set_other, slice_get-push_front, slice_get-push_last}
use Rattle.disk.proofs.BlockAt.{block_at-same}

-- lanes hold one image
pub HoldsBytes-same : {L : Type 0} (bytes_of : L → List ℕ) (places : List (Option L)) (a b : List ℕ)
    → HoldsBytes bytes_of places a → HoldsBytes bytes_of places b → a ≡ b
HoldsBytes-same bytes_of places a b x y = block_at-same a b (length places) x.whole y.whole (λ k h.
    let p = x.each k h in
    let q = y.each k h in
    sym p.2 ∙ (ap bytes_of (same_Some p.0 q.0 (same_Some (Some p.0) (Some q.0) (sym p.1 ∙ q.1))) ∙ q.2))

-- fresh lanes over the blocks of an image hold it
pub HoldsBytes-fresh : (image : List ℕ) (places : List (Option MemoryLane)) → AreFreshLanes image places → HoldsBytes (λ lane. lane.bytes) places image
HoldsBytes-fresh image places x = record {
  whole = x.whole;
  each = λ k h. (fresh_lane k (block_of_image image k), x.each k h, refl);
}

-- where a place is empty the lanes hold no image
pub HoldsBytes-missing : {L : Type 0} (bytes_of : L → List ℕ) (places : List (Option L)) (image : List ℕ)
    → Contains places None → HoldsBytes bytes_of places image → ⊥
HoldsBytes-missing bytes_of places image missing held =
    let p = held.each missing.0 missing.1 in
    none-some p.0 (sym missing.2 ∙ get_or_from_slice_get places missing.0 (Some p.0) None p.1)

-- fresh lanes over the first blocks of an image, in a list that grows
module _ (image : List ℕ) (places : List (Option MemoryLane)) (n : ℕ) (long : length places ≡ n) (each : (k : ℕ) → k < n → slice_get places k ≡ Some (Some (fresh_lane k (block_of_image image k)))) where
  pub fresh-more : (lane : MemoryLane) → lane ≡ fresh_lane n (block_of_image image n) → (k : ℕ) → k < n + 1 → slice_get (places ++ Some lane ∷ []) k ≡ Some (Some (fresh_lane k (block_of_image image k)))
  fresh-more lane is k lt = elim (cases_eq k n) [
    | inl same ↦ slice_get-push_last places (Some lane) k (long ∙ sym same) ∙ ap (λ l. Some (Some l)) (is ∙ ap (λ j. fresh_lane j (block_of_image image j)) (sym same))
    | inr other ↦ slice_get-push_front places (Some lane) k (omega arith) ∙ each k (omega arith)
  ]

  pub fresh-numbers : n < 2 ^ 32 → AreLanes (λ (lane : MemoryLane). lane.number) places
  fresh-numbers few = record {
    few = omega arith;
    at_home = λ k lane at.
        let within : k < n = let h = slice_get_within places k (Some lane) at in omega arith in
        ap (λ (l : MemoryLane). l.number) (same_Some lane (fresh_lane k (block_of_image image k)) (same_Some (Some lane) (Some (fresh_lane k (block_of_image image k))) (sym at ∙ each k within)));
  }

  pub fresh-all : length image ≡ 512 * n → AreFreshLanes image places
  fresh-all whole = record { whole = omega arith; each = λ k lt. each k (omega arith) }

-- lanes of the last blocks, in places that are filled from the last one down
module _ {L : Type 0} (lane_of : ℕ → L) (places : List (Option L)) (n done b : ℕ) (at : b + done + 1 ≡ n) (count : length places ≡ n)
    (empty : (k : ℕ) → k + done < n → slice_get places k ≡ Some None)
    (each : (k : ℕ) → n ≤ k + done → k < n → slice_get places k ≡ Some (Some (lane_of k))) where
  abbrev filled : List (Option L)
  filled = slice_set places b (Some (lane_of b))

  pub filled-count : length filled ≡ n
  filled-count = length-set places b (Some (lane_of b)) ∙ count

  pub filled-empty : (k : ℕ) → k + (done + 1) < n → slice_get filled k ≡ Some None
  filled-empty k lt = slice_get-set_other places b k (Some (lane_of b)) (omega arith) ∙ empty k (omega arith)

  pub filled-each : (k : ℕ) → n ≤ k + (done + 1) → k < n → slice_get filled k ≡ Some (Some (lane_of k))
  filled-each k past lt = elim (cases_eq k b) [
    | inl same ↦
        ap (slice_get filled) same
        ∙ (slice_get-set_same places b (Some (lane_of b)) (omega arith) ∙ ap (λ j. Some (Some (lane_of j))) (sym same))
    | inr other ↦ slice_get-set_other places b k (Some (lane_of b)) other ∙ each k (omega arith) lt
  ]
