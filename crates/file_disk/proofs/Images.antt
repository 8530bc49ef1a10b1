-- Lanes that hold the blocks of an image.
use Rattle.std.proofs.Common.{◌≡◌, ℕ, ◌+◌, ◌*◌, ◌<◌, ◌≤◌, List, length, Option, Some, slice_get, arith, inl, inr, refl, sym, subst, ◌∙◌}
use Rattle.std.proofs.lemmas.Grind.{common_steps}
use Rattle.std.proofs.lemmas.Option.{same_Some, slice_get_within}
use Rattle.disk.specs.Images.{HoldsBytes, block_of_image}
use Rattle.disk.specs.Lanes.{LeavesOnly}
use Rattle.file_disk.specs.File.{FileBlock, fresh_block, file_leaves}
use Rattle.file_disk.specs.Opened.{AreOpened}

-- a crash leaves the settled bytes alone in a block that holds no write
fresh_leaves : (number : ℕ) (bytes : List ℕ) → LeavesOnly bytes (file_leaves (fresh_block number bytes))
fresh_leaves number bytes left h = elim h [ inl none ↦ absurd none | inr same ↦ same ]

-- the lane of a block of an image
abbrev pub lane_at : List ℕ → ℕ → FileBlock
lane_at image k = fresh_block k (block_of_image image k)

length-block : (image : List ℕ) (k : ℕ) → 512 * k + 512 ≤ length image → length (block_of_image image k) ≡ 512
length-block image k h = grind (arith, common_steps)

module _ (image : List ℕ) (blocks : ℕ) (whole : length image ≡ 512 * blocks) (places : List (Option FileBlock)) (count : length places ≡ blocks)
    (each : (k : ℕ) → k < blocks → slice_get places k ≡ Some (Some (lane_at image k))) where
  pub holds : HoldsBytes (λ (lane : FileBlock). lane.bytes) places image
  holds = record {
    whole = omega arith;
    each = λ k h. (lane_at image k, each k (omega arith), refl);
  }

  pub opened : AreOpened blocks places
  opened = record {
    count = count;
    each = λ k h. record { bytes = block_of_image image k; long = length-block image k (omega arith); here = each k h };
    synced = λ k lane here.
        let within : k < length places = slice_get_within places k (Some lane) here in
        let is : lane_at image k ≡ lane = sym (same_Some lane (lane_at image k) (same_Some (Some lane) (Some (lane_at image k)) (sym here ∙ each k (omega arith)))) in
        let P : FileBlock → Type 0 = λ l. LeavesOnly l.bytes (file_leaves l) in
        subst P is (fresh_leaves k (block_of_image image k));
    image = image;
    holds = holds;
  }
