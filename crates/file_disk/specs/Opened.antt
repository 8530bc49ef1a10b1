-- What is known of the lanes of a file that was just opened, or made.
use Rattle.std.specs.Prelude.{◌≡◌, ℕ, ◌*◌, ◌%◌, ◌<◌, ◌≤◌, List, length, Option, Some, slice_get}
use Rattle.xn_model.specs.Images.{most_blocks}
use Rattle.disk.specs.Images.{HoldsBytes}
use Rattle.disk.specs.Lanes.{AreSynced}
use Rattle.file_disk.specs.File.{FileBlock, fresh_block, file_leaves}

-- In this place is the lane of the block of this number, settled with 512 bytes, and with no fault.
pub record IsOpened (number : ℕ) (place : Option (Option FileBlock)) : Type 0 where
  pub bytes : List ℕ
  pub long : length bytes ≡ 512
  pub here : place ≡ Some (Some (fresh_block number bytes))

-- That lane is in each of so many places. So a crash leaves in each block what a read gives, and the blocks hold an image.
pub record AreOpened (blocks : ℕ) (places : List (Option FileBlock)) : Type 0 where
  pub count : length places ≡ blocks
  pub each : (k : ℕ) → k < blocks → IsOpened k (slice_get places k)
  pub synced : AreSynced (λ (lane : FileBlock). lane.bytes) file_leaves places
  pub image : List ℕ
  pub holds : HoldsBytes (λ (lane : FileBlock). lane.bytes) places image

-- Whole blocks, as many as a disk may have.
pub record IsDiskImage (image : List ℕ) : Type 0 where
  pub whole : length image % 512 ≡ 0
  pub least : 512 * 32 ≤ length image
  pub most : length image ≤ 512 * most_blocks
