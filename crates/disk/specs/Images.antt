use Rattle.std.specs.Prelude.{◌≡◌, ℕ, ◌+◌, ◌*◌, ◌/◌, ◌<◌, List, length, map, Option, Some, slice_get, slice_range}
use Rattle.std.specs.List.{range_with_len}

-- the bytes of one block of an image
abbrev pub block_of_image : List ℕ → ℕ → List ℕ
block_of_image image block = slice_range image (512 * block) (512 * block + 512)

-- the blocks of an image, in order
unfoldable pub image_blocks : List ℕ → List (List ℕ)
image_blocks image = map (block_of_image image) (range_with_len 0 (length image / 512))

-- Every place has its lane, and the bytes of the lanes, one after another, are the image.
pub record HoldsBytes {L : Type 0} (bytes_of : L → List ℕ) (places : List (Option L)) (image : List ℕ) : Type 0 where
  pub whole : length image ≡ 512 * length places
  pub each : (k : ℕ) → k < length places → (lane : L) × (slice_get places k ≡ Some (Some lane)) × (bytes_of lane ≡ block_of_image image k)
