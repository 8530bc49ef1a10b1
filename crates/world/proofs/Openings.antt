-- The disk of an image's bytes.
use Rattle.std.proofs.Common.{◌≡◌, Bool, true, false, ◌&&◌, ℕ, zero, suc, ◌+◌, ◌-◌, ◌*◌, ◌/◌, ◌%◌, ◌<◌, List, [], ◌∷◌, ◌++◌, length, take, drop, replicate, Option, Some, None, refl, sym, ◌∙◌, ap, arith, subst, slice_get}
use Rattle.std.specs.Prelude.{All, nat_le}
use Rattle.std.specs.Simd.{first_chunks}
use Rattle.std.specs.List.{AllByRecursion}
use Rattle.std.proofs.lemmas.Bool.{leb-true}
use Rattle.std.proofs.lemmas.Option.{same_Some, none-some}
use Rattle.std.proofs.lemmas.List.{take-append-drop, length-drop}
use Rattle.std.proofs.lemmas.List.Elements.{All-from_get_or}
use Rattle.std.proofs.Math.Seq.{drop-append-add}
use Rattle.disk.specs.Images.{block_of_image}
use Rattle.disk.proofs.ForCallers.{block_at-append_front, block_at-append_last}
use Rattle.disk.specs.Mem.{MemoryLane, AreFreshLanes, fresh_lane}
use Rattle.xn_model.specs.Images.{block_of, blocks_in, joined, IsSound}
use Rattle.image_model.specs.Report.{IsSoundImage}
use Rattle.templates.specs.Language.{types_of_image}
use Rattle.image_model.proofs.ForCallers.{length-blocks, block-long}
use Rattle.world.specs.Disks.{image_of, IsResting, IsUnmounted}
use Rattle.world.specs.Worlds.{Tickets}

-- The blocks of an image of blocks of 512 bytes

first_block : (xs ys : List ℕ) → length xs ≡ 512 → block_of_image (xs ++ ys) 0 ≡ xs
first_block xs ys h = block_at-append_front xs ys 0 (omega arith) ∙ block_at-append_last [] xs 0 refl h

next_block : (xs ys : List ℕ) (k : ℕ) → length xs ≡ 512 → block_of_image (xs ++ ys) (k + 1) ≡ block_of_image ys k
next_block xs ys k h =
    let start : 512 * (k + 1) ≡ length xs + 512 * k = omega arith in
    let long : 512 * (k + 1) + 512 - 512 * (k + 1) ≡ 512 * k + 512 - 512 * k = omega arith in
    (λ i. take (long i) (drop (start i) (xs ++ ys))) ∙ ap (take (512 * k + 512 - 512 * k)) (drop-append-add xs ys (512 * k))

block_at-joined : (blocks : List (List ℕ)) (k : ℕ) → All (λ block. length block ≡ 512) blocks → k < length blocks → block_of_image (joined blocks) k ≡ block_of blocks k
block_at-joined [] k h within = absurd (omega arith)
block_at-joined (block ∷ blocks) zero h within = first_block block (joined blocks) (h 0 [] (omega arith))
block_at-joined (block ∷ blocks) (suc k) h within =
    let next : suc k ≡ k + 1 = omega arith in
    ap (block_of_image (block ++ joined blocks)) next ∙ (next_block block (joined blocks) k (h 0 [] (omega arith)) ∙ block_at-joined blocks k (λ j d lt. h (suc j) d (omega arith)) (omega arith))

joined_chunks : (n : ℕ) (bytes : List ℕ) → length bytes ≡ 512 * n → joined (first_chunks 512 n bytes) ≡ bytes
joined_chunks zero [] e = refl
joined_chunks zero (x ∷ bytes) e = absurd (omega arith)
joined_chunks (suc n) bytes e =
    let left = length-drop 512 bytes in
    ap (λ rest. take 512 bytes ++ rest) (joined_chunks n (drop 512 bytes) (omega arith)) ∙ take-append-drop 512 bytes

-- whole blocks, one after another, are the image
pub joined_blocks : (bytes : List ℕ) → length bytes % 512 ≡ 0 → joined (blocks_in bytes) ≡ bytes
joined_blocks bytes whole = joined_chunks (length bytes / 512) bytes (omega arith)

pub long_blocks : (bytes : List ℕ) → All (λ block. length block ≡ 512) (blocks_in bytes)
long_blocks bytes = All-from_get_or (λ block. length block ≡ 512) (blocks_in bytes) [] (λ b lt. block-long bytes b lt)

-- Fresh lanes over them

block_is : (bytes : List ℕ) (k : ℕ) → length bytes % 512 ≡ 0 → k < length (blocks_in bytes) → block_of_image bytes k ≡ block_of (blocks_in bytes) k
block_is bytes k whole lt = ap (λ x. block_of_image x k) (sym (joined_blocks bytes whole)) ∙ block_at-joined (blocks_in bytes) k (long_blocks bytes) lt

all_fresh : (lanes : List (Option MemoryLane)) (blocks : List (List ℕ)) (from : ℕ) → length lanes ≡ length blocks →
    ((k : ℕ) → k < length lanes → slice_get lanes k ≡ Some (Some (fresh_lane (from + k) (block_of blocks k)))) →
    AllByRecursion IsResting lanes × (image_of lanes (replicate (length lanes) None) ≡ blocks)
all_fresh [] [] from e h = (tt, refl)
all_fresh [] (x ∷ blocks) from e h = absurd (omega arith)
all_fresh (l ∷ lanes) [] from e h = absurd (omega arith)
all_fresh (None ∷ lanes) (x ∷ blocks) from e h = absurd (none-some _ (same_Some None (Some (fresh_lane (from + 0) x)) (h 0 (omega arith))))
all_fresh (Some lane ∷ lanes) (x ∷ blocks) from e h =
    let is : lane ≡ fresh_lane (from + 0) x = same_Some lane (fresh_lane (from + 0) x) (same_Some (Some lane) (Some (fresh_lane (from + 0) x)) (h 0 (omega arith))) in
    let rest = all_fresh lanes blocks (suc from) (omega arith) (λ k lt. let next : from + suc k ≡ suc from + k = omega arith in h (suc k) (omega arith) ∙ ap (λ n. Some (Some (fresh_lane n (block_of blocks k)))) next) in
    ((((ap (λ (y : MemoryLane). y.write_fault) is, ap (λ (y : MemoryLane). y.read_fault) is, ap (λ (y : MemoryLane). y.sync_fault) is), (ap (λ (y : MemoryLane). y.given) is, ap (λ (y : MemoryLane). y.settled) is ∙ sym (ap (λ (y : MemoryLane). y.bytes) is))), rest.0), λ i. (is i).bytes ∷ rest.1 i)

module _ (bytes : List ℕ) (whole : length bytes % 512 ≡ 0) (lanes : List (Option MemoryLane)) (holds : AreFreshLanes bytes lanes) (tickets : Tickets) (none : tickets ≡ replicate (length lanes) None) where
  counted : length lanes ≡ length (blocks_in bytes)
  counted = let long = holds.whole in let n = length-blocks bytes in omega arith

  fresh : AllByRecursion IsResting lanes × (image_of lanes (replicate (length lanes) None) ≡ blocks_in bytes)
  fresh = all_fresh lanes (blocks_in bytes) 0 counted (λ k lt. let at : k ≡ 0 + k = omega arith in holds.each k lt ∙ (λ i. Some (Some (fresh_lane (at i) (block_is bytes k whole (let c = counted in omega arith) i)))))

  pub opened_image : image_of lanes tickets ≡ blocks_in bytes
  opened_image = ap (image_of lanes) none ∙ fresh.1

  pub opened_disk : IsUnmounted lanes tickets
  opened_disk = record {
    home = fresh.0;
    empty = none;
    long = subst (All (λ block. length block ≡ 512)) (sym opened_image) (long_blocks bytes);
  }

-- An image that is no whole blocks, or too long, has that fault first

and_false : (x y z : Bool) → z ≡ false → (x && (y && z)) ≡ false
and_false true true z e = e
and_false true false z e = refl
and_false false y z e = refl

longer : (n m : ℕ) → m < n → nat_le n m ≡ false
longer n m lt = by (nat_le n m) refl
  where
    by : (t : Bool) → nat_le n m ≡ t → t ≡ false
    by true e = let le = leb-true n m e in absurd (omega arith)
    by false e = refl

-- a sound disk's bytes are a sound image
pub whole_image : (image : List ℕ) → length image % 512 ≡ 0 → IsSound (types_of_image (blocks_in image)) (length (blocks_in image)) (block_of (blocks_in image)) → IsSoundImage (types_of_image (blocks_in image)) image
whole_image image whole sound = record { whole = let n = length-blocks image in omega arith; blocks = sound }
