-- What a crash leaves, and a world that is down.
use Rattle.std.proofs.Common.{◌≡◌, ◌∙◌, ◌<◌, zero, suc, [], ◌∷◌, arith, List, length, None, refl, ap, inl, inr, subst, ℕ}
use Rattle.xn_model.specs.Images.{block_of}
use Rattle.xn_model.specs.Mounts.{recovered}
use Rattle.xn_model.specs.Worlds.{Down, given_at, none_given, left_at, left, mount_reply, AfterCrash}
use Rattle.xn_model.specs.Rules.{Holds}
use Rattle.xn_model.specs.Lists.{has_number}
use Rattle.std.specs.Prelude.{unwrap_or}
use Rattle.std.proofs.lemmas.Bool.{cond_both}
use Rattle.std.proofs.lemmas.List.{ext_get_or}
use Rattle.std.proofs.lemmas.List.FromFn.{get_or-map-range_with_len, length-map-range_with_len}
use Rattle.templates.specs.Language.{types_of_image}
use Rattle.world.specs.Worlds.{WorldValue, world_with, mounted_value, down_value, IsSoundDisk}
use Rattle.world.proofs.Mounting.{mounted_holds, sound_recovers}

-- the mount is that of the image that is left, under the types of its own catalogue
module _ (value : WorldValue) (kept : List ℕ) (disk : IsSoundDisk (left (world_with value) kept)) where
  abbrev image : List (List ℕ)
  image = left (world_with value) kept

  pub crash_mounts : AfterCrash (world_with value) kept (mount_reply (recovered (types_of_image image) image)) (world_with (mounted_value image))
  crash_mounts = (recovered (types_of_image image) image, sound_recovers image disk, inl (refl, refl))

  pub crash_stops : AfterCrash (world_with value) kept Down (world_with (down_value image))
  crash_stops = (recovered (types_of_image image) image, sound_recovers image disk, inr (refl, refl))

-- The rules of a world that is down

pub down_holds : (image : List (List ℕ)) → IsSoundDisk image → Holds (world_with (down_value image))
down_holds image disk = let h = mounted_holds image disk in
    record { state = h.state; count = h.count; settled_count = h.settled_count; given_count = h.given_count; placed = h.placed; newest = h.newest; unsynced = h.unsynced }

-- of a disk at rest that is its image
pub rests_left : (image : List (List ℕ)) (kept : List ℕ) → left (world_with (down_value image)) kept ≡ image
rests_left image kept = ext_get_or [] (left (world_with (down_value image)) kept) image (length-map-range_with_len (left_at (world_with (down_value image)) kept) 0 (length image)) (λ b lt.
    let within : b < length image = subst (λ n. b < n) (length-map-range_with_len (left_at (world_with (down_value image)) kept) 0 (length image)) lt in
    get_or-map-range_with_len (left_at (world_with (down_value image)) kept) 0 (length image) b b [] within (omega arith)
    ∙ cond_both (has_number kept b) (unwrap_or (given_at (none_given image) b) (block_of image b)) (block_of image b) (λ m. m ≡ block_of image b) (λ t. ap (λ o. unwrap_or o (block_of image b)) (never_given image b)) (λ f. refl))
  where
    never_given : (image : List (List ℕ)) (b : ℕ) → given_at (none_given image) b ≡ None
    never_given [] b = refl
    never_given (m ∷ image) zero = refl
    never_given (m ∷ image) (suc b) = never_given image b
