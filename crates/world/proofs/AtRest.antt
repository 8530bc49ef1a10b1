-- Writes that are under way: of all blocks, and of a world that is down, which has none.
use Rattle.std.proofs.Common.{◌≡◌, ◌<◌, ℕ, suc, false, Option, Some, None, List, [], ◌∷◌, length, ap, refl, arith}
use Rattle.std.specs.Prelude.{is_some}
use Rattle.std.specs.List.{list_any}
use Rattle.std.proofs.lemmas.Bool.{or_from}
use Rattle.xn_model.specs.Lives.{Life, Lives, life_at, alive_and}
use Rattle.xn_model.specs.Mounts.{recovered}
use Rattle.xn_model.specs.Worlds.{mounted_state}
use Rattle.templates.specs.Language.{types_of_image}
use Rattle.xn_kernel.specs.Kernels.{is_in_flight}
use Rattle.world.specs.Worlds.{is_any_in_flight, IsSoundDisk}
use Rattle.world.proofs.Mounting.{sound_recovers}

calm : (o : Option Life) → ((l : Life) → o ≡ Some l → l.begun ≡ None) → alive_and (λ l. is_some l.begun) o ≡ false
calm None idle = refl
calm (Some l) idle = ap is_some (idle l refl)

pub down_is_calm : (image : List (List ℕ)) (b : ℕ) → IsSoundDisk image → is_in_flight (mounted_state (recovered (types_of_image image) image)) b ≡ false
down_is_calm image b disk =
    let lives = recovered (types_of_image image) image in
    let recovers = sound_recovers image disk in
    calm (life_at lives b) (λ l here. (recovers.only b l here).idle)

pub none_busy : (lives : Lives) → ((b : ℕ) → b < length lives → alive_and (λ l. is_some l.begun) (life_at lives b) ≡ false) → list_any (alive_and (λ l. is_some l.begun)) lives ≡ false
none_busy [] calm = refl
none_busy (o ∷ os) calm = or_from (alive_and (λ l. is_some l.begun) o) (list_any (alive_and (λ l. is_some l.begun)) os) (calm 0 (omega arith)) (none_busy os (λ b lt. calm (suc b) (omega arith)))

pub down_is_idle : (image : List (List ℕ)) → IsSoundDisk image → is_any_in_flight (mounted_state (recovered (types_of_image image) image)) ≡ false
down_is_idle image disk = none_busy (recovered (types_of_image image) image) (λ b lt. down_is_calm image b disk)
