-- How large a world is, and where its lanes are.
use Rattle.std.proofs.Common.{◌≡◌, ℕ, zero, suc, ◌≤◌, ◌<◌, List, [], ◌∷◌, true, length, Option, Some, None, refl, sym, ◌∙◌, ap, arith, slice_get}
use Rattle.std.specs.Prelude.{is_some}
use Rattle.std.proofs.lemmas.Bool.{false≢true}
use Rattle.std.proofs.lemmas.Option.{same_Some, none-some}
use Rattle.disk.specs.Mem.{MemoryLane}
use Rattle.xn_model.specs.Images.{most_blocks}
use Rattle.xn_model.specs.Lives.{Life, Lives, life_at}
use Rattle.xn_model.specs.Worlds.{begun_count}
use Rattle.xn_model.specs.Lanes.{FitsLife, FitLives}
use Rattle.xn_kernel.specs.Kernels.{KernelValue}
use Rattle.world.specs.Disks.{image_of, ticket_at}
use Rattle.world.specs.Worlds.{Tickets, ticket_flight, IsWorld}
use Rattle.world.proofs.Images.{length-image_of}
use Rattle.world.proofs.Places.{place_at, empty_get}
use Rattle.world.proofs.Flights.{not_flying}

-- the life of a block whose lane is away has a write under way
away_life : (lanes : List (Option MemoryLane)) (lives : Lives) (b : ℕ) → FitLives (λ lane. lane.bytes) lanes lives → slice_get lanes b ≡ Some None → (l : Life) × (life_at lives b ≡ Some l) × (is_some l.begun ≡ true)
away_life [] lives b z at = absurd (none-some _ at)
away_life (a ∷ lanes) [] b z at = absurd z
away_life (a ∷ lanes) (x ∷ xs) (suc b) z at = away_life lanes xs b z.1 at
away_life (a ∷ lanes) (x ∷ xs) zero z at = go a x z.0 (same_Some a None at)
  where
    go : (a : Option MemoryLane) (x : Option Life) → FitsLife (λ lane. lane.bytes) a x → a ≡ None → (l : Life) × (x ≡ Some l) × (is_some l.begun ≡ true)
    go (Some lane) x z e = absurd (none-some lane (sym e))
    go None None z e = absurd z
    go None (Some l) z e = (l, refl, z)

module _ (kernel : KernelValue MemoryLane) (tickets : Tickets) (is : IsWorld kernel tickets) where
  pub long : length (image_of kernel.lanes tickets) ≡ length tickets
  long = length-image_of kernel.lanes tickets ∙ sym is.count

  pub few : length tickets ≤ most_blocks
  few = let size = is.holds.state.size.1 in let count = is.holds.count in let same = long in omega arith

  -- a lane is at home or with a ticket
  pub nowhere : (b : ℕ) → b < length tickets → place_at kernel.lanes b ≡ None → ticket_at tickets b ≡ None → ⊥
  nowhere b within home ticket =
      let count = is.count in
      let life = away_life kernel.lanes kernel.state.lives b is.fit (empty_get kernel.lanes b home (omega arith)) in
      let idle = not_flying (life_at kernel.state.lives b) (sym (is.flights b) ∙ ap ticket_flight ticket) in
      let begun : life.0.begun ≡ None = sym (ap begun_count life.1) ∙ idle in
      false≢true (sym (ap is_some begun) ∙ life.2)
