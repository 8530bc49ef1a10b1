use Rattle.std.proofs.Common.{◌≡◌, ◌≤◌, ◌*◌, length}
use Rattle.xn_model.specs.Lives.{life_at, freed, drops_of}
use Rattle.xn_model.specs.Calls.{first_pending}
use Rattle.block_cache.proofs.cache.Cache.settle_and_free.Given as goal

abbrev pub invariant-loop-place : goal.invariant-loop-place
invariant-loop-place l =
    (l.self ≡ freed l.initial.self (drops_of (first_pending l.place (life_at l.initial.self l.block))))
    × (l.freed ≡ length (drops_of (first_pending l.place (life_at l.initial.self l.block))))
    × (l.freed ≤ 128 * l.place)
