use Rattle.std.proofs.Common.{◌≡◌, ℕ, ◌<◌, ◌%◌, true, false, length, get_or, take}
use Rattle.xn_model.specs.Lists.{distinct}
use Rattle.claims.proofs.distinct.are_distinct.Given as goal

abbrev pub invariant-loop-place : goal.invariant-loop-place
invariant-loop-place l =
    (distinct (take l.place l.numbers) ≡ true) × ((k : ℕ) → k < l.place → get_or l.is_marked (get_or l.numbers k 0 % 1024) false ≡ true) × (length l.is_marked ≡ 1024)
