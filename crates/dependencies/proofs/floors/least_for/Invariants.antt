use Rattle.std.proofs.Common.{◌≡◌, ◌+◌, ◌-◌, take}
use Rattle.xn_model.specs.Lives.{entries_of, least_to}
use Rattle.dependencies.proofs.FirstEntries.{counted}
use Rattle.dependencies.proofs.floors.least_for.Given as goal

abbrev pub invariant-loop-from : goal.invariant-loop-from
invariant-loop-from l =
    (l.least ≡ least_to l.most (entries_of l.fs.number (take l.from l.cache))) × (l.left + counted l.fs.number (take l.from l.cache) ≡ l.count)

abbrev pub decreases-loop-from : goal.decreases-loop-from
decreases-loop-from l = l.blocks - l.from
