use Rattle.std.proofs.Common.{◌≡◌, ◌-◌, vec_len}
use Rattle.treefs_mending.specs.Tallies.{padded}
use Rattle.treefs_mending.proofs.tally.pad.Given as goal

abbrev pub invariant-loop-tallies : goal.invariant-loop-tallies
invariant-loop-tallies l = padded l.tallies.items l.count ≡ padded l.fn.tallies.items l.count

abbrev pub decreases-loop-tallies : goal.decreases-loop-tallies
decreases-loop-tallies l = l.count - vec_len l.tallies
