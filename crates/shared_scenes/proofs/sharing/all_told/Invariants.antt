use Rattle.std.proofs.Common.{◌≡◌}
use Rattle.shared_scenes.proofs.sharing.all_told.Given as goal

abbrev pub invariant-loop-number : goal.invariant-loop-number
invariant-loop-number g l = l.reader.floor ≡ g.K.Naming.floor
