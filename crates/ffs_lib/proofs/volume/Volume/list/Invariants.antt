use Rattle.std.proofs.Common.{◌≡◌, map}
use Rattle.ffs_lib.proofs.Common.{latest}
use Rattle.ffs_lookup.proofs.ForCallers.{first_names}
use Rattle.ffs_lib.proofs.volume.Volume.list.Given as goal

abbrev pub invariant-loop-i : goal.invariant-loop-i
invariant-loop-i g l = map (λ name. (name.0.items, name.1)) l.names.items ≡ first_names (latest (g.S.Store.state_of l.store).lives) l.found.inode l.i
