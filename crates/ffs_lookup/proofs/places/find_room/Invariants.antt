use Rattle.std.proofs.Common.{◌≡◌, false}
use Rattle.ffs_model.specs.Cuts.{latest}
use Rattle.ffs_lookup.proofs.Rooms.{gap_in_first}
use Rattle.ffs_lookup.proofs.places.find_room.Given as goal

abbrev pub invariant-loop-i : goal.invariant-loop-i
invariant-loop-i g l = gap_in_first (latest (g.S.Store.state_of l.store).lives) l.directory.inode l.i ≡ false
