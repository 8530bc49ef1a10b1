use Rattle.std.proofs.Common.{◌≡◌, []}
use Rattle.ffs_model.specs.Cuts.{latest}
use Rattle.ffs_lookup.proofs.Walks.{first_entries}
use Rattle.ffs_lookup.proofs.places.is_empty.Given as goal

abbrev pub invariant-loop-i : goal.invariant-loop-i
invariant-loop-i g l = first_entries (latest (g.S.Store.state_of l.store).lives) l.directory.inode l.i ≡ []
