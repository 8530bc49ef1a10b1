use Rattle.std.proofs.Common.{◌≡◌, None}
use Rattle.std.specs.Prelude.{find}
use Rattle.ffs_model.specs.Cuts.{latest}
use Rattle.ffs_lookup.specs.Newest.{has_name}
use Rattle.ffs_lookup.proofs.Walks.{first_entries}
use Rattle.ffs_lookup.proofs.places.find_entry.Given as goal

abbrev pub invariant-loop-i : goal.invariant-loop-i
invariant-loop-i g l =
    let content = latest (g.S.Store.state_of l.store).lives in
    find (has_name content l.name) (first_entries content l.directory.inode l.i) ≡ None
