use Rattle.std.proofs.Common.{ℕ, List, ◌++◌}
use Rattle.ffs_model.specs.Cuts.{latest}
use Rattle.ffs_lookup.specs.Counts.{AreCounts, numbers_of}
use Rattle.ffs_lookup.proofs.Walks.{first_entries}
use Rattle.ffs_lookup.proofs.counts.NameCounts.add_directory.Given as goal

abbrev pub invariant-loop-i : goal.invariant-loop-i
invariant-loop-i g l =
    let content = latest (g.S.Store.state_of l.store).lives in
    (numbers : List ℕ) → AreCounts numbers l.fn.self → AreCounts (numbers ++ numbers_of (first_entries content l.directory.inode l.i)) l.self
