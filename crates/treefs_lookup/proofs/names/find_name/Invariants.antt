use Rattle.std.proofs.Common.{◌≡◌}
use Rattle.treefs_lookup.specs.Names.{first_some, slot_in, slot_named}
use Rattle.treefs_lookup.specs.Readable.{readable}
use Rattle.treefs_lookup.proofs.Candidates.{later}
use Rattle.treefs_lookup.proofs.names.find_name.Given as goal

abbrev pub invariant-loop-level : goal.invariant-loop-level
invariant-loop-level g l =
    let content = readable (g.S.Store.state_of l.store) l.fs.number in
    slot_named content l.fn.key l.inode l.name ≡ first_some (slot_in content l.inode l.name) (later l.hash l.level)
