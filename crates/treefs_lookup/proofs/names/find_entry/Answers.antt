use Rattle.treefs_lookup.specs.Readable.{readable}
use Rattle.treefs_lookup.proofs.FoundInodes.{no_directories}
use Rattle.treefs_lookup.proofs.names.find_entry.Goals as goal

pub returns-in_default : goal.returns-in_default
returns-in_default g c =
    let none = no_directories (readable (g.S.Store.state_of c.args.store.now) c.args.fs.number) c.args.top c.args.directory c.in_default.ensures in
    let found = c.in_ok-found.ensures in
    absurd (cc (none, found))
