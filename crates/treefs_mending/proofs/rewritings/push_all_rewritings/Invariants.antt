use Rattle.std.proofs.Common.{◌≡◌, ◌++◌, drop}
use Rattle.treefs_lookup.specs.Readable.{readable}
use Rattle.treefs_mending.specs.Rewritings.{all_rewritings}
use Rattle.treefs_mending.proofs.rewritings.push_all_rewritings.Given as goal

abbrev pub invariant-loop-directory : goal.invariant-loop-directory
invariant-loop-directory g l =
    let content = readable (g.S.Store.state_of l.store) l.fs.number in
    l.acts.items ++ all_rewritings content (drop l.directory-index l.directories) ≡ l.fn.acts.items ++ all_rewritings content l.directories
