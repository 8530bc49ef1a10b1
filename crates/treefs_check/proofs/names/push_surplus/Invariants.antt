use Rattle.std.proofs.Common.{◌≡◌, ◌++◌, drop}
use Rattle.treefs_lookup.specs.Readable.{readable}
use Rattle.treefs_check.specs.Names.{surplus_findings}
use Rattle.treefs_check.proofs.names.push_surplus.Given as goal

abbrev pub invariant-loop-name : goal.invariant-loop-name
invariant-loop-name g l =
    let content = readable (g.S.Store.state_of l.store) l.tree.fs.number in
    l.findings.items ++ surplus_findings content l.tree.top (drop l.name-index l.surplus)
    ≡ l.fn.findings.items ++ surplus_findings content l.tree.top l.surplus
