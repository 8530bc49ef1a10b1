use Rattle.std.proofs.Common.{◌≡◌, drop}
use Rattle.std.specs.Prelude.{fold}
use Rattle.treefs_lookup.specs.Readable.{readable}
use Rattle.treefs_mending.specs.Names.{live_names}
use Rattle.treefs_mending.specs.Surveys.{met}
use Rattle.treefs_mending.proofs.survey.Survey.visit.Given as goal

abbrev pub invariant-loop-name : goal.invariant-loop-name
invariant-loop-name g l =
    let content = readable (g.S.Store.state_of l.store) l.tree.fs.number in
    fold (met content l.tree.top l.directory.number) l.self (drop l.name-index l.name-items)
    ≡ fold (met content l.tree.top l.directory.number) l.fn.self (live_names content l.directory.block)
