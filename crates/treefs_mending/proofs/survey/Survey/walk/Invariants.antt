use Rattle.std.proofs.Common.{◌≡◌, ◌-◌}
use Rattle.treefs_lookup.specs.Readable.{readable}
use Rattle.treefs_mending.specs.Surveys.{inode_count, walked}
use Rattle.treefs_mending.proofs.survey.Survey.walk.Given as goal

abbrev pub invariant-loop-place : goal.invariant-loop-place
invariant-loop-place g l =
    let content = readable (g.S.Store.state_of l.store) l.tree.fs.number in
    walked content l.tree.top (inode_count - l.place) l.place l.self ≡ walked content l.tree.top inode_count 0 l.fn.self
