use Rattle.std.proofs.Common.{◌≢◌, rules}
use Rattle.treefs_paths.proofs.Slashes.{all_from_end}
use Rattle.treefs_paths.proofs.components.name_start.Goals as goal

pub loop-passed-preserved : goal.loop-passed-preserved
loop-passed-preserved c =
    all_from_end (λ byte. byte ≢ 47) c.args.path.now c.loop-passed.passed c.loop-passed-test.true (search (rules, c.if-path-start-eq47.false)) c.loop-passed.invariant
