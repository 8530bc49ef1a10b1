use Rattle.std.proofs.Common.{rules}
use Rattle.tree_changes.proofs.Moments.{moment_alone}
use Rattle.tree_changes.proofs.dates.read_date.Goals as goal

pub returns-in-Err : goal.returns-in-Err
returns-in-Err c =
    moment_alone c.args.text.now c.without_zone.result.now c.read_moment.result c.without_zone.ensures (search rules) c.read_moment.ensures
