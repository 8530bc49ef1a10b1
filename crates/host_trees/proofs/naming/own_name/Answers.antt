use Rattle.std.proofs.Common.{rules}
use Rattle.host_trees.specs.Naming.{own_name}
use Rattle.host_trees.proofs.naming.own_name.Goals as goal

pub returns-then-is_dots : goal.returns-then-is_dots
unfolding own_name
returns-then-is_dots c = search rules

pub returns-else-is_dots : goal.returns-else-is_dots
unfolding own_name
returns-else-is_dots c = search rules
