use Rattle.treefs_format.proofs.Stated.{node_children}
use Rattle.treefs_format.proofs.law.nodes_are_read_back.Goals as goal

pub returns-clause-children : goal.returns-clause-children
returns-clause-children c = node_children
