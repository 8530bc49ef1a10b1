use Rattle.std.proofs.Common.{ap}
use Rattle.std.specs.Result.{is_ok}
use Rattle.treefs_format.proofs.KnownTemplates.{inode_block, inode_known, node_block, node_known}
use Rattle.treefs_format.proofs.types.tree_templates.Goals as goal

pub known_template-requires-clause-right : goal.known_template-requires-clause-right
known_template-requires-clause-right c = ap is_ok node_block

pub known_template-requires-2-clause-right : goal.known_template-requires-2-clause-right
known_template-requires-2-clause-right c = ap is_ok inode_block

pub returns : goal.returns
returns c =
    let first = (node_known c.in_ok-node.node).0 c.in_ok-node.ensures in
    let second = (inode_known c.in_ok-inode.inode).0 c.in_ok-inode.ensures in
    cc
