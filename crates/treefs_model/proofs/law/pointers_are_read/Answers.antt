use Rattle.treefs_model.proofs.Trees.{inode_pointer, inode_same, node_pointer, node_same}
use Rattle.treefs_model.proofs.law.pointers_are_read.Goals as goal

pub returns-clause-inode : goal.returns-clause-inode
returns-clause-inode c = inode_pointer

pub returns-clause-node : goal.returns-clause-node
returns-clause-node c = node_pointer

pub returns-clause-inode_same : goal.returns-clause-inode_same
returns-clause-inode_same c = inode_same

pub returns-clause-node_same : goal.returns-clause-node_same
returns-clause-node_same c = node_same
