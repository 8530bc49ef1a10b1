use Rattle.std.proofs.Common.{◌∙◌}
use Rattle.treefs_format.proofs.OwnedPairs.{inodes_own, inodes_sized, nodes_own, nodes_sized}
use Rattle.treefs_format.proofs.law.templates_own_pointers.Goals as goal

pub returns : goal.returns
returns c = λ T node inode has_node has_inode. record {
  node_installed = has_node.installed;
  inode_installed = has_inode.installed;
  node_owns = λ m. has_node.owned m ∙ nodes_own m;
  inode_owns = λ m. has_inode.owned m ∙ inodes_own m;
  node_size = λ m. has_node.size m ∙ nodes_sized m;
  inode_size = λ m. has_inode.size m ∙ inodes_sized m;
}
