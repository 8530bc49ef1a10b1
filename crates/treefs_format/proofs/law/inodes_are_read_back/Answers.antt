use Rattle.treefs_format.proofs.Changes.{fields_read}
use Rattle.treefs_format.proofs.Stated.{inode_pointers}
use Rattle.treefs_format.proofs.law.inodes_are_read_back.Goals as goal

pub returns-clause-fields : goal.returns-clause-fields
returns-clause-fields c = fields_read

pub returns-clause-pointers : goal.returns-clause-pointers
returns-clause-pointers c = inode_pointers
