use Rattle.ffs_format.proofs.Standing.{inode_here, inode_stays}
use Rattle.ffs_format.proofs.law.inodes_stand_in_blocks.Goals as goal

pub returns-clause-here : goal.returns-clause-here
returns-clause-here c = inode_here

pub returns-clause-others : goal.returns-clause-others
returns-clause-others c = λ m bytes p q long few ne whole. inode_stays m bytes p long few whole q ne
