use Rattle.std.proofs.Common.{arith}
use Rattle.treefs_format.proofs.Stated.{pointers_others}
use Rattle.treefs_format.proofs.Puts.{words_written}
use Rattle.treefs_format.proofs.law.inode_pointers_are_set.Goals as goal

pub returns-clause-pointers : goal.returns-clause-pointers
returns-clause-pointers c = λ m blocks i long few small. words_written blocks m 48 20 i (omega arith) few small

pub returns-clause-others : goal.returns-clause-others
returns-clause-others c = pointers_others
