use Rattle.std.proofs.Common.{arith}
use Rattle.treefs_format.proofs.Puts.{words_written}
use Rattle.treefs_format.proofs.law.node_pointers_are_set.Goals as goal

pub returns-clause-children : goal.returns-clause-children
returns-clause-children c = λ m blocks i long few small. words_written blocks m 4 127 i (omega arith) few small
