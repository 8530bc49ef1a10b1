use Rattle.ffs_format.proofs.Standing.{pointer_here, pointer_stays}
use Rattle.ffs_format.proofs.law.pointers_stand_in_blocks.Goals as goal

pub returns-clause-here : goal.returns-clause-here
returns-clause-here c = λ m j block long few low. pointer_here m j block long few low

pub returns-clause-others : goal.returns-clause-others
returns-clause-others c = λ m i j block long few ne. pointer_stays m j block long few i ne
