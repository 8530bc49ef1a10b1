use Rattle.treefs_laws.proofs.GivenUp.{given_said}
use Rattle.treefs_laws.proofs.orphans.give_up_changes_no_file.Goals as goal

pub returns-clause-begun : goal.returns-clause-begun
returns-clause-begun c = λ T state volume block inode is_open begun. begun.unnamed

pub returns-clause-given : goal.returns-clause-given
returns-clause-given c = λ T old new volume block result is_open unnamed does. given_said T old volume is_open block unnamed new result does
