use Rattle.treefs_laws.proofs.Committed.{committed_said}
use Rattle.treefs_laws.proofs.law.commit_names_an_inode.Goals as goal

pub returns : goal.returns
returns c = λ T state state' volume volume' block inode d name n is_open begun wide does.
    committed_said T state state' volume d name is_open wide block inode begun volume' n does
