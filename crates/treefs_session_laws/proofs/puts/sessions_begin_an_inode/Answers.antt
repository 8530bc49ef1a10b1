use Rattle.treefs_laws.proofs.ForCallers.{begin_refused, begun_no_file}
use Rattle.treefs_session_laws.proofs.Begun.{begins, begins_in_vain}
use Rattle.treefs_session_laws.proofs.puts.sessions_begin_an_inode.Goals as goal

pub returns-clause-begun : goal.returns-clause-begun
returns-clause-begun c = λ T held old new volume volume' kind attributes head block is_open fit wide short makes.
    begins T held kind attributes head
    (λ s s' v fault does. begin_refused T s s' v fault kind attributes head does)
    (λ s s' v b is_open does. begun_no_file T s s' v is_open kind attributes fit head wide short b does) old new volume volume' block
    is_open makes

pub returns-clause-refused : goal.returns-clause-refused
returns-clause-refused c = λ T held old new volume volume' kind attributes head fault is_open makes.
    begins_in_vain T held kind attributes head
    (λ s s' v fault does. begin_refused T s s' v fault kind attributes head does) old new volume volume' fault is_open makes
