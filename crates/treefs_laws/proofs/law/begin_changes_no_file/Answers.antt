use Rattle.treefs_laws.proofs.Beginning.{begun_no_file}
use Rattle.treefs_laws.proofs.SpaceLacked.{begin_refused}
use Rattle.treefs_laws.proofs.law.begin_changes_no_file.Goals as goal

pub returns-clause-begun : goal.returns-clause-begun
returns-clause-begun c = λ T state state' volume kind attributes head block is_open fit wide short does.
    begun_no_file T state state' volume is_open kind attributes fit head wide short block does

pub returns-clause-refused : goal.returns-clause-refused
returns-clause-refused c = λ T state state' volume kind attributes head fault does. begin_refused T state state' volume fault kind attributes head does
