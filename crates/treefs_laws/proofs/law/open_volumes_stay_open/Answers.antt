use Rattle.treefs_laws.proofs.StillOpen.{attributes_open, rmdir_open, times_open, unlink_open}
use Rattle.treefs_laws.proofs.law.open_volumes_stay_open.Goals as goal

pub returns-clause-times : goal.returns-clause-times
returns-clause-times c = λ T state volume volume' n mtime fits is_open does. times_open T state volume is_open volume' n mtime fits does

pub returns-clause-attributes : goal.returns-clause-attributes
returns-clause-attributes c = λ T state state' volume volume' n attributes wide is_open does.
    attributes_open T state volume is_open state' volume' n attributes wide does

pub returns-clause-unlink : goal.returns-clause-unlink
returns-clause-unlink c = λ T state state' volume volume' d name is_open does. unlink_open T state volume is_open state' volume' d name does

pub returns-clause-rmdir : goal.returns-clause-rmdir
returns-clause-rmdir c = λ T state state' volume volume' d name is_open does. rmdir_open T state volume is_open state' volume' d name does
