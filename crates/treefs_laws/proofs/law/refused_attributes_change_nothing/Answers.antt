use Rattle.treefs_laws.proofs.Refused.{attributes_refused, mtime_refused}
use Rattle.treefs_laws.proofs.law.refused_attributes_change_nothing.Goals as goal

pub returns-clause-attributes : goal.returns-clause-attributes
returns-clause-attributes c = λ T state state' volume volume' n a fault does. attributes_refused state volume volume' fault n T state' a does

pub returns-clause-times : goal.returns-clause-times
returns-clause-times c = λ state volume volume' n mtime fault does. mtime_refused state volume volume' fault n mtime does
