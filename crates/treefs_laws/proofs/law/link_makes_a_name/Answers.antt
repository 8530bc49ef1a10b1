use Rattle.treefs_laws.proofs.Linked.{linked_so}
use Rattle.treefs_laws.proofs.law.link_makes_a_name.Goals as goal

pub returns : goal.returns
returns c = λ T state state' volume volume' n d name is_open wide does. linked_so T state state' volume volume' n d name is_open wide does
