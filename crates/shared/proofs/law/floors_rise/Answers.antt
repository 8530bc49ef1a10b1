use Rattle.shared.proofs.Floors.{init_rises, propose_rises, make_root_rises, drop_root_rises, forget_rises, begun_rises, settled_rises}
use Rattle.shared.proofs.law.floors_rise.Goals as goal

pub returns-clause-init : goal.returns-clause-init
returns-clause-init c = init_rises

pub returns-clause-propose : goal.returns-clause-propose
returns-clause-propose c = propose_rises

pub returns-clause-make_root : goal.returns-clause-make_root
returns-clause-make_root c = make_root_rises

pub returns-clause-drop_root : goal.returns-clause-drop_root
returns-clause-drop_root c = drop_root_rises

pub returns-clause-forget : goal.returns-clause-forget
returns-clause-forget c = forget_rises

pub returns-clause-begun : goal.returns-clause-begun
returns-clause-begun c = begun_rises

pub returns-clause-settled : goal.returns-clause-settled
returns-clause-settled c = settled_rises
