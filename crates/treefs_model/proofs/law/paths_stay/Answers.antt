use Rattle.treefs_model.proofs.Table.{same_path}
use Rattle.treefs_model.proofs.TableKeeps.{path_cut, path_newest, stays_after, stays_over}
use Rattle.treefs_model.proofs.law.paths_stay.Goals as goal

pub returns-clause-offsets : goal.returns-clause-offsets
returns-clause-offsets c = λ T S fs act old new number reads h h' e moves v. stays_after T S reads fs act old new number h h' e moves v

pub returns-clause-others : goal.returns-clause-others
returns-clause-others c = stays_over

pub returns-clause-same : goal.returns-clause-same
returns-clause-same c = λ T S state fs top k reads h stays cut mine root os x at' some pointed. same_path T S reads state h fs stays top k cut mine root os x at' some pointed

pub returns-clause-passed : goal.returns-clause-passed
returns-clause-passed c = λ T S fs top act old new number reads h h' e stays pointed some mine root os by. (
  λ k cut. path_cut T S reads fs act old new number h h' e stays top pointed some mine root k cut os by,
  path_newest T S reads fs act old new number h h' e stays top pointed some mine root os by,
)
