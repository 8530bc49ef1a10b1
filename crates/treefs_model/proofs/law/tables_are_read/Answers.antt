use Rattle.treefs_model.proofs.Reading.{links_alike, table_kept}
use Rattle.treefs_model.proofs.law.tables_are_read.Goals as goal

pub returns-clause-alike : goal.returns-clause-alike
returns-clause-alike c = λ L L' N n lives r v. links_alike L L' N lives n r v

pub returns-clause-kept : goal.returns-clause-kept
returns-clause-kept c = λ T S fs top steps records links act old new number reads h h' e stays pointed some mine root n by. table_kept T S fs top steps records links reads act old new number h h' e stays pointed some mine root n by
