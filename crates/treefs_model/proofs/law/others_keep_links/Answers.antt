use Rattle.treefs_model.proofs.LinksOver.{links_over}
use Rattle.treefs_model.proofs.law.others_keep_links.Goals as goal

pub returns : goal.returns
returns c = λ T L N fs old new n h kept r v. links_over T L N fs old new h kept n r v
