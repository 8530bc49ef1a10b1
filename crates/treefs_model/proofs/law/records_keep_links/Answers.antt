use Rattle.treefs_model.proofs.LinkKinds.{leads_named, link_less, link_more, record_ends, record_made}
use Rattle.treefs_model.proofs.law.records_keep_links.Goals as goal

pub returns-clause-ended : goal.returns-clause-ended
returns-clause-ended c = λ T L N act old new number n e h same v. record_ends T L N act old new number e n h same v

pub returns-clause-less : goal.returns-clause-less
returns-clause-less c = λ T L N act old new number n d e h here behind fewer v less. link_less T L N act old new number e n h here d behind fewer v less

pub returns-clause-more : goal.returns-clause-more
returns-clause-more c = λ T L N act old new number n e h here leads more v. link_more T L N act old new number e n h here leads more v

pub returns-clause-made : goal.returns-clause-made
returns-clause-made c = λ T L N act old new number n y e h same behind v spare. record_made T L N act old new number e n h same y behind v spare

pub returns-clause-named : goal.returns-clause-named
returns-clause-named c = leads_named
