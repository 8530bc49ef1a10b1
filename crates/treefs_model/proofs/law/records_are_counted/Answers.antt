use Rattle.treefs_model.proofs.Counted.{made_counted, made_named, rewritten_counted, set_counted, set_named}
use Rattle.treefs_model.proofs.law.records_are_counted.Goals as goal

pub returns-clause-made : goal.returns-clause-made
returns-clause-made c = λ bytes e n clear range few some. made_counted bytes e n range (record { number = few; name = some }) clear

pub returns-clause-set : goal.returns-clause-set
returns-clause-set c = set_counted

pub returns-clause-rewritten : goal.returns-clause-rewritten
returns-clause-rewritten c = rewritten_counted

pub returns-clause-made_names : goal.returns-clause-made_names
returns-clause-made_names c = λ bytes name e clear range few some. made_named bytes e name range (record { number = few; name = some }) clear

pub returns-clause-set_names : goal.returns-clause-set_names
returns-clause-set_names c = λ bytes name r number range there few. set_named bytes r number name range there few
