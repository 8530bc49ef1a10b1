use Rattle.udf_code.proofs.Stops.{some_go_on, none_go_on}
use Rattle.udf_code.proofs.law.faults_stand_where_nothing_goes_on.Goals as goal

pub returns-clause-before : goal.returns-clause-before
returns-clause-before c = some_go_on

pub returns-clause-here : goal.returns-clause-here
returns-clause-here c = none_go_on
