use Rattle.xn_model.proofs.Runs.{opened_holds, left_agrees, left_sound}
use Rattle.xn_model.proofs.every_run.Goals as goal

pub returns-clause-holds : goal.returns-clause-holds
returns-clause-holds c = λ w lives es rs after s r each run. opened_holds w lives s r es rs after each run

pub returns-clause-agrees : goal.returns-clause-agrees
returns-clause-agrees c = λ w lives es rs after s r each run. left_agrees after (opened_holds w lives s r es rs after each run)

pub returns-clause-sound : goal.returns-clause-sound
returns-clause-sound c = λ w lives es rs after s r each run. left_sound after (opened_holds w lives s r es rs after each run)

pub returns-clause-newest : goal.returns-clause-newest
returns-clause-newest c = λ w lives es rs after s r each run. (opened_holds w lives s r es rs after each run).newest
