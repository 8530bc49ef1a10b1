use Rattle.xn_model.proofs.WaveExamples as row
use Rattle.xn_model.proofs.wave_rows.Goals as goal

pub returns-clause-all : goal.returns-clause-all
returns-clause-all c = row.all_at_once

pub returns-clause-two : goal.returns-clause-two
returns-clause-two c = row.by_two

pub returns-clause-one : goal.returns-clause-one
returns-clause-one c = row.by_one

pub returns-clause-typed : goal.returns-clause-typed
returns-clause-typed c = row.typed

pub returns-clause-answered : goal.returns-clause-answered
returns-clause-answered c = row.answered

pub returns-clause-failed : goal.returns-clause-failed
returns-clause-failed c = row.failed

pub returns-clause-kept_old : goal.returns-clause-kept_old
returns-clause-kept_old c = row.kept_old
