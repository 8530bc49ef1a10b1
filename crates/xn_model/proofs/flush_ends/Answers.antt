use Rattle.xn_model.proofs.Flush.{flush_ends, flush_answered, flush_runs}
use Rattle.xn_model.proofs.flush_ends.Goals as goal

pub returns-clause-few : goal.returns-clause-few
returns-clause-few c = λ w limit h up idle some. (flush_ends w limit h up idle some).few

pub returns-clause-nothing : goal.returns-clause-nothing
returns-clause-nothing c = λ w limit h up idle some. (flush_ends w limit h up idle some).nothing

pub returns-clause-idle : goal.returns-clause-idle
returns-clause-idle c = λ w limit h up idle some. (flush_ends w limit h up idle some).idle

pub returns-clause-answered : goal.returns-clause-answered
returns-clause-answered c = flush_answered

pub returns-clause-runs : goal.returns-clause-runs
returns-clause-runs c = λ w limit h. flush_runs w limit h
