use Rattle.xn_model.proofs.Mixes.{writes_mix, mixes_rest}
use Rattle.xn_model.proofs.writes_mix.Goals as goal

pub returns-clause-done : goal.returns-clause-done
returns-clause-done c = λ w turns h up ready few. (writes_mix w turns h up ready few).done

pub returns-clause-rest : goal.returns-clause-rest
returns-clause-rest c = mixes_rest
