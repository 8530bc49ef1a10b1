use Rattle.xn_model.proofs.Prefixes.{step_more}
use Rattle.xn_model.proofs.prefixes_grow.Goals as goal

pub returns : goal.returns
returns x = λ w e b c h step other. step_more w h b c other e step
