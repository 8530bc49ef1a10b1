use Rattle.xn_model.proofs.Lands.{left_may, idle_rests}
use Rattle.xn_model.proofs.Runs.{left_agrees, left_sound}
use Rattle.xn_model.proofs.left_images.Goals as goal

pub returns-clause-agrees : goal.returns-clause-agrees
returns-clause-agrees c = λ w image h m. left_agrees w h image m

pub returns-clause-sound : goal.returns-clause-sound
returns-clause-sound c = λ w image h m. left_sound w h image m

pub returns-clause-newest : goal.returns-clause-newest
returns-clause-newest c = λ w h. h.newest

pub returns-clause-kept : goal.returns-clause-kept
returns-clause-kept c = λ w kept h. left_may w h kept

pub returns-clause-idle : goal.returns-clause-idle
returns-clause-idle c = λ w b h none. idle_rests w h b none
