use Rattle.xn_model.proofs.Waves.{wave_does, wave_flies, wave_lands, wave_apart, wave_runs}
use Rattle.xn_model.proofs.wave_with_faults.Goals as goal

pub returns-clause-replies : goal.returns-clause-replies
returns-clause-replies c = λ w outcome blocks h up can. (wave_does w h up outcome blocks can).0

pub returns-clause-leaves : goal.returns-clause-leaves
returns-clause-leaves c = λ w outcome blocks h up can. (wave_does w h up outcome blocks can).1

pub returns-clause-flying : goal.returns-clause-flying
returns-clause-flying c = λ w outcome blocks b h up can i fails. wave_flies w h up outcome blocks can b i fails

pub returns-clause-runs : goal.returns-clause-runs
returns-clause-runs c = λ w outcome blocks h up can. wave_runs w h up outcome blocks can

pub returns-clause-done : goal.returns-clause-done
returns-clause-done c = λ w outcome blocks b h up can i ends. wave_lands w h up outcome blocks can b i ends

pub returns-clause-others : goal.returns-clause-others
returns-clause-others x = λ w outcome blocks c h up can out. wave_apart w h up outcome blocks can c out
