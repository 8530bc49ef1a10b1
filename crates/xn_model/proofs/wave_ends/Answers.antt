use Rattle.xn_model.specs.Waves.{wave}
use Rattle.xn_model.specs.Worlds.{world_after}
use Rattle.xn_model.proofs.Flush.{calm_does, wave_flights, wave_idle, wave_less}
use Rattle.xn_model.proofs.wave_ends.Goals as goal

pub returns-clause-flights : goal.returns-clause-flights
returns-clause-flights c = λ w blocks h up can. wave_flights w h blocks can (world_after w (wave blocks)) (calm_does w h up blocks can).1

pub returns-clause-idle : goal.returns-clause-idle
returns-clause-idle c = λ w blocks h up can idle. wave_idle w h blocks can (world_after w (wave blocks)) (calm_does w h up blocks can).1 idle

pub returns-clause-less : goal.returns-clause-less
returns-clause-less c = λ w blocks b h up can i. wave_less w h blocks can (world_after w (wave blocks)) (calm_does w h up blocks can).1 b i
