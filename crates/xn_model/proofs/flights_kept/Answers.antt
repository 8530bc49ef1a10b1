use Rattle.xn_model.proofs.Flights.{flights_init, flights_propose, flights_make_root, flights_drop_root, flights_install, flights_forget}
use Rattle.xn_model.proofs.flights_kept.Goals as goal

pub returns-clause-init : goal.returns-clause-init
returns-clause-init c = flights_init

pub returns-clause-propose : goal.returns-clause-propose
returns-clause-propose c = λ T state new fs block edit entry h e. flights_propose T state new h fs block edit entry e

pub returns-clause-make_root : goal.returns-clause-make_root
returns-clause-make_root c = λ T state new fs block entry h e. flights_make_root T state new h fs block entry e

pub returns-clause-drop_root : goal.returns-clause-drop_root
returns-clause-drop_root c = λ T state new fs entry h e. flights_drop_root T state new h fs entry e

pub returns-clause-install : goal.returns-clause-install
returns-clause-install c = flights_install

pub returns-clause-forget : goal.returns-clause-forget
returns-clause-forget c = flights_forget
