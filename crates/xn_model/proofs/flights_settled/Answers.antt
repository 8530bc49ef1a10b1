use Rattle.xn_model.proofs.Flights.{flights_settled}
use Rattle.xn_model.proofs.flights_settled.Goals as goal

pub returns : goal.returns
returns c = flights_settled
