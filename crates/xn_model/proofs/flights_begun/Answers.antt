use Rattle.xn_model.proofs.Flights.{flights_begun}
use Rattle.xn_model.proofs.flights_begun.Goals as goal

pub returns : goal.returns
returns c = flights_begun
