-- The writes that are under way.
--     flight_of o               how many entries a begun write carries, and the bytes that it is to write
--     HaveSameFlights old new   in every block the same
use Rattle.std.specs.Prelude.{◌≡◌, ℕ, List, Option, Some, None, option_map}
use Rattle.xn_model.specs.Lives.{Life, Lives, life_at}
use Rattle.xn_model.specs.Calls.{bytes_at}

abbrev pub flight_of : Option Life → Option (ℕ × List ℕ)
flight_of None = None
flight_of (Some l) = option_map (λ k. (k, bytes_at k l)) l.begun

abbrev pub HaveSameFlights : Lives → Lives → Type 0
HaveSameFlights old new = (b : ℕ) → flight_of (life_at new b) ≡ flight_of (life_at old b)

-- in every block but one
abbrev pub HaveSameFlightsBut : ℕ → Lives → Lives → Type 0
HaveSameFlightsBut b old new = (c : ℕ) → (c ≡ b → ⊥) → flight_of (life_at new c) ≡ flight_of (life_at old c)
