use Rattle.std.proofs.Common.{◌∙◌, ap}
use Rattle.std.specs.Prelude.{is_some, nat_lt, sum_by}
use Rattle.std.specs.List.{list_any}
use Rattle.xn_model.specs.Lives.{Lives, alive_and}
use Rattle.block_cache.specs.Totals.{in_flight_of}
use Rattle.block_cache.specs.declared.totals.Totals.{Totals}
use Rattle.block_cache.proofs.Counting.{any_in_flight_is}
use Rattle.block_cache.proofs.cache.Cache.is_any_in_flight.Goals as goal

pub returns : goal.returns
returns c =
    ap (nat_lt 0) (ap (λ (t : Totals). t.in_flight) c.lives.invariant.counted ∙ ap (sum_by in_flight_of) c.lives.view_is)
    ∙ (any_in_flight_is c.self.inside.entries c.self.inside.lives
    ∙ ap (λ (ls : Lives). list_any (alive_and (λ l. is_some l.begun)) ls) c.self.view_is)
