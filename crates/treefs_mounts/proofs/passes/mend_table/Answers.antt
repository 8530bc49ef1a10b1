use Rattle.std.proofs.Common.{inr, subst}
use Rattle.xn_model.specs.Types.{Types}
use Rattle.treefs_mounts.specs.Passes.{MendsFrom}
use Rattle.treefs_mounts.proofs.passes.mend_table.Goals as goal

pub returns-clause-does : goal.returns-clause-does
returns-clause-does g c =
    let middle = g.S.Store.state_of c.rewrite_buckets.new.store in
    let new = g.S.Store.state_of c.mend_each.new.store in
    let each = subst (λ (t : Types). MendsFrom t c.args.volume.now c.args.tallies.now 1 middle new c.mend_each.result) c.rewrite_buckets.ensures.types c.mend_each.ensures.does in
    inr (middle, c.in_default.ensures.does, each)
