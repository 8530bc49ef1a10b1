use Rattle.std.specs.Option.{option_copied}
use Rattle.std.specs.Prelude.{unwrap_or}
use Rattle.xn_model.specs.Lives.{life_at}
use Rattle.xn_model.specs.Calls.{life_bytes}
use Rattle.xn_state.specs.States.{own_types}
use Rattle.xn_state.proofs.Freeing.{may_free}
use Rattle.xn_state.proofs.Keeping.{state_of}
use Rattle.xn_state.proofs.Settling.{settled_state}
use Rattle.xn_state.proofs.state.State.settled_unless.Goals as goal

pub settle_unless-requires : goal.settle_unless-requires
settle_unless-requires c =
    let old = state_of c.self.inside.lives c.self.inside.next in
    let bytes = unwrap_or (option_copied c.args.other) (life_bytes (life_at c.self.inside.lives c.args.block)) in
    record { drops = λ count. may_free (own_types old) old c.args.block count bytes c.self.invariant.rules }

pub invariant_of-self : goal.invariant_of-self
invariant_of-self c =
    let done = c.settle_unless.ensures in
    settled_state c.self.inside.table c.self.inside.reads c.self.inside.lives c.settle_unless.new.self c.self.inside.next c.args.block _ c.settle_unless.result c.self.invariant done.count done.lives done.err
