use Rattle.xn_state.specs.States.{own_types}
use Rattle.xn_state.proofs.Unclaimed.{data_owns_nothing}
use Rattle.xn_state.proofs.state.State.owns_nothing.Goals as goal

pub returns-then-ty-eq-DATA_TYPE : goal.returns-then-ty-eq-DATA_TYPE
returns-then-ty-eq-DATA_TYPE c =
    data_owns_nothing (own_types c.args.self.now) c.args.self.now c.args.ty c.args.bytes.now c.keeps_rules.ensures c.if-ty-eq-DATA_TYPE.true
