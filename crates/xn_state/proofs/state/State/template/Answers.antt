use Rattle.std.specs.Option.{option_copied}
use Rattle.templates.proofs.ForCallers.{tells}
use Rattle.xn_state.specs.States.{own_types}
use Rattle.xn_state.proofs.state.State.template.Goals as goal

pub returns : goal.returns
returns c = tells c.types.result.now (own_types c.args.self.now) c.args.ty (option_copied c.get.result) c.get.ensures.value c.types.ensures
