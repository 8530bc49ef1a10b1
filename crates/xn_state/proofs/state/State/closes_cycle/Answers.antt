use Rattle.std.proofs.Common.{◌∙◌, ap}
use Rattle.xn_model.specs.Lists.{blocks_of, has_number}
use Rattle.xn_model.specs.Lives.{chain_end}
use Rattle.claims.proofs.ForCallers.{has_block}
use Rattle.xn_model.specs.Lives.{StoreState}
use Rattle.xn_state.specs.declared.state.State.TheInside.{Inside}
use Rattle.xn_state.proofs.state.State.closes_cycle.Goals as goal

pub returns-then-not-is_empty : goal.returns-then-not-is_empty
returns-then-not-is_empty c =
    c.names.ensures
    ∙ (has_block c.args.adds.now c.chain_end.result
    ∙ ap (has_number (blocks_of c.args.adds.now)) (c.chain_end.ensures
    ∙ (ap (λ (at : Inside). chain_end at.lives c.args.block) c.self-inside.view_is ∙ ap (λ (s : StoreState). chain_end s.lives c.args.block) c.self.view_is)))
