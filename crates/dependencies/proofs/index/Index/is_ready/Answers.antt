use Rattle.std.proofs.Common.{◌∙◌, Some, ap, not, subst, sym}
use Rattle.std.specs.Prelude.{option_map}
use Rattle.xn_model.specs.Lives.{life_at}
use Rattle.block_cache.specs.Views.{facts_of}
use Rattle.dependencies.proofs.Accounts.{ready_at}
use Rattle.dependencies.specs.Index.{IsIndex}
use Rattle.dependencies.proofs.index.Index.is_ready.Goals as goal

pub is_safe_at-requires-clause-homes : goal.is_safe_at-requires-clause-homes
is_safe_at-requires-clause-homes c =
    let mine = subst (IsIndex c.args.cache.now) (sym c.self.view_is) c.requires.index in
    mine.homes

pub returns-then-is_none : goal.returns-then-is_none
returns-then-is_none c =
    c.is_safe_at.ensures
    ∙ ready_at c.args.cache.now (life_at c.args.cache.now c.args.block) c.facts.result (ap (λ f. Some f) c.facts.ensures.facts ∙ ap (option_map facts_of) c.in-Some.ensures) (c.is_none.ensures ∙ ap not c.if-is_none.true)
