use Rattle.std.proofs.Common.{sym, subst}
use Rattle.xn_model.specs.Lives.{Lives, life_at}
use Rattle.claims.proofs.ForCallers.{ended_counts}
use Rattle.dependencies.specs.Index.{IsIndex, IsUnowned}
use Rattle.xn_state.proofs.lives.Lives.forget.Goals as goal

pub move_on-requires : goal.move_on-requires
move_on-requires c = rw c.end.ensures c.note_end-fs.ensures

pub invariant_of-self : goal.invariant_of-self
invariant_of-self c =
    let cache = c.self.inside.cache in
    let unowned = subst (λ (xs : Lives). IsUnowned (life_at xs c.args.block)) (sym c.self.view_is) c.requires in
    rw c.end.ensures (
      ended_counts c.self.inside.owned cache c.args.block c.self.invariant.0 unowned,
      subst (λ (xs : Lives). IsIndex xs c.move_on.new.self) c.end.ensures c.move_on.ensures.index,
    )
