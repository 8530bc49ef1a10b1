use Rattle.std.proofs.Common.{subst, sym}
use Rattle.xn_model.specs.Lives.{Lives}
use Rattle.claims.specs.Owned.{AreOwnedCounts}
use Rattle.claims.proofs.ForCallers.{begun_counts}
use Rattle.xn_state.proofs.lives.Lives.begin.Goals as goal

pub note_begin-requires : goal.note_begin-requires
note_begin-requires c = (c.self.inside.cache, c.args.count, c.begin.ensures, c.self.invariant.1)

pub invariant_of-self : goal.invariant_of-self
invariant_of-self c =
    let owned = begun_counts c.self.inside.owned c.self.inside.cache c.args.block c.args.count c.self.invariant.0 in
    (subst (λ (xs : Lives). AreOwnedCounts c.self.inside.owned xs) (sym c.begin.ensures) owned, c.note_begin.ensures.index)
