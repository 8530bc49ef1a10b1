use Rattle.std.proofs.Common.{subst, sym}
use Rattle.dependencies.specs.Index.{IsIndex}
use Rattle.dependencies.proofs.index.Index.move_on.Goals as goal

pub move_on-requires : goal.move_on-requires
move_on-requires c =
    let mine = subst (IsIndex c.args.cache.now) (sym c.self.view_is) c.requires in
    record { homes = mine.homes; oldest = mine.oldest }

pub returns-in-Some-clause-index : goal.returns-in-Some-clause-index
returns-in-Some-clause-index c =
    let mine = subst (IsIndex c.args.cache.now) (sym c.self.view_is) c.requires in
    record { counted = mine.counted; oldest = c.move_on.ensures.oldest; dirty = mine.dirty; candidates = mine.candidates; homes = mine.homes }
