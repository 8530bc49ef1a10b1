use Rattle.std.proofs.Common.{subst, sym}
use Rattle.dependencies.specs.Index.{IsIndex}
use Rattle.dependencies.proofs.index.Index.note_settle.Goals as goal

pub trim-requires : goal.trim-requires
trim-requires c =
    let mine = subst (IsIndex c.args.cache.now) (sym c.self.view_is) c.requires in
    record { dirty = mine.dirty; homes = mine.homes; candidates = mine.candidates }

pub move_on-requires : goal.move_on-requires
move_on-requires c =
    let mine = subst (IsIndex c.args.cache.now) (sym c.self.view_is) c.requires in
    record { counted = mine.counted; oldest = mine.oldest; dirty = mine.dirty; candidates = c.trim.ensures.kept; homes = mine.homes }
