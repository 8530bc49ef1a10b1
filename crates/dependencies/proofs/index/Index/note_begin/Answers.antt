use Rattle.dependencies.proofs.IndexChanges.{begun_index}
use Rattle.dependencies.proofs.index.Index.note_begin.Goals as goal

pub trim-requires : goal.trim-requires
trim-requires c =
    let begun = begun_index c.args.block c.self.view_is c.requires in
    record { dirty = begun.dirty; homes = begun.homes; candidates = rw c.set.ensures begun.candidates }

pub returns-clause-index : goal.returns-clause-index
returns-clause-index c =
    let begun = begun_index c.args.block c.self.view_is c.requires in
    record { counted = begun.counted; oldest = begun.oldest; dirty = begun.dirty; candidates = c.trim.ensures.kept; homes = begun.homes }
