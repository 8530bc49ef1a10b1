use Rattle.std.proofs.Common.{arith, subst, sym}
use Rattle.dependencies.specs.Index.{IsIndex}
use Rattle.dependencies.proofs.Ended.{few_forgotten}
use Rattle.dependencies.proofs.IndexChanges.{ended_index}
use Rattle.dependencies.proofs.index.Index.note_end.Goals as goal

pub discount-fs-requires-clause-counted : goal.discount-fs-requires-clause-counted
discount-fs-requires-clause-counted c =
    let mine = subst (IsIndex c.args.cache.now) (sym c.self.view_is) c.requires in
    λ fs few. omega (arith, few_forgotten fs c.args.cache.now c.args.block c.pending-count.result c.pending-count.ensures.count, mine.counted.counts fs few)

pub returns : goal.returns
returns c =
    let mine = subst (IsIndex c.args.cache.now) (sym c.self.view_is) c.requires in
    rw (c.give.ensures, c.mark.ensures, c.set.ensures)
    (ended_index c.args.cache.now _ c.args.block c.pending-count.result c.discount-fs.new.pending c.wake.new.self mine c.pending-count.ensures.count c.discount-fs.ensures c.wake.ensures)
