use Rattle.std.proofs.Common.{ap, arith, subst, sym}
use Rattle.std.specs.Prelude.{slice_index}
use Rattle.dependencies.specs.Index.{IsIndex}
use Rattle.dependencies.proofs.FirstEntries.{least_of_all}
use Rattle.dependencies.proofs.index.Index.least_for.Goals as goal

pub returns-then-self-index-eq0 : goal.returns-then-self-index-eq0
returns-then-self-index-eq0 c =
    let cache = c.args.cache.now in
    let mine = subst (IsIndex cache) (sym c.self.view_is) c.requires in
    let fs = c.args.fs.number in
    let at = ap (slice_index c.self.inside.pending) c.index.ensures.value in
    let counted = mine.counted.counts fs (omega (arith, c.index.ensures.in_range, c.index.ensures.value)) in
    let none = c.if-self-index-eq0.true in
    sym (least_of_all c.args.most fs 0 cache (omega (arith, at, counted, none)))
