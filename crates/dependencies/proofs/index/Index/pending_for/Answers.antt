use Rattle.std.proofs.Common.{◌∙◌, ap, arith, subst, sym}
use Rattle.std.specs.Prelude.{slice_index}
use Rattle.dependencies.specs.Index.{IsIndex}
use Rattle.dependencies.proofs.index.Index.pending_for.Goals as goal

pub returns : goal.returns
returns c = λ lives index.
    let mine = subst (IsIndex lives) (sym c.self.view_is) index in
    ap (slice_index c.self.inside.pending) c.index.ensures.value ∙ mine.counted.counts c.args.fs.number (omega arith)
