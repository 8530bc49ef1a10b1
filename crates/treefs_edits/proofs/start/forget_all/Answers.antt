use Rattle.std.proofs.Common.{◌≡◌, ◌+◌, ◌∷◌, ◌∙◌, ℕ, List, add-one, ap, drop, get_or, sym}
use Rattle.std.proofs.Math.Seq.{drop-cons}
use Rattle.xn_model.specs.Types.{Types}
use Rattle.xn_model.specs.Calls.{forget_of}
use Rattle.treefs_edits.specs.Plans.{forgotten, left_by}
use Rattle.treefs_edits.proofs.Left.{exactly_left}
use Rattle.treefs_edits.proofs.start.forget_all.Goals as goal

pub loop-block-preserved : goal.loop-block-preserved
loop-block-preserved g c =
    let T = g.S.Store.types_of c.args.store.now in
    let fs = c.args.fs.number in
    let i = c.loop-block.block-index in
    let bs = c.args.blocks.now in
    let old = g.S.Store.state_of c.loop-block.store in
    let new = g.S.Store.state_of c.forget.new.self in
    let first : drop i bs ≡ get_or bs i 0 ∷ drop (i + 1) bs = rw add-one (drop-cons bs i 0 c.loop-block-test.true) in
    record {
      types = c.forget.ensures.types ∙ c.loop-block.invariant.types;
      goes = ap (forgotten T fs (drop (i + 1) bs)) (exactly_left _ old new c.forget.result c.forget.ensures.state ∙ ap (λ (t : Types). left_by (forget_of t old fs (get_or bs i 0)) old) c.loop-block.invariant.types)
          ∙ (ap (λ (xs : List ℕ). forgotten T fs xs old) (sym first) ∙ c.loop-block.invariant.goes);
    }
