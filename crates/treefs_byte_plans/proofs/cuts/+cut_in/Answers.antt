use Rattle.std.proofs.Common.{◌≡◌, ◌∙◌, ◌-◌, ◌/◌, Some, None, ap, arith, suc, sym}
use Rattle.treefs_lookup.specs.Readable.{readable}
use Rattle.treefs_byte_plans.specs.Cuts.{cut_place, own_cut}
use Rattle.treefs_byte_plans.proofs.CutPlaces.{below_is, below_none, cut_ends, cut_first, cut_here, cut_on}
use Rattle.treefs_byte_plans.proofs.cuts.+cut_in.Goals as goal

pub loop-place-init : goal.loop-place-init
loop-place-init g t c =
    let height : c.args.height ≡ suc (c.args.height - 1) = omega arith in
    cut_first (readable (g.S.Store.state_of c.args.store.now) c.args.fs.number) (c.args.height - 1) c.args.block c.args.keep c.args.height (c.args.keep / c.leaves_below-span.result) height
    (ap (λ s. c.args.keep / s) c.leaves_below-span.ensures.leaves)

pub loop-place-preserved-then-below-eq0 : goal.loop-place-preserved-then-below-eq0
loop-place-preserved-then-below-eq0 g t c =
    let content = readable (g.S.Store.state_of c.args.store.now) c.args.fs.number in
    let h = c.args.height - 1 in
    c.loop-place.invariant ∙ cut_on content h c.args.block c.args.keep c.loop-place.place c.loop-place-test.true
    (below_none content h c.args.block c.args.keep c.loop-place.place c.child-below.result c.child-below.ensures c.if-below-eq0.true)

pub returns-in-Some : goal.returns-in-Some
returns-in-Some g t c =
    let content = readable (g.S.Store.state_of c.args.store.now) c.args.fs.number in
    let h = c.args.height - 1 in
    sym (c.loop-place.invariant ∙ cut_here content h c.args.block c.args.keep c.loop-place.place c.in-Some.cut c.loop-place-test.true
    (below_is content h c.args.block c.args.keep c.loop-place.place c.child-below.result c.kept_below-kept.result c.leaves_below-span.result (Some c.in-Some.cut) c.child-below.ensures c.if-below-eq0.false c.leaves_below-span.ensures.leaves c.kept_below-kept.ensures c.in-Some.ensures))

pub loop-place-preserved : goal.loop-place-preserved
loop-place-preserved g t c =
    let content = readable (g.S.Store.state_of c.args.store.now) c.args.fs.number in
    let h = c.args.height - 1 in
    c.loop-place.invariant ∙ cut_on content h c.args.block c.args.keep c.loop-place.place c.loop-place-test.true
    (below_is content h c.args.block c.args.keep c.loop-place.place c.child-below.result c.kept_below-kept.result c.leaves_below-span.result None c.child-below.ensures c.if-below-eq0.false c.leaves_below-span.ensures.leaves c.kept_below-kept.ensures c.in_default.ensures)

pub returns : goal.returns
returns g t c =
    let content = readable (g.S.Store.state_of c.args.store.now) c.args.fs.number in
    let h = c.args.height - 1 in
    sym (c.loop-place.invariant ∙ (cut_ends content h c.args.block c.args.keep c.loop-place.place c.loop-place-test.false
    ∙ sym (c.own_cut.ensures ∙ ap (own_cut content c.args.block) (c.cut_place.ensures ∙ ap (λ s. cut_place c.args.keep s) c.leaves_below-span.ensures.leaves))))
