use Rattle.std.proofs.Common.{◌∙◌, sym}
use Rattle.treefs_lookup.specs.Readable.{readable}
use Rattle.treefs_byte_plans.proofs.CutPlaces.{own_ends, own_first, own_here, own_on}
use Rattle.treefs_byte_plans.proofs.cuts.own_cut.Goals as goal

pub loop-other-init : goal.loop-other-init
loop-other-init g c = own_first (readable (g.S.Store.state_of c.args.store.now) c.args.fs.number) c.args.block c.args.place

pub returns-then-child-ne0 : goal.returns-then-child-ne0
returns-then-child-ne0 g c =
    sym (c.loop-other.invariant ∙ own_here (readable (g.S.Store.state_of c.args.store.now) c.args.fs.number) c.args.block c.args.place c.loop-other.other c.loop-other-test.true
    (λ e. c.if-child-ne0.true (c.child.ensures ∙ e)))

pub loop-other-preserved : goal.loop-other-preserved
loop-other-preserved g c =
    c.loop-other.invariant ∙ own_on (readable (g.S.Store.state_of c.args.store.now) c.args.fs.number) c.args.block c.args.place c.loop-other.other c.loop-other-test.true
    (sym c.child.ensures ∙ c.if-child-ne0.false)

pub returns : goal.returns
returns g c =
    sym (c.loop-other.invariant ∙ own_ends (readable (g.S.Store.state_of c.args.store.now) c.args.fs.number) c.args.block c.args.place c.loop-other.other c.loop-other-test.false)
