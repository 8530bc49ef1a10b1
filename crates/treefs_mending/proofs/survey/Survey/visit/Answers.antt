use Rattle.std.proofs.Common.{◌∙◌, ◌++◌, ◌+◌, ap, sym, drop}
use Rattle.std.specs.Prelude.{fold}
use Rattle.std.proofs.lemmas.List.{at_drop_all, at_drop_more}
use Rattle.treefs_lookup.specs.Readable.{readable}
use Rattle.treefs_mending.specs.Names.{live_names}
use Rattle.treefs_mending.specs.Surveys.{Survey, met}
use Rattle.treefs_mending.proofs.survey.Survey.visit.Goals as goal

pub loop-name-init : goal.loop-name-init
loop-name-init g c =
    let content = readable (g.S.Store.state_of c.args.store.now) c.args.tree.fs.number in
    let live = live_names content c.args.directory.block in
    ap (fold (met content c.args.tree.top c.args.directory.number) c.args.self.now)
    (c.deref-name-items.ensures.value ∙ (c.in_ok-push_names.ensures ∙ ap (λ l. l ++ live) c.new-names.ensures.items))

pub loop-name-preserved : goal.loop-name-preserved
loop-name-preserved g c =
    let content = readable (g.S.Store.state_of c.args.store.now) c.args.tree.fs.number in
    let step = met content c.args.tree.top c.args.directory.number in
    let items = c.deref-name-items.result.now in
    let place = c.loop-name.name-index in
    ap (λ (s : Survey). fold step s (drop (place + 1) items)) c.in_ok-meet.ensures
    ∙ (sym (at_drop_more (fold step c.loop-name.self) items place (record { block = 0; offset = 0; number = 0 }) c.loop-name-test.true) ∙ c.loop-name.invariant)

pub returns : goal.returns
returns g c =
    let content = readable (g.S.Store.state_of c.args.store.now) c.args.tree.fs.number in
    sym (at_drop_all (fold (met content c.args.tree.top c.args.directory.number) c.loop-name.self) c.deref-name-items.result.now c.loop-name.name-index
    c.loop-name-test.false) ∙ c.loop-name.invariant
