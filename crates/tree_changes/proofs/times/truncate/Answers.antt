use Rattle.std.proofs.Common.{◌∙◌, refl}
use Rattle.tree_changes.specs.Files.{IsUnsized, Sizes}
use Rattle.tree_changes.proofs.Along.{ends_there, goes_on, none_yet}
use Rattle.tree_changes.proofs.times.truncate.Goals as goal

pub loop-path-init : goal.loop-path-init
loop-path-init g c =
    let opened = c.args.opened.now in
    let T = g.S.Store.types_of opened.session.store in
    record {
      types = refl;
      folder = refl;
      tells = none_yet (Sizes c.args.size T opened.folder) (IsUnsized c.args.size T opened.folder) opened.told
          (g.S.Store.state_of opened.session.store) opened.session.volume;
    }

pub returns-in_err-go_on-clause-does : goal.returns-in_err-go_on-clause-does
returns-in_err-go_on-clause-does g c =
    let first = c.args.opened.now in
    let before = c.loop-path.opened in
    let after = c.truncate_one-done.new.opened in
    let told = c.truncate_one-done.ensures in
    ends_there (Sizes c.args.size) (IsUnsized c.args.size) (g.S.Store.types_of first.session.store) (g.S.Store.types_of before.session.store)
    first.folder before.folder c.loop-path.invariant.types c.loop-path.invariant.folder c.args.paths.now c.loop-path.path-index _ c.loop-path-test.true
    first.told before.told after.told
    c.go_on.new.self (g.S.Store.state_of first.session.store) (g.S.Store.state_of before.session.store) (g.S.Store.state_of after.session.store)
    first.session.volume before.session.volume after.session.volume c.truncate_one-done.result c.go_on.result
    c.loop-path.invariant.tells told.told told.does
    c.go_on.ensures c.in_err-go_on.field-0.0 c.from_residual.result c.in_err-go_on.was c.from_residual.ensures.0

pub loop-path-preserved : goal.loop-path-preserved
loop-path-preserved g c =
    let first = c.args.opened.now in
    let before = c.loop-path.opened in
    let after = c.truncate_one-done.new.opened in
    let told = c.truncate_one-done.ensures in
    record {
      types = told.types ∙ c.loop-path.invariant.types;
      folder = told.folder ∙ c.loop-path.invariant.folder;
      tells = goes_on (Sizes c.args.size) (IsUnsized c.args.size) (g.S.Store.types_of first.session.store) (g.S.Store.types_of before.session.store)
          first.folder before.folder c.loop-path.invariant.types c.loop-path.invariant.folder c.args.paths.now c.loop-path.path-index _ c.loop-path-test.true
          first.told before.told
          after.told c.go_on.new.self (g.S.Store.state_of first.session.store) (g.S.Store.state_of before.session.store)
          (g.S.Store.state_of after.session.store)
          first.session.volume before.session.volume after.session.volume c.truncate_one-done.result c.go_on.result
          c.loop-path.invariant.tells told.told told.does
          c.go_on.ensures c.in_ok-go_on.was;
    }
