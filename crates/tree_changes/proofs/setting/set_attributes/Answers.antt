use Rattle.std.proofs.Common.{◌∙◌, refl}
use Rattle.tree_changes.specs.Attributes.{IsSet, IsUnset}
use Rattle.tree_changes.specs.Below.{SetsTree, SetsTreeUpTo}
use Rattle.tree_changes.proofs.Along.{ends_there, goes_on, none_yet}
use Rattle.tree_changes.proofs.AlongTold.{answers_end, ends_along, ends_line, goes_along, none_along}
use Rattle.tree_changes.proofs.setting.set_attributes.Goals as goal

pub loop-path-init : goal.loop-path-init
loop-path-init g c =
    let opened = c.args.opened.now in
    let T = g.S.Store.types_of opened.session.store in
    record {
      types = refl;
      folder = refl;
      tells = λ plain. none_yet (IsSet c.args.setting.now T opened.folder) (IsUnset c.args.setting.now T opened.folder) opened.told
          (g.S.Store.state_of opened.session.store) opened.session.volume;
      along = λ recursive. none_along (SetsTree c.args.setting.now T opened.folder) (SetsTreeUpTo c.args.setting.now T opened.folder) opened.told
          (g.S.Store.state_of opened.session.store) opened.session.volume;
    }

pub returns-in_err-go_on-clause-does : goal.returns-in_err-go_on-clause-does
returns-in_err-go_on-clause-does g c =
    let first = c.args.opened.now in
    let before = c.loop-path.opened in
    let after = c.set_one-done.new.opened in
    let told = c.set_one-done.ensures in
    λ plain. ends_there (IsSet c.args.setting.now) (IsUnset c.args.setting.now) (g.S.Store.types_of first.session.store) (g.S.Store.types_of before.session.store)
    first.folder before.folder c.loop-path.invariant.types c.loop-path.invariant.folder c.args.paths.now c.loop-path.path-index _ c.loop-path-test.true
    first.told before.told after.told
    c.go_on.new.self (g.S.Store.state_of first.session.store) (g.S.Store.state_of before.session.store) (g.S.Store.state_of after.session.store)
    first.session.volume before.session.volume after.session.volume c.set_one-done.result c.go_on.result
    (c.loop-path.invariant.tells plain) (told.told plain) (told.does plain)
    c.go_on.ensures c.in_err-go_on.field-0.0 c.from_residual.result c.in_err-go_on.was c.from_residual.ensures.0

pub returns-in_err-go_on-clause-below : goal.returns-in_err-go_on-clause-below
returns-in_err-go_on-clause-below g c =
    let first = c.args.opened.now in
    let before = c.loop-path.opened in
    let after = c.set_one-done.new.opened in
    λ recursive. ends_along (SetsTree c.args.setting.now) (SetsTreeUpTo c.args.setting.now) (g.S.Store.types_of first.session.store)
    (g.S.Store.types_of before.session.store)
    first.folder before.folder c.loop-path.invariant.types c.loop-path.invariant.folder c.args.paths.now c.loop-path.path-index _ c.loop-path-test.true
    first.told before.told after.told c.go_on.new.self
    (g.S.Store.state_of first.session.store) (g.S.Store.state_of before.session.store) (g.S.Store.state_of after.session.store)
    first.session.volume before.session.volume after.session.volume c.set_one-done.result c.go_on.result
    (c.loop-path.invariant.along recursive) (c.set_one-done.ensures.below recursive) c.go_on.ensures
    c.in_err-go_on.field-0.0 c.from_residual.result c.in_err-go_on.was c.from_residual.ensures.1

pub returns-in_err-go_on-clause-ends : goal.returns-in_err-go_on-clause-ends
returns-in_err-go_on-clause-ends g c =
    let after = c.set_one-done.new.opened in
    let ends = ends_line after.told c.go_on.new.self c.set_one-done.result c.go_on.result c.in_err-go_on.field-0.0 c.go_on.ensures c.in_err-go_on.was in
    answers_end c.in_err-go_on.field-0.0 c.from_residual.result ends c.from_residual.ensures.1

pub loop-path-preserved : goal.loop-path-preserved
loop-path-preserved g c =
    let first = c.args.opened.now in
    let before = c.loop-path.opened in
    let after = c.set_one-done.new.opened in
    let told = c.set_one-done.ensures in
    record {
      types = told.types ∙ c.loop-path.invariant.types;
      folder = told.folder ∙ c.loop-path.invariant.folder;
      tells = λ plain. goes_on (IsSet c.args.setting.now) (IsUnset c.args.setting.now) (g.S.Store.types_of first.session.store) (g.S.Store.types_of before.session.store)
          first.folder before.folder c.loop-path.invariant.types c.loop-path.invariant.folder c.args.paths.now c.loop-path.path-index _ c.loop-path-test.true
          first.told before.told
          after.told c.go_on.new.self (g.S.Store.state_of first.session.store) (g.S.Store.state_of before.session.store)
          (g.S.Store.state_of after.session.store)
          first.session.volume before.session.volume after.session.volume c.set_one-done.result c.go_on.result
          (c.loop-path.invariant.tells plain) (told.told plain) (told.does plain)
          c.go_on.ensures c.in_ok-go_on.was;
      along = λ recursive. goes_along (SetsTree c.args.setting.now) (SetsTreeUpTo c.args.setting.now) (g.S.Store.types_of first.session.store)
          (g.S.Store.types_of before.session.store)
          first.folder before.folder c.loop-path.invariant.types c.loop-path.invariant.folder c.args.paths.now c.loop-path.path-index _ c.loop-path-test.true
          first.told before.told after.told c.go_on.new.self (g.S.Store.state_of first.session.store) (g.S.Store.state_of before.session.store)
          (g.S.Store.state_of after.session.store)
          first.session.volume before.session.volume after.session.volume c.set_one-done.result c.go_on.result
          (c.loop-path.invariant.along recursive) (told.below recursive) c.go_on.ensures c.in_ok-go_on.was;
    }
