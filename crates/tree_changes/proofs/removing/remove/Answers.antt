use Rattle.std.proofs.Common.{◌∙◌, refl}
use Rattle.tree_changes.specs.Emptying.{KeepsSome, RemovesAll}
use Rattle.tree_changes.specs.Removing.{IsKept, Removes}
use Rattle.tree_changes.proofs.Along.{ends_there, goes_on, none_yet}
use Rattle.tree_changes.proofs.AlongTold.{answers_end, ends_along, ends_line, goes_along, none_along}
use Rattle.tree_changes.proofs.removing.remove.Goals as goal

pub loop-path-init : goal.loop-path-init
loop-path-init g c =
    let opened = c.args.opened.now in
    let T = g.S.Store.types_of opened.session.store in
    record {
      types = refl;
      folder = refl;
      tells = λ plain. none_yet (Removes c.args.how.is_forced T opened.folder) (IsKept T opened.folder) opened.told
          (g.S.Store.state_of opened.session.store) opened.session.volume;
      along = λ recursive. none_along (RemovesAll c.args.how.is_forced T opened.folder) (KeepsSome T opened.folder) opened.told
          (g.S.Store.state_of opened.session.store) opened.session.volume;
    }

pub returns-in_err-go_on-clause-does : goal.returns-in_err-go_on-clause-does
returns-in_err-go_on-clause-does g c =
    let first = c.args.opened.now in
    let before = c.loop-path.opened in
    let after = c.remove_one-done.new.opened in
    let told = c.remove_one-done.ensures in
    λ plain. ends_there (Removes c.args.how.is_forced) IsKept (g.S.Store.types_of first.session.store) (g.S.Store.types_of before.session.store)
    first.folder before.folder c.loop-path.invariant.types c.loop-path.invariant.folder c.args.paths.now c.loop-path.path-index _ c.loop-path-test.true
    first.told before.told after.told
    c.go_on.new.self (g.S.Store.state_of first.session.store) (g.S.Store.state_of before.session.store) (g.S.Store.state_of after.session.store)
    first.session.volume before.session.volume after.session.volume c.remove_one-done.result c.go_on.result
    (c.loop-path.invariant.tells plain) (told.told plain) (told.does plain)
    c.go_on.ensures c.in_err-go_on.field-0.0 c.from_residual.result c.in_err-go_on.was c.from_residual.ensures.0

pub returns-in_err-go_on-clause-all : goal.returns-in_err-go_on-clause-all
returns-in_err-go_on-clause-all g c =
    let first = c.args.opened.now in
    let before = c.loop-path.opened in
    let after = c.remove_one-done.new.opened in
    λ recursive. ends_along (RemovesAll c.args.how.is_forced) KeepsSome (g.S.Store.types_of first.session.store) (g.S.Store.types_of before.session.store)
    first.folder before.folder c.loop-path.invariant.types c.loop-path.invariant.folder c.args.paths.now c.loop-path.path-index _ c.loop-path-test.true
    first.told before.told after.told c.go_on.new.self
    (g.S.Store.state_of first.session.store) (g.S.Store.state_of before.session.store) (g.S.Store.state_of after.session.store)
    first.session.volume before.session.volume after.session.volume c.remove_one-done.result c.go_on.result
    (c.loop-path.invariant.along recursive) (c.remove_one-done.ensures.all recursive) c.go_on.ensures
    c.in_err-go_on.field-0.0 c.from_residual.result c.in_err-go_on.was c.from_residual.ensures.1

pub returns-in_err-go_on-clause-ends : goal.returns-in_err-go_on-clause-ends
returns-in_err-go_on-clause-ends g c =
    let after = c.remove_one-done.new.opened in
    let ends = ends_line after.told c.go_on.new.self c.remove_one-done.result c.go_on.result c.in_err-go_on.field-0.0 c.go_on.ensures c.in_err-go_on.was in
    answers_end c.in_err-go_on.field-0.0 c.from_residual.result ends c.from_residual.ensures.1

pub loop-path-preserved : goal.loop-path-preserved
loop-path-preserved g c =
    let first = c.args.opened.now in
    let before = c.loop-path.opened in
    let after = c.remove_one-done.new.opened in
    let told = c.remove_one-done.ensures in
    record {
      types = told.types ∙ c.loop-path.invariant.types;
      folder = told.folder ∙ c.loop-path.invariant.folder;
      tells = λ plain. goes_on (Removes c.args.how.is_forced) IsKept (g.S.Store.types_of first.session.store) (g.S.Store.types_of before.session.store)
          first.folder before.folder c.loop-path.invariant.types c.loop-path.invariant.folder c.args.paths.now c.loop-path.path-index _ c.loop-path-test.true
          first.told before.told
          after.told c.go_on.new.self (g.S.Store.state_of first.session.store) (g.S.Store.state_of before.session.store)
          (g.S.Store.state_of after.session.store)
          first.session.volume before.session.volume after.session.volume c.remove_one-done.result c.go_on.result
          (c.loop-path.invariant.tells plain) (told.told plain) (told.does plain)
          c.go_on.ensures c.in_ok-go_on.was;
      along = λ recursive. goes_along (RemovesAll c.args.how.is_forced) KeepsSome (g.S.Store.types_of first.session.store)
          (g.S.Store.types_of before.session.store)
          first.folder before.folder c.loop-path.invariant.types c.loop-path.invariant.folder c.args.paths.now c.loop-path.path-index _ c.loop-path-test.true
          first.told before.told after.told c.go_on.new.self (g.S.Store.state_of first.session.store) (g.S.Store.state_of before.session.store)
          (g.S.Store.state_of after.session.store)
          first.session.volume before.session.volume after.session.volume c.remove_one-done.result c.go_on.result
          (c.loop-path.invariant.along recursive) (told.all recursive) c.go_on.ensures c.in_ok-go_on.was;
    }
