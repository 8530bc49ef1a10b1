use Rattle.std.proofs.Common.{◌∙◌, inl, length, refl}
use Rattle.std.specs.Prelude.{nat_lt}
use Rattle.tree_changes.specs.Moving.{IsUnmoved, Moves}
use Rattle.tree_changes.proofs.Along.{ends_there, goes_on, none_yet, stops_there}
use Rattle.tree_changes.proofs.moving.rename.Goals as goal

pub loop-path-init : goal.loop-path-init
loop-path-init g c =
    let opened = c.args.opened.now in
    let T = g.S.Store.types_of opened.session.store in
    let several = nat_lt 1 (length c.args.paths.now) in
    record {
      types = refl;
      folder = refl;
      tells = none_yet (Moves T opened.folder c.args.to.now several) (IsUnmoved T opened.folder c.args.to.now several) opened.told
          (g.S.Store.state_of opened.session.store) opened.session.volume;
    }

pub returns-in_err-goal-clause-does : goal.returns-in_err-goal-clause-does
returns-in_err-goal-clause-does g c =
    let first = c.args.opened.now in
    let before = c.loop-path.opened in
    let T = g.S.Store.types_of first.session.store in
    let several = nat_lt 1 (length c.args.paths.now) in
    stops_there (Moves T first.folder c.args.to.now several) (IsUnmoved T first.folder c.args.to.now several) c.args.paths.now c.loop-path.path-index c.args.to
    c.loop-path-test.true first.told before.told before.told (g.S.Store.state_of first.session.store) (g.S.Store.state_of before.session.store)
    (g.S.Store.state_of before.session.store) first.session.volume before.session.volume before.session.volume c.loop-path.invariant.tells (inl (refl, refl))
    c.from_residual.result c.from_residual.ensures.0

pub returns-in_err-go_on-clause-does : goal.returns-in_err-go_on-clause-does
returns-in_err-go_on-clause-does g c =
    let first = c.args.opened.now in
    let before = c.loop-path.opened in
    let after = c.move_one-done.new.opened in
    let moved = c.move_one-done.ensures in
    let several = nat_lt 1 (length c.args.paths.now) in
    ends_there (λ T folder. Moves T folder c.args.to.now several) (λ T folder. IsUnmoved T folder c.args.to.now several)
    (g.S.Store.types_of first.session.store) (g.S.Store.types_of before.session.store)
    first.folder before.folder c.loop-path.invariant.types c.loop-path.invariant.folder c.args.paths.now c.loop-path.path-index _ c.loop-path-test.true
    first.told before.told after.told c.go_on.new.self
    (g.S.Store.state_of first.session.store) (g.S.Store.state_of before.session.store) (g.S.Store.state_of after.session.store)
    first.session.volume before.session.volume after.session.volume c.move_one-done.result c.go_on.result c.loop-path.invariant.tells moved.told
    (moved.does several c.in_ok-goal.ensures) c.go_on.ensures c.in_err-go_on.field-0.0 c.from_residual-in_err-go_on.result c.in_err-go_on.was
    c.from_residual-in_err-go_on.ensures.0

pub loop-path-preserved : goal.loop-path-preserved
loop-path-preserved g c =
    let first = c.args.opened.now in
    let before = c.loop-path.opened in
    let after = c.move_one-done.new.opened in
    let moved = c.move_one-done.ensures in
    let several = nat_lt 1 (length c.args.paths.now) in
    record {
      types = moved.types ∙ c.loop-path.invariant.types;
      folder = moved.folder ∙ c.loop-path.invariant.folder;
      tells = goes_on (λ T folder. Moves T folder c.args.to.now several) (λ T folder. IsUnmoved T folder c.args.to.now several)
          (g.S.Store.types_of first.session.store) (g.S.Store.types_of before.session.store)
          first.folder before.folder c.loop-path.invariant.types c.loop-path.invariant.folder c.args.paths.now c.loop-path.path-index _ c.loop-path-test.true
          first.told before.told after.told c.go_on.new.self
          (g.S.Store.state_of first.session.store) (g.S.Store.state_of before.session.store) (g.S.Store.state_of after.session.store)
          first.session.volume before.session.volume after.session.volume c.move_one-done.result c.go_on.result c.loop-path.invariant.tells moved.told
          (moved.does several c.in_ok-goal.ensures) c.go_on.ensures c.in_ok-go_on.was;
    }
