use Rattle.std.proofs.Common.{◌∙◌, ℕ, ◌+◌, inl, inr, length, map, refl, subst, sym, take, vec_len}
use Rattle.std.specs.Prelude.{nat_lt}
use Rattle.tree_changes.specs.CopiedPaths.CopiesAlong.{none}
use Rattle.tree_changes.specs.Copying.{CopiesAt, IsLeftAt}
use Rattle.tree_changes.specs.Paths.{DoesPaths, TellsEach}
use Rattle.tree_changes.proofs.Along.{ends_there, goes_on, none_yet, stops_there}
use Rattle.tree_changes.proofs.PathsCopied.{all_along, along_ends, no_goal, one_along}
use Rattle.tree_changes.proofs.copying.copy.Goals as goal

pub loop-path-init : goal.loop-path-init
loop-path-init g c =
    let opened = c.args.opened.now in
    let T = g.S.Store.types_of opened.session.store in
    let several = nat_lt 1 (length c.args.paths.now) in
    record {
      types = refl;
      folder = refl;
      piece = c.in_ok-copying.ensures.piece;
      recursive = c.in_ok-copying.ensures.recursive;
      tells = λ single. none_yet (CopiesAt 262144 T opened.folder c.args.to.now several) (IsLeftAt 262144 T opened.folder c.args.to.now several) opened.told
          (g.S.Store.state_of opened.session.store) opened.session.volume;
      trees = λ all. (
        c.in_ok-copying.copying,
        (c.in_ok-copying.ensures.none.0, c.in_ok-copying.ensures.none.1, c.in_ok-copying.ensures.recursive ∙ all),
        none,
      );
    }

pub returns-in_err-goal-clause-does : goal.returns-in_err-goal-clause-does
returns-in_err-goal-clause-does g c =
    let first = c.args.opened.now in
    let before = c.loop-path.opened in
    let T = g.S.Store.types_of first.session.store in
    let several = nat_lt 1 (length c.args.paths.now) in
    λ single. inr (stops_there (CopiesAt 262144 T first.folder c.args.to.now several) (IsLeftAt 262144 T first.folder c.args.to.now several) c.args.paths.now
    c.loop-path.path-index c.args.to
    c.loop-path-test.true first.told before.told before.told (g.S.Store.state_of first.session.store) (g.S.Store.state_of before.session.store)
    (g.S.Store.state_of before.session.store) first.session.volume before.session.volume before.session.volume (c.loop-path.invariant.tells single)
    (inl (refl, refl)) c.from_residual-in_err-goal.result c.from_residual-in_err-goal.ensures.0)

pub returns-in_err-goal-clause-all : goal.returns-in_err-goal-clause-all
returns-in_err-goal-clause-all g c all =
    let first = c.args.opened.now in
    let before = c.loop-path.opened in
    let T = g.S.Store.types_of first.session.store in
    let several = nat_lt 1 (length c.args.paths.now) in
    let trees = c.loop-path.invariant.trees all in
    inr (
      trees.0,
      trees.1,
      no_goal T first.folder 262144 c.args.to.now several first.told trees.0 (g.S.Store.state_of first.session.store) first.session.volume
          c.args.paths.now c.loop-path.path-index c.args.to c.loop-path-test.true before.told c.loop-path.copying
          (g.S.Store.state_of before.session.store) before.session.volume trees.2 c.from_residual-in_err-goal.result
          c.from_residual-in_err-goal.ensures.0,
    )

pub returns-in_err-go_on-clause-all : goal.returns-in_err-go_on-clause-all
returns-in_err-go_on-clause-all g c all =
    let first = c.args.opened.now in
    let before = c.loop-path.opened in
    let after = c.copy_one-done.new.opened in
    let copied = c.copy_one-done.ensures in
    let kept = c.loop-path.invariant in
    let several = nat_lt 1 (length c.args.paths.now) in
    let trees = kept.trees all in
    inr (
      trees.0,
      trees.1,
      along_ends (g.S.Store.types_of first.session.store) first.folder 262144 c.args.to.now several first.told trees.0
          (g.S.Store.state_of first.session.store) first.session.volume c.args.paths.now c.loop-path.path-index _ c.loop-path-test.true before.told
          c.loop-path.copying (g.S.Store.state_of before.session.store) before.session.volume trees.2 (g.S.Store.types_of before.session.store)
          before.folder (vec_len c.loop-path.copying.piece) kept.types kept.folder kept.piece after.told c.go_on.new.self c.copy_one-done.new.copying
          (g.S.Store.state_of after.session.store) after.session.volume c.copy_one-done.result c.go_on.result
          (copied.all (kept.recursive ∙ all) several c.in_ok-goal.ensures) c.go_on.ensures c.in_err-go_on.field-0.0
          c.from_residual-in_err-go_on.result c.in_err-go_on.was c.from_residual-in_err-go_on.ensures.0,
    )

pub returns-clause-all : goal.returns-clause-all
returns-clause-all g c all =
    let first = c.args.opened.now in
    let last = c.loop-path.opened in
    let trees = c.loop-path.invariant.trees all in
    inr (
      trees.0,
      trees.1,
      (
        c.loop-path.copying,
        all_along (g.S.Store.types_of first.session.store) first.folder 262144 c.args.to.now (nat_lt 1 (length c.args.paths.now)) first.told trees.0
            (g.S.Store.state_of first.session.store) first.session.volume c.args.paths.now c.loop-path.path-index c.loop-path-test.false last.told
            c.loop-path.copying (g.S.Store.state_of last.session.store) last.session.volume trees.2,
      ),
    )

pub returns-in_err-go_on-clause-does : goal.returns-in_err-go_on-clause-does
returns-in_err-go_on-clause-does g c single =
    let first = c.args.opened.now in
    let before = c.loop-path.opened in
    let after = c.copy_one-done.new.opened in
    let copied = c.copy_one-done.ensures in
    let several = nat_lt 1 (length c.args.paths.now) in
    let to = c.args.to.now in
    let T = g.S.Store.types_of first.session.store in
    let old = g.S.Store.state_of first.session.store in
    let middle = g.S.Store.state_of before.session.store in
    let new = g.S.Store.state_of after.session.store in
    let kept = c.loop-path.invariant in
    let most = vec_len c.loop-path.copying.piece in
    let tells = subst (λ (n : ℕ). TellsEach (CopiesAt n T first.folder to several) (IsLeftAt n T first.folder to several)
    (take c.loop-path.path-index (map (λ path. path.now) c.args.paths.now)) first.told before.told old middle first.session.volume before.session.volume)
    (sym kept.piece) (kept.tells single) in
    inr (subst (λ (n : ℕ). DoesPaths (CopiesAt n T first.folder to several) (IsLeftAt n T first.folder to several) (map (λ path. path.now) c.args.paths.now)
    first.told c.go_on.new.self old new first.session.volume after.session.volume c.from_residual-in_err-go_on.result) kept.piece
    (ends_there (λ T folder. CopiesAt most T folder to several) (λ T folder. IsLeftAt most T folder to several) T (g.S.Store.types_of before.session.store)
    first.folder before.folder kept.types kept.folder c.args.paths.now c.loop-path.path-index _ c.loop-path-test.true first.told before.told after.told
    c.go_on.new.self old middle new first.session.volume before.session.volume after.session.volume c.copy_one-done.result c.go_on.result tells
    (copied.told (kept.recursive ∙ single)) (copied.does (kept.recursive ∙ single) several c.in_ok-goal.ensures) c.go_on.ensures c.in_err-go_on.field-0.0
    c.from_residual-in_err-go_on.result c.in_err-go_on.was c.from_residual-in_err-go_on.ensures.0))

pub loop-path-preserved : goal.loop-path-preserved
loop-path-preserved g c =
    let first = c.args.opened.now in
    let before = c.loop-path.opened in
    let after = c.copy_one-done.new.opened in
    let copied = c.copy_one-done.ensures in
    let several = nat_lt 1 (length c.args.paths.now) in
    let to = c.args.to.now in
    let T = g.S.Store.types_of first.session.store in
    let old = g.S.Store.state_of first.session.store in
    let middle = g.S.Store.state_of before.session.store in
    let new = g.S.Store.state_of after.session.store in
    let kept = c.loop-path.invariant in
    let most = vec_len c.loop-path.copying.piece in
    record {
      types = copied.types ∙ kept.types;
      folder = copied.folder ∙ kept.folder;
      piece = copied.piece ∙ kept.piece;
      recursive = copied.recursive ∙ kept.recursive;
      tells = λ single.
          let tells = subst (λ (n : ℕ). TellsEach (CopiesAt n T first.folder to several) (IsLeftAt n T first.folder to several)
          (take c.loop-path.path-index (map (λ path. path.now) c.args.paths.now)) first.told before.told old middle first.session.volume
          before.session.volume) (sym kept.piece) (kept.tells single) in
          subst (λ (n : ℕ). TellsEach (CopiesAt n T first.folder to several) (IsLeftAt n T first.folder to several)
          (take (c.loop-path.path-index + 1) (map (λ path. path.now) c.args.paths.now)) first.told c.go_on.new.self old new first.session.volume
          after.session.volume) kept.piece
          (goes_on (λ T folder. CopiesAt most T folder to several) (λ T folder. IsLeftAt most T folder to several) T (g.S.Store.types_of before.session.store)
          first.folder before.folder kept.types kept.folder c.args.paths.now c.loop-path.path-index _ c.loop-path-test.true first.told before.told after.told
          c.go_on.new.self old middle new first.session.volume before.session.volume after.session.volume c.copy_one-done.result c.go_on.result tells
          (copied.told (kept.recursive ∙ single)) (copied.does (kept.recursive ∙ single) several c.in_ok-goal.ensures) c.go_on.ensures c.in_ok-go_on.was);
      trees = λ all.
          let trees = kept.trees all in (
            trees.0,
            trees.1,
            one_along T first.folder 262144 to several first.told trees.0 old first.session.volume c.args.paths.now c.loop-path.path-index _
                c.loop-path-test.true before.told c.loop-path.copying middle before.session.volume trees.2 (g.S.Store.types_of before.session.store)
                before.folder (vec_len c.loop-path.copying.piece) kept.types kept.folder kept.piece after.told c.go_on.new.self
                c.copy_one-done.new.copying new after.session.volume c.copy_one-done.result c.go_on.result
                (copied.all (kept.recursive ∙ all) several c.in_ok-goal.ensures) c.go_on.ensures c.in_ok-go_on.was,
          );
    }
