use Rattle.std.proofs.Common.{◌≡◌, ℕ, ◌<◌, false, Ok, length, ap, ◌∙◌, arith, inr, subst, sym}
use Rattle.std.specs.Prelude.{◌==◌}
use Rattle.std.proofs.lemmas.Bool.{eqb-false, eqb-true}
use Rattle.treefs_lookup.specs.Readable.{readable}
use Rattle.treefs_paths.specs.Ways.{Leads, Way, arrives, first_way}
use Rattle.treefs_paths.proofs.Leading.{stopped, went}
use Rattle.treefs_paths.proofs.finding.find_path.Goals as goal

-- bytes are left where a test of their count says so
some_left : (n m : ℕ) → n ≡ m → false ≡ (m == 0) → 0 < n
some_left n m same is = let ne = eqb-false m 0 (sym is) in omega (arith, same, ne)

pub returns-in-Err-step : goal.returns-in-Err-step
returns-in-Err-step g c =
    let content = readable (g.S.Store.state_of c.args.store.now) c.args.tree.fs.number in
    let long = ap (λ (w : Way). length w.rest) (sym c.way.view_is) ∙ sym c.way.inside.rest.ok.0 in
    stopped content c.args.tree.top c.args.is_last_followed c.loop-alloc.way (first_way c.args.directory c.args.path.now)
    (some_left _ _ long c.loop-alloc-test.ensures)
    c.loop-alloc.invariant c.in-Err-step.fault c.in-Err-step.ensures.answers

pub loop-alloc-preserved : goal.loop-alloc-preserved
loop-alloc-preserved g c =
    let content = readable (g.S.Store.state_of c.args.store.now) c.args.tree.fs.number in
    let long = ap (λ (w : Way). length w.rest) (sym c.way.view_is) ∙ sym c.way.inside.rest.ok.0 in
    went content c.args.tree.top c.args.is_last_followed c.loop-alloc.way (first_way c.args.directory c.args.path.now)
    (some_left _ _ long c.loop-alloc-test.ensures)
    c.loop-alloc.invariant c.in-Ok-step.next c.in-Ok-step.ensures.answers

pub returns : goal.returns
returns g c =
    let content = readable (g.S.Store.state_of c.args.store.now) c.args.tree.fs.number in
    let number : c.loop-alloc.way.number ≡ c.way.inside.number = ap (λ (w : Way). w.number) (sym c.way.view_is) in
    let long = ap (λ (w : Way). length w.rest) (sym c.way.view_is) ∙ sym c.way.inside.rest.ok.0 in
    let whole = c.loop-alloc.invariant (Ok c.loop-alloc.way.number) (arrives (long ∙ eqb-true _ 0 (sym c.loop-alloc-test.ensures))) in
    inr (subst (λ (n : ℕ). Leads content c.args.tree.top c.args.is_last_followed (first_way c.args.directory c.args.path.now) (Ok n)) number whole)
