use Rattle.std.proofs.Common.{◌∙◌, ◌≤◌, arith, length, refl}
use Rattle.std.specs.Prelude.{nat_lt}
use Rattle.tree_puts.specs.Sources.PutsEach.{none}
use Rattle.tree_puts.proofs.SourcesPut.{all_put, ended_there, one_put}
use Rattle.tree_puts.proofs.putting.put_each.Goals as goal

pub loop-source-init : goal.loop-source-init
loop-source-init g c = record { types = refl; folder = refl; puts = λ wide. none }

pub returns-in_err-go_on-clause-does : goal.returns-in_err-go_on-clause-does
returns-in_err-go_on-clause-does g c wide =
    let before = c.loop-source in
    let putting = c.args.putting.now in
    let wide' : 384 ≤ length before.piece = omega (arith, wide, before.auto.piece) in
    ended_there putting.has_lines putting.path.now (nat_lt 1 (length putting.sources.now)) (length c.args.piece.now) _ putting.sources.now
    before.source-index _ c.loop-source-test.true _ _ _ (before.invariant.puts wide) (length before.piece) before.auto.piece c.put_source-done.result
    (c.put_source-done.ensures.does wide') ((refl, refl), refl, refl, (refl, refl)) c.go_on.result c.go_on.ensures c.in_err-go_on.field-0.0
    c.in_err-go_on.was c.from_residual.result c.from_residual.ensures.1

pub loop-source-preserved : goal.loop-source-preserved
loop-source-preserved g c =
    let before = c.loop-source in
    let putting = c.args.putting.now in record {
      types = c.put_source-done.ensures.types ∙ before.invariant.types;
      folder = c.put_source-done.ensures.folder ∙ before.invariant.folder;
      puts = λ wide.
          let wide' : 384 ≤ length before.piece = omega (arith, wide, before.auto.piece) in
          one_put putting.has_lines putting.path.now (nat_lt 1 (length putting.sources.now)) (length c.args.piece.now) _ putting.sources.now
          before.source-index _ c.loop-source-test.true _ _ _ (before.invariant.puts wide) (length before.piece) before.auto.piece
          c.put_source-done.result (c.put_source-done.ensures.does wide') ((refl, refl), refl, refl, (refl, refl)) c.go_on.result c.go_on.ensures
          c.in_ok-go_on.was;
    }

pub returns-clause-does : goal.returns-clause-does
returns-clause-does g c wide =
    let putting = c.args.putting.now in
    all_put putting.has_lines putting.path.now (nat_lt 1 (length putting.sources.now)) (length c.args.piece.now) _ _ putting.sources.now
    c.loop-source.source-index c.loop-source-test.false (c.loop-source.invariant.puts wide)
