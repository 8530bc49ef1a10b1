use Rattle.std.proofs.Common.{◌∙◌, ap, sym, inl, inr, arith}
use Rattle.std.specs.Prelude.{◌==◌}
use Rattle.std.proofs.lemmas.Bool.{cases_eq, eq-eqb, ne_eqb}
use Rattle.xn_model.specs.Root.{pointer}
use Rattle.templates.proofs.Ranges.{find-first, find-none}
use Rattle.templates.proofs.root.empty_place.Goals as goal

pub loop-place-init : goal.loop-place-init
loop-place-init c = λ k lt. absurd (omega (arith, lt))

pub returns-then-pointer-eq0-clause-place : goal.returns-then-pointer-eq0-clause-place
returns-then-pointer-eq0-clause-place c =
    let here = eq-eqb (pointer c.args.block.now c.loop-place.place) 0 (sym c.pointer.ensures ∙ c.if-pointer-eq0.true) in
    sym (find-first (λ i. pointer c.args.block.now i == 0) 0 16 c.loop-place.place (omega arith) c.loop-place-test.true here (λ k le lt. c.loop-place.invariant k lt))

pub loop-place-preserved : goal.loop-place-preserved
loop-place-preserved c = λ k lt. elim (cases_eq k c.loop-place.place) [
  | inl e ↦ ap (λ j. pointer c.args.block.now j == 0) e ∙ ne_eqb (pointer c.args.block.now c.loop-place.place) 0 (λ z. c.if-pointer-eq0.false (c.pointer.ensures ∙ z))
  | inr ne ↦ c.loop-place.invariant k (omega (arith, lt, ne))
]

pub returns-clause-place : goal.returns-clause-place
returns-clause-place c = sym (find-none (λ i. pointer c.args.block.now i == 0) 0 16 (λ k le lt. c.loop-place.invariant k (omega (arith, lt, c.loop-place-test.false))))
