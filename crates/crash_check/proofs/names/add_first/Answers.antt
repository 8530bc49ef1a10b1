use Rattle.std.proofs.Common.{◌≡◌, ◌≢◌, ◌∙◌, ◌||◌, Bool, true, false, Ok, get_or, refl, ap, sym, arith}
use Rattle.std.proofs.lemmas.Bool.{eqb-false}
use Rattle.image_model.specs.Walk.{Named, named_by}
use Rattle.image_model.proofs.ForCallers.{add-new}
use Rattle.udf_run.specs.declared.pair.Pair.{Pair}
use Rattle.templates.specs.Meaning.{numbers_of_pair}
use Rattle.crash_check.proofs.Pairs.{rest-more}
use Rattle.crash_check.proofs.names.add_first.Goals as goal

neither-first : (a b : Bool) → (a || b) ≡ false → a ≡ false
neither-first false b h = refl
neither-first true b h = h

neither-second : (a b : Bool) → (a || b) ≡ false → b ≡ false
neither-second false b h = h
neither-second true b h = cc

pub loop-at-preserved : goal.loop-at-preserved
loop-at-preserved c = λ T known.
    let named = c.loop-at.named.entries in
    let d : Pair = record { block = 0; ty = 0 } in
    let p = get_or c.args.pairs.now c.loop-at.at d in
    let f : Named = named_by c.args.owner c.args.fs (numbers_of_pair p) in
    let free = sym c.is_taken.ensures ∙ c.if-is_taken.false in
    let nonzero : p.block ≢ 0 = eqb-false p.block 0 (neither-first _ _ free) in
    let marked = sym c.has.ensures ∙ c.if-not-has.false in
    let low = known.nonzero p.ty marked in
    let ty : p.ty ≢ 0 = λ e. absurd (omega arith) in
    c.loop-at.invariant T known
    ∙ rest-more T c.args.count c.args.owner c.args.fs c.args.pairs.now named c.push_within.new.self.entries c.loop-at.at d c.loop-at-test.true
    (add-new T c.args.count named c.args.owner f nonzero c.if-count-block.false ty (known.installed p.ty marked) (neither-second _ _ free)
    ∙ ap Ok (sym (c.push_within.ensures.pushed c.if-not-push_within.false)))
