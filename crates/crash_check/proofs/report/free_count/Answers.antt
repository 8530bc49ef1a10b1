use Rattle.std.proofs.Common.{◌≡◌, ◌∙◌, ◌+◌, ◌-◌, ◌∷◌, [], length, ap, sym, arith, not, filter, length-append}
use Rattle.std.specs.List.{range_with_len}
use Rattle.image_model.specs.Walk.{free_list, has_block}
use Rattle.image_model.proofs.ForCallers.{free-named, free-other}
use Rattle.crash_check.proofs.Marks.{taken_named}
use Rattle.crash_check.proofs.report.free_count.Goals.{then-not-is_taken, else-not-is_taken}
use Rattle.crash_check.proofs.report.free_count.Goals as goal

pub loop-number-preserved : goal.loop-number-preserved
loop-number-preserved c =
    let has = c.is_taken.ensures ∙ taken_named c.args.named.now.entries c.loop-number.number (λ none. absurd (omega (arith, none))) in
    let named = c.args.named.now.entries in
    let block = c.loop-number.number in
    elim c.if-not-is_taken.branch [
      | then-not-is_taken w ↦ record {
        counted = w.free-is ∙ ap (λ n. n + 1) c.loop-number.invariant.counted
            ∙ sym (ap length (free-other named block c.loop-number.auto.number (sym has ∙ w.if-not-is_taken.true))
            ∙ length-append (free_list block named) (block ∷ []));
        few = omega (arith, w.free-is);
      }
      | else-not-is_taken w ↦ record {
        counted = w.free-is ∙ c.loop-number.invariant.counted
            ∙ sym (ap length (free-named named block c.loop-number.auto.number (sym has ∙ w.if-not-is_taken.false)));
        few = omega (arith, w.free-is);
      }
    ]

pub returns : goal.returns
returns c =
    let n : c.loop-number.number - 1 ≡ c.args.count - 1 = omega arith in
    c.loop-number.invariant.counted ∙ ap (λ k. length (filter (λ b. not (has_block c.args.named.now.entries b)) (range_with_len 1 k))) n
