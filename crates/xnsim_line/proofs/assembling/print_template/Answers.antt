use Rattle.std.proofs.Common.{◌≡◌, length, ap, sym, ◌∙◌}
use Rattle.xnsim_line.proofs.assembling.print_template.Goals as goal

pub returns : goal.returns
returns g c =
    let owns : length c.args.template.now.owns.words ≡ length c.words.result.now = ap length (sym (c.words.ensures.value ∙ ap (λ p. p.words) c.owns.ensures.value)) in
    let size : length c.args.template.now.size.words ≡ length c.words-2.result.now = ap length (sym (c.words-2.ensures.value ∙ ap (λ p. p.words) c.size.ensures.value)) in
    simp (owns, size) c.print_counts.ensures
