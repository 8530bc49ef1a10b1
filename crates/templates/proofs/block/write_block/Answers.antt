use Rattle.std.proofs.Common.{◌∙◌, ap, refl, length, arith}
use Rattle.udf_verify.specs.Program.{Program}
use Rattle.templates.specs.Templates.{template_bytes}
use Rattle.templates.proofs.WordsWritten.{block_of, block_written}
use Rattle.templates.proofs.block.write_block.Goals as goal

pub returns-clause-bytes : goal.returns-clause-bytes
unfolding template_bytes
returns-clause-bytes c =
    let owns = c.words-owns.ensures.value ∙ ap (λ (p : Program). p.words) c.owns.ensures.value in
    let size = c.words-size.ensures.value ∙ ap (λ (p : Program). p.words) c.size.ensures.value in
    let short = c.owns.ensures.template.together.short in
    let owns_length = ap length owns in
    let size_length = ap length size in
    block_written c.words-owns.result.now c.words-size.result.now (omega arith) _ _ _ refl c.write_words.ensures c.write_words-2.ensures
    ∙ (λ i. block_of (owns i) (size i))
