use Rattle.std.proofs.Common.{◌<◌, ◌∙◌, ap, sym, subst, inr, Err}
use Rattle.std.specs.Prelude.{◌≡◌}
use Rattle.std.specs.Result.{is_ok}
use Rattle.std.proofs.lemmas.Result.{err_from_is_err_and}
use Rattle.std.proofs.lemmas.List.Elements.{All-from_get_or}
use Rattle.templates.specs.Judged.{template_of_words}
use Rattle.templates.specs.Templates.{TemplateValue, IsTemplate, template_bytes}
use Rattle.templates.proofs.OneSpelling.{fault_refuses, blocks_are_templates, blocks_want_no_memory}
use Rattle.templates.proofs.block.read_block.Goals as goal

pub returns-in_err-read_code-clause-exact : goal.returns-in_err-read_code-clause-exact
returns-in_err-read_code-clause-exact c =
    let p = err_from_is_err_and c.from_residual.result c.from_residual.ensures.1 in
    rw (p.1, p.2) (inr c.in_err-read_code.ensures.exact)

pub returns-in_err-read_code-clause-refused : goal.returns-in_err-read_code-clause-refused
returns-in_err-read_code-clause-refused c =
    let p = err_from_is_err_and c.from_residual.result c.from_residual.ensures.1 in
    rw (p.1, p.2) (inr (fault_refuses c.args.block.now _ c.in_err-read_code.ensures.exact))

pub returns-in_err-read_code-clause-memory_last : goal.returns-in_err-read_code-clause-memory_last
returns-in_err-read_code-clause-memory_last c =
    let p = err_from_is_err_and c.from_residual.result c.from_residual.ensures.1 in
    rw (p.1, p.2) (λ none. absurd (blocks_want_no_memory c.args.block.now (c.in_err-read_code.ensures.exact ∙ ap Err none)))

pub returns-in_default-clause-memory_last : goal.returns-in_default-clause-memory_last
returns-in_default-clause-memory_last c = λ none. ap is_ok c.in_ok-read_code.ensures.exact

pub returns-clause-accepted : goal.returns-clause-accepted
returns-clause-accepted c =
    let is = c.in-Ok.ensures ∙ (λ i. template_of_words (c.as_slice.ensures.value i) (c.as_slice-2.ensures.value i)) in
    subst (λ (t : TemplateValue). (c.args.block.now ≡ template_bytes t) × IsTemplate t) (sym is)
    (blocks_are_templates c.args.block.now _ c.told-block (All-from_get_or (λ byte. byte < 256) c.args.block.now 0 (λ i h. c.fits-block i)) c.in_ok-read_code.ensures.exact)
