use Rattle.std.proofs.Common.{◌∙◌, ap, sym, Ok}
use Rattle.std.proofs.lemmas.Result.{err_from_is_err_and}
use Rattle.udf_verify.specs.declared.fault.Role.TheVariants as role
use Rattle.templates.specs.Judged.{template_of_words}
use Rattle.templates.specs.Reading.{program_of_words}
use Rattle.templates.proofs.ReadSteps.{owns_words_fault, size_words_fault, owns_fault, size_fault, programs_read}
use Rattle.templates.proofs.code.read_programs.Goals as goal

pub returns-in_err-read_words-clause-exact : goal.returns-in_err-read_words-clause-exact
returns-in_err-read_words-clause-exact c =
    let p = err_from_is_err_and c.from_residual.result c.from_residual.ensures.1 in
    rw (p.1, p.2) (owns_words_fault c.args.owns_code.now c.args.size_code.now _ c.in_err-read_words.ensures.exact)

pub returns-in_err-read_words-2-clause-exact : goal.returns-in_err-read_words-2-clause-exact
returns-in_err-read_words-2-clause-exact c =
    let p = err_from_is_err_and c.from_residual-in_err-read_words-2.result c.from_residual-in_err-read_words-2.ensures.1 in
    rw (p.1, p.2) (size_words_fault c.args.owns_code.now c.args.size_code.now _ c.in_ok-read_words.ensures.exact _ c.in_err-read_words-2.ensures.exact)

pub returns-in_err-judge_words-clause-exact : goal.returns-in_err-judge_words-clause-exact
returns-in_err-judge_words-clause-exact c =
    let p = err_from_is_err_and c.from_residual-in_err-judge_words.result c.from_residual-in_err-judge_words.ensures.1 in
    rw (p.1, p.2) (owns_fault c.args.owns_code.now c.args.size_code.now _ c.in_ok-read_words.ensures.exact _ c.in_ok-read_words-2.ensures.exact
    _ (ap (program_of_words role.Owns) (sym c.as_slice.ensures.value) ∙ c.in_err-judge_words.ensures.exact))

pub returns-in_err-judge_words-2-clause-exact : goal.returns-in_err-judge_words-2-clause-exact
returns-in_err-judge_words-2-clause-exact c =
    let p = err_from_is_err_and c.from_residual-in_err-judge_words-2.result c.from_residual-in_err-judge_words-2.ensures.1 in
    let owns = ap (program_of_words role.Owns) (sym c.as_slice.ensures.value) ∙ c.in_ok-judge_words.ensures.exact in
    rw (p.1, p.2) (size_fault c.args.owns_code.now c.args.size_code.now _ c.in_ok-read_words.ensures.exact _ c.in_ok-read_words-2.ensures.exact
    _ owns _ (ap (program_of_words role.Size) (sym c.as_slice-2.ensures.value) ∙ c.in_err-judge_words-2.ensures.exact))

pub returns-clause-exact : goal.returns-clause-exact
returns-clause-exact c =
    let owns = ap (program_of_words role.Owns) (sym c.as_slice.ensures.value) ∙ c.in_ok-judge_words.ensures.exact in
    let size = ap (program_of_words role.Size) (sym c.as_slice-2.ensures.value) ∙ c.in_ok-judge_words-2.ensures.exact in
    programs_read c.args.owns_code.now c.args.size_code.now _ c.in_ok-read_words.ensures.exact _ c.in_ok-read_words-2.ensures.exact _ owns _ size
    ∙ (λ i. Ok (template_of_words (c.as_slice.ensures.value i) (c.as_slice-2.ensures.value i)))
