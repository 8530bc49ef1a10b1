use Rattle.std.proofs.Common.{◌∙◌, ap, sym, arith}
use Rattle.std.proofs.lemmas.Result.{err_from_is_err_and}
use Rattle.std.proofs.lemmas.Slice.{between_to_end}
use Rattle.xn_model.specs.Lists.{blank}
use Rattle.templates.proofs.ReadSteps.{head_fault, code_fault, bytes_after, block_read}
use Rattle.templates.proofs.block.read_code.Goals as goal

pub returns-in_err-owns_end-clause-exact : goal.returns-in_err-owns_end-clause-exact
returns-in_err-owns_end-clause-exact c =
    let p = err_from_is_err_and c.from_residual.result c.from_residual.ensures.1 in
    rw (p.1, p.2) (head_fault c.args.block.now _ c.in_err-owns_end.ensures)

pub returns-in_err-read_programs-clause-exact : goal.returns-in_err-read_programs-clause-exact
returns-in_err-read_programs-clause-exact c =
    let p = err_from_is_err_and c.from_residual-in_err-read_programs.result c.from_residual-in_err-read_programs.ensures.1 in
    let head = c.in_ok-owns_end.ensures in
    rw (p.1, p.2) (code_fault c.args.block.now _ head.0 head.1 _ c.in_err-read_programs.ensures.exact)

pub returns-then-not-is_blank-clause-exact : goal.returns-then-not-is_blank-clause-exact
returns-then-not-is_blank-clause-exact c =
    let head = c.in_ok-owns_end.ensures in
    let rest = sym (ap blank (between_to_end c.args.block.now c.in_ok-owns_end.size_end 512 (omega arith))) in
    bytes_after c.args.block.now _ head.0 head.1 _ c.in_ok-read_programs.ensures.exact (rest ∙ (sym c.is_blank.ensures ∙ c.if-not-is_blank.true))

pub returns-clause-exact : goal.returns-clause-exact
returns-clause-exact c =
    let head = c.in_ok-owns_end.ensures in
    let rest = sym (ap blank (between_to_end c.args.block.now c.in_ok-owns_end.size_end 512 (omega arith))) in
    block_read c.args.block.now _ head.0 head.1 _ c.in_ok-read_programs.ensures.exact (rest ∙ (sym c.is_blank.ensures ∙ c.if-not-is_blank.false))
