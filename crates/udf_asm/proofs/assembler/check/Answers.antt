use Rattle.std.proofs.Common.{sym, ap, ◌∙◌, arith}
use Rattle.std.specs.Prelude.{Err}
use Rattle.std.specs.Result.{result_map_both}
use Rattle.udf_code.specs.Structure.{structure_of}
use Rattle.udf_asm.specs.Assembly.{code_fault}
use Rattle.udf_asm.proofs.Checks.{line_of_small, all_kept}
use Rattle.udf_asm.proofs.assembler.check.Goals as goal

pub code_fault-requires-in-Err : goal.code_fault-requires-in-Err
code_fault-requires-in-Err c =
    let small = line_of_small c.args.words.now c.args.count c.in-Err.fault (sym c.in-Err.ensures.exact) in omega arith

pub returns-in-Ok : goal.returns-in-Ok
returns-in-Ok c = λ all n k.
    ap (result_map_both (λ x. x) (code_fault c.args.count)) (c.in-Ok.ensures.exact ∙ ap structure_of (all_kept all c.args.words.now (omega arith) k))

pub returns-in-Err : goal.returns-in-Err
returns-in-Err c = λ all n k.
    ap Err c.code_fault-in-Err.ensures
    ∙ ap (result_map_both (λ x. x) (code_fault c.args.count)) (c.in-Err.ensures.exact ∙ ap structure_of (all_kept all c.args.words.now (omega arith) k))
