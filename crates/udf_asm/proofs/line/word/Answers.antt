use Rattle.std.proofs.Common.{◌∙◌, sym, ap}
use Rattle.std.specs.Option.{ok_or}
use Rattle.udf_asm.specs.declared.fault.AsmKind.TheVariants.{BadName}
use Rattle.udf_asm.proofs.Lines.{line_read-parts}
use Rattle.udf_asm.proofs.line.word.Goals as goal

pub returns : goal.returns
returns c =
    c.word_of.ensures ∙ sym (line_read-parts c.args.line.now c.cut.result.0.now _ c.in_ok-op.op (sym c.is_empty.ensures ∙ c.if-is_empty.false) c.cut.ensures.parts (ap (λ o. ok_or o BadName) (sym c.op_named.ensures) ∙ sym c.in_ok-op.ensures.value))
