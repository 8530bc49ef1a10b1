use Rattle.std.proofs.Common.{sym, ◌∙◌}
use Rattle.udf_asm.proofs.Assembled.{assembled_is_text}
use Rattle.udf_asm.proofs.law.one_text.Goals as goal

pub returns : goal.returns
returns c = λ text other words h g. let a = assembled_is_text text words h in let b = assembled_is_text other words g in a.written ∙ sym b.written
