use Rattle.udf_asm.proofs.Assembled.{assembled_is_text, text_is_assembled}
use Rattle.udf_asm.proofs.law.texts_are_assembled.Goals as goal

pub returns : goal.returns
returns c = λ text words. (assembled_is_text text words, text_is_assembled text words)
