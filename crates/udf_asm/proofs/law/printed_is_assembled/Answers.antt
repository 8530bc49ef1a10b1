use Rattle.std.proofs.Common.{refl}
use Rattle.udf_asm.proofs.Assembled.{text_is_assembled}
use Rattle.udf_asm.proofs.law.printed_is_assembled.Goals as goal

pub returns : goal.returns
returns c = λ tree words spells in_range. text_is_assembled _ words (record { tree = tree; spells = spells; in_range = in_range; written = refl })
