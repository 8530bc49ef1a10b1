use Rattle.std.proofs.Common.{refl}
use Rattle.udf_code.proofs.Coding.{code_is_decoded}
use Rattle.udf_code.proofs.law.encoded_is_decoded.Goals as goal

pub returns : goal.returns
returns c = λ tree words spells in_range. code_is_decoded _ words (record { tree = tree; spells = spells; in_range = in_range; written = refl })
