use Rattle.udf_code.proofs.Coding.{encoded-same}
use Rattle.udf_code.proofs.law.encoded_apart.Goals as goal

pub returns : goal.returns
returns c = encoded-same
