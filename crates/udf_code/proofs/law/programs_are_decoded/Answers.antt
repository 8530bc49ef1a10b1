use Rattle.udf_code.proofs.Coding.{decoded_exactly}
use Rattle.udf_code.proofs.law.programs_are_decoded.Goals as goal

pub returns : goal.returns
returns c = decoded_exactly
