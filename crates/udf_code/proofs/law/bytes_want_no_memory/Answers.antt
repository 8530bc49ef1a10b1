use Rattle.udf_code.proofs.Faults.{never_no_memory}
use Rattle.udf_code.proofs.law.bytes_want_no_memory.Goals as goal

pub returns : goal.returns
returns c = never_no_memory
