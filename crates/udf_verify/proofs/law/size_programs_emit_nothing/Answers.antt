use Rattle.udf_verify.proofs.NoPairs.{emits_nothing}
use Rattle.udf_verify.proofs.law.size_programs_emit_nothing.Goals as goal

pub returns : goal.returns
returns c = emits_nothing
