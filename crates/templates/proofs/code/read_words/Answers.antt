use Rattle.std.proofs.Common.{◌∙◌, ap, sym, length}
use Rattle.udf_code.proofs.ForCallers.{length-encoded, programs_are_trees}
use Rattle.templates.proofs.code.read_words.Goals as goal

pub returns-in-Ok-clause-program : goal.returns-in-Ok-clause-program
returns-in-Ok-clause-program c = let code = c.in-Ok.ensures.accepted in (programs_are_trees _).1 (code.tree, code.spells)

pub returns-in-Ok-clause-length : goal.returns-in-Ok-clause-length
returns-in-Ok-clause-length c = let code = c.in-Ok.ensures.accepted in sym (ap length code.written ∙ length-encoded _ code.in_range)
