use Rattle.std.proofs.Common.{sym}
use Rattle.udf_asm.proofs.Cuts.{slice_split-found, slice_split-not_found}
use Rattle.udf_asm.proofs.line.cut.Goals as goal

pub returns-in-Some-clause-parts : goal.returns-in-Some-clause-parts
returns-in-Some-clause-parts c = slice_split-found _ c.args.bytes.now c.in-Some.end (sym c.in-Some.ensures.place)

pub returns-in-None-clause-parts : goal.returns-in-None-clause-parts
returns-in-None-clause-parts c = slice_split-not_found _ c.args.bytes.now (sym c.in-None.ensures.place)
