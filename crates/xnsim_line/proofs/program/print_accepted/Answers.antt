use Rattle.std.proofs.lemmas.List.{append_assoc}
use Rattle.xnsim_line.proofs.program.print_accepted.Goals as goal

pub returns : goal.returns
returns g c = simp append_assoc c.writeln.ensures.bytes
