use Rattle.xnsim.specs.Reads.{Reads}
use Rattle.xnsim.proofs.reading.read_pieces.Given as goal

abbrev pub invariant-loop-start : goal.invariant-loop-start
invariant-loop-start g l = Reads (g.F.Read.remaining l.fn.file) (g.F.Read.remaining l.file) l.fn.bytes.items l.bytes.items
