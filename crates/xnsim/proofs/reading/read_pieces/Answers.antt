use Rattle.xnsim.proofs.Front.{nothing-read, read-on}
use Rattle.xnsim.proofs.reading.read_pieces.Goals as goal

pub loop-start-init : goal.loop-start-init
loop-start-init g c = nothing-read _ _

pub loop-start-preserved : goal.loop-start-preserved
loop-start-preserved g c = read-on _ _ _ _ _ _ c.loop-start.invariant c.in_ok-read_piece.ensures

pub returns-in_ok-read_piece : goal.returns-in_ok-read_piece
returns-in_ok-read_piece g c = read-on _ _ _ _ _ _ c.loop-start.invariant c.in_ok-read_piece.ensures

pub returns : goal.returns
returns g c = c.loop-start.invariant
