use Rattle.xn_state.specs.States.{own_types}
use Rattle.xn_kernel.proofs.Newest.{stands}
use Rattle.xn_kernel.proofs.laws.flushed_stands.Goals as goal

pub returns : goal.returns
returns g c = λ old new waves image block life rules w is idle none left alive kept.
    stands g.L.Lane.bytes_of g.L.Lane.faults_of g.L.Lane.write_gives g.L.Lane.sync_gives g.L.Lane.read_gives g.L.Lane.crash_leaves (own_types old.state) waves old new
    rules w is idle none image left block life alive kept
