use Rattle.std.proofs.Common.{arith}
use Rattle.world.proofs.running.Running.root_bytes.Goals as goal

pub block_bytes-requires : goal.block_bytes-requires
block_bytes-requires g c =
    let count = c.rules.ensures.count in
    let size = c.rules.ensures.state.size.0 in
    omega arith
