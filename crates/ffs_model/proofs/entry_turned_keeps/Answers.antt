use Rattle.std.proofs.Common.{arith}
use Rattle.ffs_model.specs.Cuts.{latest}
use Rattle.ffs_model.proofs.Same.{under_direct}
use Rattle.ffs_model.proofs.Proposals.{entry_turned}
use Rattle.ffs_model.proofs.entry_turned_keeps.Goals as goal

pub returns : goal.returns
returns c = λ T L fs array state new block edit entry x n m e p some left apart named made can comes.
    entry_turned T L p.reads fs p.few array state new p.keeps block edit entry p.done 2 (under_direct T L p.reads (latest state.lives) fs named.index named.block named.place block named.inodes named.has) (λ z. omega arith) (λ z. omega arith)
    x n m e some left apart made named can comes
