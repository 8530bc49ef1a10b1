use Rattle.std.proofs.Common.{arith, inl, inr}
use Rattle.ffs_model.specs.Cuts.{latest}
use Rattle.ffs_model.proofs.Same.{under_direct}
use Rattle.ffs_model.proofs.Proposals.{freed_waits, slot_waits, taken_waits}
use Rattle.ffs_model.proofs.Quiet.{other_waits}
use Rattle.ffs_model.proofs.unlinks_wait.Goals as goal

pub returns-clause-slot : goal.returns-clause-slot
returns-clause-slot c = λ T L fs array state new block edit entry j a p x n i e q at has made some other can.
    slot_waits T L q.reads fs q.few array state new q.keeps block edit entry q.done 2 (under_direct T L q.reads (latest state.lives) fs j a p block at has) (λ z. omega arith) (λ z. omega arith) x n i e some other made can

pub returns-clause-inode : goal.returns-clause-inode
returns-clause-inode c = λ T L fs array state new block edit entry n i e q left at change some other can.
    elim change [
      | inl taken ↦ taken_waits T L q.reads fs q.few array state new q.keeps block edit entry q.done n left at taken i e some other can
      | inr freed ↦ freed_waits T L q.reads fs q.few array state new q.keeps block edit entry q.done n left at freed i e some other can
    ]

pub returns-clause-indirect : goal.returns-clause-indirect
returns-clause-indirect c = λ T L fs array state new block edit entry ty i e q not2 not3 not4 x some can. other_waits T L q.reads fs q.few array state q.keeps block new edit entry q.done ty i e not2 not3 not4 x some can
