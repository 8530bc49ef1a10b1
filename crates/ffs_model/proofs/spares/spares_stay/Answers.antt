use Rattle.ffs_model.proofs.Proposals.{spare_by_freed, spare_by_taken}
use Rattle.ffs_model.proofs.Quiet.{other_number}
use Rattle.ffs_model.proofs.spares.spares_stay.Goals as goal

pub returns-clause-links : goal.returns-clause-links
returns-clause-links c = λ T L fs array state new block edit entry n q i m g p some at taken some' ne kept.
    spare_by_taken T L p.reads fs p.few array state new p.keeps block edit entry p.done n some at q taken i some' ne g m kept

pub returns-clause-inode : goal.returns-clause-inode
returns-clause-inode c = λ T L fs array state new block edit entry n i m g p some at freed some' ne kept.
    spare_by_freed T L p.reads fs p.few array state new p.keeps block edit entry p.done n some at freed i some' ne g m kept

pub returns-clause-indirect : goal.returns-clause-indirect
returns-clause-indirect c = λ T L fs array state new block edit entry ty i m g p not2 not3 not4 at some kept.
    other_number T L p.reads fs p.few array state p.keeps block new edit entry p.done ty i not2 not3 not4 at some g m kept
