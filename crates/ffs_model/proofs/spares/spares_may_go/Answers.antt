use Rattle.std.proofs.Common.{refl}
use Rattle.ffs_model.proofs.Proposals.{inode_unlinked, links_taken}
use Rattle.ffs_model.proofs.spares.spares_may_go.Goals as goal

pub returns-clause-links : goal.returns-clause-links
returns-clause-links c = λ T L fs array state new block edit entry n m p some at spare taken.
    links_taken T L p.reads fs p.few array state new p.keeps block edit entry p.done n some at edit.after m spare taken refl

pub returns-clause-inode : goal.returns-clause-inode
returns-clause-inode c = λ T L fs array state new block edit entry n m p some at spare all_links freed.
    inode_unlinked T L p.reads fs p.few array state new p.keeps block edit entry p.done n some at edit.after m spare all_links freed refl
