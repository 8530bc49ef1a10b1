use Rattle.std.proofs.Common.{◌≡◌, ◌-◌, ap, arith, set}
use Rattle.ffs_lookup.proofs.Counting.{high_added, low_added, nothing_added}
use Rattle.ffs_lookup.proofs.counts.NameCounts.add.Goals as goal

pub returns-then-inode-eq0 : goal.returns-then-inode-eq0
returns-then-inode-eq0 c = λ numbers a. nothing_added numbers c.args.self.now a c.args.inode c.if-inode-eq0.true

pub returns-then-at-lt-INODES : goal.returns-then-at-lt-INODES
returns-then-at-lt-INODES c = λ numbers a.
    let is : c.from-at.result ≡ c.args.inode - 1 = c.from-at.ensures in
    low_added numbers c.args.self.now a c.args.inode _ c.if-inode-eq0.false is c.if-at-lt-INODES.true _ (ap (set c.args.self.now.each _) c.saturating_add.ensures)

pub returns-else-at-lt-INODES : goal.returns-else-at-lt-INODES
returns-else-at-lt-INODES c = λ numbers a.
    let is : c.from-at.result ≡ c.args.inode - 1 = c.from-at.ensures in
    high_added numbers c.args.self.now a c.args.inode (omega arith) c.least_of.result c.least_of.ensures
