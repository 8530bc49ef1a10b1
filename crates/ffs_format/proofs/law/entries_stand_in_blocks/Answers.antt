use Rattle.ffs_format.specs.Entries.{entry_of}
use Rattle.ffs_format.proofs.Standing.{half_here, name_here, half_stays, name_stays, long_entry}
use Rattle.ffs_format.proofs.law.entries_stand_in_blocks.Goals as goal

pub returns-clause-here : goal.returns-clause-here
returns-clause-here c = λ m p inode name long few low named. (half_here m long p few inode name named low, name_here m long p few inode name named)

pub returns-clause-others : goal.returns-clause-others
returns-clause-others c = λ m p q inode name long few ne named.
    let whole = long_entry inode name named in
    (half_stays m long p few (entry_of inode name) whole q ne, name_stays m long p few (entry_of inode name) whole q ne)
