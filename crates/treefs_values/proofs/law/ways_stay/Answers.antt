use Rattle.treefs_values.proofs.Ways.{numbered_same, still_typed, way_same}
use Rattle.treefs_values.proofs.law.ways_stay.Goals as goal

pub returns-clause-inodes : goal.returns-clause-inodes
returns-clause-inodes c = λ node inode top type old new typed keeps n. numbered_same node inode top type old new typed keeps n

pub returns-clause-ways : goal.returns-clause-ways
returns-clause-ways c = λ node inode top type old new typed keeps n l offsets way. way_same node inode top type old new typed keeps n l offsets way

pub returns-clause-typed : goal.returns-clause-typed
returns-clause-typed c = λ node inode top type old new typed keeps. still_typed node inode top type old new typed keeps
