use Rattle.treefs_laws.proofs.BlockAside.{alike_inode}
use Rattle.treefs_laws.proofs.orphans.inodes_read_alike_say_the_same.Goals as goal

pub returns : goal.returns
returns c = λ old new key block alike. alike_inode old new block (record { own = alike.own; leaves = alike.leaves; bytes = alike.bytes }) key
