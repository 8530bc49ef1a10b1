use Rattle.std.proofs.Common.{◌≡◌, ◌*◌, ◌<◌, ℕ, List, length, drop, arith, length-drop}
use Rattle.std.proofs.lemmas.List.{length-take-le}
use Rattle.ffs_model.specs.Library.{inode_at}
use Rattle.ffs_format.proofs.Standing.{long_entry}
use Rattle.ffs_format.proofs.law.numbers_are_the_layouts.Goals as goal

pub returns-clause-entry : goal.returns-clause-entry
returns-clause-entry c = long_entry

-- an inode within a block
long_inode : (m : List ℕ) (p : ℕ) → length m ≡ 512 → p < 8 → length (inode_at m p) ≡ 64
long_inode m p long few = let n = length-drop (64 * p) m in length-take-le 64 (drop (64 * p) m) (omega arith)

pub returns-clause-inode : goal.returns-clause-inode
returns-clause-inode c = long_inode
