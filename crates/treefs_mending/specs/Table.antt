-- The inodes of a volume, numbers rising.
--     AreFree         none is found from one number on, up to another
--     IsNextInode     the first one at or past a number
use Rattle.std.specs.Prelude.{◌≡◌, ℕ, ◌<◌, ◌≤◌, List, false, is_ok, Ok}
use Rattle.treefs_format.specs.Paths.{leaf_count}
use Rattle.treefs_lookup.specs.Inodes.{inode_found}
use Rattle.treefs_mending.specs.declared.table.Numbered.{Numbered}

abbrev pub AreFree : (ℕ → List ℕ) → ℕ → ℕ → ℕ → Type 0
AreFree content top from to = (n : ℕ) → from ≤ n → n < to → is_ok (inode_found content top n) ≡ false

pub record IsNextInode (content : ℕ → List ℕ) (top from : ℕ) (numbered : Numbered) : Type 0 where
  pub past : from ≤ numbered.number
  pub some : 1 ≤ numbered.number
  pub few : numbered.number ≤ leaf_count
  pub inode : inode_found content top numbered.number ≡ Ok numbered.inode
  pub first : AreFree content top from numbered.number
