-- Directories and their blocks.
use Rattle.std.proofs.Common.{ℕ, ◌<◌, sym, ◌∙◌, arith}
use Rattle.ffs_lib.proofs.Common.{AreBlocksOnce, IsConsistent, IsLibrary, StoreState, Types, latest}
use Rattle.ffs_lib.proofs.Entering.{directory_from}
use Rattle.ffs_lib.proofs.Owners.{direct_block, stands_from, two_blocks}

-- a directory points to no block twice
pub blocks_once : (T : Types) (lib : IsLibrary T) (state : StoreState) (h : IsConsistent T state) (fs : ℕ) → fs < 32 → AreBlocksOnce (latest state.lives) fs
blocks_once T lib state h fs few d inode e i j low low' ne same =
    let v = latest state.lives in
    let s = stands_from v fs d inode (directory_from v fs d inode e).0 in
    (two_blocks T lib state h fs few d d inode inode s s i j _ (omega (arith, low)) (omega (arith, low')) (direct_block v inode i low) (direct_block v inode j low' ∙ sym same) ne).1
