-- Links of an inode, and the records that name it.
--     total n f                     the sum of f b over the blocks b below n
--     Layout                        how bytes are read
--     HasRoom L N lives g m n       where a cut is full at n's inode and at block g, there are m links to spare
--     KeepsLinks L N lives n        what holds of each number after each edit
--     Spare, Less                   what one edit tells the next
use Rattle.std.specs.Prelude.{◌≡◌, ◌≢◌, ◌⊎◌, ℕ, zero, suc, ◌+◌, ◌<◌, ◌≤◌, List, Option, None, Some, Contains, max}
use Rattle.xn_model.specs.Lives.{Lives, life_at}
use Rattle.xn_model.specs.Calls.{life_pending}
use Rattle.ffs_model.specs.Cuts.{Choice, IsCut, IsFullAt, latest, seen}
use Rattle.ffs_model.specs.Cuts.{KeptFrom}
use Rattle.treefs_model.specs.Acts.{Act}
use Rattle.treefs_model.specs.Edited.{FullBehind, IsOwn}

abbrev pub total : ℕ → (ℕ → ℕ) → ℕ
total zero f = 0
total (suc n) f = total n f + f n

pub record Layout : Type 0 where
  -- the inode block of a number, by the pointers of these contents, 0 for none
  pub leaf : (ℕ → List ℕ) → ℕ → ℕ
  -- how many live records of a number are in a block with these bytes, 0 where the block is no bucket
  pub records : ℕ → ℕ → List ℕ → ℕ
  pub links : List ℕ → ℕ

-- the choice of all
abbrev pub everything : Lives → Choice
everything lives b = life_pending (life_at lives b)

-- the records of n in a cut
abbrev pub seen_records : Layout → ℕ → Lives → Choice → ℕ → ℕ
seen_records L N lives k n = total N (λ b. L.records n b (seen lives k b))

-- those of the cut or of newest, block by block the more of the two
abbrev pub most_records : Layout → ℕ → Lives → Choice → ℕ → ℕ
most_records L N lives k n = total N (λ b. max (L.records n b (seen lives k b)) (L.records n b (latest lives b)))

-- The cut leads to n's inode of newest.
pub record IsLed (L : Layout) (lives : Lives) (k : Choice) (n : ℕ) : Type 0 where
  pub some : L.leaf (seen lives k) n ≢ 0
  pub same : L.leaf (seen lives k) n ≡ L.leaf (latest lives) n

-- and is full at it
pub record IsLedFull (L : Layout) (lives : Lives) (k : Choice) (n : ℕ) : Type 0 where
  pub led : IsLed L lives k n
  pub full : IsFullAt lives k (L.leaf (latest lives) n)

abbrev pub HasRoom : Layout → ℕ → Lives → Option ℕ → ℕ → ℕ → Type 0
HasRoom L N lives g m n = (k : Choice) → IsCut lives k → IsLedFull L lives k n → FullBehind lives k g →
    most_records L N lives k n + m ≤ L.links (latest lives (L.leaf (latest lives) n))

abbrev pub IsGood : Layout → ℕ → Lives → ℕ → Type 0
IsGood L N lives n = (k : Choice) → IsCut lives k → L.leaf (seen lives k) n ≢ 0 → seen_records L N lives k n ≤ L.links (seen lives k (L.leaf (seen lives k) n))

abbrev pub IsNamed : Layout → ℕ → Lives → ℕ → Type 0
IsNamed L N lives n = (k : Choice) (b : ℕ) → IsCut lives k → b < N → 0 < L.records n b (seen lives k b) → L.leaf (seen lives k) n ≢ 0

pub record KeepsLinks (L : Layout) (N : ℕ) (lives : Lives) (n : ℕ) : Type 0 where
  -- names lead: where a cut has a record of n, its pointers lead to an inode
  pub named : IsNamed L N lives n
  -- and links are enough: that inode's links are at least the records of n in the cut
  pub good : IsGood L N lives n
  pub tight : HasRoom L N lives None 0 n

-- A record of n may be made behind block y: what is full at y leads to n and is full at its inode, and a link is to spare.
pub record Spare (L : Layout) (N : ℕ) (lives : Lives) (y n : ℕ) : Type 0 where
  pub room : HasRoom L N lives None 1 n
  pub led : (k : Choice) → IsCut lives k → IsFullAt lives k y → IsLedFull L lives k n

-- A link of n may go behind block b, in which a record of it ended.
abbrev pub Less : Layout → ℕ → Lives → ℕ → ℕ → Type 0
Less L N lives b n = HasRoom L N lives (Some b) 1 n

-- An edit leaves the table's pointer to n as it is, in each cut and in newest.
pub record KeepsTable (L : Layout) (old new : Lives) (n : ℕ) : Type 0 where
  pub cuts : (k : Choice) → IsCut new k → L.leaf (seen new k) n ≡ L.leaf (seen old k) n
  pub newest : L.leaf (latest new) n ≡ L.leaf (latest old) n

-- An edit of a block that is below N, and no block of the table: x records of n fewer in it, or y more.
pub record Counts (L : Layout) (N : ℕ) (act : Act) (old new : Lives) (n x y : ℕ) : Type 0 where
  pub within : act.block < N
  pub table : KeepsTable L old new n
  pub records : L.records n act.block (latest new act.block) + x ≤ L.records n act.block (latest old act.block) + y
  -- where the block is n's inode in a cut, it is that in newest
  pub stable : (k : Choice) → IsCut old k → L.leaf (seen old k) n ≢ 0 → L.leaf (seen old k) n ≡ act.block → L.leaf (latest old) n ≡ act.block

-- The table's block comes to point to inode i, of number n, behind i.
pub record InodeAttached (L : Layout) (act : Act) (old new : Lives) (n i : ℕ) : Type 0 where
  pub behind : act.behind ≡ Some i
  pub apart : i ≢ act.block
  pub some : i ≢ 0
  -- the number was free: in newest, and in each cut that is full at the table's block
  pub was : L.leaf (latest old) n ≡ 0
  pub newest_cut : IsCut old (everything old)
  pub free : (k : Choice) → IsCut old k → IsFullAt old k act.block → L.leaf (seen old k) n ≡ 0
  -- no cut led to the inode
  pub unattached : (k : Choice) → IsCut old k → L.leaf (seen old k) n ≡ i → ⊥
  -- now it is n's, in newest and in each such cut, with a link
  pub now : L.leaf (latest new) n ≡ i
  pub leads : (k : Choice) → IsCut new k → IsFullAt new k act.block → L.leaf (seen new k) n ≡ i
  pub linked : 0 < L.links (latest new i)

-- The table's block drops n's inode, which has no link.
pub record InodeDropped (L : Layout) (act : Act) (old new : Lives) (n : ℕ) : Type 0 where
  pub drops : Contains act.edit.drops (L.leaf (latest old) n)
  pub unlinked : L.links (latest old (L.leaf (latest old) n)) ≡ 0
  pub was : (k : Choice) → IsCut old k → IsFullAt old k act.block → IsLed L old k n
  pub now : L.leaf (latest new) n ≡ 0
  pub gone : (k : Choice) → IsCut new k → IsFullAt new k act.block → L.leaf (seen new k) n ≡ 0

-- What others do, and writes, leave: blocks that are not of the file system have no record, and the table is read as before.
pub record ReadsSame (L : Layout) (fs : ℕ) (old new : Lives) (kept : KeptFrom fs old new) (n : ℕ) : Type 0 where
  pub records : (b : ℕ) → IsOwn fs new b ⊎ ((m : List ℕ) → L.records n b m ≡ 0)
  pub table : (k : Choice) (cut : IsCut new k) → L.leaf (seen new k) n ≡ L.leaf (seen old (kept k cut).choice) n
  pub newest : L.leaf (latest new) n ≡ L.leaf (latest old) n
  pub inode : (k : Choice) → IsCut new k → L.leaf (seen new k) n ≢ 0 → IsOwn fs new (L.leaf (seen new k) n)

-- An edit changes nothing of a number.
abbrev pub Leaves : Layout → ℕ → Act → Lives → Lives → ℕ → Type 0
Leaves L N act old new i = Counts L N act old new i 0 0 × (L.links (latest new (L.leaf (latest old) i)) ≡ L.links (latest old (L.leaf (latest old) i)))

-- Two ways to read the same lives, that agree on a number: as where types or buckets are others, but no cut shows a record there.
pub record ReadsAlike (L L' : Layout) (lives : Lives) (n : ℕ) : Type 0 where
  pub table : (k : Choice) → IsCut lives k → L'.leaf (seen lives k) n ≡ L.leaf (seen lives k) n
  pub newest : L'.leaf (latest lives) n ≡ L.leaf (latest lives) n
  pub records : (k : Choice) (b : ℕ) → IsCut lives k → L'.records n b (seen lives k b) ≤ L.records n b (seen lives k b)
  pub records_newest : (b : ℕ) → L'.records n b (latest lives b) ≤ L.records n b (latest lives b)
  pub links : (m : List ℕ) → L'.links m ≡ L.links m
