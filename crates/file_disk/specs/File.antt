-- A block of a file, as contracts see its lane, and what a read, a write and a sync of it may answer.
use Rattle.std.specs.Prelude.{◌≡◌, ◌⊎◌, ℕ, Bool, true, false, List, [], ◌∷◌, Result, Ok, Err}
use Rattle.disk.specs.Mem.{next_count}

-- The writes of a block that may not be settled: all bytes that a crash may leave, and the number of the first sync that settles the
-- newest write, or 0.
pub record OpenWriteBytes : Type 0 where
  pub may_leave : List (List ℕ)
  pub settled_by : ℕ

-- What a lane keeps of its block: the bytes that a read gives, whether they are in doubt, and the writes that may not be settled. They are in doubt from
-- each write on, until it was done, or the file has brought them since.
pub record KeptBytes : Type 0 where
  pub number : ℕ
  pub bytes : List ℕ
  pub in_doubt : Bool
  pub writes : OpenWriteBytes

-- no writes of a block with these bytes, which the sync of this number settled
abbrev pub no_writes : List ℕ → ℕ → OpenWriteBytes
no_writes bytes settled_by = record { may_leave = bytes ∷ []; settled_by = settled_by }

-- a block that is settled with these bytes
abbrev pub fresh_kept : ℕ → List ℕ → KeptBytes
fresh_kept number bytes = record { number = number; bytes = bytes; in_doubt = false; writes = no_writes bytes 0 }

-- the block after these bytes were given to a write, which the sync of this number settles
abbrev pub with_given : KeptBytes → List ℕ → ℕ → KeptBytes
with_given block bytes settled_by =
    record block { in_doubt = true; writes = record { may_leave = bytes ∷ block.writes.may_leave; settled_by = settled_by } }

-- the block once the file has brought or taken these bytes
abbrev pub with_found : KeptBytes → List ℕ → KeptBytes
with_found block bytes = record block { bytes = bytes; in_doubt = false }

-- the block after a sync that settles its bytes
abbrev pub with_settled : KeptBytes → KeptBytes
with_settled block = record block { writes = no_writes block.bytes block.writes.settled_by }

pub record FileBlock : Type 0 where
  pub number : ℕ
  -- what a read gives
  pub bytes : List ℕ
  -- whether the newest write failed, and the file has not brought these bytes since
  pub in_doubt : Bool
  -- all bytes that a crash may leave: those of the last good sync, and those given to a write since
  pub may_leave : List (List ℕ)
  pub faults : ℕ

-- what a lane says of its block, which has failed so often
abbrev pub file_block : KeptBytes → ℕ → FileBlock
file_block kept faults =
    record { number = kept.number; bytes = kept.bytes; in_doubt = kept.in_doubt; may_leave = kept.writes.may_leave; faults = faults }

-- a block that is settled with these bytes and has never failed
abbrev pub fresh_block : ℕ → List ℕ → FileBlock
fresh_block number bytes = record { number = number; bytes = bytes; in_doubt = false; may_leave = bytes ∷ []; faults = 0 }

-- these bytes stand in the list
abbrev pub StandsAmong : List (List ℕ) → List ℕ → Type 0
StandsAmong [] bytes = ⊥
StandsAmong (x ∷ xs) bytes = StandsAmong xs bytes ⊎ (bytes ≡ x)

-- what a crash may leave in a block
abbrev pub file_leaves : FileBlock → List ℕ → Type 0
file_leaves block bytes = StandsAmong block.may_leave bytes

-- the block after one fault more
abbrev pub with_fault : FileBlock → FileBlock
with_fault block = record block { faults = next_count block.faults }

-- the block after these bytes were given to a write
abbrev pub with_write : FileBlock → List ℕ → FileBlock
with_write block bytes = record block { may_leave = bytes ∷ block.may_leave }

-- the block once the file has brought or taken these bytes
abbrev pub with_bytes : FileBlock → List ℕ → FileBlock
with_bytes block bytes = record block { bytes = bytes; in_doubt = false }

-- the block, of which the file may have other bytes
abbrev pub with_doubt : FileBlock → FileBlock
with_doubt block = record block { in_doubt = true }

-- What a read, a write and a sync of a block may answer, and the block after it. After an Ok it is in no doubt. Nothing is said of when they fail.
abbrev pub file_read : {E : Type 0} → FileBlock → Result (Unit {0}) E → FileBlock → Type 0
file_read old (Ok done) new = new ≡ with_bytes old old.bytes
file_read old (Err fault) new = new ≡ with_fault old

abbrev pub file_write : {E : Type 0} → FileBlock → List ℕ → Result (Unit {0}) E → FileBlock → Type 0
file_write old bytes (Ok done) new = new ≡ with_bytes (with_write old bytes) bytes
file_write old bytes (Err fault) new =
    (new ≡ with_doubt (with_fault (with_write old bytes)))
    ⊎ ((new ≡ with_bytes (with_fault (with_write old bytes)) old.bytes) ⊎ (new ≡ with_bytes (with_fault (with_write old bytes)) bytes))

abbrev pub file_sync : {E : Type 0} → FileBlock → Result (Unit {0}) E → FileBlock → Type 0
file_sync old (Ok done) new = new ≡ record (with_bytes old old.bytes) { may_leave = old.bytes ∷ [] }
file_sync old (Err fault) new = (new ≡ with_fault old) ⊎ (new ≡ with_bytes (with_fault old) old.bytes)
