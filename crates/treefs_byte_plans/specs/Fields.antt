-- Fields of an inode whose content changes now, and bytes of blocks.
--     times_now, size_changes    its times; they and its size, where that changes
--     risen                      the size that a write up to an end leaves
--     size_acts                  the inode's size rises behind another block
--     bytes_patch                bytes of a block
use Rattle.std.specs.Prelude.{ℕ, nat_lt, List, [], ◌∷◌, Option, None, Some, if◌then◌else◌}
use Rattle.xn_model.specs.Calls.{Patch}
use Rattle.treefs_format.specs.declared.fields.Change.{Change}
use Rattle.treefs_format.specs.declared.fields.Change.TheVariants.{Size, Mtime, Ctime}
use Rattle.treefs_model.specs.Acts.{Act, changes_act}
use Rattle.treefs_edits.specs.Memories.{Memory}
use Rattle.treefs_edits.specs.declared.times.Times.{Times}

-- both times are the caller's
abbrev pub times_now : Memory → Times
times_now memory = record { mtime = memory.clock; ctime = memory.clock }

abbrev pub size_changes : Option ℕ → Times → List Change
size_changes None times = Mtime times.mtime ∷ Ctime times.ctime ∷ []
size_changes (Some size) times = Size size ∷ Mtime times.mtime ∷ Ctime times.ctime ∷ []

-- the size that a write up to an end leaves, where that rises
abbrev pub risen : ℕ → ℕ → Option ℕ
risen size end = if nat_lt size end then Some end else None

-- behind the block that has the bytes or their pointers, where the size rises; else the inode is touched
abbrev pub size_acts : ℕ → ℕ → Option ℕ → Times → List Act
size_acts inode block None times = []
size_acts inode block (Some size) times = changes_act inode (size_changes (Some size) times ∷ []) (Some block) ∷ []

abbrev pub bytes_patch : ℕ → List ℕ → Patch
bytes_patch offset bytes = record { offset = offset; bytes = bytes }
