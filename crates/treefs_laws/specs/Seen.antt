-- A volume as its callers see it.
--     times_in, with_times     the times of an inode, and other ones
--     seen_inode, seen_files   an inode, and the files, with the newest times of each: as it was touched, or else as its block says
--     AreTouchedOnce           no inode is touched twice
--     IsSession                what holds of a session's memory between calls
use Rattle.std.specs.Prelude.{◌≢◌, ⊤, ℕ, FitsSigned, All, List, [], ◌∷◌, option_map}
use Rattle.std.specs.Int.{w64}
use Rattle.treefs_model.specs.Files.{Files, Inode}
use Rattle.treefs_edits.specs.Memories.{Memory, touched_times}
use Rattle.treefs_edits.specs.declared.memory.Touched.{Touched}
use Rattle.treefs_edits.specs.declared.times.Times.{Times}

abbrev pub times_in : Inode → Times
times_in inode = record { mtime = inode.mtime; ctime = inode.ctime }

abbrev pub with_times : Times → Inode → Inode
with_times times inode = record inode { mtime = times.mtime; ctime = times.ctime }

abbrev pub seen_inode : List Touched → ℕ → Inode → Inode
seen_inode touched n inode = with_times (touched_times touched n (times_in inode)) inode

-- files: as the bytes say them
unfoldable pub seen_files : List Touched → Files → Files
seen_files touched files n = option_map (seen_inode touched n) (files n)

-- times of 64 bits
abbrev pub AreTimes : Times → Type 0
AreTimes times = FitsSigned w64 times.mtime × FitsSigned w64 times.ctime

-- each inode once
abbrev pub AreTouchedOnce : List Touched → Type 0
AreTouchedOnce [] = ⊤
AreTouchedOnce (touch ∷ rest) = All (λ other. other.number ≢ touch.number) rest × AreTouchedOnce rest

pub record IsSession (memory : Memory) : Type 0 where
  pub once : AreTouchedOnce memory.touched
  pub clock : FitsSigned w64 memory.clock
  pub times : All (λ touch. AreTimes touch.times) memory.touched
