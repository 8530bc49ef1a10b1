-- What a session remembers of an inode that was changed.
--     changed_touched        its times are written, or it is touched now
--     changed_volume         the volume then
use Rattle.std.specs.Prelude.{ℕ, Bool, true, false, List}
use Rattle.treefs_edits.specs.Memories.{Memory, with_touched, without_touched}
use Rattle.treefs_edits.specs.declared.memory.Touched.{Touched}
use Rattle.treefs_edits.specs.declared.times.Times.{Times}
use Rattle.treefs.specs.Remembered.{now_times}
use Rattle.treefs.specs.declared.volume.Volume.{Volume}

-- is_dated: its block has its times
abbrev pub changed_touched : List Touched → Times → ℕ → Bool → List Touched
changed_touched touched now number true = without_touched touched number
changed_touched touched now number false = with_touched touched number now

abbrev pub changed_memory : Memory → ℕ → Bool → Memory
changed_memory memory number is_dated = record memory { touched = changed_touched memory.touched (now_times memory) number is_dated }

abbrev pub changed_volume : Volume → ℕ → Bool → Volume
changed_volume volume number is_dated = record volume { memory = changed_memory volume.memory number is_dated }
