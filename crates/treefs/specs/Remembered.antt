-- What a session remembers once a call is done.
--     ended_memory      once a name of a directory ended
--     named_touched, named_orphans     what a name that came to lead to an inode did beside
use Rattle.std.specs.Prelude.{ℕ, ◌==◌, List, [], ◌∷◌, ◌++◌, Option, None, Some, if◌then◌else◌}
use Rattle.treefs_edits.specs.Memories.{Memory, with_touched, without_touched}
use Rattle.treefs_edits.specs.declared.memory.Touched.{Touched}
use Rattle.treefs_edits.specs.declared.times.Times.{Times}
use Rattle.treefs_name_plans.specs.declared.name_end.NameEnd.{NameEnd}
use Rattle.treefs_name_plans.specs.declared.naming.Naming.{Naming}
use Rattle.treefs_name_plans.specs.declared.naming.Naming.TheVariants.{Added, Replaced}

abbrev pub written_times : List Touched → ℕ → Option Times → List Touched
written_times touched number None = touched
written_times touched number (Some times) = without_touched touched number

abbrev pub now_times : Memory → Times
now_times memory = record { mtime = memory.clock; ctime = memory.clock }

-- the inode's times may have been written, and the directory is touched
abbrev pub ended_touched : List Touched → Times → ℕ → NameEnd → List Touched
ended_touched touched now directory end = with_touched (written_times touched end.number end.fewer.times) directory now

-- without a link the inode is one more
abbrev pub ended_orphans : List ℕ → NameEnd → List ℕ
ended_orphans orphans end = if end.fewer.links == 0 then orphans ++ end.number ∷ [] else orphans

abbrev pub ended_memory : Memory → ℕ → NameEnd → Memory
ended_memory memory directory end = record memory {
  touched = ended_touched memory.touched (now_times memory) directory end;
  orphans = ended_orphans memory.orphans end;
}

-- What was replaced, if something was

abbrev pub named_touched : List Touched → Naming → List Touched
named_touched touched (Added addition) = touched
named_touched touched (Replaced end) = written_times touched end.number end.fewer.times

abbrev pub named_orphans : List ℕ → Naming → List ℕ
named_orphans orphans (Added addition) = orphans
named_orphans orphans (Replaced end) = ended_orphans orphans end
