-- The settled bytes of a lane in memory, and those of its open write, by the two lots of bytes that it has.
use Rattle.std.specs.Prelude.{ℕ, List, Option, Some, None}
use Rattle.disk.specs.declared.mem.OpenWrite.{OpenWrite}
use Rattle.disk.specs.declared.mem.OpenWrite.TheVariants.{Absent, Newest, Unread}

abbrev pub settled_by : OpenWrite → List ℕ → List ℕ → List ℕ
settled_by Absent bytes other = bytes
settled_by Newest bytes other = other
settled_by Unread bytes other = bytes

abbrev pub given_by : OpenWrite → List ℕ → List ℕ → Option (List ℕ)
given_by Absent bytes other = None
given_by Newest bytes other = Some bytes
given_by Unread bytes other = Some other
