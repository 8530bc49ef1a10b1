-- What files in memory hold.
use Rattle.std.specs.Prelude.{List, Some, string_bytes}
use Rattle.player.specs.declared.memory.MemoryFile.{MemoryFile}
use Rattle.xnsim_line.specs.Files.{Held, held_in}

-- for each name the bytes of the first file of that name
abbrev pub held_by : List MemoryFile → Held
held_by files = Some (held_in (λ file. string_bytes file.name) (λ file. file.bytes.items) files)
