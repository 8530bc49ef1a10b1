use Rattle.std.proofs.Common.{◌≡◌, map, string_bytes, take}
use Rattle.xnsim_line.specs.Files.{AreHeld}
use Rattle.xnsim_line.proofs.formatting.read_files.Given as goal

abbrev pub invariant-loop-name : goal.invariant-loop-name
invariant-loop-name g l = AreHeld (g.F.Files.held l.initial.files) (map string_bytes (take l.name-index l.names)) l.blocks.items × (g.F.Files.held l.files ≡ g.F.Files.held l.initial.files)
