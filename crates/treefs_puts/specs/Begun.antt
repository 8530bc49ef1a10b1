-- Inodes that were begun, by their blocks. Faults come in the order of the tests.
--     begun_file        a file or a symbolic link: `NoEntry` where the block is no inode, and `IsDir`
--     written_begun     one in which bytes from one on may be written: then `TooLarge`, at or past the greatest size
use Rattle.std.specs.Prelude.{ℕ, nat_le, List, Result, Ok, Err, if◌then◌else◌}
use Rattle.treefs_format.specs.Leaves.{greatest_size}
use Rattle.treefs_model.specs.Files.{and_then}
use Rattle.treefs_model.specs.declared.fault.Fault.{Fault}
use Rattle.treefs_model.specs.declared.fault.Fault.TheVariants.{TooLarge}
use Rattle.treefs_lookup.specs.Inodes.{found_block, if_bytes}
use Rattle.treefs_lookup.specs.declared.inodes.Found.{Found}

abbrev pub begun_file : (ℕ → List ℕ) → ℕ → Result Found Fault
begun_file content inode = and_then (found_block content inode) (λ file. if_bytes file file.kind)

abbrev pub written_begun : (ℕ → List ℕ) → ℕ → ℕ → Result Found Fault
written_begun content inode at = and_then (begun_file content inode) (λ file. if nat_le greatest_size at then Err TooLarge else Ok file)
