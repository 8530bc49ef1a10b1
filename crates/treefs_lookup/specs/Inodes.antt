-- Inodes by their numbers. Faults come in the order of the tests.
--     found_block             the inode that a block is
--     inode_found             the inode of a number: `NoEntry` where its block isn't there, or isn't of a kind
--     directory_found         a directory: then `NotDir`, and `NoEntry` where it has no link any more
--     file_found, link_found  a file or a symbolic link: then `IsDir`; a symbolic link: then `NotLink`
use Rattle.std.specs.Prelude.{ℕ, ◌==◌, List, Option, None, Some, Result, Ok, Err, if◌then◌else◌}
use Rattle.treefs_format.specs.Fields.{fields_of}
use Rattle.treefs_format.specs.Inodes.{kind_of}
use Rattle.treefs_format.specs.declared.fields.Fields.{Fields}
use Rattle.treefs_format.specs.declared.kind.Kind.{Kind}
use Rattle.treefs_format.specs.declared.kind.Kind.TheVariants as kind
use Rattle.treefs_model.specs.Files.{and_then}
use Rattle.treefs_model.specs.Reading.{inode_block}
use Rattle.treefs_model.specs.declared.fault.Fault.{Fault}
use Rattle.treefs_model.specs.declared.fault.Fault.TheVariants.{NoEntry, NotDir, IsDir, NotLink}
use Rattle.treefs_lookup.specs.declared.inodes.Found.{Found}

abbrev pub found_kind : ℕ → Fields → Option Kind → Result Found Fault
found_kind block fields None = Err NoEntry
found_kind block fields (Some kind) = Ok (record { block = block; kind = kind; fields = fields })

abbrev pub found_in : ℕ → List ℕ → Result Found Fault
found_in block bytes = found_kind block (fields_of bytes) (kind_of (fields_of bytes).mode)

abbrev pub found_block : (ℕ → List ℕ) → ℕ → Result Found Fault
found_block content block = if block == 0 then Err NoEntry else found_in block (content block)

unfoldable pub inode_found : (ℕ → List ℕ) → ℕ → ℕ → Result Found Fault
inode_found content top n = found_block content (inode_block content top n)

abbrev pub linked : Found → Result Found Fault
linked found = if found.fields.links == 0 then Err NoEntry else Ok found

abbrev pub if_directory : Found → Kind → Result Found Fault
if_directory found kind.Directory = linked found
if_directory found kind.File = Err NotDir
if_directory found kind.SymbolicLink = Err NotDir

abbrev pub if_bytes : Found → Kind → Result Found Fault
if_bytes found kind.Directory = Err IsDir
if_bytes found kind.File = Ok found
if_bytes found kind.SymbolicLink = Ok found

abbrev pub if_link : Found → Kind → Result Found Fault
if_link found kind.Directory = Err NotLink
if_link found kind.File = Err NotLink
if_link found kind.SymbolicLink = Ok found

abbrev pub directory_found : (ℕ → List ℕ) → ℕ → ℕ → Result Found Fault
directory_found content top d = and_then (inode_found content top d) (λ found. if_directory found found.kind)

abbrev pub file_found : (ℕ → List ℕ) → ℕ → ℕ → Result Found Fault
file_found content top n = and_then (inode_found content top n) (λ found. if_bytes found found.kind)

abbrev pub link_found : (ℕ → List ℕ) → ℕ → ℕ → Result Found Fault
link_found content top n = and_then (inode_found content top n) (λ found. if_link found found.kind)
