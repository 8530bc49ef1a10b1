-- What the 512 bytes of an inode block say beside its fields, and a new one's bytes.
--     pointers_of m       20 pointers: to leaves 0 to 15, then to the trees of height 1 to 4; 0 for none
--     content_of m        the first 384 bytes of the content
--     inode_bytes         a new inode, without pointers
--     Kind, kind_of, mode_of    what an inode is, and its mode
use Rattle.std.specs.Prelude.{ℕ, ◌+◌, ◌-◌, ◌*◌, ◌/◌, ◌==◌, List, ◌++◌, length, drop, Option, None, Some, if◌then◌else◌}
use Rattle.xn_model.specs.BareDisks.{zeros}
use Rattle.xn_model.specs.Calls.{Patch}
use Rattle.treefs_format.specs.declared.fields.Fields.{Fields}
use Rattle.treefs_format.specs.Fields.{field_bytes}
use Rattle.treefs_format.specs.Numbers.{words_at}
pub use Rattle.treefs_format.specs.declared.kind.Kind.{Kind}
use Rattle.treefs_format.specs.declared.kind.Kind.TheVariants.{Directory, File, SymbolicLink}

abbrev pub pointers_of : List ℕ → List ℕ
pointers_of m = words_at m 48 20

abbrev pub content_of : List ℕ → List ℕ
content_of m = drop 128 m

-- an inode with these fields and this beginning of its content, and no pointer
abbrev pub inode_bytes : Fields → List ℕ → List ℕ
inode_bytes fields head = field_bytes fields ++ (zeros 80 ++ (head ++ zeros (384 - length head)))

-- a patch of the content, from a place on
abbrev pub content_patch : ℕ → List ℕ → Patch
content_patch at bytes = record { offset = 128 + at; bytes = bytes }

-- Modes

-- the highest four of the 16 bits
abbrev pub kind_number : Kind → ℕ
kind_number Directory = 4
kind_number File = 8
kind_number SymbolicLink = 10

abbrev pub kind_of_number : ℕ → Option Kind
kind_of_number n = if n == 4 then Some Directory else if n == 8 then Some File else if n == 10 then Some SymbolicLink else None

abbrev pub kind_of : ℕ → Option Kind
kind_of mode = kind_of_number (mode / 4096)

abbrev pub mode_of : Kind → ℕ → ℕ
mode_of kind permissions = 4096 * kind_number kind + permissions
