-- The templates of the library's file system, in the order of their types, from 3 on.
--     file_system_templates    the three
--     HasAnother T place       a look-up of the type at a place, 0 to 2, tells no template or another one
use Rattle.std.specs.Prelude.{◌≢◌, ℕ, ◌+◌, List, [], ◌∷◌, Option, slice_get}
use Rattle.xn_model.specs.Types.{Types}
use Rattle.udf_code.specs.declared.word.Word.{Word}
use Rattle.udf_code.specs.declared.word.Word.TheVariants.{Set, Add, Mul, Load4, Emit, IfLess, End, For}
use Rattle.udf_verify.specs.declared.fault.Role.TheVariants as role
use Rattle.templates.specs.Tables.{TellsTemplate}
use Rattle.templates.specs.Templates.{TemplateValue}
use Rattle.templates.specs.BuiltIns.{fixed_size}

-- a template whose size program answers the same for each block
abbrev pub with_size : List Word → ℕ → TemplateValue
with_size words size = record { owns = record { words = words; role = role.Owns }; size = fixed_size size }

-- a root block has 16 pointers to blocks of inodes, which are of type 4
abbrev pub root_words : List Word
root_words =
    Set 1 4
    ∷ For 2 16
    ∷ Mul 3 2 1
    ∷ Load4 4 3
    ∷ IfLess 0 4
    ∷ Emit 4 1
    ∷ End
    ∷ End
    ∷ []

-- a block of 8 inodes of 64 bytes: each has 12 pointers to data, of type 2, from its byte 8 on, and at its byte 56 one to a
-- block of pointers, of type 5
abbrev pub inode_words : List Word
inode_words =
    Set 1 64
    ∷ Set 2 4
    ∷ Set 3 8
    ∷ Set 4 2
    ∷ Set 5 5
    ∷ Set 6 56
    ∷ For 7 8
    ∷ Mul 8 7 1
    ∷ Add 9 8 3
    ∷ For 10 12
    ∷ Mul 11 10 2
    ∷ Add 11 11 9
    ∷ Load4 12 11
    ∷ IfLess 0 12
    ∷ Emit 12 4
    ∷ End
    ∷ End
    ∷ Add 9 8 6
    ∷ Load4 12 9
    ∷ IfLess 0 12
    ∷ Emit 12 5
    ∷ End
    ∷ End
    ∷ []

-- a block of pointers has 128 pointers to data
abbrev pub pointer_words : List Word
pointer_words =
    Set 1 4
    ∷ Set 2 2
    ∷ For 3 128
    ∷ Mul 4 3 1
    ∷ Load4 5 4
    ∷ IfLess 0 5
    ∷ Emit 5 2
    ∷ End
    ∷ End
    ∷ []

unfoldable pub library_root : TemplateValue
library_root = with_size root_words 64

unfoldable pub inode_template : TemplateValue
inode_template = with_size inode_words 512

unfoldable pub pointer_template : TemplateValue
pointer_template = with_size pointer_words 512

abbrev pub file_system_templates : List TemplateValue
file_system_templates = library_root ∷ inode_template ∷ pointer_template ∷ []

abbrev pub HasAnother : Types → ℕ → Type 0
HasAnother T place = (found : Option TemplateValue) × TellsTemplate T (3 + place) found × (found ≢ slice_get file_system_templates place)
