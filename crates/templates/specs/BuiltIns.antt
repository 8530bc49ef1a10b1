-- The templates of the types that every disk has: 0 is block 0's, 1 a template's block, 2 a block of data.
--
-- Block 0 points to templates, by 16 pointers from byte 8 on, each of type 1 where it is not 0, and to the roots of file
-- systems, by 32 slots from byte 72 on, each a block and its type where the block is not 0. It uses 328 bytes.
-- The other two point to nothing, and may use all 512 bytes.
use Rattle.std.specs.Prelude.{ℕ, ◌==◌, if◌then◌else◌, List, [], ◌∷◌}
use Rattle.udf_code.specs.declared.word.Word.{Word}
use Rattle.udf_code.specs.declared.word.Word.TheVariants.{Set, Add, Mul, Load4, Emit, IfEqual, Else, End, For}
use Rattle.udf_verify.specs.declared.fault.Role.TheVariants as role
use Rattle.udf_verify.specs.Program.{Program}
use Rattle.templates.specs.Templates.{TemplateValue}

abbrev pub catalogue_words : List Word
catalogue_words =
    Set 1 4
    ∷ Set 2 8
    ∷ Set 3 1
    ∷ For 4 16
    ∷ Mul 5 4 1
    ∷ Add 5 5 2
    ∷ Load4 6 5
    ∷ IfEqual 6 0
    ∷ Else
    ∷ Emit 6 3
    ∷ End
    ∷ End
    ∷ Set 1 8
    ∷ Set 2 72
    ∷ For 4 32
    ∷ Mul 5 4 1
    ∷ Add 5 5 2
    ∷ Load4 6 5
    ∷ IfEqual 6 0
    ∷ Else
    ∷ Set 3 4
    ∷ Add 5 5 3
    ∷ Load4 7 5
    ∷ Emit 6 7
    ∷ End
    ∷ End
    ∷ []

-- the size program that answers the same for each block
abbrev pub fixed_size : ℕ → Program
fixed_size n = record { words = Set 0 n ∷ []; role = role.Size }

unfoldable pub built_in_root : TemplateValue
built_in_root = record { owns = record { words = catalogue_words; role = role.Owns }; size = fixed_size 328 }

unfoldable pub leaf_template : TemplateValue
leaf_template = record { owns = record { words = []; role = role.Owns }; size = fixed_size 512 }

-- the template of type 0, 1 or 2
abbrev pub built_in : ℕ → TemplateValue
built_in t = if t == 0 then built_in_root else leaf_template
