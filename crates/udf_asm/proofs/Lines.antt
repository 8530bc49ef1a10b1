-- The word of a line, from its parts.
use Rattle.std.proofs.Common.{◌≡◌, ℕ, false, List, [], ◌∷◌, length, refl, ap, ◌∙◌}
use Rattle.std.specs.Prelude.{Ok, ◌==◌}
use Rattle.std.specs.List.{slice_split}
use Rattle.std.specs.Option.{ok_or}
use Rattle.udf_code.specs.declared.op.Op.{Op}
use Rattle.udf_code.specs.Structure.{◌>>=◌}
use Rattle.udf_asm.specs.declared.fault.AsmKind.TheVariants.{BadName}
use Rattle.udf_asm.specs.Names.{op_named}
use Rattle.udf_asm.specs.Assembly.{is_space, parts_read, operands_read, line_read}

parts-line_read : (line : List ℕ) → (length line == 0) ≡ false → line_read line ≡ parts_read (slice_split is_space line)
parts-line_read [] h = absurd (cc)
parts-line_read (byte ∷ line) h = refl

pub line_read-parts : (line name : List ℕ) (operands : List (List ℕ)) (op : Op) → (length line == 0) ≡ false → slice_split is_space line ≡ name ∷ operands → ok_or (op_named name) BadName ≡ Ok op → line_read line ≡ operands_read op operands
line_read-parts line name operands op h e g =
    parts-line_read line h ∙ ap parts_read e ∙ ap (λ r. r >>= (λ o. operands_read o operands)) g
