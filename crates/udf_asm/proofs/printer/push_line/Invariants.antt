use Rattle.std.proofs.Common.{◌≡◌, ◌++◌, take}
use Rattle.std.specs.List.{flat_map}
use Rattle.std.specs.String.{string_bytes}
use Rattle.udf_asm.specs.Printing.{operand_text}
use Rattle.udf_asm.proofs.printer.push_line.Given as goal

-- the operands so far are written
abbrev pub invariant-loop-operand : goal.invariant-loop-operand
invariant-loop-operand l = string_bytes l.text ≡ string_bytes l.initial.text ++ flat_map operand_text (take l.operand-index l.operand-items)
