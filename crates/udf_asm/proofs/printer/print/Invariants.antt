use Rattle.std.proofs.Common.{◌≡◌, take}
use Rattle.std.specs.String.{string_bytes}
use Rattle.udf_asm.specs.Printing.{text_of}
use Rattle.udf_asm.proofs.printer.print.Given as goal

-- the words so far are written
abbrev pub invariant-loop-word : goal.invariant-loop-word
invariant-loop-word l = string_bytes l.text ≡ text_of (take l.word-index l.words)
