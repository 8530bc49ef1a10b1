use Rattle.std.proofs.Common.{◌≡◌, ◌+◌, ◌*◌, ◌≤◌, length, min}
use Rattle.arrayvec.specs.ArrayVec.{array_vec_len}
use Rattle.udf_asm.proofs.Texts.{AreRead}
use Rattle.udf_asm.proofs.assembler.read_lines.Given as goal

-- the lines so far are read, and each has taken two bytes and more
abbrev pub invariant-loop-rest : goal.invariant-loop-rest
invariant-loop-rest l =
    AreRead l.text l.rest l.count l.words.items × (array_vec_len l.words ≡ min l.count 127) × (2 * l.count + length l.rest ≤ length l.text)

abbrev pub decreases-loop-rest : goal.decreases-loop-rest
decreases-loop-rest l = length l.rest
