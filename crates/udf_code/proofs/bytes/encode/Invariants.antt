use Rattle.std.proofs.Common.{◌≡◌, take}
use Rattle.udf_code.specs.Bytes.{encoded}
use Rattle.udf_code.proofs.bytes.encode.Given as goal

-- the words so far are written
abbrev pub invariant-loop-word : goal.invariant-loop-word
invariant-loop-word l = l.bytes.items ≡ encoded (take l.word-index l.words)
