use Rattle.std.proofs.Common.{◌≡◌, ◌*◌, ◌++◌, take, drop}
use Rattle.udf_code.specs.Bytes.{encoded}
use Rattle.templates.proofs.words.write_words.Given as goal

abbrev pub invariant-loop-i : goal.invariant-loop-i
invariant-loop-i l = l.out ≡ encoded (take l.i l.words) ++ drop (4 * l.i) l.initial.out
