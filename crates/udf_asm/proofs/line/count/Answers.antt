use Rattle.std.proofs.Common.{◌+◌, sym, ap, ◌∙◌}
use Rattle.std.proofs.lemmas.List.Splits.{length-slice_split}
use Rattle.udf_asm.specs.Assembly.{is_space}
use Rattle.udf_asm.proofs.line.count.Goals as goal

pub returns-in-Some : goal.returns-in-Some
returns-in-Some c = rw c.in-Some.is (ap (λ n. n + 1) c.spaces.ensures ∙ sym (length-slice_split is_space c.in-Some.operands.now))
