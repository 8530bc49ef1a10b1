use Rattle.std.proofs.Common.{◌≡◌, ◌+◌, ◌≤◌, length}
use Rattle.std.specs.List.{slice_split}
use Rattle.udf_asm.specs.Numbers.{numbers_of_all}
use Rattle.udf_asm.specs.Assembly.{is_space}
use Rattle.udf_asm.proofs.Lists.{after_numbers}
use Rattle.udf_asm.proofs.line.numbers.Given as goal

-- the numbers so far and those of the operands that are left are those of all, and there is room for them
abbrev pub invariant-loop-more : goal.invariant-loop-more
invariant-loop-more l =
    (after_numbers l.numbers.items (numbers_of_all (slice_split is_space l.rest)) ≡ numbers_of_all (slice_split is_space l.operands))
    × (length l.numbers.items + length (slice_split is_space l.rest) ≤ 3)

abbrev pub decreases-loop-more : goal.decreases-loop-more
decreases-loop-more l = length l.rest
