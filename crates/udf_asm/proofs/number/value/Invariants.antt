use Rattle.std.proofs.Common.{◌≡◌, ◌<◌, ◌^◌, drop}
use Rattle.udf_asm.specs.Numbers.{digits_from}
use Rattle.udf_asm.proofs.number.value.Given as goal

-- the number so far with the digits that are left is the number of all
abbrev pub invariant-loop-digit : goal.invariant-loop-digit
invariant-loop-digit l = (digits_from l.number (drop l.digit-index l.digits) ≡ digits_from 0 l.digits) × (l.number < 2 ^ 16)
