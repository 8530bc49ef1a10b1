use Rattle.std.proofs.Common.{◌≤◌}
use Rattle.script.proofs.Decimals.{IsValueTo}
use Rattle.script.proofs.number.parse_u32.Given as goal

abbrev pub invariant-loop-digit : goal.invariant-loop-digit
invariant-loop-digit l = record {
  read : IsValueTo l.text l.digit-index l.number;
  small : l.number ≤ 4294967295;
}
