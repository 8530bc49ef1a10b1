use Rattle.std.proofs.Common.{◌≡◌, ◌≤◌, length, take}
use Rattle.xnsim.proofs.reading.clear_to.Given as goal

abbrev pub invariant-loop-end : goal.invariant-loop-end
invariant-loop-end l = record {
  begun : l.initial.end ≤ l.end;
  long : length l.fn.bytes.items ≤ length l.bytes.items;
  front : take (length l.fn.bytes.items) l.bytes.items ≡ l.fn.bytes.items;
}
