use Rattle.std.proofs.Common.{◌≡◌, replicate, None, vec_len, vec_capacity}
use Rattle.disk.proofs.lanes.Lanes.new.Given as goal

abbrev pub invariant-loop-i : goal.invariant-loop-i
invariant-loop-i g l = record {
  items : l.places.items ≡ replicate l._i None;
  len : vec_len l.places ≡ l._i;
  room : vec_capacity l.places ≡ l.blocks;
}
