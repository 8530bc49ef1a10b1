use Rattle.std.proofs.Common.{◌≡◌, ℕ, ◌*◌, ◌<◌, ◌≤◌, slice_index, IsTrue}
use Rattle.script.specs.Hex.{is_hex_digit, hex_byte}
use Rattle.script.proofs.hex.read_pairs.Given as goal

abbrev pub invariant-loop-place : goal.invariant-loop-place
invariant-loop-place l = record {
  digits : (k : ℕ) → k < 2 * l.place → IsTrue (is_hex_digit (slice_index l.digits k));
  set : (k : ℕ) → k < l.place → slice_index l.bytes k ≡ hex_byte l.digits k;
  rest : (k : ℕ) → l.place ≤ k → slice_index l.bytes k ≡ slice_index l.initial.bytes k;
}
