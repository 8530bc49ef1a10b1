use Rattle.std.proofs.Common.{◌≡◌, ◌*◌, take, length}
use Rattle.std.specs.List.{flat_map}
use Rattle.script.specs.Bytes.{hex_pair}
use Rattle.script.proofs.bytes.hex_pairs.Given as goal

abbrev pub invariant-loop-byte : goal.invariant-loop-byte
invariant-loop-byte l = (l.digits.items ≡ flat_map hex_pair (take l.byte-index l.bytes)) × (length l.digits.items ≡ 2 * l.byte-index)
