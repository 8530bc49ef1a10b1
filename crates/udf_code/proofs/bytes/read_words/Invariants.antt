use Rattle.std.proofs.Common.{◌≡◌, ◌*◌, ◌≤◌, drop, [], false}
use Rattle.std.specs.Prelude.{reverse}
use Rattle.arrayvec.specs.ArrayVec.{array_vec_len}
use Rattle.udf_code.specs.Structure.{place}
use Rattle.udf_code.specs.Decoding.{decoded_from}
use Rattle.udf_code.proofs.Steps.{after_words}
use Rattle.udf_code.proofs.bytes.read_words.Given as goal

-- the words so far and what the bytes that are left give make what all the bytes give
abbrev pub invariant-loop-at : goal.invariant-loop-at
invariant-loop-at l =
    (after_words l.words.items (decoded_from l.at (drop (l.at * 4) l.bytes) (place (reverse l.blocks.items) l.may_claim)) ≡ decoded_from 0 l.bytes (place [] false))
    × (array_vec_len l.words ≡ l.at) × (l.count ≤ 127)
