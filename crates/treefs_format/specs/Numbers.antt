-- Numbers in the bytes of a block, all with the lowest byte first.
--     number_at w m at    the number in the bytes of width w from a place on
--     signed_at m at      the same of 64 bits, in two's complement
--     words_at m at n     n words of 32 bits, one behind the other
--     word_bytes words    the bytes of such words
use Rattle.std.specs.Prelude.{ℕ, ℤ, ◌+◌, ◌*◌, List, map, flat_map, take, drop}
use Rattle.std.specs.Int.{Width, w32, w64, byte_len, cast_signed, to_le_bytes, from_le_bytes}
use Rattle.std.specs.List.{range_with_len}
use Rattle.xn_model.specs.Root.{word_at}

unfoldable pub number_at : Width → List ℕ → ℕ → ℕ
number_at w m at = from_le_bytes w (take (byte_len w) (drop at m))

abbrev pub signed_at : List ℕ → ℕ → ℤ
signed_at m at = cast_signed w64 (number_at w64 m at)

unfoldable pub words_at : List ℕ → ℕ → ℕ → List ℕ
words_at m at n = map (λ i. word_at m (at + 4 * i)) (range_with_len 0 n)

abbrev pub word_bytes : List ℕ → List ℕ
word_bytes words = flat_map (to_le_bytes w32) words
