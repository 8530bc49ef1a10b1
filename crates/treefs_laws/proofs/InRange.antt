-- Fields of an inode that are read of bytes are as wide as their bytes.
use Rattle.std.proofs.Common.{ℕ, zero, suc, ◌<◌, ◌^◌, List, [], ◌∷◌, get_or, arith}
use Rattle.std.specs.Prelude.{All, FitsSigned, drop, take}
use Rattle.std.specs.Int.{w64}
use Rattle.std.proofs.Math.Facts.{sfits_to_z}
use Rattle.std.proofs.lemmas.List.Elements.{All-drop, All-take}
use Rattle.xn_model.specs.Root.{word_at}
use Rattle.treefs_format.specs.Numbers.{number_at, signed_at}

abbrev IsByte : ℕ → Type 0
IsByte b = b < 256

byte_at : (bs : List ℕ) → All IsByte bs → (i : ℕ) → get_or bs i 0 < 256
byte_at [] all zero = omega arith
byte_at [] all (suc i) = omega arith
byte_at (b ∷ bs) all zero = all 0 0 (omega arith)
byte_at (b ∷ bs) all (suc i) = byte_at bs (λ k d lt. all (suc k) d (omega arith)) i

module _ (m : List ℕ) (bytes : All IsByte m) (at : ℕ) where
  byte : (count i : ℕ) → get_or (take count (drop at m)) i 0 < 256
  byte count = byte_at (take count (drop at m)) (All-take IsByte count (drop at m) (All-drop IsByte at m bytes))

  pub word_fits : word_at m at < 2 ^ 32
  unfolding word_at
  word_fits = let a = byte 4 0 in let b = byte 4 1 in let c = byte 4 2 in let d = byte 4 3 in omega arith

  number_fits : number_at w64 m at < 2 ^ 64
  unfolding number_at
  number_fits =
      let a = byte 8 0 in let b = byte 8 1 in let c = byte 8 2 in let d = byte 8 3 in
      let e = byte 8 4 in let f = byte 8 5 in let g = byte 8 6 in let h = byte 8 7 in omega arith

  pub time_fits : FitsSigned w64 (signed_at m at)
  time_fits = sfits_to_z {w = w64} {n = number_at w64 m at} (record { fits = number_fits })
