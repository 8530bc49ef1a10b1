-- The bytes that the first entries of a life leave.
use Rattle.std.proofs.Common.{◌≡◌, ℕ, zero, suc, ◌≤◌, List, [], ◌∷◌, length, take, Option, None, refl, ap, arith}
use Rattle.std.specs.List.{last_or}
use Rattle.xn_model.specs.Lives.{BlockState, Life, bytes_of}
use Rattle.xn_model.specs.Calls.{bytes_at}
use Rattle.block_cache.specs.Views.{image_at}

last_of_some : (o p : Option BlockState) (xs : List BlockState) (n : ℕ) → 1 ≤ n → n ≤ length xs → last_or o (take n xs) ≡ last_or p (take n xs)
last_of_some o p xs zero some within = absurd (omega arith)
last_of_some o p [] (suc n) some within = absurd (omega arith)
last_of_some o p (x ∷ xs) (suc n) some within = refl

pub image_of_some : (l : Life) (k : ℕ) → 1 ≤ k → k ≤ length l.pending → image_at k l ≡ bytes_at k l
image_of_some l k some within = ap bytes_of (last_of_some l.durable None l.pending k some within)
