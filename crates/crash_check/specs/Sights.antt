-- What the visits to the blocks of a level saw, in two lists: the pairs of all blocks, those of one behind those of another, and how many of them each
-- has, or None where a byte past its size is not 0.
--     AreSights pairs counts seen     this is what each visit saw
use Rattle.std.specs.Prelude.{◌≡◌, ℕ, ◌+◌, List, [], ◌∷◌, map, take, drop, length, Option, Some, None}
use Rattle.udf_run.specs.declared.pair.Pair.{Pair}
use Rattle.templates.specs.Meaning.{numbers_of_pair}

abbrev pub sights : List Pair → List (Option ℕ) → List (Option (List (ℕ × ℕ)))
sights ps [] = []
sights ps (None ∷ cs) = None ∷ sights ps cs
sights ps (Some n ∷ cs) = Some (map numbers_of_pair (take n ps)) ∷ sights (drop n ps) cs

abbrev pub count_sum : List (Option ℕ) → ℕ
count_sum [] = 0
count_sum (None ∷ cs) = count_sum cs
count_sum (Some n ∷ cs) = n + count_sum cs

pub record AreSights (pairs : List Pair) (counts : List (Option ℕ)) (seen : List (Option (List (ℕ × ℕ)))) : Type 0 where
  pub each : sights pairs counts ≡ seen
  pub whole : count_sum counts ≡ length pairs
