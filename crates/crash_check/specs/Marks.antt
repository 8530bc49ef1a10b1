-- The named blocks, and a mark for each of them.
--     AreMarked marks entries       a block is marked where it is 0 or in the list
use Rattle.std.specs.Prelude.{◌≡◌, ℕ, Bool, false, ◌||◌, ◌==◌, List, get_or}
use Rattle.image_model.specs.Walk.{Named, has_block}

-- what callers see of named blocks: those in their order, each with its place
pub record NamedList : Type 0 where
  pub entries : List Named

-- behind the last mark there is none
abbrev pub AreMarked : List Bool → List Named → Type 0
AreMarked marks entries = (b : ℕ) → get_or marks b false ≡ ((b == 0) || has_block entries b)
