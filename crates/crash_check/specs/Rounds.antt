-- A walk under way.
--     walk_from T blocks visited named           the rest of a walk, where so many of the named blocks are visited
--     Walks T blocks whole named visited         that rest gives what the whole walk gives
use Rattle.std.specs.Prelude.{◌≡◌, ℕ, ◌-◌, List, length, Result}
use Rattle.xn_model.specs.Types.{Types}
use Rattle.xn_model.specs.Images.{block_of}
use Rattle.image_model.specs.Walk.{Named, walk}
use Rattle.image_model.specs.Valid.{Valid}
use Rattle.store_types.specs.declared.image_fault.ImageFault.{ImageFault}

abbrev pub walk_from : Types → List (List ℕ) → ℕ → List Named → Result (List Named) ImageFault
walk_from T blocks visited named = walk T (length blocks) (block_of blocks) (length blocks - visited) visited named

pub record Walks (T : Types) (blocks : List (List ℕ)) (whole : Result (List Named) ImageFault) (named : List Named) (visited : ℕ) : Type 0 where
  pub valid : Valid T (length blocks) named
  pub rest : whole ≡ walk_from T blocks visited named
