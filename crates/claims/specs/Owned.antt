-- How many blocks each block owns, and what an edit may claim.
--     AreOwnedCounts counts lives      by block number
--     one_more counts owner            with one block more of this owner
--     MayClaim lives b adds drops      of an edit of block b
use Rattle.std.specs.Prelude.{◌≡◌, ℕ, ◌+◌, ◌<◌, List, length, Option, Some, None, Contains, true, slice_index, slice_set}
use Rattle.xn_model.specs.Lists.{blocks_of, distinct}
use Rattle.xn_model.specs.Lives.{Lives, life_at, alive_and, is_fresh, is_owned_by, owner_of}
use Rattle.claims.specs.Owners.{owned_count}
use Rattle.block_cache.specs.declared.life.Facts.{Facts}
use Rattle.block_cache.specs.declared.life.FoundLife.{FoundLife}

pub record AreOwnedCounts (counts : List ℕ) (lives : Lives) : Type 0 where
  pub long : length counts ≡ length lives
  pub each : (b : ℕ) → b < length lives → slice_index counts b ≡ owned_count lives b

-- the block that owns one of which this is known
abbrev pub owner_in : Option Facts → Option ℕ
owner_in None = None
owner_in (Some facts) = owner_of facts.status

-- the same of what is found of it in an image
abbrev pub found_owner : Option FoundLife → Option ℕ
found_owner None = None
found_owner (Some found) = owner_of found.status

abbrev pub one_more : List ℕ → Option ℕ → List ℕ
one_more counts None = counts
one_more counts (Some b) = slice_set counts b (slice_index counts b + 1)

-- it adds blocks that nobody has owned, and drops blocks that b owns, each once
pub record MayClaim (lives : Lives) (b : ℕ) (adds : List (ℕ × ℕ)) (drops : List ℕ) : Type 0 where
  pub fresh : (c : ℕ) → Contains (blocks_of adds) c → alive_and (λ l. is_fresh l.status) (life_at lives c) ≡ true
  pub added_once : distinct (blocks_of adds) ≡ true
  pub owned : (c : ℕ) → Contains drops c → alive_and (λ l. is_owned_by b l.status) (life_at lives c) ≡ true
  pub dropped_once : distinct drops ≡ true
