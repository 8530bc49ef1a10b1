-- From which number on the pending entries of each file system lie.
--     pends_for fs n o            the entry n of the file system is pending in this life
--     AreOldest lives oldest      none of a file system's pending entries is below its number
--     MovesOn .. fs old new       the number of a file system has moved on, as far as entries are known to be pending no longer
use Rattle.std.specs.Prelude.{◌≡◌, ◌≢◌, ℕ, ◌+◌, ◌-◌, ◌^◌, ◌<◌, ◌≤◌, ◌&&◌, ◌==◌, Bool, true, false, cond, min, List, length, Option, Some, None, slice_index}
use Rattle.std.specs.Prelude.{slice_set}
use Rattle.std.specs.List.{list_any}
use Rattle.xn_model.specs.Lives.{BlockState, Life, Lives, alive_and, is_for, life_at}
use Rattle.block_cache.specs.Claims.{ClaimValue}
use Rattle.dependencies.specs.Homes.{home_of}

abbrev pub is_entry_for : ℕ → ℕ → BlockState → Bool
is_entry_for fs n s = is_for fs s.fs && (s.entry == n)

abbrev pub has_for : ℕ → List BlockState → ℕ → Bool
has_for fs states n = list_any (is_entry_for fs n) states

abbrev pub pends_for : ℕ → ℕ → Option Life → Bool
pends_for fs n o = alive_and (λ l. has_for fs l.pending n) o

-- the same of what an entry says
abbrev pub is_number_for : ℕ → ℕ → Option ClaimValue → Bool
is_number_for fs n None = false
is_number_for fs n (Some c) = is_for fs c.fs && (c.entry == n)

abbrev pub AreOldest : Lives → List ℕ → Type 0
AreOldest lives oldest = (fs n b : ℕ) → fs < 32 → pends_for fs n (life_at lives b) ≡ true → slice_index oldest fs ≤ n

-- the numbers once a new entry of a file system has come, of which so many were pending
abbrev pub oldest_with_entry : List ℕ → ℕ → ℕ → ℕ → List ℕ
oldest_with_entry oldest fs n pending = slice_set oldest fs (cond (pending == 0) n (min n (slice_index oldest fs)))

-- the entry n of the file system is pending in its home, if that is known
abbrev pub MayPend : Lives → List (ℕ × ℕ) → ℕ → ℕ → Type 0
MayPend lives homes fs n = (c : ℕ) → home_of homes n ≡ Some c → pends_for fs n (life_at lives c) ≡ true

pub record MovesOn (lives : Lives) (homes : List (ℕ × ℕ)) (fs : ℕ) (old new : List ℕ) : Type 0 where
  pub others : (k : ℕ) → k ≢ fs → slice_index new k ≡ slice_index old k
  pub from : slice_index old fs ≤ slice_index new fs
  -- by fewer numbers than there are slots only where the entry that it has reached may be pending
  pub stops : slice_index new fs < min (slice_index old fs + length homes) (2 ^ 64 - 1) → MayPend lives homes fs (slice_index new fs)
