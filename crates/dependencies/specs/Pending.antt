-- Whether something is pending for a block, and what is read of an entry, by what it says.
use Rattle.std.specs.Prelude.{ℕ, Bool, cond, List, [], ◌∷◌, Option, Some, None, nat_lt}
use Rattle.xn_model.specs.Lives.{Life, alive_and, has_entry, is_for}
use Rattle.xn_model.specs.Calls.{life_pending}
use Rattle.block_cache.specs.Claims.{ClaimValue}

abbrev pub is_dirty : Option Life → Bool
is_dirty o = nat_lt 0 (life_pending o)

-- whether the entry of this number is
abbrev pub pends : ℕ → Option Life → Bool
pends n o = alive_and (λ l. has_entry l.pending n) o

-- 1 for an entry that counts for a file system
abbrev pub claim_count : ℕ → Option ClaimValue → ℕ
claim_count fs None = 0
claim_count fs (Some c) = cond (is_for fs c.fs) 1 0

-- its number, if it counts for the file system
abbrev pub claim_entries : ℕ → Option ClaimValue → List ℕ
claim_entries fs None = []
claim_entries fs (Some c) = cond (is_for fs c.fs) (c.entry ∷ []) []
