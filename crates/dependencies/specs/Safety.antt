-- Whether an entry may go to the disk, by what it says beside its bytes.
use Rattle.std.specs.Prelude.{ℕ, Bool, false, ◌&&◌, List, Option, Some, None, option_map, slice_get}
use Rattle.std.specs.List.{list_all}
use Rattle.xn_model.specs.Lives.{BlockState, Life, Lives, has_durable, is_all_durable, is_after_met, is_type_met}
use Rattle.xn_model.specs.Calls.{first_pending}
use Rattle.block_cache.specs.Claims.{ClaimValue, claim_of}
use Rattle.block_cache.specs.Views.{pending_at}

-- an entry with this claim, of a block of type t, behind the earlier ones of its block
abbrev pub is_claim_safe : Lives → ℕ → List BlockState → ClaimValue → Bool
is_claim_safe lives t earlier c =
    (list_all (λ p. has_durable lives p.0) c.adds && list_all (λ p. is_type_met lives t earlier p.1) c.adds)
    && (list_all (is_all_durable lives) c.drops && is_after_met lives earlier c.after)

abbrev pub is_some_safe : Lives → ℕ → List BlockState → Option ClaimValue → Bool
is_some_safe lives t earlier None = false
is_some_safe lives t earlier (Some c) = is_claim_safe lives t earlier c

-- the type of a block in use; a free one has none
abbrev pub life_type : Option Life → ℕ
life_type None = 0
life_type (Some l) = l.ty

-- the pending entry at a place
abbrev pub claim_at : Option Life → ℕ → Option ClaimValue
claim_at o k = option_map claim_of (slice_get (pending_at o) k)

abbrev pub is_safe_at : Lives → Option Life → ℕ → Bool
is_safe_at lives o k = is_some_safe lives (life_type o) (first_pending k o) (claim_at o k)
