-- The block that the entries of another one wait for.
--     unwritten, unsettled    the first of the added blocks that has no state on the disk; of the dropped ones whose newest state is not there
--     home, home_in           the least block in which an entry is pending; that of the one that an entry comes after, if it is not earlier in its own block
--     first_unmet, unmet_at   what keeps an entry from the disk: the first of these that there is, or block 0, if it lacks a type there
--     awaited_by              what keeps an entry that is not safe from the disk: the first of these that there is, or block 0, as it lacks a type there
--     awaited_in              that of the first entry of a life that is not safe; None where all are
use Rattle.std.specs.Prelude.{ℕ, not, cond, ◌&&◌, ◌||◌, ◌==◌, nat_lt, List, length, find, Option, Some, None, option_map, slice_get, unwrap_or}
use Rattle.std.specs.List.{range_with_len, list_all}
use Rattle.std.specs.Option.{option_or, option_and_then}
use Rattle.xn_model.specs.Root.{has_type}
use Rattle.xn_model.specs.Lives.{BlockState, Life, Lives, alive_and, has_durable, has_entry, is_all_durable, life_at, prefix_of, root_on_disk}
use Rattle.xn_model.specs.Calls.{first_pending}
use Rattle.block_cache.specs.Claims.{ClaimValue, claim_of}
use Rattle.block_cache.specs.Views.{pending_at}

abbrev pub unwritten : Lives → List (ℕ × ℕ) → Option ℕ
unwritten lives adds = option_map (λ p. p.0) (find (λ p. not (has_durable lives p.0)) adds)

abbrev pub unsettled : Lives → List ℕ → Option ℕ
unsettled lives drops = find (λ c. not (is_all_durable lives c)) drops

abbrev pub home : Lives → ℕ → Option ℕ
home lives n = find (λ c. alive_and (λ l. has_entry l.pending n) (life_at lives c)) (range_with_len 0 (length lives))

abbrev pub home_in : Lives → List BlockState → Option ℕ → Option ℕ
home_in lives earlier None = None
home_in lives earlier (Some n) = cond (has_entry earlier n) None (home lives n)

-- block 0, if it lacks the type of an added block on the disk; its own states behind others have these types in an earlier one
abbrev pub lacking : Lives → ℕ → ℕ → List (ℕ × ℕ) → Option ℕ
lacking lives b k adds = cond ((b == 0 && nat_lt 0 k) || list_all (λ p. has_type (root_on_disk lives) p.1) adds) None (Some 0)

-- the block that keeps an entry of block b from the disk, behind k others there; None where it may be written
abbrev pub first_unmet : Lives → ℕ → ℕ → ClaimValue → Option ℕ
first_unmet lives b k c =
    option_or (unwritten lives c.adds) (option_or (unsettled lives c.drops) (option_or (home_in lives (first_pending k (life_at lives b)) c.after) (lacking lives b k c.adds)))

-- that of the pending entry at a place
abbrev pub unmet_at : Lives → ℕ → ℕ → Option ℕ
unmet_at lives b k = option_and_then (first_unmet lives b k) (option_map claim_of (slice_get (pending_at (life_at lives b)) k))

-- of an entry, by what it says beside its bytes
abbrev pub awaited_by : Lives → List BlockState → ClaimValue → ℕ
awaited_by lives earlier c = unwrap_or (option_or (unwritten lives c.adds) (option_or (unsettled lives c.drops) (home_in lives earlier c.after))) 0

abbrev pub awaited_in : Lives → Option Life → Option ℕ
awaited_in lives o =
    let k = prefix_of lives o in
    option_map (λ s. awaited_by lives (first_pending k o) (claim_of s)) (slice_get (pending_at o) k)
