-- Lives: what each block has been since it was last free, as a list of whole states.
--     states l             those from the durable one on
--     carried l            the pending states that the begun write carries
--     newest l, current l  the last state; its bytes
--     safe, prefix         which pending states may go to the disk
--     chain_end            where the owners of a block's owners end
use Rattle.std.specs.Prelude.{ℕ, zero, suc, Bool, true, false, cond, not, ◌&&◌, ◌||◌, List, [], ◌∷◌, ◌++◌, length, take, drop, fold, Option, Some, None}
use Rattle.std.specs.Prelude.{is_some, is_none, unwrap_or, slice_get, slice_set, ◌==◌, option_to_list, option_map, min, flat_map, position}
use Rattle.std.specs.List.{list_any, list_all, last_or}
use Rattle.xn_model.specs.Lists.{blocks_of, types_of_pairs}
use Rattle.xn_model.specs.Root.{has_type}
pub use Rattle.store_types.specs.declared.status.Status.{Status}
pub use Rattle.store_types.specs.declared.status.Status.TheVariants.{Fresh, Owned, Dropped}

-- the bytes that one accepted edit leaves, with its number and its claims
pub record BlockState : Type 0 where
  pub bytes : List ℕ
  pub entry : ℕ
  pub adds : List (ℕ × ℕ)
  pub drops : List ℕ
  pub after : Option ℕ
  -- for whom the entry counts
  pub fs : Option ℕ

-- of a state that is on the disk only the bytes are known
abbrev pub on_disk : List ℕ → BlockState
on_disk bytes = record { bytes = bytes; entry = 0; adds = []; drops = []; after = None; fs = None }

pub record Life : Type 0 where
  pub fs : Option ℕ
  pub ty : ℕ
  pub status : Status
  -- the last state known to be on the disk
  pub durable : Option BlockState
  -- those after it
  pub pending : List BlockState
  -- how many of those the begun write carries
  pub begun : Option ℕ

-- Free or alive, by block number
abbrev pub Lives : Type 0
Lives = List (Option Life)

abbrev pub life_at : Lives → ℕ → Option Life
life_at lives b = unwrap_or (slice_get lives b) None

-- All that the store knows beside the image: plain data, a value of the kernel's state.
pub record StoreState : Type 0 where
  pub lives : Lives
  -- the next entry number
  pub next : ℕ

abbrev pub states : Life → List BlockState
states l = option_to_list l.durable ++ l.pending

abbrev pub first_states : Option ℕ → List BlockState → List BlockState
first_states None states = []
first_states (Some k) states = take k states

abbrev pub carried : Life → List BlockState
carried l = first_states l.begun l.pending

abbrev pub bytes_of : Option BlockState → List ℕ
bytes_of None = []
bytes_of (Some s) = s.bytes

abbrev pub newest : Life → Option BlockState
newest l = last_or l.durable l.pending

abbrev pub current : Life → List ℕ
current l = bytes_of (newest l)

-- Status, seen as tests

abbrev pub is_fresh : Status → Bool
is_fresh Fresh = true
is_fresh (Owned b) = false
is_fresh (Dropped b) = false

abbrev pub is_dropped : Status → Bool
is_dropped Fresh = false
is_dropped (Owned b) = false
is_dropped (Dropped b) = true

abbrev pub is_owned_by : ℕ → Status → Bool
is_owned_by b Fresh = false
is_owned_by b (Owned a) = a == b
is_owned_by b (Dropped a) = false

-- Whether a life passes a test. A free block has none.
abbrev pub alive_and : (Life → Bool) → Option Life → Bool
alive_and test None = false
alive_and test (Some l) = test l

-- Chains of owners

-- the block that owns a block with this status
abbrev pub owner_of : Status → Option ℕ
owner_of Fresh = None
owner_of (Owned a) = Some a
owner_of (Dropped a) = None

abbrev pub life_owner : Option Life → Option ℕ
life_owner None = None
life_owner (Some l) = owner_of l.status

-- from owner to owner, up to a block that has none; so many steps at most
abbrev pub climb : ℕ → Lives → ℕ → ℕ
climb zero lives b = b
climb (suc n) lives b = elim (life_owner (life_at lives b)) [ None ↦ b | Some a ↦ climb n lives a ]

-- the block at which the chain of owners of block b ends: b itself where it has no owner; no chain has more blocks than there are
abbrev pub chain_end : Lives → ℕ → ℕ
chain_end lives b = climb (length lives) lives b

-- What may go to the disk

-- a number that was given and is pending nowhere is durable or of a life that has ended
abbrev pub has_entry : List BlockState → ℕ → Bool
has_entry states n = list_any (λ s. s.entry == n) states

abbrev pub is_pending : Lives → ℕ → Bool
is_pending lives n = list_any (alive_and (λ l. has_entry l.pending n)) lives

abbrev pub no_states : List BlockState → Bool
no_states [] = true
no_states (s ∷ states) = false

-- the block has a state on the disk
abbrev pub has_durable : Lives → ℕ → Bool
has_durable lives c = alive_and (λ l. is_some l.durable) (life_at lives c)

-- its last state is there
abbrev pub is_all_durable : Lives → ℕ → Bool
is_all_durable lives c = alive_and (λ l. is_some l.durable && no_states l.pending) (life_at lives c)

abbrev pub is_after_met : Lives → List BlockState → Option ℕ → Bool
is_after_met lives earlier None = true
is_after_met lives earlier (Some n) = not (is_pending lives n) || has_entry earlier n

abbrev pub durable_bytes : Option Life → List ℕ
durable_bytes None = []
durable_bytes (Some l) = bytes_of l.durable

-- block 0's bytes on the disk
abbrev pub root_on_disk : Lives → List ℕ
root_on_disk lives = durable_bytes (life_at lives 0)

-- block 0 has the type on the disk or, for a state of block 0 (a block of type 0), in an earlier one
abbrev pub is_type_met : Lives → ℕ → List BlockState → ℕ → Bool
is_type_met lives t earlier u = has_type (root_on_disk lives) u || ((t == 0) && list_any (λ s. has_type s.bytes u) earlier)

-- a pending state of a block of type t, behind the earlier ones of its block
abbrev pub safe : Lives → ℕ → List BlockState → BlockState → Bool
safe lives t earlier s =
    (list_all (has_durable lives) (blocks_of s.adds) && list_all (is_type_met lives t earlier) (types_of_pairs s.adds))
    && (list_all (is_all_durable lives) s.drops && is_after_met lives earlier s.after)

-- how many pending states from the first on are safe
abbrev pub safe_count : Lives → ℕ → List BlockState → List BlockState → ℕ
safe_count lives t earlier [] = 0
safe_count lives t earlier (s ∷ states) = cond (safe lives t earlier s) (suc (safe_count lives t (earlier ++ s ∷ []) states)) 0

abbrev pub prefix_of : Lives → Option Life → ℕ
prefix_of lives None = 0
prefix_of lives (Some l) = safe_count lives l.ty [] l.pending

-- the length of the safe prefix of a block, 0 for none
abbrev pub prefix : Lives → ℕ → ℕ
prefix lives b = prefix_of lives (life_at lives b)

-- Changes of lives

-- the lives with the one of a block changed
abbrev pub change_at : Lives → ℕ → (Life → Life) → Lives
change_at lives b f = slice_set lives b (option_map f (life_at lives b))

abbrev pub with_state : BlockState → Life → Life
with_state s l = record l { pending = l.pending ++ s ∷ [] }

abbrev pub with_status : Status → Life → Life
with_status st l = record l { status = st }

abbrev pub owned_after : ℕ → Lives → List (ℕ × ℕ) → Lives
owned_after b lives adds = fold (λ lives p. change_at lives p.0 (with_status (Owned b))) lives adds

abbrev pub dropped_after : ℕ → Lives → List ℕ → Lives
dropped_after b lives drops = fold (λ lives c. change_at lives c (with_status (Dropped b))) lives drops

-- once block b has accepted a state
abbrev pub accepted_at : Lives → ℕ → BlockState → Lives
accepted_at lives b s = owned_after b (dropped_after b (change_at lives b (with_state s)) s.drops) s.adds

-- with a write begun that carries k pending states
abbrev pub begun_at : Lives → ℕ → ℕ → Lives
begun_at lives b k = change_at lives b (λ l. record l { begun = Some k })

abbrev pub durable_after : Option BlockState → Option BlockState
durable_after s = option_map (λ s. on_disk s.bytes) s

-- the life once its first k pending states are on the disk and no write is begun; with 0 the write is given up
abbrev pub settle : ℕ → Life → Life
settle k l = record l { durable = durable_after (last_or l.durable (take k l.pending)); pending = drop k l.pending; begun = None }

abbrev pub settled_at : Lives → ℕ → ℕ → Lives
settled_at lives b k = change_at lives b (settle k)

-- without the lives of some blocks
abbrev pub freed : Lives → List ℕ → Lives
freed lives blocks = fold (λ lives c. slice_set lives c None) lives blocks

abbrev pub drops_of : List BlockState → List ℕ
drops_of states = flat_map (λ s. s.drops) states

-- the least block that is free
abbrev pub lowest_free : Lives → Option ℕ
lowest_free lives = position is_none lives

-- The entries that count for a file system

abbrev pub is_for : ℕ → Option ℕ → Bool
is_for fs None = false
is_for fs (Some x) = x == fs

abbrev pub entries_in : ℕ → List BlockState → List ℕ
entries_in fs [] = []
entries_in fs (s ∷ states) = cond (is_for fs s.fs) (s.entry ∷ entries_in fs states) (entries_in fs states)

abbrev pub entries_at : ℕ → Option Life → List ℕ
entries_at fs None = []
entries_at fs (Some l) = entries_in fs l.pending

abbrev pub entries_of : ℕ → Lives → List ℕ
entries_of fs lives = flat_map (entries_at fs) lives

-- the least of some numbers, at most n
abbrev pub least_to : ℕ → List ℕ → ℕ
least_to n [] = n
least_to n (x ∷ xs) = min x (least_to n xs)

-- the least entry of a file system that is pending, or the next number
abbrev pub floor : ℕ → ℕ → Lives → ℕ
floor fs next lives = least_to next (entries_of fs lives)
