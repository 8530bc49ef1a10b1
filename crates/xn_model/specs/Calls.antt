-- What each call answers and leaves, as a function of the state.
--     init_of, propose_of, make_root_of, drop_root_of, forget_of    the clients' changes
--     install_of    a template's
--     read_of, kind_of, root_of, tainted_of, pending_of, floor_of, free_of, pick_of    answers that change nothing
--     begun_of, settled_of    a write begins; its bytes are read back
use Rattle.std.specs.Prelude.{ℕ, ◌+◌, ◌-◌, ◌^◌, Bool, true, false, not, ◌&&◌, ◌||◌, List, [], ◌∷◌, length, take, Option, Some, None, is_some, is_none}
use Rattle.std.specs.Prelude.{unwrap_or, find, Result, Ok, Err, slice_get, slice_set, ◌==◌, nat_le, nat_lt, count_by, sum_by, bytes_eq, position, if◌then◌else◌}
use Rattle.std.specs.List.{list_all, last_or, range_with_len}
use Rattle.xn_model.specs.Lists.{blocks_of, distinct, has_number, put}
use Rattle.xn_model.specs.Types.{Types, claims, named_once, within_size}
use Rattle.xn_model.specs.Root.{pointer, with_pointer, slot, with_slot}
use Rattle.xn_model.specs.Languages.{Language, types_in}
use Rattle.xn_model.specs.Lives.{BlockState, Fresh, Life, Lives, StoreState, life_at, bytes_of, current, is_fresh, is_dropped, is_owned_by, alive_and}
use Rattle.xn_model.specs.Lives.{chain_end, no_states, prefix_of, accepted_at, begun_at, settled_at, freed, drops_of, lowest_free, is_for, floor}
use Rattle.xn_model.specs.Results.{Refusal, NoSuchBlock, NotInUse, NotYours, BadPatch, BadAfter, NotFresh, NotOwned, NotEmpty, ClaimWrong, SizeWrong}
use Rattle.xn_model.specs.Results.{TooManyPending, NoSpace, BadType, InFlight, NotMine, RootTaken, NothingSafe, Exhausted, Cycle, NoSlot, BadTemplate}
use Rattle.xn_model.specs.Results.{first_refusal, unless, result_map, result_and_then}

-- A file system's own block

abbrev pub own_place : ℕ → Option (Option Life) → Result Life Refusal
own_place fs None = Err NoSuchBlock
own_place fs (Some None) = Err NotInUse
own_place fs (Some (Some l)) = unless (first_refusal ((is_dropped l.status, NotInUse) ∷ (not (is_for fs l.fs), NotYours) ∷ [])) (Ok l)

abbrev pub own_life : StoreState → ℕ → ℕ → Result Life Refusal
own_life state fs b = own_place fs (slice_get state.lives b)

-- Limits

abbrev pub pending_in : ℕ → Option Life → ℕ
pending_in fs None = 0
pending_in fs (Some l) = count_by (λ s. is_for fs s.fs) l.pending

-- how many pending entries count for a file system
abbrev pub pending_of : StoreState → ℕ → ℕ
pending_of state fs = sum_by (pending_in fs) state.lives

abbrev pub too_many : StoreState → ℕ → ℕ → Bool
too_many state fs in_block = nat_le 64 in_block || nat_le 4096 (pending_of state fs)

abbrev pub exhausted : StoreState → Bool
exhausted state = nat_le (2 ^ 64 - 1) state.next

abbrev pub owns_nothing : Types → ℕ → List ℕ → Bool
owns_nothing T t m = elim (T.owned t m) [ [] ↦ true | p ∷ ps ↦ false ]

-- a block whose newest state owns nothing
abbrev pub is_empty : Types → StoreState → ℕ → Bool
is_empty T state c = alive_and (λ l. owns_nothing T l.ty (current l)) (life_at state.lives c)

-- init

-- the first state of a life, a file system's or nobody's, which adds, drops and waits for nothing
abbrev pub first_state : ℕ → Option ℕ → List ℕ → BlockState
first_state entry fs bytes = record { bytes = bytes; entry = entry; adds = []; drops = []; after = None; fs = fs }

abbrev pub new_life : ℕ → Option ℕ → ℕ → List ℕ → Life
new_life entry fs t bytes = record { fs = fs; ty = t; status = Fresh; durable = None; pending = first_state entry fs bytes ∷ []; begun = None }

-- with such a life on a free block
abbrev pub started : StoreState → Option ℕ → ℕ → List ℕ → ℕ → StoreState
started state fs t bytes b = record { lives = slice_set state.lives b (Some (new_life state.next fs t bytes)); next = state.next + 1 }

abbrev pub init_at : StoreState → ℕ → ℕ → List ℕ → Option ℕ → Result ((ℕ × ℕ) × StoreState) Refusal
init_at state fs t bytes None = Err NoSpace
init_at state fs t bytes (Some b) = Ok ((b, state.next), started state (Some fs) t bytes b)

abbrev pub init_refusal : Types → StoreState → ℕ → ℕ → List ℕ → Option Refusal
init_refusal T state fs t bytes = first_refusal (
    (nat_lt t 2 || not (T.installed t), BadType)
    ∷ (too_many state fs 0, TooManyPending)
    ∷ (exhausted state, Exhausted)
    ∷ (not (within_size T t bytes), SizeWrong)
    ∷ (not (owns_nothing T t bytes), ClaimWrong)
    ∷ [])

-- the block and the entry
abbrev pub init_of : Types → StoreState → ℕ → ℕ → List ℕ → Result ((ℕ × ℕ) × StoreState) Refusal
init_of T state fs t bytes = unless (init_refusal T state fs t bytes) (init_at state fs t bytes (lowest_free state.lives))

-- Edits

pub record Patch : Type 0 where
  pub offset : ℕ
  pub bytes : List ℕ

pub record Edit : Type 0 where
  pub patches : List Patch
  pub adds : List (ℕ × ℕ)
  pub drops : List ℕ
  pub after : Option ℕ

-- block b accepts a state
abbrev pub accepts : StoreState → ℕ → BlockState → ℕ × StoreState
accepts state b s = (state.next, record { lives = accepted_at state.lives b s; next = state.next + 1 })

abbrev pub patched : List ℕ → List Patch → List ℕ
patched m [] = m
patched m (p ∷ ps) = patched (put m p.offset p.bytes) ps

abbrev pub is_patch : Patch → Bool
is_patch p = nat_lt 0 (length p.bytes) && nat_le (p.offset + length p.bytes) 512

abbrev pub within_limits : Edit → Bool
within_limits e =
    (nat_lt 0 (length e.patches) && nat_le (length e.patches) 8)
    && ((list_all is_patch e.patches && nat_le (sum_by (λ p. length p.bytes) e.patches) 512)
    && (nat_le (length e.adds) 16 && nat_le (length e.drops) 128))

-- a number that was given
abbrev pub was_given : StoreState → Option ℕ → Bool
was_given state None = true
was_given state (Some n) = nat_lt 0 n && nat_lt n state.next

-- a block that a block of this file system may add, and one that block b may drop
abbrev pub may_add : StoreState → ℕ → ℕ × ℕ → Bool
may_add state fs p = alive_and (λ l. is_fresh l.status && ((l.ty == p.1) && is_for fs l.fs)) (life_at state.lives p.0)

abbrev pub may_drop : StoreState → ℕ → ℕ → Bool
may_drop state b c = alive_and (λ l. is_owned_by b l.status) (life_at state.lives c)

abbrev pub edited : ℕ → ℕ → Edit → Life → BlockState
edited next fs e l = record { bytes = patched (current l) e.patches; entry = next; adds = e.adds; drops = e.drops; after = e.after; fs = Some fs }

-- the tests of an edit, in their order
abbrev pub edit_tests : Types → StoreState → ℕ → ℕ → Edit → Life → List (Bool × Refusal)
edit_tests T state fs b e l =
    (too_many state fs (length l.pending), TooManyPending)
    ∷ (exhausted state, Exhausted)
    ∷ (not (within_limits e), BadPatch)
    ∷ (not (was_given state e.after), BadAfter)
    ∷ (not (list_all (may_add state fs) e.adds && distinct (blocks_of e.adds)), NotFresh)
    ∷ (has_number (blocks_of e.adds) (chain_end state.lives b), Cycle)
    ∷ (not (list_all (may_drop state b) e.drops && distinct e.drops), NotOwned)
    ∷ (not (list_all (is_empty T state) e.drops), NotEmpty)
    ∷ (not (claims T l.ty (current l) (patched (current l) e.patches) e.adds e.drops && named_once T l.ty (patched (current l) e.patches)), ClaimWrong)
    ∷ (not (within_size T l.ty (patched (current l) e.patches)), SizeWrong)
    ∷ []

abbrev pub propose_refusal : Types → StoreState → ℕ → ℕ → Edit → Life → Option Refusal
propose_refusal T state fs b e l = first_refusal (edit_tests T state fs b e l)

abbrev pub propose_at : Types → StoreState → ℕ → ℕ → Edit → Life → Result (ℕ × StoreState) Refusal
propose_at T state fs b e l = unless (propose_refusal T state fs b e l) (Ok (accepts state b (edited state.next fs e l)))

-- the entry
abbrev pub propose_of : Types → StoreState → ℕ → ℕ → Edit → Result (ℕ × StoreState) Refusal
propose_of T state fs b e = result_and_then (propose_at T state fs b e) (own_life state fs b)

-- Root slots

abbrev pub life_bytes : Option Life → List ℕ
life_bytes None = []
life_bytes (Some l) = current l

abbrev pub life_pending : Option Life → ℕ
life_pending None = 0
life_pending (Some l) = length l.pending

-- the newest bytes of each block, and none of a free one
abbrev pub latest : Lives → ℕ → List ℕ
latest lives b = life_bytes (life_at lives b)

-- block 0's
abbrev pub root_now : StoreState → List ℕ
root_now state = latest state.lives 0

-- the types of block 0's newest catalogue
abbrev pub types_of : Language → Lives → Types
types_of L lives = types_in L (latest lives)

abbrev pub slot_now : StoreState → ℕ → ℕ × ℕ
slot_now state fs = slot (root_now state) fs

-- block 0 with slot fs changed
abbrev pub root_state : StoreState → ℕ → ℕ × ℕ → List (ℕ × ℕ) → List ℕ → BlockState
root_state state fs p adds drops = record {
  bytes = with_slot (root_now state) fs p;
  entry = state.next;
  adds = adds;
  drops = drops;
  after = None;
  fs = Some fs;
}

abbrev pub make_root_refusal : StoreState → ℕ → Life → Option Refusal
make_root_refusal state fs l = first_refusal (
    (not ((slot_now state fs).0 == 0), RootTaken)
    ∷ (not (is_fresh l.status), NotFresh)
    ∷ (too_many state fs (life_pending (life_at state.lives 0)), TooManyPending)
    ∷ (exhausted state, Exhausted)
    ∷ [])

abbrev pub make_root_at : StoreState → ℕ → ℕ → Life → Result (ℕ × StoreState) Refusal
make_root_at state fs b l = unless (make_root_refusal state fs l) (Ok (accepts state 0 (root_state state fs (b, l.ty) ((b, l.ty) ∷ []) [])))

-- the entry
abbrev pub make_root_of : StoreState → ℕ → ℕ → Result (ℕ × StoreState) Refusal
make_root_of state fs b = result_and_then (make_root_at state fs b) (own_life state fs b)

abbrev pub drop_root_refusal : Types → StoreState → ℕ → Option Refusal
drop_root_refusal T state fs = first_refusal (
    ((slot_now state fs).0 == 0, NotOwned)
    ∷ (not (is_empty T state (slot_now state fs).0), NotEmpty)
    ∷ (too_many state fs (life_pending (life_at state.lives 0)), TooManyPending)
    ∷ (exhausted state, Exhausted)
    ∷ [])

-- the entry
abbrev pub drop_root_of : Types → StoreState → ℕ → Result (ℕ × StoreState) Refusal
drop_root_of T state fs = unless (drop_root_refusal T state fs) (Ok (accepts state 0 (root_state state fs (0, 0) [] ((slot_now state fs).0 ∷ []))))

-- install

-- the lowest place of the catalogue that names no template
abbrev pub empty_place : List ℕ → Option ℕ
empty_place m = find (λ i. pointer m i == 0) (range_with_len 0 16)

-- block 0 with place i naming block b
abbrev pub catalogue_state : StoreState → ℕ → ℕ → BlockState
catalogue_state state i b = record { bytes = with_pointer (root_now state) i b; entry = state.next; adds = (b, 1) ∷ []; drops = []; after = None; fs = None }

abbrev pub install_refusal : Language → StoreState → List ℕ → Option Refusal
install_refusal L state bytes = first_refusal (
    (is_none (empty_place (root_now state)), NoSlot)
    ∷ (nat_le 64 (life_pending (life_at state.lives 0)), TooManyPending)
    ∷ (nat_le (2 ^ 64 - 1) (state.next + 1), Exhausted)
    ∷ (is_none (lowest_free state.lives), NoSpace)
    ∷ (is_none (L bytes), BadTemplate)
    ∷ [])

-- two entries: block b begins a life of nobody with these bytes, and place i names it
abbrev pub install_at : StoreState → List ℕ → ℕ → ℕ → StoreState
install_at state bytes i b = let begun = started state None 1 bytes b in (accepts begun 0 (catalogue_state begun i b)).1

-- the type, the block, and the first entry
abbrev pub install_of : Language → StoreState → List ℕ → Result ((ℕ × ℕ × ℕ) × StoreState) Refusal
install_of L state bytes = unless (install_refusal L state bytes)
    (let i = unwrap_or (empty_place (root_now state)) 0 in let b = unwrap_or (lowest_free state.lives) 0 in
    Ok ((3 + i, b, state.next), install_at state bytes i b))

-- forget

-- nothing is pending but the entry that began the life
abbrev pub is_untouched : Life → Bool
is_untouched l = no_states l.pending || (not (is_some l.durable) && (length l.pending == 1))

abbrev pub forget_refusal : Types → Life → Option Refusal
forget_refusal T l = first_refusal (
    (not (is_fresh l.status), NotFresh)
    ∷ (not (owns_nothing T l.ty (current l)), NotEmpty)
    ∷ (not (is_untouched l), TooManyPending)
    ∷ (is_some l.begun, InFlight)
    ∷ [])

abbrev pub forget_at : Types → StoreState → ℕ → Life → Result (Unit {0} × StoreState) Refusal
forget_at T state b l = unless (forget_refusal T l) (Ok (tt, record state { lives = slice_set state.lives b None }))

abbrev pub forget_of : Types → StoreState → ℕ → ℕ → Result (Unit {0} × StoreState) Refusal
forget_of T state fs b = result_and_then (forget_at T state b) (own_life state fs b)

-- Answers that change nothing

abbrev pub read_of : StoreState → ℕ → ℕ → Result (List ℕ) Refusal
read_of state fs b = result_map current (own_life state fs b)

abbrev pub kind_of : StoreState → ℕ → ℕ → Result ℕ Refusal
kind_of state fs b = result_map (λ l. l.ty) (own_life state fs b)

abbrev pub root_of : StoreState → ℕ → Option ℕ
root_of state fs = if (slot_now state fs).0 == 0 then None else Some (slot_now state fs).0

-- some pending state of the block is not safe
abbrev pub is_tainted : Lives → Option Life → Bool
is_tainted lives None = false
is_tainted lives (Some l) = nat_lt (prefix_of lives (Some l)) (length l.pending)

abbrev pub tainted_of : StoreState → ℕ → Bool
tainted_of state b = is_tainted state.lives (life_at state.lives b)

abbrev pub floor_of : StoreState → ℕ → ℕ
floor_of state fs = floor fs state.next state.lives

abbrev pub free_of : StoreState → ℕ
free_of state = count_by is_none state.lives

-- no write is begun, and something is safe
abbrev pub is_ready : Lives → Option Life → Bool
is_ready lives None = false
is_ready lives (Some l) = is_none l.begun && nat_lt 0 (prefix_of lives (Some l))

-- the least such block
abbrev pub pick_of : StoreState → Option ℕ
pick_of state = position (is_ready state.lives) state.lives

-- Writes

-- the first k pending states, and the bytes of the last of them
abbrev pub first_pending : ℕ → Option Life → List BlockState
first_pending k None = []
first_pending k (Some l) = take k l.pending

abbrev pub bytes_at : ℕ → Life → List ℕ
bytes_at k l = bytes_of (last_or None (take k l.pending))

abbrev pub begun_place : Lives → Option (Option Life) → Result (List ℕ × ℕ) Refusal
begun_place lives None = Err NoSuchBlock
begun_place lives (Some None) = Err NotInUse
begun_place lives (Some (Some l)) =
    unless (first_refusal ((is_some l.begun, InFlight) ∷ (prefix_of lives (Some l) == 0, NothingSafe) ∷ []))
    (Ok (bytes_at (prefix_of lives (Some l)) l, prefix_of lives (Some l)))

-- the bytes to write, and how many entries they carry
abbrev pub begun_of : StoreState → ℕ → Result ((List ℕ × ℕ) × StoreState) Refusal
begun_of state b = result_map (λ begun. (begun, record state { lives = begun_at state.lives b begun.1 })) (begun_place state.lives (slice_get state.lives b))

-- a block without a durable state may hold any bytes
abbrev pub is_durable : List ℕ → Option BlockState → Bool
is_durable bytes None = true
is_durable bytes (Some s) = bytes_eq bytes s.bytes

-- how many entries these bytes make durable
abbrev pub settled_count : Life → List ℕ → Option ℕ → Result ℕ Refusal
settled_count l bytes None = Err NotMine
settled_count l bytes (Some k) = if bytes_eq bytes (bytes_at k l) then Ok k else if is_durable bytes l.durable then Ok 0 else Err NotMine

abbrev pub settled_place : List ℕ → Option (Option Life) → Result ℕ Refusal
settled_place bytes None = Err NotMine
settled_place bytes (Some None) = Err NotMine
settled_place bytes (Some (Some l)) = settled_count l bytes l.begun

-- the first k pending states of a block are durable, and what they drop is free
abbrev pub settled_with : StoreState → ℕ → List ℕ → ℕ → (ℕ × ℕ) × StoreState
settled_with state b drops k = ((k, length drops), record state { lives = freed (settled_at state.lives b k) drops })

abbrev pub settled_after : StoreState → ℕ → ℕ → (ℕ × ℕ) × StoreState
settled_after state b k = settled_with state b (drops_of (first_pending k (life_at state.lives b))) k

-- how many entries are durable, and how many blocks are free
abbrev pub settled_of : StoreState → ℕ → List ℕ → Result ((ℕ × ℕ) × StoreState) Refusal
settled_of state b bytes = result_map (settled_after state b) (settled_place bytes (slice_get state.lives b))
