-- Writes in waves, for a device where one sync settles all that was written before it: several blocks are begun, each is
-- written, each is synced, and each is read back.
--     ready_blocks lives     the blocks that can be begun, rising
--     IsWave lives blocks    a wave may take these blocks, in this order
--     wave blocks            its events
--     waves limit w          the waves of a flush, each by its blocks, at most so many a wave
--     flush limit w          its events
--     wave_with outcome blocks, IsAfterWave w outcome blocks after    a wave in which writes and syncs may fail, and the world after it
use Rattle.std.specs.Prelude.{⊤, ◌≡◌, ◌≢◌, ◌<◌, ◌≤◌, ℕ, zero, suc, Bool, ◌==◌, true, false, cond, List, [], ◌∷◌, ◌++◌, map, length, take, filter, flat_map}
use Rattle.std.specs.Prelude.{Option, Some, None, bytes_eq, Contains, IsTrue, option_map}
use Rattle.std.specs.List.{range_with_len, AllZip, list_any}
use Rattle.xn_model.specs.Lists.{has_number, distinct}
use Rattle.xn_model.specs.Root.{has_type}
use Rattle.xn_model.specs.Images.{block_of}
use Rattle.xn_model.specs.Lives.{BlockState, Life, Lives, life_at, root_on_disk, prefix, drops_of, settle}
use Rattle.xn_model.specs.Calls.{first_pending, is_ready}
use Rattle.xn_model.specs.Worlds.{World, Event, Client, Install, Crash, Begin, Land, Fail, Sync, FailSync, Finish, Reply, Begun, Landed, Synced, Fault}
use Rattle.xn_model.specs.Worlds.{Finished, begun_bytes, given_at, world_after, all_pending}

-- Which blocks

-- the block's write is not begun, and something of it is safe
abbrev pub can_begin : Lives → ℕ → Bool
can_begin lives b = is_ready lives (life_at lives b)

abbrev pub ready_blocks : Lives → List ℕ
ready_blocks lives = filter (can_begin lives) (range_with_len 0 (length lives))

-- A wave takes blocks that can be begun, each once.
pub record IsWave (lives : Lives) (blocks : List ℕ) : Type 0 where
  pub once : IsTrue (distinct blocks)
  pub ready : (b : ℕ) → Contains blocks b → IsTrue (can_begin lives b)

-- A wave

abbrev pub wave : List ℕ → List Event
wave blocks = map Begin blocks ++ (map Land blocks ++ (map Sync blocks ++ map Finish blocks))

-- what a block's write carries, as its prefix is before the wave: how many entries, the bytes, and what it drops
abbrev pub wave_bytes : Lives → ℕ → List ℕ
wave_bytes lives b = begun_bytes (prefix lives b) (life_at lives b)

abbrev pub wave_drops : Lives → ℕ → List ℕ
wave_drops lives b = drops_of (first_pending (prefix lives b) (life_at lives b))

-- the replies on a calm device
abbrev pub begun_reply : Lives → ℕ → Reply
begun_reply lives b = Begun (prefix lives b)

abbrev pub finished_reply : Lives → ℕ → Reply
finished_reply lives b = Finished (prefix lives b) (length (wave_drops lives b))

abbrev pub wave_replies : Lives → List ℕ → List Reply
wave_replies lives blocks = map (begun_reply lives) blocks ++ (map (λ b. Landed) blocks ++ (map (λ b. Synced) blocks ++ map (finished_reply lives) blocks))

-- a reply to a write step that does what it is for
abbrev pub is_success : Reply → Bool
is_success (Begun entries) = true
is_success Landed = true
is_success Synced = true
is_success (Finished durable freed) = true
is_success _ = false

-- the event is a write step of block b
abbrev pub IsStepOf : ℕ → Event → Type 0
IsStepOf b (Client fs call) = ⊥
IsStepOf b (Install bytes) = ⊥
IsStepOf b (Begin c) = c ≡ b
IsStepOf b (Land c) = c ≡ b
IsStepOf b (Fail c stays) = c ≡ b
IsStepOf b (Sync c) = c ≡ b
IsStepOf b (FailSync c) = c ≡ b
IsStepOf b (Finish c) = c ≡ b
IsStepOf b (Crash kept) = ⊥

-- Writes in any order

-- the step of a block that comes after so many
abbrev pub nth_step : ℕ → ℕ → Event
nth_step zero b = Begin b
nth_step (suc zero) b = Land b
nth_step (suc (suc zero)) b = Sync b
nth_step (suc (suc (suc n))) b = Finish b

abbrev pub one_step_more : (ℕ → ℕ) → ℕ → ℕ → ℕ
one_step_more steps b c = cond (b == c) (suc (steps c)) (steps c)

-- blocks take turns: each turn of a block is its next step, where so many were done of each
abbrev pub turns_from : (ℕ → ℕ) → List ℕ → List Event
turns_from steps [] = []
turns_from steps (b ∷ turns) = nth_step (steps b) b ∷ turns_from (one_step_more steps b) turns

abbrev pub in_turns : List ℕ → List Event
in_turns turns = turns_from (λ b. 0) turns

-- no block has more turns than it has steps
abbrev pub HaveTurns : (ℕ → ℕ) → List ℕ → Type 0
HaveTurns steps [] = ⊤
HaveTurns steps (b ∷ turns) = (steps b < 4) × HaveTurns (one_step_more steps b) turns

-- the steps that were done of each block after these turns
abbrev pub steps_done : (ℕ → ℕ) → List ℕ → ℕ → ℕ
steps_done steps [] = steps
steps_done steps (b ∷ turns) = steps_done (one_step_more steps b) turns

abbrev pub IsBegunOf : ℕ → Reply → Type 0
IsBegunOf k (Begun entries) = k ≤ entries
IsBegunOf k _ = ⊥

abbrev pub IsFinishedOf : ℕ → Reply → Type 0
IsFinishedOf k (Finished durable freed) = k ≤ durable
IsFinishedOf k _ = ⊥

-- The step is answered well, and carries at least the block's prefix of these lives.
abbrev pub IsStepDone : Lives → Event → Reply → Type 0
IsStepDone lives (Begin b) r = IsBegunOf (prefix lives b) r
IsStepDone lives (Land b) r = r ≡ Landed
IsStepDone lives (Sync b) r = r ≡ Synced
IsStepDone lives (Finish b) r = IsFinishedOf (prefix lives b) r
IsStepDone lives _ r = ⊥

abbrev pub AreStepsDone : Lives → List Event → List Reply → Type 0
AreStepsDone lives es rs = AllZip (IsStepDone lives) es rs

-- A flush

-- waves of the least ready blocks, until none is ready; so many waves at most
abbrev pub waves_for : ℕ → ℕ → World → List (List ℕ)
waves_for zero limit w = []
waves_for (suc n) limit w = elim (take limit (ready_blocks w.state.lives)) [ [] ↦ [] | b ∷ bs ↦ (b ∷ bs) ∷ waves_for n limit (world_after w (wave (b ∷ bs))) ]

abbrev pub waves : ℕ → World → List (List ℕ)
waves limit w = waves_for (all_pending w.state.lives) limit w

abbrev pub flush : ℕ → World → List Event
flush limit w = flat_map wave (waves limit w)

-- How many waves

-- Entry s of block b waits for entry t, which is pending in another block c.
pub data WaitsFor (lives : Lives) (b : ℕ) (s : BlockState) (c : ℕ) (t : BlockState) : Type 0 where
  -- s adds c, which has no state on the disk, and t is the first entry of c
  ForAdded : (u : ℕ) (m : Life) (states : List BlockState) → Contains s.adds (c, u) → life_at lives c ≡ Some m → m.durable ≡ None →
      m.pending ≡ t ∷ states → WaitsFor lives b s c t
  -- s drops c
  ForDropped : (m : Life) → Contains s.drops c → life_at lives c ≡ Some m → Contains m.pending t → WaitsFor lives b s c t
  -- s adds a block of a type that block 0, which is c and not b, doesn't have on the disk, and t is the first entry of c that has it
  ForType : (x u : ℕ) (m : Life) (front back : List BlockState) → Contains s.adds (x, u) → has_type (root_on_disk lives) u ≡ false → b ≢ 0 → c ≡ 0 →
      life_at lives 0 ≡ Some m → m.pending ≡ front ++ t ∷ back → list_any (λ y. has_type y.bytes u) front ≡ false → has_type t.bytes u ≡ true →
      WaitsFor lives b s c t
  -- s comes after t
  ForEarlier : (m : Life) → s.after ≡ Some t.entry → c ≢ b → life_at lives c ≡ Some m → Contains m.pending t → WaitsFor lives b s c t

-- s stands before t.
pub record IsBefore (states : List BlockState) (s t : BlockState) : Type 0 where
  pub front : List BlockState
  pub back : List BlockState
  pub split : states ≡ front ++ s ∷ back
  pub later : Contains back t

-- A chain of so many pending entries, the last of which is entry s of block b: each waits for the one before it in the chain, or an
-- earlier entry of its own block does.
pub data IsChain (lives : Lives) : ℕ → ℕ → BlockState → Type 0 where
  Alone : {b : ℕ} {s : BlockState} → (l : Life) → life_at lives b ≡ Some l → Contains l.pending s → IsChain lives 1 b s
  Later : {n b : ℕ} {t : BlockState} → (l : Life) (s : BlockState) → IsChain lives n b s → life_at lives b ≡ Some l → IsBefore l.pending s t →
      IsChain lives n b t
  Behind : {n b : ℕ} {s : BlockState} → (l : Life) (c : ℕ) (t : BlockState) → IsChain lives n c t → life_at lives b ≡ Some l → Contains l.pending s →
      WaitsFor lives b s c t → IsChain lives (suc n) b s

-- A rank of each pending entry, by its number: larger than that of an entry that it waits for, and no smaller than those of the earlier
-- entries of its block.
pub record IsRanking (lives : Lives) (rank : ℕ → ℕ) : Type 0 where
  pub rising : (b : ℕ) (l : Life) (s t : BlockState) → life_at lives b ≡ Some l → IsBefore l.pending s t → rank s.entry ≤ rank t.entry
  pub above : (b : ℕ) (l : Life) (s : BlockState) (c : ℕ) (t : BlockState) → life_at lives b ≡ Some l → Contains l.pending s →
      WaitsFor lives b s c t → rank t.entry < rank s.entry

-- A wave in which writes and syncs may fail

-- what becomes of a block
pub data Outcome : Type 0 where
  -- all is well
  Done : Outcome
  -- its write fails, and a read finds the new bytes or the old ones; it is synced and read back all the same
  EndsAnyway : (stays : Bool) → Outcome
  -- its write fails in the same way, and it is left so
  WriteFails : (stays : Bool) → Outcome
  -- its sync fails
  SyncFails : Outcome

-- a calm device
abbrev pub all_done : ℕ → Outcome
all_done b = Done

abbrev pub write_event : Outcome → ℕ → Event
write_event Done b = Land b
write_event (EndsAnyway stays) b = Fail b stays
write_event (WriteFails stays) b = Fail b stays
write_event SyncFails b = Land b

abbrev pub sync_event : Outcome → ℕ → Event
sync_event Done b = Sync b
sync_event (EndsAnyway stays) b = Sync b
sync_event (WriteFails stays) b = FailSync b
sync_event SyncFails b = FailSync b

-- it is synced, well or not
abbrev pub is_written : Outcome → Bool
is_written Done = true
is_written (EndsAnyway stays) = true
is_written (WriteFails stays) = false
is_written SyncFails = true

-- and read back
abbrev pub is_done : Outcome → Bool
is_done Done = true
is_done (EndsAnyway stays) = true
is_done (WriteFails stays) = false
is_done SyncFails = false

abbrev pub written_blocks : (ℕ → Outcome) → List ℕ → List ℕ
written_blocks outcome blocks = filter (λ b. is_written (outcome b)) blocks

abbrev pub done : (ℕ → Outcome) → List ℕ → List ℕ
done outcome blocks = filter (λ b. is_done (outcome b)) blocks

abbrev pub wave_with : (ℕ → Outcome) → List ℕ → List Event
wave_with outcome blocks =
    map Begin blocks
    ++ (map (λ b. write_event (outcome b) b) blocks
    ++ (map (λ b. sync_event (outcome b) b) (written_blocks outcome blocks)
    ++ map Finish (done outcome blocks)))

abbrev pub write_reply : Outcome → Reply
write_reply Done = Landed
write_reply (EndsAnyway stays) = Fault
write_reply (WriteFails stays) = Fault
write_reply SyncFails = Landed

abbrev pub sync_reply : Outcome → Reply
sync_reply Done = Synced
sync_reply (EndsAnyway stays) = Synced
sync_reply (WriteFails stays) = Fault
sync_reply SyncFails = Fault

-- the newest bytes of a block, by the new and the old ones
abbrev pub newest_then : Outcome → List ℕ → List ℕ → List ℕ
newest_then Done new old = new
newest_then (EndsAnyway stays) new old = cond stays new old
newest_then (WriteFails stays) new old = cond stays new old
newest_then SyncFails new old = new

-- how many of the k entries that a write carries are durable, where it is read back
abbrev pub durable_then : Outcome → ℕ → List ℕ → List ℕ → ℕ
durable_then Done k new old = k
durable_then (EndsAnyway stays) k new old = cond (bytes_eq (cond stays new old) new) k 0
durable_then (WriteFails stays) k new old = 0
durable_then SyncFails k new old = 0

abbrev pub made_durable : World → (ℕ → Outcome) → ℕ → ℕ
made_durable w outcome b = durable_then (outcome b) (prefix w.state.lives b) (wave_bytes w.state.lives b) (block_of w.image b)

-- what the durable entries drop
abbrev pub drops_with : World → (ℕ → Outcome) → ℕ → List ℕ
drops_with w outcome b = drops_of (first_pending (made_durable w outcome b) (life_at w.state.lives b))

abbrev pub finished_with : World → (ℕ → Outcome) → ℕ → Reply
finished_with w outcome b = Finished (made_durable w outcome b) (length (drops_with w outcome b))

abbrev pub replies_with : World → (ℕ → Outcome) → List ℕ → List Reply
replies_with w outcome blocks =
    map (begun_reply w.state.lives) blocks
    ++ (map (λ b. write_reply (outcome b)) blocks
    ++ (map (λ b. sync_reply (outcome b)) (written_blocks outcome blocks)
    ++ map (finished_with w outcome) (done outcome blocks)))

-- The world after it

-- the blocks that the entries of the done blocks drop
abbrev pub all_drops : World → (ℕ → Outcome) → List ℕ → List ℕ
all_drops w outcome blocks = flat_map (drops_with w outcome) (done outcome blocks)

-- a life whose write carried k entries, of which n are durable; or it is still under way with its ticket
abbrev pub life_then : Outcome → ℕ → ℕ → Life → Life
life_then Done k n l = settle n l
life_then (EndsAnyway stays) k n l = settle n l
life_then (WriteFails stays) k n l = record l { begun = Some k }
life_then SyncFails k n l = record l { begun = Some k }

-- the settled bytes, by the newest and the old ones
abbrev pub settled_then : Outcome → List ℕ → List ℕ → List ℕ
settled_then Done newest old = newest
settled_then (EndsAnyway stays) newest old = newest
settled_then (WriteFails stays) newest old = old
settled_then SyncFails newest old = old

-- what an open write was given
abbrev pub given_then : Outcome → List ℕ → Option (List ℕ)
given_then Done new = None
given_then (EndsAnyway stays) new = None
given_then (WriteFails stays) new = Some new
given_then SyncFails new = Some new

-- What a wave leaves of each block.
pub record IsAfterWave (w : World) (outcome : ℕ → Outcome) (blocks : List ℕ) (after : World) : Type 0 where
  -- a block of the wave is as it came out; another one that an entry of a done block drops is free; each other one is as it was
  pub lives : (c : ℕ) → life_at after.state.lives c
      ≡ cond (has_number blocks c) (option_map (life_then (outcome c) (prefix w.state.lives c) (made_durable w outcome c)) (life_at w.state.lives c))
      (cond (has_number (all_drops w outcome blocks) c) None (life_at w.state.lives c))
  -- only the blocks of the wave are written
  pub newest : (c : ℕ) → block_of after.image c
      ≡ cond (has_number blocks c) (newest_then (outcome c) (wave_bytes w.state.lives c) (block_of w.image c)) (block_of w.image c)
  pub settled : (c : ℕ) → block_of after.settled c
      ≡ cond (has_number blocks c) (settled_then (outcome c) (block_of after.image c) (block_of w.settled c)) (block_of w.settled c)
  pub given : (c : ℕ) → given_at after.given c ≡ cond (has_number blocks c) (given_then (outcome c) (wave_bytes w.state.lives c)) (given_at w.given c)
  -- the rest is as it was
  pub count : length after.state.lives ≡ length w.state.lives
  pub next : after.state.next ≡ w.state.next
  pub language : after.language ≡ w.language
  pub up : after.down ≡ w.down
