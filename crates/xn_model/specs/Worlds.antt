-- A disk with its state, and what each event does.
--     act w e            the reply and the world after an event, where memory is ample
--     Step w e r after   what may happen: that, or want of memory where the event asks for memory
--     Run w es rs after  a list of events
--     MayLeave w image   an image that a crash may leave
use Rattle.std.specs.Prelude.{◌≡◌, ◌<◌, ◌⊎◌, ⊤, ℕ, zero, suc, ◌+◌, ◌-◌, Bool, true, false, cond, not, ◌&&◌, List, [], ◌∷◌, length, map, Option, Some, None}
use Rattle.std.specs.Prelude.{is_some, unwrap_or, Result, Ok, Err, slice_set, slice_index_or, IsTrue}
use Rattle.std.specs.List.{list_any, range_with_len}
use Rattle.xn_model.specs.Lists.{has_number}
use Rattle.xn_model.specs.Types.{Types}
use Rattle.xn_model.specs.Languages.{Language, types_in}
use Rattle.xn_model.specs.Images.{block_of}
use Rattle.xn_model.specs.Lives.{Life, Lives, StoreState, life_at, alive_and}
use Rattle.xn_model.specs.Results.{Refusal, NoMemory, InFlight, NotSynced}
use Rattle.xn_model.specs.Calls.{Edit, init_of, propose_of, make_root_of, drop_root_of, install_of, types_of, forget_of, read_of, root_of, kind_of, tainted_of}
use Rattle.xn_model.specs.Calls.{pending_of, floor_of, free_of, pick_of, begun_of, settled_of, life_pending, bytes_at}
use Rattle.xn_model.specs.Mounts.{recovered, IsRecovered}

pub record World : Type 0 where
  -- what blocks say as templates
  pub language : Language
  -- the newest bytes of each block on the disk, which a read gives
  pub image : List (List ℕ)
  -- its settled bytes: those that its last good sync found
  pub settled : List (List ℕ)
  -- whether a write is open, one since that sync, and the last bytes that were given to one
  pub given : List (Option (List ℕ))
  pub state : StoreState
  pub down : Bool

-- the types of its lives, those of an image's own catalogue, and those of the newest image's
abbrev pub types_now : World → Types
types_now w = types_of w.language w.state.lives

abbrev pub types_on : World → List (List ℕ) → Types
types_on w image = types_in w.language (block_of image)

abbrev pub types_there : World → Types
types_there w = types_on w w.image

-- What a crash leaves

-- the bytes given to the open write of a block
abbrev pub given_at : List (Option (List ℕ)) → ℕ → Option (List ℕ)
given_at given b = slice_index_or given b None

-- A crash may leave this image: each block has its settled bytes or, where a write is open, the bytes given to it.
abbrev pub MayLeave : World → List (List ℕ) → Type 0
MayLeave w image = (length image ≡ length w.image)
    × ((b : ℕ) → (block_of image b ≡ block_of w.settled b) ⊎ (given_at w.given b ≡ Some (block_of image b)))

-- the one where the open writes of these blocks are kept, and no others
abbrev pub left_at : World → List ℕ → ℕ → List ℕ
left_at w kept b = cond (has_number kept b) (unwrap_or (given_at w.given b) (block_of w.settled b)) (block_of w.settled b)

abbrev pub left : World → List ℕ → List (List ℕ)
left w kept = map (left_at w kept) (range_with_len 0 (length w.image))

-- Events and replies

pub data Call : Type 0 where
  Init : (ty : ℕ) → (bytes : List ℕ) → Call
  Propose : (block : ℕ) → Edit → Call
  MakeRoot : (block : ℕ) → Call
  DropRoot : Call
  Forget : (block : ℕ) → Call
  Read : (block : ℕ) → Call
  Root : Call
  Kind : (block : ℕ) → Call
  Tainted : (block : ℕ) → Call
  Pending : Call
  Floor : Call
  FreeCount : Call
  Pick : Call
  Drain : Call

pub data Event : Type 0 where
  Client : (fs : ℕ) → Call → Event
  Install : (bytes : List ℕ) → Event
  Begin : (block : ℕ) → Event
  Land : (block : ℕ) → Event
  Fail : (block : ℕ) → (stays : Bool) → Event
  Sync : (block : ℕ) → Event
  FailSync : (block : ℕ) → Event
  Finish : (block : ℕ) → Event
  Crash : (kept : List ℕ) → Event

pub data Reply : Type 0 where
  Started : (block : ℕ) → (entry : ℕ) → Reply
  Edited : (entry : ℕ) → Reply
  Installed : (ty : ℕ) → (block : ℕ) → (first : ℕ) → (second : ℕ) → Reply
  Forgotten : Reply
  Bytes : List ℕ → Reply
  RootIs : Option ℕ → Reply
  KindIs : ℕ → Reply
  IsTainted : Bool → Reply
  PendingIs : ℕ → Reply
  FloorIs : ℕ → Reply
  FreeIs : ℕ → Reply
  Picked : Option ℕ → Reply
  Begun : (entries : ℕ) → Reply
  Landed : Reply
  Synced : Reply
  Fault : Reply
  Finished : (durable : ℕ) → (freed : ℕ) → Reply
  Drained : (writes : ℕ) → Reply
  Mounted : (reached : ℕ) → (free : ℕ) → Reply
  NoTicket : Reply
  Down : Reply
  Refused : Refusal → Reply

-- What a call of the state answers and leaves, of a world

abbrev pub reply_and_world : {A : Type 0} → (A → Reply) → World → Result (A × StoreState) Refusal → Reply × World
reply_and_world reply w (Ok given) = (reply given.0, record w { state = given.1 })
reply_and_world reply w (Err refusal) = (Refused refusal, w)

-- of a call that changes nothing
abbrev pub reply_alone : {A : Type 0} → (A → Reply) → Result A Refusal → Reply
reply_alone reply (Ok x) = reply x
reply_alone reply (Err refusal) = Refused refusal

-- Writes

abbrev pub begin : World → ℕ → Reply × World
begin w b = reply_and_world (λ begun. Begun begun.1) w (begun_of w.state b)

abbrev pub begun_count : Option Life → Option ℕ
begun_count None = None
begun_count (Some l) = l.begun

-- the bytes that the begun write carries
abbrev pub begun_bytes : ℕ → Option Life → List ℕ
begun_bytes k None = []
begun_bytes k (Some l) = bytes_at k l

-- bytes are given to a block write; a read finds them from then on, or does not
abbrev pub write_bytes : World → ℕ → List ℕ → Bool → World
write_bytes w b bytes stays = record w { image = cond stays (slice_set w.image b bytes) w.image; given = slice_set w.given b (Some bytes) }

abbrev pub write : World → ℕ → ℕ → Bool → World
write w b k stays = write_bytes w b (begun_bytes k (life_at w.state.lives b)) stays

-- what a block holds is settled
abbrev pub settle_bytes : World → ℕ → World
settle_bytes w b = record w { settled = slice_set w.settled b (block_of w.image b); given = slice_set w.given b None }

-- what only a ticket's holder can do
abbrev pub with_ticket : World → Option ℕ → (ℕ → Reply × World) → Reply × World
with_ticket w None go = (NoTicket, w)
with_ticket w (Some k) go = go k

abbrev pub on_ticket : World → ℕ → (ℕ → Reply × World) → Reply × World
on_ticket w b go = with_ticket w (begun_count (life_at w.state.lives b)) go

abbrev pub land : World → ℕ → Reply × World
land w b = on_ticket w b (λ k. (Landed, write w b k true))

abbrev pub fail : World → ℕ → Bool → Reply × World
fail w b stays = on_ticket w b (λ k. (Fault, write w b k stays))

abbrev pub sync : World → ℕ → Reply × World
sync w b = on_ticket w b (λ k. (Synced, settle_bytes w b))

abbrev pub fail_sync : World → ℕ → Reply × World
fail_sync w b = on_ticket w b (λ k. (Fault, w))

-- the block is read back, where no write is open
abbrev pub read_back : World → ℕ → Reply × World
read_back w b = reply_and_world (λ done. Finished done.0 done.1) w (settled_of w.state b (block_of w.image b))

abbrev pub finish : World → ℕ → Reply × World
finish w b = on_ticket w b (λ k. cond (is_some (given_at w.given b)) (Refused NotSynced, w) (read_back w b))

abbrev pub write_out : World → ℕ → World
write_out w b = (finish (sync (land (begin w b).1 b).1 b).1 b).1

-- rounds of pick, begin, land, sync and finish, at most so many
abbrev pub drain_for : ℕ → ℕ → World → ℕ × World
drain_for zero writes w = (writes, w)
drain_for (suc n) writes w = elim (pick_of w.state) [ None ↦ (writes, w) | Some b ↦ drain_for n (writes + 1) (write_out w b) ]

abbrev pub all_pending : Lives → ℕ
all_pending [] = 0
all_pending (o ∷ os) = life_pending o + all_pending os

abbrev pub drain : World → Reply × World
drain w = cond (list_any (alive_and (λ l. is_some l.begun)) w.state.lives) (Refused InFlight, w)
    (let r = drain_for (all_pending w.state.lives) 0 w in (Drained r.0, r.1))

-- Calls

abbrev pub call : World → ℕ → Call → Reply × World
call w fs (Init t m) = reply_and_world (λ made. Started made.0 made.1) w (init_of (types_now w) w.state fs t m)
call w fs (Propose b e) = reply_and_world Edited w (propose_of (types_now w) w.state fs b e)
call w fs (MakeRoot b) = reply_and_world Edited w (make_root_of w.state fs b)
call w fs DropRoot = reply_and_world Edited w (drop_root_of (types_now w) w.state fs)
call w fs (Forget b) = reply_and_world (λ done. Forgotten) w (forget_of (types_now w) w.state fs b)
call w fs (Read b) = (reply_alone Bytes (read_of w.state fs b), w)
call w fs Root = (RootIs (root_of w.state fs), w)
call w fs (Kind b) = (reply_alone KindIs (kind_of w.state fs b), w)
call w fs (Tainted b) = (IsTainted (tainted_of w.state b), w)
call w fs Pending = (PendingIs (pending_of w.state fs), w)
call w fs Floor = (FloorIs (floor_of w.state fs), w)
call w fs FreeCount = (FreeIs (free_of w.state), w)
call w fs Pick = (Picked (pick_of w.state), w)
call w fs Drain = drain w

-- A template

abbrev pub install : World → List ℕ → Reply × World
install w m = reply_and_world (λ made. Installed made.0 made.1 made.2 (made.2 + 1)) w (install_of w.language w.state m)

-- A mount

abbrev pub mounted_state : Lives → StoreState
mounted_state lives = record { lives = lives; next = 1 }

-- each lane is synced before it is read
abbrev pub none_given : List (List ℕ) → List (Option (List ℕ))
none_given image = map (λ bytes. None) image

abbrev pub mounted : World → Lives → World
mounted w lives = record w { settled = w.image; given = none_given w.image; state = mounted_state lives; down = false }

abbrev pub mount_reply : Lives → Reply
mount_reply lives = let free = free_of (mounted_state lives) in Mounted (length lives - free) free

abbrev pub crashed : World → List ℕ → World
crashed w kept = record w { image = left w kept }

abbrev pub crash : World → List ℕ → Reply × World
crash w kept = let lives = recovered (types_on w (left w kept)) (left w kept) in (mount_reply lives, mounted (crashed w kept) lives)

-- What each event does

abbrev pub act_up : World → Event → Reply × World
act_up w (Client fs c) = call w fs c
act_up w (Install m) = install w m
act_up w (Begin b) = begin w b
act_up w (Land b) = land w b
act_up w (Fail b stays) = fail w b stays
act_up w (Sync b) = sync w b
act_up w (FailSync b) = fail_sync w b
act_up w (Finish b) = finish w b
act_up w (Crash kept) = crash w kept

abbrev pub is_crash : Event → Bool
is_crash (Client fs c) = false
is_crash (Install m) = false
is_crash (Begin b) = false
is_crash (Land b) = false
is_crash (Fail b stays) = false
is_crash (Sync b) = false
is_crash (FailSync b) = false
is_crash (Finish b) = false
is_crash (Crash kept) = true

abbrev pub act : World → Event → Reply × World
act w e = cond (w.down && not (is_crash e)) (Down, w) (act_up w e)

abbrev pub replies : World → List Event → List Reply
replies w [] = []
replies w (e ∷ es) = let r = act w e in r.0 ∷ replies r.1 es

abbrev pub world_after : World → List Event → World
world_after w [] = w
world_after w (e ∷ es) = world_after (act w e).1 es

-- What may happen

-- events that ask for memory
abbrev pub asks_memory : Event → Bool
asks_memory (Client fs (Init t m)) = true
asks_memory (Client fs (Propose b e)) = true
asks_memory (Client fs (MakeRoot b)) = true
asks_memory (Client fs DropRoot) = true
asks_memory (Install m) = true
asks_memory _ = false

abbrev pub is_refusal : Reply → Bool
is_refusal (Refused r) = true
is_refusal _ = false

-- A mount of the image that is left, or the world is down till the next.
abbrev pub AfterCrash : World → List ℕ → Reply → World → Type 0
AfterCrash w kept r w' = (lives : Lives) × IsRecovered (types_on w (left w kept)) (left w kept) lives
    × (((r ≡ mount_reply lives) × (w' ≡ mounted (crashed w kept) lives)) ⊎ ((r ≡ Down) × (w' ≡ record (mounted (crashed w kept) lives) { down = true })))

-- What act gives, or a growth that is refused last of all.
abbrev pub AfterCall : World → Event → Reply → World → Type 0
AfterCall w e r w' =
    ((r ≡ (act w e).0) × (w' ≡ (act w e).1))
    ⊎ (IsTrue (asks_memory e) × ((is_refusal (act w e).0 ≡ false) × ((w.down ≡ false) × ((r ≡ Refused NoMemory) × (w' ≡ w)))))

abbrev pub Step : World → Event → Reply → World → Type 0
Step w (Crash kept) r w' = AfterCrash w kept r w'
Step w e r w' = AfterCall w e r w'

-- a file system has one of 32 root slots, and a template is a block
abbrev pub IsEvent : Event → Type 0
IsEvent (Client fs c) = fs < 32
IsEvent (Install m) = length m ≡ 512
IsEvent _ = ⊤

abbrev pub Run : World → List Event → List Reply → World → Type 0
Run w [] [] w' = w' ≡ w
Run w (e ∷ es) (r ∷ rs) w' = (mid : World) × Step w e r mid × Run mid es rs w'
Run w [] (r ∷ rs) w' = ⊥
Run w (e ∷ es) [] w' = ⊥
