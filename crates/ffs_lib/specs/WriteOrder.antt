-- Which edits a write makes, one part after another, and which one each comes after. A part goes from where it begins to the end of its block, of the
-- zeros or of the bytes. Numbers follow from the store's next one: where an edit was made last, its number is one below that.
--     at_file                         what is done by the block that has a file's inode, and its 64 bytes
--     direct_edit, indirect_edit, pointed_edit    the inode points to a new block of data; to one of pointers; this one to one of data
--     size_edit                       the inode has a size
--     pointers_action, data_action    a block of pointers where a file needs one; bytes in one of its blocks
--     zeros_action, size_action       zeros in a block that it has; its size, where that is below
--     data_parts, zeros_parts, parts_at    bytes, with what they need before; zeros; what is written from a place on
--     no_last, goes_past, after_at    no edit; whether a part ends past the file's end; what it comes after
--     adds_direct, last_after, last_at     whether the inode comes to point to the block; the last edits then
--     borders, places, first_past     where the parts begin, of some; and of none; where the first one does that ends past the file's end
--     parts_made, StopsAtPart         parts are made, with the last edits; one stops
--     reached, stops_at               all parts up to a place are made; where the first one begins whose edits are not all below a number
--     written_by, after_in            how many of the zeros and the bytes are written then; what the part at a place comes after
--     Where, StopsThere               one of two claims; a part stops, or the size
--     WritesInOrder                   what `write` makes
--     TakesUpTo, StopsBefore, WritesSomeInOrder    so many bytes are taken, and then this is so; none is told; what `write_some` makes
--     NonePendingAt, HasEdit, ShowsWhole     nothing is pending for a block; an edit is; in the cuts the last edit comes with all bytes of the call
--     TellsAct, TellsIn               an action is refused, and this is told of that; one of many is
use Rattle.std.specs.Prelude.{◌≡◌, ◌≢◌, ◌⊎◌, ℕ, ◌+◌, ◌-◌, ◌*◌, ◌/◌, ◌%◌, ◌≤◌, ◌==◌, ◌||◌, ◌&&◌, not, nat_lt, Bool, true, false, List, [], ◌∷◌, length, take}
use Rattle.std.specs.Prelude.{Contains, drop, filter, max, min, replicate, Option, None, Some, Result, Ok, Err, MatchResult, if◌then◌else◌}
use Rattle.std.specs.List.{list_all, range_with_len}
use Rattle.std.specs.Int.{w32, to_le_bytes}
use Rattle.store_types.specs.declared.refusal.Refusal.{Refusal}
use Rattle.xn_model.specs.Types.{Types}
use Rattle.xn_model.specs.Lists.{put}
use Rattle.xn_model.specs.Root.{word_at}
use Rattle.xn_model.specs.Lives.{BlockState, Life, Lives, StoreState, life_at}
use Rattle.xn_model.specs.Results.{result_and_then}
use Rattle.xn_model.specs.Calls.{Edit, init_of, propose_of}
use Rattle.ffs_model.specs.Cuts.{Choice, IsCut, Takes, latest, seen}
use Rattle.ffs_model.specs.Library.{zero_block}
use Rattle.ffs_lookup.specs.declared.fault.FfsFault.{FfsFault}
use Rattle.ffs_lookup.specs.Newest.{file_block, file_end, file_in, inode_block_in}
use Rattle.ffs_lib.specs.Edits.{edit_at}
use Rattle.ffs_lib.specs.Orders.{Action, Attaches, Makes, Parts, StopsAct, StopsIn, act_of, made_by}
use Rattle.ffs_lib.specs.Steps.{Tells, newest_block, skipped}
use Rattle.ffs_lib.specs.declared.data.Last.{Last}

-- Edits of a file

abbrev pub direct_edit : ℕ → List ℕ → ℕ → Option ℕ → ℕ → Edit
direct_edit n inode index after block = edit_at (64 * ((n - 1) % 8)) (put inode (8 + 4 * index) (to_le_bytes w32 block)) ((block, 2) ∷ []) [] after

abbrev pub indirect_edit : ℕ → List ℕ → Option ℕ → ℕ → Edit
indirect_edit n inode after block = edit_at (64 * ((n - 1) % 8)) (put inode 56 (to_le_bytes w32 block)) ((block, 5) ∷ []) [] after

abbrev pub pointed_edit : ℕ → Option ℕ → ℕ → Edit
pointed_edit index after block = edit_at (4 * (index - 12)) (to_le_bytes w32 block) ((block, 2) ∷ []) [] after

abbrev pub size_edit : ℕ → List ℕ → ℕ → Option ℕ → Edit
size_edit n inode size after = edit_at (64 * ((n - 1) % 8)) (put inode 4 (to_le_bytes w32 size)) [] [] after

-- Actions, by the newest bytes where they begin

-- nothing where there is no such file
abbrev pub home_action : Result ℕ FfsFault → Result (List ℕ) FfsFault → (ℕ → List ℕ → Action) → Action
home_action (Ok home) (Ok inode) f = f home inode
home_action home inode f = Makes []

abbrev pub at_file : (ℕ → List ℕ) → ℕ → ℕ → (ℕ → List ℕ → Action) → Action
at_file content fs n f = home_action (inode_block_in content fs ((n - 1) / 8)) (file_in content fs n) f

-- where the inode does not point to the block at the index itself, and there is no block of pointers
abbrev pub new_pointers : ℕ → ℕ → Option ℕ → ℕ → List ℕ → Action
new_pointers n index after home inode =
    if nat_lt index 12 || not (word_at inode 56 == 0) then Makes [] else Attaches 5 zero_block home (indirect_edit n inode after)

abbrev pub pointers_action : (ℕ → List ℕ) → ℕ → ℕ → ℕ → Option ℕ → Action
pointers_action content fs n index after = at_file content fs n (new_pointers n index after)

-- into the block at the index, or into a new one where there is none
abbrev pub data_in : ℕ → ℕ → ℕ → List ℕ → Option ℕ → ℕ → ℕ → List ℕ → Action
data_in n index at bytes after block home inode =
    if not (block == 0) then Makes ((block, edit_at at bytes [] [] after) ∷ [])
    else if nat_lt index 12 then Attaches 2 (put zero_block at bytes) home (direct_edit n inode index after)
    else Attaches 2 (put zero_block at bytes) (word_at inode 56) (pointed_edit index after)

abbrev pub data_action : (ℕ → List ℕ) → ℕ → ℕ → ℕ → ℕ → List ℕ → Option ℕ → Action
data_action content fs n index at bytes after = at_file content fs n (λ home inode. data_in n index at bytes after (file_block content inode index) home inode)

-- nothing over a hole, and over zeros
abbrev pub zeros_in : (ℕ → List ℕ) → ℕ → ℕ → Option ℕ → ℕ → Action
zeros_in content at count after block =
    if (block == 0) || list_all (λ byte. byte == 0) (take count (drop at (content block))) then Makes []
    else Makes ((block, edit_at at (replicate count 0) [] [] after) ∷ [])

abbrev pub zeros_action : (ℕ → List ℕ) → ℕ → ℕ → ℕ → ℕ → ℕ → Option ℕ → Action
zeros_action content fs n index at count after = at_file content fs n (λ home inode. zeros_in content at count after (file_block content inode index))

abbrev pub raised : ℕ → ℕ → Option ℕ → ℕ → List ℕ → Action
raised n size after home inode = if nat_lt (word_at inode 4) size then Makes ((home, size_edit n inode size after) ∷ []) else Makes []

abbrev pub size_action : (ℕ → List ℕ) → ℕ → ℕ → ℕ → Option ℕ → Action
size_action content fs n size after = at_file content fs n (raised n size after)

-- Parts of a write

abbrev pub data_parts : ℕ → ℕ → ℕ → ℕ → List ℕ → Option ℕ → Parts
data_parts fs n index at bytes after =
    (λ state. pointers_action (newest_block state) fs n index after) ∷ (λ state. data_action (newest_block state) fs n index at bytes after) ∷ []

abbrev pub zeros_parts : ℕ → ℕ → ℕ → ℕ → ℕ → Option ℕ → Parts
zeros_parts fs n index at count after = (λ state. zeros_action (newest_block state) fs n index at count after) ∷ []

-- the bytes at an offset from a place on, up to the end of its block
abbrev pub data_at : ℕ → List ℕ → ℕ → List ℕ
data_at offset bytes at = take (512 - at % 512) (drop (at - offset) bytes)

abbrev pub parts_at : ℕ → ℕ → ℕ → List ℕ → ℕ → Option ℕ → Parts
parts_at fs n offset bytes at after =
    if nat_lt at offset then zeros_parts fs n (at / 512) (at % 512) (min (offset - at) (512 - at % 512)) after
    else data_parts fs n (at / 512) (at % 512) (data_at offset bytes at) after

-- The last edits

abbrev pub no_last : Last
no_last = record { edit = None; size = None }

-- zeros begin at the file's end or behind it
abbrev pub goes_past : ℕ → ℕ → List ℕ → ℕ → Bool
goes_past end offset bytes at = nat_lt at offset || nat_lt end (at + length (data_at offset bytes at))

-- past the file's end a part comes after the last edit; before it after none
abbrev pub after_at : ℕ → ℕ → List ℕ → ℕ → Last → Option ℕ
after_at end offset bytes at last = if goes_past end offset bytes at then last.edit else None

abbrev pub has_direct_hole : (ℕ → List ℕ) → ℕ → Result (List ℕ) FfsFault → Bool
has_direct_hole content index (Ok inode) = nat_lt index 12 && (file_block content inode index == 0)
has_direct_hole content index (Err fault) = false

abbrev pub adds_direct : (ℕ → List ℕ) → ℕ → ℕ → ℕ → Bool
adds_direct content fs n index = has_direct_hole content index (file_in content fs n)

-- As before where no edit was made. An edit of the inode's block is the last one for that of the size alone.
abbrev pub last_after : Bool → ℕ → ℕ → Last → Last
last_after direct before after last =
    if after == before then last else record { edit = if direct then last.edit else Some (after - 1); size = Some (after - 1) }

abbrev pub last_at : ℕ → ℕ → ℕ → ℕ → List ℕ → ℕ → StoreState → StoreState → Last → Last
last_at fs n end offset bytes at old new last =
    if goes_past end offset bytes at then last_after (adds_direct (newest_block old) fs n (at / 512)) old.next new.next last else last

-- One part after another

-- where the first part begins, and from there to an end each place where a block begins, and the offset
abbrev pub borders : ℕ → ℕ → ℕ → List ℕ
borders start offset to = start ∷ filter (λ at. (at == offset) || (at % 512 == 0)) (range_with_len (start + 1) (to - (start + 1)))

abbrev pub places : ℕ → ℕ → ℕ → List ℕ
places start offset to = if nat_lt start to then borders start offset to else []

abbrev pub parts_made : Types → ℕ → ℕ → ℕ → ℕ → List ℕ → List ℕ → StoreState × Last → Result (StoreState × Last) Refusal
parts_made T fs n end offset bytes [] from = Ok from
parts_made T fs n end offset bytes (at ∷ rest) from =
    result_and_then (λ state. parts_made T fs n end offset bytes rest (state, last_at fs n end offset bytes at from.0 state from.1))
    (made_by T fs (parts_at fs n offset bytes at (after_at end offset bytes at from.1)) from.0)

abbrev pub StopsAtPart : Types → ℕ → ℕ → ℕ → ℕ → List ℕ → ℕ → StoreState × Last → StoreState → Type 0
StopsAtPart T fs n end offset bytes at from new = StopsIn T fs (parts_at fs n offset bytes at (after_at end offset bytes at from.1)) from.0 new

-- A part is refused, or its edits have numbers from one on; or none is, and this is where all end.
abbrev pub stop_or : ℕ → ℕ → Result StoreState Refusal → (StoreState → ℕ) → ℕ
stop_or limit at (Ok state) go = if nat_lt limit state.next then at else go state
stop_or limit at (Err refusal) go = at

abbrev pub stop_among : Types → ℕ → ℕ → ℕ → ℕ → List ℕ → ℕ → List ℕ → StoreState × Last → ℕ
stop_among T fs n end offset bytes limit [] from = offset + length bytes
stop_among T fs n end offset bytes limit (at ∷ rest) from =
    stop_or limit at (made_by T fs (parts_at fs n offset bytes at (after_at end offset bytes at from.1)) from.0)
    (λ state. stop_among T fs n end offset bytes limit rest (state, last_at fs n end offset bytes at from.0 state from.1))

-- where the first part begins that ends past the file's end
abbrev pub first_past : ℕ → ℕ → ℕ
first_past end offset = max (min end offset) (512 * (end / 512))

-- The calls, of a file whose inode was this one

abbrev pub reached : Types → ℕ → ℕ → List ℕ → ℕ → List ℕ → ℕ → StoreState → Result (StoreState × Last) Refusal
reached T fs n inode offset bytes to old =
    parts_made T fs n (file_end inode) offset bytes (places (min (file_end inode) offset) offset to) (old, no_last)

-- Where the first part begins that is not made by edits with numbers below the next one of a state, or where the bytes end; where there are none, where
-- the first part would begin.
abbrev pub stops_at : Types → ℕ → ℕ → List ℕ → ℕ → List ℕ → StoreState → StoreState → ℕ
stops_at T fs n inode offset [] old new = min (file_end inode) offset
stops_at T fs n inode offset (byte ∷ rest) old new =
    let bytes = byte ∷ rest in
    stop_among T fs n (file_end inode) offset bytes new.next (places (min (file_end inode) offset) offset (offset + length bytes)) (old, no_last)

abbrev pub written_by : Types → ℕ → ℕ → List ℕ → ℕ → List ℕ → StoreState → StoreState → ℕ
written_by T fs n inode offset bytes old new = stops_at T fs n inode offset bytes old new - min (file_end inode) offset

-- after the last edits of the parts before it
abbrev pub after_reached : ℕ → ℕ → List ℕ → ℕ → Result (StoreState × Last) Refusal → Option ℕ
after_reached end offset bytes at (Ok there) = after_at end offset bytes at there.1
after_reached end offset bytes at (Err refusal) = None

abbrev pub after_of : Types → ℕ → ℕ → ℕ → List ℕ → StoreState → Result (List ℕ) FfsFault → ℕ → Option ℕ
after_of T fs n offset bytes old (Ok inode) at = after_reached (file_end inode) offset bytes at (reached T fs n inode offset bytes at old)
after_of T fs n offset bytes old (Err fault) at = None

abbrev pub after_in : Types → ℕ → ℕ → ℕ → List ℕ → StoreState → ℕ → Option ℕ
after_in T fs n offset bytes old = after_of T fs n offset bytes old (file_in (newest_block old) fs n)

-- the size is asked for, or was refused
abbrev pub SizeMade : Types → ℕ → ℕ → ℕ → Last → StoreState → StoreState → Type 0
SizeMade T fs n size last old new = act_of T fs (size_action (newest_block old) fs n size last.size) old ≡ Ok new

abbrev pub SizeStops : Types → ℕ → ℕ → ℕ → Last → StoreState → StoreState → Type 0
SizeStops T fs n size last old new = StopsAct T fs (size_action (newest_block old) fs n size last.size) old new

abbrev pub Where : Bool → Type 0 → Type 0 → Type 0
Where true P Q = P
Where false P Q = Q

-- the part at a place stops, or the size, where that is the end
abbrev pub StopsThere : Types → ℕ → ℕ → List ℕ → ℕ → List ℕ → ℕ → StoreState → StoreState → Type 0
StopsThere T fs n inode offset bytes at old new =
    let size = offset + length bytes in
    MatchResult (reached T fs n inode offset bytes at old) (λ there. Where (nat_lt at size) (StopsAtPart T fs n (file_end inode) offset bytes at there new)
    (SizeStops T fs n size there.1 there.0 new)) (λ refusal. ⊥)

-- all parts, and then the size; no edit where there are no bytes
abbrev pub WritesInOrder : {A : Type 0} → Types → ℕ → ℕ → List ℕ → ℕ → List ℕ → StoreState → StoreState → Result A FfsFault → Type 0
WritesInOrder T fs n inode offset [] old new result = new ≡ old
WritesInOrder T fs n inode offset (byte ∷ rest) old new result =
    let bytes = byte ∷ rest in
    let size = offset + length bytes in
    MatchResult result
    (λ x. MatchResult (reached T fs n inode offset bytes size old) (λ there. SizeMade T fs n size there.1 there.0 new) (λ refusal. ⊥))
    (λ fault. StopsThere T fs n inode offset bytes (stops_at T fs n inode offset bytes old new) old new)

-- The parts of the first so many bytes are made, and the next one stops, where there is one; then this is so.
abbrev pub TakesUpTo : Types → ℕ → ℕ → List ℕ → ℕ → List ℕ → ℕ → StoreState → (Last → StoreState → Type 0) → Type 0
TakesUpTo T fs n inode offset bytes count old Q =
    MatchResult (reached T fs n inode offset bytes (offset + count) old)
    (λ there. ((count ≡ length bytes) × Q there.1 there.0)
    ⊎ ((middle : StoreState) × StopsAtPart T fs n (file_end inode) offset bytes (offset + count) there middle × Q there.1 middle)) (λ refusal. ⊥)

-- no byte is taken before the part at a place; or some are, and the size is refused
abbrev pub StopsBefore : Types → ℕ → ℕ → List ℕ → ℕ → List ℕ → ℕ → StoreState → StoreState → Type 0
StopsBefore T fs n inode offset bytes at old new =
    Where (nat_lt offset at) (TakesUpTo T fs n inode offset bytes (at - offset) old (λ last middle. SizeStops T fs n at last middle new))
    (StopsThere T fs n inode offset bytes at old new)

abbrev pub WritesSomeInOrder : Types → ℕ → ℕ → List ℕ → ℕ → List ℕ → StoreState → StoreState → Result ℕ FfsFault → Type 0
WritesSomeInOrder T fs n inode offset [] old new result = new ≡ old
WritesSomeInOrder T fs n inode offset (byte ∷ rest) old new result =
    let bytes = byte ∷ rest in
    let at = stops_at T fs n inode offset bytes old new in
    MatchResult result
    (λ count. (count ≢ 0 → TakesUpTo T fs n inode offset bytes count old (λ last middle. SizeMade T fs n (offset + count) last middle new))
    × (count ≡ 0 → StopsBefore T fs n inode offset bytes at old new))
    (λ fault. StopsBefore T fs n inode offset bytes at old new)

-- In the cuts

-- nothing is pending for a block; an edit is, with a number from one on
abbrev pub NonePendingAt : Lives → ℕ → Type 0
NonePendingAt lives c = (l : Life) → life_at lives c ≡ Some l → l.pending ≡ []

abbrev pub HasEdit : ℕ → Lives → ℕ → Type 0
HasEdit from lives c = (l : Life) × (t : BlockState) × (life_at lives c ≡ Some l) × Contains l.pending t × (from ≤ t.entry)

-- Each cut that takes the last edit of a call has the newest bytes of each block that the call wrote, and of each for which nothing was pending before it.
abbrev pub ShowsWhole : StoreState → StoreState → Type 0
ShowsWhole old new =
    (k : Choice) → IsCut new.lives k → Takes new.lives k (new.next - 1) → (c : ℕ) → NonePendingAt old.lives c ⊎ HasEdit old.next new.lives c →
    seen new.lives k c ≡ latest new.lives c

-- What is told of a refusal

-- the edit is refused; or the new block was not begun, or the edit that was to attach it is refused, and it is forgotten
abbrev pub TellsAct : Types → ℕ → Action → StoreState → StoreState → FfsFault → Type 0
TellsAct T fs (Makes []) old new fault = ⊥
TellsAct T fs (Makes (edit ∷ rest)) old new fault = (new ≡ old) × Tells (propose_of T old fs edit.0 edit.1) fault
TellsAct T fs (Attaches ty bytes home edit) old new fault =
    ((new ≡ old) × Tells (init_of T old fs ty bytes) fault)
    ⊎ MatchResult (init_of T old fs ty bytes)
    (λ begun. (new ≡ skipped old) × Tells (propose_of T begun.1 fs home (edit begun.0.0)) fault) (λ refusal. ⊥)

-- the first are made, and the next one is refused so
abbrev pub TellsIn : Types → ℕ → Parts → StoreState → StoreState → FfsFault → Type 0
TellsIn T fs [] old new fault = ⊥
TellsIn T fs (first ∷ rest) old new fault =
    TellsAct T fs (first old) old new fault
    ⊎ ((middle : StoreState) × (act_of T fs (first old) old ≡ Ok middle) × TellsIn T fs rest middle new fault)
