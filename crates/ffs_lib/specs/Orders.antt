-- The edits that a call makes, one after another. The store gives each its next number, so it is known of each which one it comes after.
--     Edits, made_of, FirstMade    what is proposed of blocks; the state in which the store has accepted all of it; the first of it is accepted
--     Orders             a call made all of these edits; where it was refused, the first of them
--     clear_edit         an entry is cleared
--     links_edit, pointers_edit, free_edit    an inode has so many links; the blocks that a block of pointers points to are dropped; an inode is freed
--     has_data           an inode has a block of pointers, and that points to some block
--     inode_edits        a link is taken from an inode, which is freed with its last one, and before that its block of pointers emptied
--     taken_edits        so it is of an inode by its number
--     removed_edits      an entry is cleared, and then a link taken from the inode that it names
--     Action, act_of, StopsAct, Acts      edits, or a new block that is attached; the state after it; what is left where it is refused; both
--     Parts, made_by, StopsIn, InOrder    actions, each of the state where it begins, and the same of these
--     Numbered           one edit was made, and got a number
--     linked_edits, turned_edits          a link is added; an entry names another inode
--     entered_action                      a directory gets an entry where it has room, or in a new block
--     NamesInOrder                        a link is added, and then that
--     moved_parts, replaced_parts         `rename`; `replace` of one file by another
use Rattle.std.specs.Prelude.{◌≡◌, ◌⊎◌, ℕ, ◌+◌, ◌-◌, ◌*◌, ◌/◌, ◌%◌, ◌==◌, ◌||◌, not, nat_lt, Bool, List, [], ◌∷◌, length, take, replicate}
use Rattle.std.specs.Prelude.{Option, None, Some, Result, Ok, Err, MatchResult, if◌then◌else◌}
use Rattle.std.specs.Int.{w16, w32, to_le_bytes}
use Rattle.store_types.specs.declared.refusal.Refusal.{Refusal}
use Rattle.xn_model.specs.Types.{Types}
use Rattle.xn_model.specs.Lists.{put}
use Rattle.xn_model.specs.Root.{word_at}
use Rattle.xn_model.specs.Lives.{StoreState}
use Rattle.xn_model.specs.Results.{result_and_then}
use Rattle.xn_model.specs.Calls.{Edit, init_of, propose_of}
use Rattle.ffs_model.specs.Library.{inode_blocks, inode_links, zero_block}
use Rattle.ffs_format.specs.Entries.{entry_of}
use Rattle.ffs_lookup.specs.declared.fault.FfsFault.{FfsFault}
use Rattle.ffs_lookup.specs.declared.places.Slot.{Slot}
use Rattle.ffs_lookup.specs.declared.places.Room.{Room}
use Rattle.ffs_lookup.specs.declared.places.Room.TheVariants.{Entry, Pointer}
use Rattle.ffs_lookup.specs.Newest.{directory_in, inode_block_in, inode_in, room_in}
use Rattle.ffs_lib.specs.Edits.{data_of_inode, data_of_pointers, edit_at}
use Rattle.ffs_lib.specs.Steps.{newest_block, skipped}

abbrev pub Edits : Type 0
Edits = List (ℕ × Edit)

abbrev pub made_of : Types → ℕ → Edits → StoreState → Result StoreState Refusal
made_of T fs [] state = Ok state
made_of T fs (first ∷ rest) state = result_and_then (λ done. made_of T fs rest done.1) (propose_of T state fs first.0 first.1)

-- as many as numbers were given
abbrev pub FirstMade : Types → ℕ → Edits → StoreState → StoreState → Type 0
FirstMade T fs edits old new = made_of T fs (take (new.next - old.next) edits) old ≡ Ok new

abbrev pub Orders : {A : Type 0} → Types → ℕ → Edits → StoreState → StoreState → Result A FfsFault → Type 0
Orders T fs edits old new result =
    MatchResult result (λ x. made_of T fs edits old ≡ Ok new) (λ fault. FirstMade T fs edits old new)

-- Edits of a volume

abbrev pub clear_edit : Slot → Option ℕ → ℕ × Edit
clear_edit slot after = (slot.block, edit_at (32 * slot.place) (replicate 32 0) [] [] after)

abbrev pub links_edit : ℕ → List ℕ → ℕ → ℕ → Edit
links_edit place inode links after = edit_at (64 * place) (put inode 2 (to_le_bytes w16 links)) [] [] (Some after)

abbrev pub pointers_edit : List ℕ → ℕ → Edit
pointers_edit pointers after = edit_at 0 zero_block [] (data_of_pointers pointers) (Some after)

abbrev pub free_edit : ℕ → List ℕ → ℕ → Edit
free_edit place inode after = edit_at (64 * place) (replicate 64 0) [] (data_of_inode inode) (Some after)

abbrev pub has_data : List ℕ → List ℕ → Bool
has_data pointers inode = not ((word_at inode 56 == 0) || (length (data_of_pointers pointers) == 0))

-- of an inode with these 64 bytes, at a place of its block, whose block of pointers has these bytes; after an edit, where the store has this next number
abbrev pub inode_edits : List ℕ → ℕ → ℕ → List ℕ → ℕ → ℕ → Edits
inode_edits pointers home place inode after next =
    if nat_lt 1 (inode_links inode) then (home, links_edit place inode (inode_links inode - 1) after) ∷ []
    else if has_data pointers inode then (word_at inode 56, pointers_edit pointers after) ∷ (home, free_edit place inode next) ∷ []
    else (home, free_edit place inode after) ∷ []

abbrev pub edits_at : Result ℕ FfsFault → Result (List ℕ) FfsFault → (ℕ → List ℕ → Edits) → Edits
edits_at (Ok home) (Ok inode) f = f home inode
edits_at home inode f = []

abbrev pub taken_edits : (ℕ → List ℕ) → ℕ → ℕ → ℕ → ℕ → Edits
taken_edits content fs n after next =
    edits_at (inode_block_in content fs ((n - 1) / 8)) (inode_in content fs n)
    (λ home inode. inode_edits (content (word_at inode 56)) home ((n - 1) % 8) inode after next)

-- `unlink` and `rmdir` come after no edit
abbrev pub removed_edits : (ℕ → List ℕ) → ℕ → Slot → Option ℕ → ℕ → Edits
removed_edits content fs slot after next = clear_edit slot after ∷ taken_edits content fs slot.inode next (next + 1)

-- What depends on the newest bytes where it begins

-- edits; or a block is begun, and then an edit proposed of another one, which comes to own it
pub data Action : Type 0 where
  Makes : (edits : List (ℕ × Edit)) → Action
  Attaches : (ty : ℕ) (bytes : List ℕ) (home : ℕ) (edit : ℕ → Edit) → Action

abbrev pub act_of : Types → ℕ → Action → StoreState → Result StoreState Refusal
act_of T fs (Makes edits) state = made_of T fs edits state
act_of T fs (Attaches ty bytes home edit) state =
    result_and_then (λ begun. made_of T fs ((home, edit begun.0.0) ∷ []) begun.1) (init_of T state fs ty bytes)

-- the first edits were made; or no block was begun, or the one that was is forgotten
abbrev pub StopsAct : Types → ℕ → Action → StoreState → StoreState → Type 0
StopsAct T fs (Makes edits) old new = FirstMade T fs edits old new
StopsAct T fs (Attaches ty bytes home edit) old new =
    (new ≡ old) ⊎ MatchResult (init_of T old fs ty bytes) (λ begun. new ≡ skipped old) (λ refusal. ⊥)

abbrev pub Acts : {A : Type 0} → Types → ℕ → Action → StoreState → StoreState → Result A FfsFault → Type 0
Acts T fs action old new result = MatchResult result (λ x. act_of T fs action old ≡ Ok new) (λ fault. StopsAct T fs action old new)

abbrev pub Parts : Type 0
Parts = List (StoreState → Action)

abbrev pub made_by : Types → ℕ → Parts → StoreState → Result StoreState Refusal
made_by T fs [] state = Ok state
made_by T fs (first ∷ rest) state = result_and_then (made_by T fs rest) (act_of T fs (first state) state)

-- the first parts were made, and the next one stops
abbrev pub StopsIn : Types → ℕ → Parts → StoreState → StoreState → Type 0
StopsIn T fs [] old new = ⊥
StopsIn T fs (first ∷ rest) old new =
    StopsAct T fs (first old) old new ⊎ ((middle : StoreState) × (act_of T fs (first old) old ≡ Ok middle) × StopsIn T fs rest middle new)

abbrev pub InOrder : {A : Type 0} → Types → ℕ → Parts → StoreState → StoreState → Result A FfsFault → Type 0
InOrder T fs parts old new result = MatchResult result (λ x. made_by T fs parts old ≡ Ok new) (λ fault. StopsIn T fs parts old new)

-- one edit was made, and got this number
abbrev pub Numbered : StoreState → StoreState → ℕ → Type 0
Numbered old new entry = (entry ≡ old.next) × (new.next ≡ old.next + 1)

-- a link is added
abbrev pub linked_edits : (ℕ → List ℕ) → ℕ → ℕ → Edits
linked_edits content fs n =
    edits_at (inode_block_in content fs ((n - 1) / 8)) (inode_in content fs n) (λ home inode.
    (home, edit_at (64 * ((n - 1) % 8)) (put inode 2 (to_le_bytes w16 (inode_links inode + 1))) [] [] None) ∷ [])

-- an entry names another inode
abbrev pub turned_edits : Slot → ℕ → ℕ → Edits
turned_edits slot n after = (slot.block, edit_at (32 * slot.place) (to_le_bytes w16 n) [] [] (Some after)) ∷ []

-- a directory's inode that points to a block more
abbrev pub grown : List ℕ → ℕ → ℕ → List ℕ
grown inode index block =
    let pointing = put inode (8 + 4 * index) (to_le_bytes w32 block) in put pointing 4 (to_le_bytes w32 (512 * length (inode_blocks pointing)))

abbrev pub grown_edit : ℕ → List ℕ → ℕ → ℕ → ℕ → Edit
grown_edit d inode index after block = edit_at (64 * ((d - 1) % 8)) (grown inode index block) ((block, 2) ∷ []) [] (Some after)

abbrev pub room_action : ℕ → List ℕ → List ℕ → ℕ → Result ℕ FfsFault → Option Room → Action
room_action d inode entry after home (Some (Entry block place)) = Makes ((block, edit_at (32 * place) entry [] [] (Some after)) ∷ [])
room_action d inode entry after (Ok home) (Some (Pointer index)) = Attaches 2 (put zero_block 0 entry) home (grown_edit d inode index after)
room_action d inode entry after home other = Makes []

abbrev pub inode_action : Result (List ℕ) FfsFault → (List ℕ → Action) → Action
inode_action (Ok inode) f = f inode
inode_action (Err fault) f = Makes []

-- a directory gets an entry, after an edit
abbrev pub entered_action : (ℕ → List ℕ) → ℕ → ℕ → List ℕ → ℕ → Action
entered_action content fs d entry after =
    inode_action (directory_in content fs d) (λ inode.
    room_action d inode entry after (inode_block_in content fs ((d - 1) / 8)) (room_in content inode))

-- A link is added, and then the directory gets the entry.
abbrev pub NamesInOrder : Types → ℕ → ℕ → ℕ → List ℕ → StoreState → StoreState → Result ℕ FfsFault → Type 0
NamesInOrder T fs d n name old new (Ok e) =
    (first : StoreState) × (made_of T fs (linked_edits (newest_block old) fs n) old ≡ Ok first)
    × (act_of T fs (entered_action (newest_block first) fs d (entry_of n name) old.next) first ≡ Ok new) × (new.next ≡ e + 1)
NamesInOrder T fs d n name old new (Err fault) =
    StopsAct T fs (Makes (linked_edits (newest_block old) fs n)) old new
    ⊎ ((first : StoreState) × (made_of T fs (linked_edits (newest_block old) fs n) old ≡ Ok first)
    × StopsAct T fs (entered_action (newest_block first) fs d (entry_of n name) old.next) first new)

-- `rename`, from the store's next number on; the old entry is cleared after the last edit before that
abbrev pub moved_parts : ℕ → Slot → ℕ → List ℕ → ℕ → Parts
moved_parts fs from other new_name next =
    (λ state. Makes (linked_edits (newest_block state) fs from.inode))
    ∷ (λ state. entered_action (newest_block state) fs other (entry_of from.inode new_name) next)
    ∷ (λ state. Makes (removed_edits (newest_block state) fs from (Some (state.next - 1)) state.next))
    ∷ []

-- `replace` of one file by another
abbrev pub replaced_parts : ℕ → Slot → Slot → ℕ → Parts
replaced_parts fs from to next =
    (λ state. Makes (linked_edits (newest_block state) fs from.inode))
    ∷ (λ state. Makes (turned_edits to from.inode next))
    ∷ (λ state. Makes (removed_edits (newest_block state) fs from (Some (next + 1)) state.next))
    ∷ (λ state. Makes (taken_edits (newest_block state) fs to.inode (next + 1) state.next))
    ∷ []
