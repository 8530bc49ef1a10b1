-- The edits by which a file, a directory or a volume is made, one after another.
--     new_in                  the inode that `create` and `mkdir` would answer
--     missing_block           the root block and its lowest empty pointer, for a block of inodes more, where no inode is free
--     pointer_edit            the root block points to a block of inodes more
--     block_action            that block is begun, and then comes that edit; nothing, where an inode is free
--     Numbers, with_last      the numbers that a volume keeps of the edits that added blocks of inodes, by index; with that of the store's last edit
--     AddsBlock               this is done, and the number of the block's edit kept
--     new_edits, new_parts    a new inode gets its 64 bytes, after an edit or after none; then a directory names it, after that
--     NamesNew                this is done with the number that is kept of the inode's block, and that is no longer kept
--     CreatesInOrder          `create` and `mkdir`: a block of inodes where no inode is free, and then this
--     rooted_by               a root block is begun and the root slot set to it, where there is none
--     made_top, MakesInOrder  `make`: the first block of inodes is begun; then this; then the root block points to that block
use Rattle.std.specs.Prelude.{◌≡◌, ◌⊎◌, ℕ, ◌-◌, ◌*◌, ◌/◌, ◌%◌, ◌==◌, List, [], ◌∷◌, find, option_map, Option, None, Some, Result, Ok, Err, if◌then◌else◌}
use Rattle.std.specs.Int.{w32, to_le_bytes}
use Rattle.std.specs.List.{range_with_len}
use Rattle.std.specs.Option.{ok_or}
use Rattle.store_types.specs.declared.refusal.Refusal.{Refusal}
use Rattle.xn_model.specs.Types.{Types}
use Rattle.xn_model.specs.Lives.{StoreState}
use Rattle.xn_model.specs.Results.{result_and_then}
use Rattle.xn_model.specs.Calls.{Edit, init_of, slot_now}
use Rattle.ffs_model.specs.Library.{pointer_word, zero_block}
use Rattle.ffs_model.specs.Volumes.{with_edit, without_edit}
use Rattle.ffs_format.specs.Entries.{entry_of}
use Rattle.ffs_lookup.specs.declared.fault.FfsFault.{FfsFault}
use Rattle.ffs_lookup.specs.declared.fault.FfsFault.TheVariants.{NoInode}
use Rattle.ffs_lookup.specs.Newest.{and_then, create_in, has_free_inode, inode_block_in, number_in, root_in}
use Rattle.ffs_lib.specs.Edits.{edit_at}
use Rattle.ffs_lib.specs.Making.{StopsTop, first_pointer, rooted_of, top_inodes}
use Rattle.ffs_lib.specs.Orders.{Action, Attaches, Edits, Makes, Parts, StopsAct, StopsIn, act_of, entered_action, made_by, made_of}
use Rattle.ffs_lib.specs.Results.{new_inode}
use Rattle.ffs_lib.specs.Steps.{newest_block}

-- the lowest free one, where the other look-ups pass
abbrev pub new_in : (ℕ → List ℕ) → ℕ → ℕ → List ℕ → Result ℕ FfsFault
new_in content fs d name = and_then (create_in content fs d name) (λ inode. and_then (root_in content fs) (λ root. ok_or (number_in content root) NoInode))

-- A block of inodes more

abbrev pub empty_pointer : (ℕ → List ℕ) → ℕ → Option (ℕ × ℕ)
empty_pointer content root = option_map (λ index. (root, index)) (find (λ index. pointer_word (content root) index == 0) (range_with_len 0 16))

abbrev pub missing_from : (ℕ → List ℕ) → Result ℕ FfsFault → Option (ℕ × ℕ)
missing_from content (Ok root) = if has_free_inode content root then None else empty_pointer content root
missing_from content (Err fault) = None

abbrev pub missing_block : (ℕ → List ℕ) → ℕ → Option (ℕ × ℕ)
missing_block content fs = missing_from content (root_in content fs)

abbrev pub pointer_edit : ℕ → ℕ → Edit
pointer_edit index block = edit_at (4 * index) (to_le_bytes w32 block) ((block, 4) ∷ []) [] None

abbrev pub block_action : Option (ℕ × ℕ) → Action
block_action (Some at) = Attaches 4 zero_block at.0 (pointer_edit at.1)
block_action None = Makes []

abbrev pub Numbers : Type 0
Numbers = ℕ → Option ℕ

-- at the index of the block that was missing
abbrev pub with_last : Numbers → ℕ → Option (ℕ × ℕ) → Numbers
with_last numbers next (Some at) = with_edit numbers at.1 (next - 1)
with_last numbers next None = numbers

abbrev pub AddsBlock : {A : Type 0} → Types → ℕ → Numbers → StoreState → Numbers → StoreState → Result A FfsFault → Type 0
AddsBlock T fs numbers old left new (Ok x) =
    let missing = missing_block (newest_block old) fs in
    (act_of T fs (block_action missing) old ≡ Ok new) × (left ≡ with_last numbers new.next missing)
AddsBlock T fs numbers old left new (Err fault) = StopsAct T fs (block_action (missing_block (newest_block old) fs)) old new × (left ≡ numbers)

-- An inode and its name

abbrev pub home_edits : Result ℕ FfsFault → (ℕ → Edits) → Edits
home_edits (Ok home) f = f home
home_edits (Err fault) f = []

abbrev pub new_edits : (ℕ → List ℕ) → ℕ → ℕ → ℕ → Option ℕ → Edits
new_edits content fs mode n after =
    home_edits (inode_block_in content fs ((n - 1) / 8)) (λ home. (home, edit_at (64 * ((n - 1) % 8)) (new_inode mode) [] [] after) ∷ [])

abbrev pub new_parts : ℕ → ℕ → List ℕ → ℕ → ℕ → Option ℕ → Parts
new_parts fs d name mode n after =
    (λ state. Makes (new_edits (newest_block state) fs mode n after))
    ∷ (λ state. entered_action (newest_block state) fs d (entry_of n name) (state.next - 1))
    ∷ []

abbrev pub NamesNew : Types → ℕ → ℕ → List ℕ → ℕ → ℕ → Numbers → StoreState → Numbers → StoreState → Result ℕ FfsFault → Type 0
NamesNew T fs d name mode n numbers old left new (Ok x) =
    let index = (n - 1) / 8 in
    (x ≡ n) × (made_by T fs (new_parts fs d name mode n (numbers index)) old ≡ Ok new) × (left ≡ without_edit numbers index)
NamesNew T fs d name mode n numbers old left new (Err fault) = StopsIn T fs (new_parts fs d name mode n (numbers ((n - 1) / 8))) old new × (left ≡ numbers)

-- Both

abbrev pub ThenNames : Types → ℕ → ℕ → List ℕ → ℕ → ℕ → Numbers → StoreState → Numbers → StoreState → Result ℕ FfsFault → Type 0
ThenNames T fs d name mode n numbers old left new result =
    let missing = missing_block (newest_block old) fs in
    (middle : StoreState) × (act_of T fs (block_action missing) old ≡ Ok middle)
    × NamesNew T fs d name mode n (with_last numbers middle.next missing) middle left new result

abbrev pub CreatesInOrder : Types → ℕ → ℕ → List ℕ → ℕ → ℕ → Numbers → StoreState → Numbers → StoreState → Result ℕ FfsFault → Type 0
CreatesInOrder T fs d name mode n numbers old left new (Ok x) = ThenNames T fs d name mode n numbers old left new (Ok x)
CreatesInOrder T fs d name mode n numbers old left new (Err fault) =
    AddsBlock {A = ℕ} T fs numbers old left new (Err fault) ⊎ ThenNames T fs d name mode n numbers old left new (Err fault)

-- A volume

abbrev pub rooted_by : Types → ℕ → StoreState → Result StoreState Refusal
rooted_by T fs state = if (slot_now state fs).0 == 0 then result_and_then (λ made. Ok made.1) (rooted_of T fs state) else Ok state

abbrev pub top_edits : (ℕ → List ℕ) → ℕ → ℕ → Edits
top_edits content fs block = home_edits (root_in content fs) (λ root. (root, first_pointer block) ∷ [])

-- from where the first block of inodes is begun
abbrev pub top_attached : Types → ℕ → ℕ → StoreState → Result StoreState Refusal
top_attached T fs block state = result_and_then (λ rooted. made_of T fs (top_edits (newest_block rooted) fs block) rooted) (rooted_by T fs state)

abbrev pub made_top : Types → ℕ → StoreState → Result StoreState Refusal
made_top T fs state = result_and_then (λ begun. top_attached T fs begun.0.0 begun.1) (init_of T state fs 4 top_inodes)

abbrev pub MakesInOrder : {A : Type 0} → Types → ℕ → StoreState → StoreState → Result A FfsFault → Type 0
MakesInOrder T fs old new (Ok x) = made_top T fs old ≡ Ok new
MakesInOrder T fs old new (Err fault) = StopsTop T fs old new fault
