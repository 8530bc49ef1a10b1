-- What reap does: inodes without links are trimmed to nothing, one after another, and then freed, all those with their pointers in one block by one edit.
--     orphan_block       the block of an inode without links
--     Empties            inodes are trimmed to nothing
--     freed_beside       those of some numbers whose pointers stand in one block
--     ReapPlan, reap_plan    they are freed: their pointers become 0, and their blocks are dropped
--     IsReapPlanned      what it takes to free the inode of a number, and those beside it
--     Reaps              that of one number after another
--     ReapDoes           what reap does
use Rattle.std.specs.Prelude.{◌≡◌, ◌⊎◌, ℕ, ◌+◌, ◌-◌, ◌%◌, ◌==◌, nat_lt, min, Bool, not, List, [], ◌∷◌, drop, filter, flat_map, length, map, take}
use Rattle.std.specs.Prelude.{Option, None, Some, Result, Ok, Err, IsOkAnd, IsSomeAnd, MatchBool, MatchResult, option_map, if◌then◌else◌}
use Rattle.std.specs.List.{list_any, range_with_len}
use Rattle.xn_model.specs.BareDisks.{zeros}
use Rattle.xn_model.specs.Calls.{Patch, read_of}
use Rattle.xn_model.specs.Lists.{has_number, put}
use Rattle.xn_model.specs.Lives.{StoreState}
use Rattle.xn_model.specs.Types.{Types}
use Rattle.store_types.specs.declared.refusal.Refusal.{Refusal}
use Rattle.treefs_format.specs.Paths.{last_beside, place_in_tree}
use Rattle.treefs_format.specs.Roots.{leaf_of_inode}
use Rattle.treefs_model.specs.Acts.{Act}
use Rattle.treefs_model.specs.declared.fault.Fault.{Fault}
use Rattle.treefs_model.specs.declared.fault.Fault.TheVariants.{Full}
use Rattle.treefs_lookup.specs.Inodes.{inode_found}
use Rattle.treefs_lookup.specs.Readable.{readable}
use Rattle.treefs_lookup.specs.Walks.{holder_steps, pointer_offset, reach}
use Rattle.treefs_lookup.specs.declared.inodes.Found.{Found}
use Rattle.treefs_edits.specs.Memories.{Memory}
use Rattle.treefs_edits.specs.Plans.{Plan}
use Rattle.treefs_edits.specs.Rooms.{has_room}
use Rattle.treefs_edits.specs.declared.memory.Touched.{Touched}
use Rattle.treefs_edits.specs.declared.tree.Tree.{Tree}
use Rattle.treefs_byte_plans.specs.Fields.{bytes_patch}
use Rattle.treefs_byte_plans.specs.declared.kept.Kept.{Kept}
use Rattle.treefs.specs.Trimming.{Answers, DoesIfAny, Then, TrimsFirst, kept_nothing}
use Rattle.treefs.specs.declared.reap_plan.Freed.{Freed}
use Rattle.treefs.specs.declared.reap_plan.ReapPlan.{ReapPlan}
use Rattle.treefs.specs.declared.volume.Volume.{Volume}

-- Inodes without links

abbrev pub orphan_in : Result Found Fault → ℕ
orphan_in (Ok found) = if found.fields.links == 0 then found.block else 0
orphan_in (Err fault) = 0

-- 0 for a number of an inode with links, or of none
abbrev pub orphan_block : (ℕ → List ℕ) → ℕ → ℕ → ℕ
orphan_block content top number = orphan_in (inode_found content top number)

-- nothing is kept of it
abbrev pub kept_of_orphan : ℕ → Option Kept
kept_of_orphan block = if block == 0 then None else Some (kept_nothing block)

abbrev pub EmptiesOne : Types → Tree → Memory → ℕ → StoreState → StoreState → Result (Unit {0}) Fault → Type 0
EmptiesOne T tree memory number old new result =
    TrimsFirst T tree.fs.number memory (kept_of_orphan (orphan_block (readable old tree.fs.number) tree.top number)) old new result

abbrev pub Empties : Types → Tree → Memory → List ℕ → StoreState → StoreState → Result (Unit {0}) Fault → Type 0
Empties T tree memory [] old new result = Answers (Ok tt) old new result
Empties T tree memory (number ∷ numbers) old new result = Then (EmptiesOne T tree memory number) (Empties T tree memory numbers) old new result

-- Those beside each other

-- the first leaf whose pointer stands in the block of a leaf's pointer
abbrev pub first_beside : ℕ → ℕ
first_beside leaf = if nat_lt leaf 16 then 0 else leaf - place_in_tree leaf % 127

abbrev pub freed_with : ℕ → ℕ → List Freed
freed_with leaf block = if block == 0 then [] else record { number = leaf + 1; offset = pointer_offset leaf; block = block } ∷ []

-- the inode that is a leaf of inode 0, where its number is among these and it has no links
abbrev pub freed_at : (ℕ → List ℕ) → ℕ → List ℕ → ℕ → List Freed
freed_at content top numbers leaf = if has_number numbers (leaf + 1) then freed_with leaf (orphan_block content top (leaf + 1)) else []

abbrev pub freed_among : (ℕ → List ℕ) → ℕ → List ℕ → ℕ → ℕ → List Freed
freed_among content top numbers from to = flat_map (freed_at content top numbers) (range_with_len from (to - from))

abbrev pub freed_beside : (ℕ → List ℕ) → ℕ → List ℕ → ℕ → List Freed
freed_beside content top numbers leaf = freed_among content top numbers (first_beside leaf) (last_beside leaf + 1)

-- The edit

-- bytes with zeros at the pointers to some inodes
abbrev pub cleared : List ℕ → List Freed → List ℕ
cleared bytes [] = bytes
cleared bytes (f ∷ freed) = cleared (put bytes f.offset (zeros 4)) freed

abbrev pub first_offset : List Freed → ℕ
first_offset [] = 0
first_offset (f ∷ freed) = f.offset

-- of the last one, or else this
abbrev pub last_offset : ℕ → List Freed → ℕ
last_offset offset [] = offset
last_offset offset (f ∷ freed) = last_offset f.offset freed

-- from the first of their pointers to the last, with those between as they are
abbrev pub freed_patch : List Freed → List ℕ → Patch
freed_patch freed bytes = bytes_patch (first_offset freed) (take (last_offset 0 freed + 4 - first_offset freed) (drop (first_offset freed) bytes))

abbrev pub reap_act : ReapPlan → Act
reap_act p = record {
  block = p.holder;
  edit = record { patches = freed_patch p.freed.items p.bytes ∷ []; adds = []; drops = map (λ f. f.block) p.freed.items; after = None };
  behind = None;
}

abbrev pub reap_plan : ReapPlan → Plan
reap_plan p = record { starts = []; acts = λ begun. reap_act p ∷ [] }

-- What it takes

-- zeros of a block that may not be read
abbrev pub bytes_or_zeros : Result (List ℕ) Refusal → List ℕ
bytes_or_zeros (Ok bytes) = bytes
bytes_or_zeros (Err reason) = zeros 512

-- the block that points to a leaf of inode 0
abbrev pub holder_block : (ℕ → List ℕ) → ℕ → ℕ → ℕ
holder_block content top leaf = (reach content top (holder_steps leaf)).block

pub record IsFreeing (state : StoreState) (fs top : ℕ) (numbers : List ℕ) (leaf : ℕ) (plan : ReapPlan) : Type 0 where
  pub holder_is : plan.holder ≡ holder_block (readable state fs) top leaf
  pub freed_are : plan.freed.items ≡ freed_beside (readable state fs) top numbers leaf
  pub bytes_are : plan.bytes ≡ cleared (bytes_or_zeros (read_of state fs plan.holder)) (freed_beside (readable state fs) top numbers leaf)

abbrev pub IsFreeingPlanned : StoreState → Tree → Memory → List ℕ → ℕ → Result (Option ReapPlan) Fault → Type 0
IsFreeingPlanned state tree memory numbers leaf planned =
    MatchBool (has_room state tree.fs.number (length memory.touched) 1 ((holder_block (readable state tree.fs.number) tree.top leaf, 1) ∷ []))
    (IsOkAnd planned (λ step. IsSomeAnd step (IsFreeing state tree.fs.number tree.top numbers leaf)))
    (planned ≡ Err Full)

-- nothing for an inode with links, or where there is none
abbrev pub IsReapPlanned : StoreState → Tree → Memory → List ℕ → ℕ → Result (Option ReapPlan) Fault → Type 0
IsReapPlanned state tree memory numbers number planned =
    MatchBool (orphan_block (readable state tree.fs.number) tree.top number == 0) (planned ≡ Ok None)
    (IsFreeingPlanned state tree memory numbers (leaf_of_inode number) planned)

-- The memory

abbrev pub is_freed : List Freed → ℕ → Bool
is_freed freed number = list_any (λ f. f.number == number) freed

abbrev pub least_hint : ℕ → List Freed → ℕ
least_hint hint [] = hint
least_hint hint (f ∷ freed) = min hint f.number

abbrev pub left_touched : List Touched → List Freed → List Touched
left_touched touched freed = filter (λ touch. not (is_freed freed touch.number)) touched

abbrev pub left_orphans : List ℕ → List Freed → List ℕ
left_orphans orphans freed = filter (λ number. not (is_freed freed number)) orphans

-- a number that is freed is neither touched nor an orphan, and is looked for again
abbrev pub freed_memory : Memory → List Freed → Memory
freed_memory memory freed = record memory {
  touched = left_touched memory.touched freed;
  hint = least_hint memory.hint freed;
  orphans = left_orphans memory.orphans freed;
}

abbrev pub reaped_memory : Memory → Result (Option ReapPlan) Fault → Result (Unit {0}) Fault → Memory
reaped_memory memory (Ok (Some plan)) (Ok done) = freed_memory memory plan.freed.items
reaped_memory memory (Ok (Some plan)) (Err fault) = memory
reaped_memory memory (Ok None) result = memory
reaped_memory memory (Err fault) result = memory

-- The call

abbrev pub plan_of_reap : Result (Option ReapPlan) Fault → Result (Option Plan) Fault
plan_of_reap (Ok plan) = Ok (option_map reap_plan plan)
plan_of_reap (Err fault) = Err fault

abbrev pub ReapsOne : Types → Tree → List ℕ → ℕ → StoreState → StoreState → Memory → Memory → Result (Unit {0}) Fault → Type 0
ReapsOne T tree numbers number old new memory memory' result =
    (planned : Result (Option ReapPlan) Fault) × IsReapPlanned old tree memory numbers number planned
    × DoesIfAny T tree.fs.number (plan_of_reap planned) old new result × (memory' ≡ reaped_memory memory planned result)

-- left: the numbers that are still to be freed; one that was freed with another before leads to no inode then
abbrev pub Reaps : Types → Tree → List ℕ → List ℕ → StoreState → StoreState → Memory → Memory → Result (Unit {0}) Fault → Type 0
Reaps T tree numbers [] old new memory memory' result = (result ≡ Ok tt) × (new ≡ old) × (memory' ≡ memory)
Reaps T tree numbers (number ∷ left) old new memory memory' result =
    MatchResult result (λ done. ⊥) (λ fault. ReapsOne T tree numbers number old new memory memory' (Err fault))
    ⊎ ((middle : StoreState) × (between : Memory) × ReapsOne T tree numbers number old middle memory between (Ok tt)
    × Reaps T tree numbers left middle new between memory' result)

abbrev pub ReapDoes : Types → StoreState → StoreState → Volume → Volume → List ℕ → Result (Unit {0}) Fault → Type 0
ReapDoes T old new volume volume' numbers result =
    (MatchResult result (λ done. ⊥) (λ fault. Empties T volume.tree volume.memory numbers old new (Err fault)) × (volume' ≡ volume))
    ⊎ ((middle : StoreState) × (memory : Memory) × Empties T volume.tree volume.memory numbers old middle (Ok tt)
    × Reaps T volume.tree numbers numbers middle new volume.memory memory result × (volume' ≡ record volume { memory = memory }))
