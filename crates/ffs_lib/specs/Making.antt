-- `make` by its function of the files, and what is left where the store refuses it.
--     newly_made       `Pending`, or a root slot with a block of another type; then `made`; then a root block with other blocks of inodes and not the first
--     top_inodes, first_pointer    the first block of inodes; the edit by which the root block points to it
--     without_block    without a block that was begun, if the store takes that
--     rooted_of        a root block is begun, and the root slot set to it
--     with_root        with a root block, where there is none
--     StopsWith        a new block could not be begun, or what is asked with it was refused
--     StopsRooting     a root block could not be begun, or the root slot not be set to it
--     StopsPointing    the root block could not point to the first block of inodes
--     StopsTop         one of these, or that block could not be begun; what was begun is forgotten
--     IsBegun          a block is begun, and will be the first block of inodes
--     Rooted           there is a root block, or none could be had
use Rattle.std.specs.Prelude.{◌≡◌, ◌≢◌, ℕ, ◌==◌, ◌||◌, not, List, [], ◌∷◌, None, Result, Ok, Err, MatchResult, if◌then◌else◌, ◌⊎◌, Bool, true}
use Rattle.std.specs.List.{list_any, range_with_len}
use Rattle.std.specs.Int.{w32, to_le_bytes}
use Rattle.store_types.specs.declared.refusal.Refusal.{Refusal}
use Rattle.store_types.specs.declared.refusal.Refusal.TheVariants.{RootTaken}
use Rattle.xn_model.specs.Types.{Types}
use Rattle.xn_model.specs.Lists.{put}
use Rattle.xn_model.specs.Lives.{StoreState}
use Rattle.xn_model.specs.Results.{result_and_then}
use Rattle.xn_model.specs.Calls.{Edit, forget_of, init_of, make_root_of, may_add, propose_of, slot_now}
use Rattle.ffs_model.specs.Edits.{HoldsOnly}
use Rattle.ffs_model.specs.Library.{zero_block}
use Rattle.ffs_lookup.specs.declared.fault.FfsFault.{FfsFault}
use Rattle.ffs_lookup.specs.declared.fault.FfsFault.TheVariants.{Kernel, Unsound}
use Rattle.ffs_lookup.specs.Counts.{if_idle}
use Rattle.ffs_lookup.specs.Files.{Answer, Files, is_absent, made}
use Rattle.ffs_lookup.specs.Newest.{root_in}
use Rattle.ffs_lib.specs.Edits.{edit_at}
use Rattle.ffs_lib.specs.Results.{new_inode}
use Rattle.ffs_lib.specs.Steps.{Tells, left_by, newest_block}

-- The call as a function of the files

-- whether an inode is in a block of inodes
abbrev pub any_inode : Files → Bool
any_inode files = list_any (λ n. not (is_absent (files n))) (range_with_len 1 128)

abbrev pub unless_inodes : {A : Type 0} → Files → Result A FfsFault → Result A FfsFault
unless_inodes files (Ok next) = if any_inode files then Err (Unsound 1) else Ok next
unless_inodes files (Err fault) = Err fault

abbrev pub unless_taken : {A : Type 0} → ℕ × ℕ → Result A FfsFault → Result A FfsFault
unless_taken s answer = if (s.0 == 0) || (s.1 == 3) then answer else Err (Kernel RootTaken)

abbrev pub newly_made : StoreState → ℕ → Files → Answer (Unit {0})
newly_made state fs files = if_idle state fs (unless_taken (slot_now state fs) (unless_inodes files (made files)))

-- What is asked of the store

abbrev pub top_inodes : List ℕ
top_inodes = put zero_block 0 (new_inode 2)

abbrev pub first_pointer : ℕ → Edit
first_pointer block = edit_at 0 (to_le_bytes w32 block) ((block, 4) ∷ []) [] None

abbrev pub without_block : Types → ℕ → ℕ → StoreState → StoreState
without_block T fs block state = left_by (forget_of T state fs block) state

abbrev pub rooted_of : Types → ℕ → StoreState → Result (ℕ × StoreState) Refusal
rooted_of T fs state = result_and_then (λ begun. make_root_of begun.1 fs begun.0.0) (init_of T state fs 3 zero_block)

abbrev pub with_root : Types → ℕ → StoreState → StoreState
with_root T fs state = if (slot_now state fs).0 == 0 then left_by (rooted_of T fs state) state else state

-- What is left where that is refused, and of what the fault tells; at the end something more is done.

abbrev pub StopsWith : Result ((ℕ × ℕ) × StoreState) Refusal → StoreState → (ℕ → StoreState → Type 0) → StoreState → FfsFault → Type 0
StopsWith begun left next new fault = ((new ≡ left) × Tells begun fault) ⊎ MatchResult begun (λ x. next x.0.0 x.1) (λ refusal. ⊥)

abbrev pub StopsRooting : Types → ℕ → (StoreState → StoreState) → StoreState → StoreState → FfsFault → Type 0
StopsRooting T fs end old new fault =
    StopsWith (init_of T old fs 3 zero_block) (end old) (λ block state.
    (new ≡ end (without_block T fs block state)) × Tells (make_root_of state fs block) fault) new fault

abbrev pub StopsPointing : Types → ℕ → (StoreState → StoreState) → ℕ → StoreState → StoreState → FfsFault → Type 0
StopsPointing T fs end block old new fault =
    (new ≡ end old) × MatchResult (root_in (newest_block old) fs) (λ root. Tells (propose_of T old fs root (first_pointer block)) fault) (λ other. ⊥)

abbrev pub StopsFirst : Types → ℕ → (StoreState → StoreState) → ℕ → StoreState → StoreState → FfsFault → Type 0
StopsFirst T fs end block old new fault =
    (((slot_now old fs).0 ≡ 0) × StopsRooting T fs end old new fault) ⊎ StopsPointing T fs end block (with_root T fs old) new fault

abbrev pub StopsTop : Types → ℕ → StoreState → StoreState → FfsFault → Type 0
StopsTop T fs old new fault =
    StopsWith (init_of T old fs 4 top_inodes) old (λ block state. StopsFirst T fs (without_block T fs block) block state new fault) new fault

-- Parts of the call

pub record IsBegun (state : StoreState) (fs block : ℕ) : Type 0 where
  pub there : block ≢ 0
  pub holds : HoldsOnly state.lives block top_inodes
  pub bytes : newest_block state block ≡ top_inodes
  pub addable : may_add state fs (block, 4) ≡ true

abbrev pub Rooted : Types → ℕ → StoreState → StoreState → Result ℕ FfsFault → Type 0
Rooted T fs old new (Ok entry) = rooted_of T fs old ≡ Ok (entry, new)
Rooted T fs old new (Err fault) = StopsRooting T fs (λ s. s) old new fault
