-- Why a call is refused, but for what the files say.
--     IsWant        it has no room until something is written, or the store refuses
--     IsNoPlace     there is no room, no bucket has a place for the name, or an inode has as many links as there may be
--     IsNoNumber    that, or there is no number
--     IsOfStore     the store refuses, or has no block that is free
--     IsNotRemoved  what the files say where a directory's name doesn't end
--     IsNotMoved    what they say where a name doesn't move
--     IsRefused     the session is as it was; so is the store, and this was answered, or else the store's refusal
use Rattle.std.specs.Prelude.{◌≡◌, ◌⊎◌, ℕ, ℤ, Bool, true, false, List, Ok, Err}
use Rattle.xn_model.specs.Lives.{StoreState}
use Rattle.store_types.specs.declared.refusal.Refusal.{Refusal}
use Rattle.treefs_model.specs.Changes.{removed, renamed}
use Rattle.treefs_model.specs.Files.{Files, number_in}
use Rattle.treefs_model.specs.declared.fault.Fault.{Fault}
use Rattle.treefs_model.specs.declared.fault.Fault.TheVariants.{Full, Kernel, NoInode, NoSpace, TooLarge}
use Rattle.treefs_lookup.specs.Readable.{readable}
use Rattle.treefs_name_plans.specs.Moves.{is_below, most_above}
use Rattle.treefs.specs.declared.volume.Volume.{Volume}
use Rattle.treefs_laws.specs.Kept.{HasSomeName, files_in}

abbrev pub IsWant : Fault → Type 0
IsWant fault = (fault ≡ Full) ⊎ ((reason : Refusal) × (fault ≡ Kernel reason))

abbrev pub IsNoPlace : Fault → Type 0
IsNoPlace fault = (fault ≡ Full) ⊎ (fault ≡ TooLarge)

abbrev pub IsNoNumber : Fault → Type 0
IsNoNumber fault = IsNoPlace fault ⊎ (fault ≡ NoInode)

abbrev pub IsOfStore : Fault → Type 0
IsOfStore fault = (fault ≡ NoSpace) ⊎ ((reason : Refusal) × (fault ≡ Kernel reason))

-- where the store refuses an edit, those before it may be made
abbrev pub IsRefused : StoreState → StoreState → Volume → Volume → Fault → Type 0 → Type 0
IsRefused state state' volume volume' fault Answered = (volume' ≡ volume) × (((state' ≡ state) × Answered) ⊎ IsOfStore fault)

-- `removed` answers a fault, and where it was told that the directory is not empty a name stands there
pub record IsNotRemoved (files : Files) (time : ℤ) (d : ℕ) (name : List ℕ) (fault : Fault) : Type 0 where
  pub empty : Bool
  pub answers : removed files time d name empty ≡ Err fault
  pub filled : empty ≡ false → (n : ℕ) × (number_in files d name ≡ Ok n) × HasSomeName files n

-- `renamed` answers a fault. Where it was told that the new place is below the inode, the directories above say so; where it was told that what has the new
-- name is not empty, a name stands there.
pub record IsNotMoved (state : StoreState) (volume : Volume) (d : ℕ) (name : List ℕ) (to : ℕ) (new : List ℕ) (fault : Fault) : Type 0 where
  pub below : Bool
  pub empty : Bool
  pub answers : renamed (files_in state volume) volume.memory.clock d name to new below empty ≡ Err fault
  pub within : below ≡ true → (n : ℕ) × (number_in (files_in state volume) d name ≡ Ok n)
      × (is_below (readable state volume.tree.fs.number) volume.tree.top n most_above to ≡ true)
  pub filled : empty ≡ false → (m : ℕ) × (number_in (files_in state volume) to new ≡ Ok m) × HasSomeName (files_in state volume) m
