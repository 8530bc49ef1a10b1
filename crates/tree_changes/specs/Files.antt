-- What `touch` and `truncate` do.
--     CreateIn, CreateAt          the call `create`, of a folder and a name; of a path
--     FindsOrCreates              a path leads to a number; or to nothing, and an empty file is made there
--     ChangesAt                   the same, and then something is done with that number
--     IsUnchanged                 that is not done
--     MtimeIn, TruncateIn         the calls `set_mtime` and `truncate`, of a number
--     mtime_set, MtimeIfAny       the time that is set, if any; it is set, or none is to be
--     TouchesIn                   the same, of the number of a file that is new or not
--     Touches, IsUntouched        a path is touched, or not
--     Sizes, IsUnsized            the size at a path is set, or not
use Rattle.std.specs.Prelude.{◌≡◌, ◌⊎◌, ℕ, ℤ, Bool, false, true, List, [], ◌∷◌, Option, None, Some, Result, Ok, Err}
use Rattle.xn_model.specs.Lives.{StoreState}
use Rattle.xn_model.specs.Types.{Types}
use Rattle.treefs_model.specs.declared.fault.Fault.{Fault}
use Rattle.tree_lines.specs.Creating.{CreateDoes}
use Rattle.tree_lines.specs.Setting.{MtimeDoes}
use Rattle.tree_lines.specs.Sizing.{TruncateDoes}
use Rattle.tree_lines.specs.Values.{Attributes, Volume}
use Rattle.tree_lines.specs.Freeing.{MakesFreely}
use Rattle.tree_lines.specs.Looks.{FindsPath}
use Rattle.tree_lines.specs.Trees.{IsPlaceIn}
use Rattle.tree_lines.specs.declared.reason.Reason.TheVariants.{Missing}
use Rattle.tree_changes.specs.Folders.{IsNew}
use Rattle.tree_changes.specs.Paths.{IsRefused, IsSame}

-- An empty file

abbrev pub CreateIn : Types → ℕ → ℕ → List ℕ → Attributes → StoreState → StoreState → Volume → Volume → Result ℕ Fault → Type 0
CreateIn T folder directory name attributes =
    MakesFreely (λ old new volume volume' result. CreateDoes T old new volume volume' directory name attributes result) T (folder ∷ [])

-- with the permissions 0o644; no slash stands behind the name
abbrev pub CreateAt : Types → ℕ → List ℕ → StoreState → StoreState → Volume → Volume → Result ℕ Fault → Type 0
CreateAt T folder path old new volume volume' result =
    (directory : ℕ) × (name : List ℕ) × (attributes : Attributes) × IsPlaceIn old volume folder path directory name false × IsNew attributes 420
    × CreateIn T folder directory name attributes old new volume volume' result

-- new: whether it was made; a symbolic link at the end is followed
abbrev pub FindsOrCreates : Types → ℕ → List ℕ → ℕ → Bool → StoreState → StoreState → Volume → Volume → Type 0
FindsOrCreates T folder path number false old new volume volume' = FindsPath old volume folder path true (Ok number) × IsSame old new volume volume'
FindsOrCreates T folder path number true old new volume volume' =
    FindsPath old volume folder path true (Err Missing) × CreateAt T folder path old new volume volume' (Ok number)

-- Does: what is done with the number of a file, and whether that is new
abbrev pub ChangesAt : (ℕ → Bool → StoreState → StoreState → Volume → Volume → Result (Unit {0}) Fault → Type 0) → Types → ℕ → List ℕ → StoreState
    → StoreState → Volume → Volume → Result (Unit {0}) Fault → Type 0
ChangesAt Does T folder path old new volume volume' result =
    (number : ℕ) × (is_new : Bool) × (middle : StoreState) × (between : Volume) × FindsOrCreates T folder path number is_new old middle volume between
    × Does number is_new middle new between volume' result

-- nothing was changed; or the file could not be made; or what is done with it was refused
abbrev pub IsUnchanged : (ℕ → Bool → StoreState → StoreState → Volume → Volume → Result (Unit {0}) Fault → Type 0) → Types → ℕ → List ℕ → StoreState
    → StoreState → Volume → Volume → Type 0
IsUnchanged Does T folder path old new volume volume' =
    IsRefused (CreateAt T folder path old new volume volume') old new volume volume'
    ⊎ ((fault : Fault) × ChangesAt Does T folder path old new volume volume' (Err fault))

-- Times

abbrev pub MtimeIn : Types → ℕ → ℕ → ℤ → StoreState → StoreState → Volume → Volume → Result (Unit {0}) Fault → Type 0
MtimeIn T folder number mtime =
    MakesFreely (λ old new volume volume' result. MtimeDoes old volume volume' number mtime result × (new ≡ old)) T (folder ∷ [])

-- where none is told that of the clock, but of a new file, which has it
abbrev pub mtime_set : Option ℤ → Bool → ℤ → Option ℤ
mtime_set None true clock = None
mtime_set None false clock = Some clock
mtime_set (Some mtime) is_new clock = Some mtime

abbrev pub MtimeIfAny : Types → ℕ → ℕ → Option ℤ → StoreState → StoreState → Volume → Volume → Result (Unit {0}) Fault → Type 0
MtimeIfAny T folder number None old new volume volume' result = IsSame old new volume volume' × (result ≡ Ok tt)
MtimeIfAny T folder number (Some mtime) old new volume volume' result = MtimeIn T folder number mtime old new volume volume' result

abbrev pub TouchesIn : Option ℤ → Types → ℕ → ℕ → Bool → StoreState → StoreState → Volume → Volume → Result (Unit {0}) Fault → Type 0
TouchesIn time T folder number is_new old new volume volume' result =
    MtimeIfAny T folder number (mtime_set time is_new volume.memory.clock) old new volume volume' result

abbrev pub Touches : Option ℤ → Types → ℕ → List ℕ → StoreState → StoreState → Volume → Volume → Type 0
Touches time T folder path old new volume volume' = ChangesAt (TouchesIn time T folder) T folder path old new volume volume' (Ok tt)

abbrev pub IsUntouched : Option ℤ → Types → ℕ → List ℕ → StoreState → StoreState → Volume → Volume → Type 0
IsUntouched time T folder path old new volume volume' = IsUnchanged (TouchesIn time T folder) T folder path old new volume volume'

-- Sizes

abbrev pub TruncateIn : ℕ → Types → ℕ → ℕ → Bool → StoreState → StoreState → Volume → Volume → Result (Unit {0}) Fault → Type 0
TruncateIn size T folder number is_new =
    MakesFreely (λ old new volume volume' result. TruncateDoes T old new volume volume' number size result) T (folder ∷ [])

abbrev pub Sizes : ℕ → Types → ℕ → List ℕ → StoreState → StoreState → Volume → Volume → Type 0
Sizes size T folder path old new volume volume' = ChangesAt (TruncateIn size T folder) T folder path old new volume volume' (Ok tt)

abbrev pub IsUnsized : ℕ → Types → ℕ → List ℕ → StoreState → StoreState → Volume → Volume → Type 0
IsUnsized size T folder path old new volume volume' = IsUnchanged (TruncateIn size T folder) T folder path old new volume volume'
