-- What `rm` does where it is not to go below folders.
--     UnlinkIn                    the call `unlink`, of a folder and a name
--     UnlinksNamed, UnlinksAt     the same, of a name that leads to no folder; of a path
--     IsAway                      a path leads to nothing
--     TellsMissing                a fault is that of a path which leads to nothing
--     RemovesNamed, Removes       the name is taken; or nothing is there, and that is no fault
--     IsNameKept, IsKept          it is not
use Rattle.std.specs.Prelude.{◌≡◌, ◌⊎◌, ℕ, Bool, false, true, List, [], ◌∷◌, None, Some, Result, Ok}
use Rattle.xn_model.specs.Lives.{StoreState}
use Rattle.xn_model.specs.Types.{Types}
use Rattle.treefs_model.specs.declared.fault.Fault.{Fault}
use Rattle.tree_lines.specs.Unlinking.{UnlinkDoes}
use Rattle.tree_lines.specs.Values.{Volume}
use Rattle.tree_lines.specs.Freeing.{MakesFreely}
use Rattle.tree_lines.specs.Looks.{FindsPath}
use Rattle.tree_lines.specs.Places.{IsFolder, IsOwnName, StopsBefore}
use Rattle.tree_lines.specs.Trees.{IsPlaceIn, IsThereIn}
use Rattle.tree_lines.specs.declared.fault.Fault.{Fault as LineFault}
use Rattle.tree_lines.specs.declared.fault.Fault.TheVariants.{At}
use Rattle.tree_lines.specs.declared.node.Node.{Node}
use Rattle.tree_lines.specs.declared.reason.Reason.{Reason}
use Rattle.tree_lines.specs.declared.reason.Reason.TheVariants.{Missing, NoFolder}
use Rattle.tree_changes.specs.Paths.{IsRefused, IsSame}

abbrev pub UnlinkIn : Types → ℕ → ℕ → List ℕ → StoreState → StoreState → Volume → Volume → Result (Unit {0}) Fault → Type 0
UnlinkIn T folder directory name =
    MakesFreely (λ old new volume volume' result. UnlinkDoes T old new volume volume' directory name result) T (folder ∷ [])

-- Of a folder and a name

-- slash: whether one follows the name, as only a folder's may
abbrev pub UnlinksNamed : Types → ℕ → ℕ → List ℕ → Bool → StoreState → StoreState → Volume → Volume → Result (Unit {0}) Fault → Type 0
UnlinksNamed T folder directory name slash old new volume volume' result =
    (node : Node) × IsThereIn old volume directory name (Some node) × ¬ IsFolder node × (slash ≡ false)
    × UnlinkIn T folder directory name old new volume volume' result

-- forced: whether it is no fault that nothing is there
abbrev pub RemovesNamed : Bool → Types → ℕ → ℕ → List ℕ → Bool → StoreState → StoreState → Volume → Volume → Type 0
RemovesNamed forced T folder directory name slash old new volume volume' =
    ((forced ≡ true) × IsThereIn old volume directory name None × IsSame old new volume volume')
    ⊎ UnlinksNamed T folder directory name slash old new volume volume' (Ok tt)

abbrev pub IsNameKept : Types → ℕ → ℕ → List ℕ → Bool → StoreState → StoreState → Volume → Volume → Type 0
IsNameKept T folder directory name slash old new volume volume' =
    IsRefused (UnlinksNamed T folder directory name slash old new volume volume') old new volume volume'

-- Of a path

-- own: the last name of the path, which is not `.` or `..`
abbrev pub UnlinksAt : Types → ℕ → List ℕ → StoreState → StoreState → Volume → Volume → Result (Unit {0}) Fault → Type 0
UnlinksAt T folder path old new volume volume' result =
    (own : List ℕ) × (directory : ℕ) × (name : List ℕ) × (slash : Bool) × IsOwnName path own × IsPlaceIn old volume folder path directory name slash
    × UnlinksNamed T folder directory name slash old new volume volume' result

abbrev pub TellsMissing : LineFault → Type 0
TellsMissing (At path reason) = (reason ≡ Missing) ⊎ (reason ≡ NoFolder)
TellsMissing other = ⊥

-- its folder has no such name; or what stands before the name leads to nothing, or through what is no folder
abbrev pub IsAway : StoreState → Volume → ℕ → List ℕ → Type 0
IsAway state volume folder path =
    ((directory : ℕ) × (name : List ℕ) × (slash : Bool) × IsPlaceIn state volume folder path directory name slash
    × IsThereIn state volume directory name None)
    ⊎ ((reason : Reason) × StopsBefore (FindsPath state volume) folder path reason × ((reason ≡ Missing) ⊎ (reason ≡ NoFolder)))

abbrev pub Removes : Bool → Types → ℕ → List ℕ → StoreState → StoreState → Volume → Volume → Type 0
Removes forced T folder path old new volume volume' =
    ((forced ≡ true) × IsAway old volume folder path × IsSame old new volume volume') ⊎ UnlinksAt T folder path old new volume volume' (Ok tt)

abbrev pub IsKept : Types → ℕ → List ℕ → StoreState → StoreState → Volume → Volume → Type 0
IsKept T folder path old new volume volume' = IsRefused (UnlinksAt T folder path old new volume volume') old new volume volume'
