-- What `chmod` and `chown` do.
--     owner_of                    who owns a node from then on
--     permissions_alone           permissions are set, and nothing else
--     mode_set, set_of            what is set of a node: nothing of the mode of a symbolic link
--     SetsIn, SetsIfAny           the call `set_attributes`, of a number; or nothing is to be set
--     SetsAt                      the same, of what stands at a path
--     IsSet, IsUnset              it is set, or not
use Rattle.std.specs.Prelude.{◌≡◌, ℕ, false, true, List, [], ◌∷◌, Option, None, Some, unwrap_or, Result, Ok}
use Rattle.xn_model.specs.Lives.{StoreState}
use Rattle.xn_model.specs.Types.{Types}
use Rattle.treefs_format.specs.declared.kind.Kind.{Kind}
use Rattle.treefs_format.specs.declared.kind.Kind.TheVariants.{Directory, File, SymbolicLink}
use Rattle.treefs_model.specs.declared.fault.Fault.{Fault}
use Rattle.tree_lines.specs.Values.{Owner, Settings, Volume}
use Rattle.tree_lines.specs.Setting.{AttributesDoes}
use Rattle.tree_lines.specs.Freeing.{MakesFreely}
use Rattle.tree_lines.specs.Trees.{IsNodeIn}
use Rattle.tree_lines.specs.declared.node.Node.{Node}
use Rattle.tree_changes.specs.Modes.{mode_applied}
use Rattle.tree_changes.specs.Paths.{IsRefused, IsSame}
use Rattle.tree_changes.specs.declared.modes.Modes.{Modes}
use Rattle.tree_changes.specs.declared.owners.Owners.{Owners}
use Rattle.tree_changes.specs.declared.setting.Setting.{Setting}
use Rattle.tree_changes.specs.declared.setting.Setting.TheVariants as setting

-- What is set

-- whom no number is told for stays
abbrev pub owner_of : Owners → Node → Owner
owner_of owners node = record { uid = unwrap_or owners.uid node.uid; gid = unwrap_or owners.gid node.gid }

abbrev pub permissions_alone : ℕ → Option Settings
permissions_alone permissions = Some (record { permissions = Some permissions; owner = None; mtime = None })

abbrev pub mode_set : Modes → ℕ → Kind → Option Settings
mode_set modes permissions Directory = permissions_alone (mode_applied modes permissions true)
mode_set modes permissions File = permissions_alone (mode_applied modes permissions false)
mode_set modes permissions SymbolicLink = None

abbrev pub set_of : Setting → Node → Option Settings
set_of (setting.Modes modes) node = mode_set modes node.permissions node.kind
set_of (setting.Owners owners) node = Some (record { permissions = None; owner = Some (owner_of owners node); mtime = None })

-- Calls

abbrev pub SetsIn : Types → ℕ → ℕ → Settings → StoreState → StoreState → Volume → Volume → Result (Unit {0}) Fault → Type 0
SetsIn T folder number attributes =
    MakesFreely (λ old new volume volume' result. AttributesDoes T old new volume volume' number attributes result) T (folder ∷ [])

abbrev pub SetsIfAny : Types → ℕ → ℕ → Option Settings → StoreState → StoreState → Volume → Volume → Result (Unit {0}) Fault → Type 0
SetsIfAny T folder number None old new volume volume' result = IsSame old new volume volume' × (result ≡ Ok tt)
SetsIfAny T folder number (Some attributes) old new volume volume' result = SetsIn T folder number attributes old new volume volume' result

-- a symbolic link at the end is followed
abbrev pub SetsAt : Setting → Types → ℕ → List ℕ → StoreState → StoreState → Volume → Volume → Result (Unit {0}) Fault → Type 0
SetsAt setting T folder path old new volume volume' result =
    (node : Node) × IsNodeIn old volume folder path true node × SetsIfAny T folder node.number (set_of setting node) old new volume volume' result

abbrev pub IsSet : Setting → Types → ℕ → List ℕ → StoreState → StoreState → Volume → Volume → Type 0
IsSet setting T folder path old new volume volume' = SetsAt setting T folder path old new volume volume' (Ok tt)

abbrev pub IsUnset : Setting → Types → ℕ → List ℕ → StoreState → StoreState → Volume → Volume → Type 0
IsUnset setting T folder path old new volume volume' = IsRefused (SetsAt setting T folder path old new volume volume') old new volume volume'
