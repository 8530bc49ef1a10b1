-- What `mv` does.
--     RenameIn               the call `rename`, of folders and names
--     IsMoved                what stands at a path, by the folder and the name that it has there, and its name where it goes into a folder
--     CanReplace             what is moved can take the place of another node
--     MayGet                 it can get a name
--     HasGoal                where it goes
--     HasBoth                a file has the name already, and the other one, too
--     MovesTo, MovesAt       what is moved gets the name, or loses the other one; at a path
--     Moves, IsUnmoved       that is done, or not
use Rattle.std.specs.Prelude.{◌≡◌, ◌≢◌, ◌⊎◌, ℕ, Bool, List, [], ◌∷◌, IsTrue, None, Some, Result, Ok}
use Rattle.xn_model.specs.Lives.{StoreState}
use Rattle.xn_model.specs.Types.{Types}
use Rattle.treefs_model.specs.declared.fault.Fault.{Fault}
use Rattle.tree_lines.specs.Renaming.{RenameDoes}
use Rattle.tree_lines.specs.Values.{Volume}
use Rattle.tree_lines.specs.Freeing.{MakesFreely}
use Rattle.tree_lines.specs.Looks.{FindsPath, node_seen}
use Rattle.tree_lines.specs.Places.{IsFolder, IsGoal, IsOwnName}
use Rattle.tree_lines.specs.Trees.{GoesIn, IsPlaceIn, IsThereIn}
use Rattle.tree_lines.specs.declared.node.Node.{Node}
use Rattle.tree_lines.specs.declared.paths.Goal.{Goal}
use Rattle.tree_changes.specs.Paths.{IsRefused}
use Rattle.tree_changes.specs.Removing.{UnlinkIn}

abbrev pub RenameIn : Types → ℕ → ℕ → List ℕ → ℕ → List ℕ → StoreState → StoreState → Volume → Volume → Result (Unit {0}) Fault → Type 0
RenameIn T folder directory name to last =
    MakesFreely (λ old new volume volume' result. RenameDoes T old new volume volume' directory name to last result) T (folder ∷ [])

-- a slash follows the name of a folder alone
abbrev pub IsMoved : StoreState → Volume → ℕ → List ℕ → Node → ℕ → List ℕ → List ℕ → Type 0
IsMoved state volume folder path node directory name own =
    (slash : Bool) × IsPlaceIn state volume folder path directory name slash × IsThereIn state volume directory name (Some node)
    × (IsTrue slash → IsFolder node) × IsOwnName path own

-- a file that of another file, a folder that of another folder
abbrev pub CanReplace : Node → Node → Type 0
CanReplace node other = (node.number ≢ other.number) × (IsFolder node → IsFolder other) × (IsFolder other → IsFolder node)

-- nothing has it, and a slash follows it for a folder alone; or what has it can be replaced
abbrev pub MayGet : StoreState → Volume → Node → ℕ → List ℕ → Bool → Type 0
MayGet state volume node directory name slash =
    (IsThereIn state volume directory name None × (IsTrue slash → IsFolder node))
    ⊎ ((other : Node) × IsThereIn state volume directory name (Some other) × CanReplace node other)

-- several: whether several things go there
abbrev pub HasGoal : StoreState → Volume → ℕ → List ℕ → Bool → Goal → Type 0
HasGoal state volume = IsGoal (FindsPath state volume) (λ number result. result ≡ node_seen state volume number)

abbrev pub HasBoth : StoreState → Volume → Node → ℕ → List ℕ → ℕ → List ℕ → Type 0
HasBoth state volume node directory name to last =
    ¬ IsFolder node × ¬ ((directory ≡ to) × (name ≡ last))
    × ((other : Node) × IsThereIn state volume to last (Some other) × (other.number ≡ node.number))

abbrev pub MovesTo : Types → ℕ → Node → ℕ → List ℕ → ℕ → List ℕ → Bool → StoreState → StoreState → Volume → Volume → Result (Unit {0}) Fault → Type 0
MovesTo T folder node directory name to last slash old new volume volume' result =
    (HasBoth old volume node directory name to last × UnlinkIn T folder directory name old new volume volume' result)
    ⊎ (MayGet old volume node to last slash × RenameIn T folder directory name to last old new volume volume' result)

-- goal: the path to which it goes
abbrev pub MovesAt : Types → ℕ → List ℕ → Bool → List ℕ → StoreState → StoreState → Volume → Volume → Result (Unit {0}) Fault → Type 0
MovesAt T folder goal several path old new volume volume' result =
    (node : Node) × (directory : ℕ) × (name : List ℕ) × (own : List ℕ) × (to : ℕ) × (last : List ℕ) × (slash : Bool)
    × IsMoved old volume folder path node directory name own × GoesIn old volume folder goal several own to last slash
    × MovesTo T folder node directory name to last slash old new volume volume' result

abbrev pub Moves : Types → ℕ → List ℕ → Bool → List ℕ → StoreState → StoreState → Volume → Volume → Type 0
Moves T folder goal several path old new volume volume' = MovesAt T folder goal several path old new volume volume' (Ok tt)

abbrev pub IsUnmoved : Types → ℕ → List ℕ → Bool → List ℕ → StoreState → StoreState → Volume → Volume → Type 0
IsUnmoved T folder goal several path old new volume volume' = IsRefused (MovesAt T folder goal several path old new volume volume') old new volume volume'
