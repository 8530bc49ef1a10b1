-- What `rmdir` does at a path.
--     IsNew                            what is said of something new
--     RmdirIn, RmdirAt                 the call `rmdir`, of a folder and a name; of a path
--     GivesUpFolder, IsFolderKept      the empty folder is given up, or not
use Rattle.std.specs.Prelude.{◌≡◌, ℕ, Bool, List, [], ◌∷◌, Result, Ok}
use Rattle.xn_model.specs.Lives.{StoreState}
use Rattle.xn_model.specs.Types.{Types}
use Rattle.treefs_model.specs.declared.fault.Fault.{Fault}
use Rattle.tree_lines.specs.Unlinking.{RmdirDoes}
use Rattle.tree_lines.specs.Values.{Attributes, Volume}
use Rattle.tree_lines.specs.Freeing.{MakesFreely}
use Rattle.tree_lines.specs.Trees.{IsPlaceIn}
use Rattle.tree_changes.specs.Paths.{IsRefused}

-- it belongs to user and group 0; what tells it from an earlier inode of its number is not said
abbrev pub IsNew : Attributes → ℕ → Type 0
IsNew attributes permissions = (attributes.permissions ≡ permissions) × (attributes.uid ≡ 0) × (attributes.gid ≡ 0)

abbrev pub RmdirIn : Types → ℕ → ℕ → List ℕ → StoreState → StoreState → Volume → Volume → Result (Unit {0}) Fault → Type 0
RmdirIn T folder directory name =
    MakesFreely (λ old new volume volume' result. RmdirDoes T old new volume volume' directory name result) T (folder ∷ [])

abbrev pub RmdirAt : Types → ℕ → List ℕ → StoreState → StoreState → Volume → Volume → Result (Unit {0}) Fault → Type 0
RmdirAt T folder path old new volume volume' result =
    (directory : ℕ) × (name : List ℕ) × (slash : Bool) × IsPlaceIn old volume folder path directory name slash
    × RmdirIn T folder directory name old new volume volume' result

abbrev pub GivesUpFolder : Types → ℕ → List ℕ → StoreState → StoreState → Volume → Volume → Type 0
GivesUpFolder T folder path old new volume volume' = RmdirAt T folder path old new volume volume' (Ok tt)

abbrev pub IsFolderKept : Types → ℕ → List ℕ → StoreState → StoreState → Volume → Volume → Type 0
IsFolderKept T folder path old new volume volume' = IsRefused (RmdirAt T folder path old new volume volume') old new volume volume'
