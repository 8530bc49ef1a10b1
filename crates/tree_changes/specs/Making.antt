-- What `mkdir` does.
--     MkdirIn, MkdirAt             the call `mkdir`, of a folder and a name; of a path
--     MakesFolder, IsUnmade        the folder is made, or not
--     IsFolderIn                   a path leads to a folder
--     HasFolder                    it does; or it leads nowhere, and the folder is made
--     is_front_end                 a slash of a path stands at an index, and not as its first byte
--     fronts_below, fronts         what stands before those below an index, and before all of them
--     HasFolders, LacksFolders     there are folders at all fronts of a path and at the path, one after another; or not at one of them
--     Makes, IsLeftUnmade          what is done with and without parents, or not
use Rattle.std.specs.Prelude.{◌⊎◌, ℕ, ◌==◌, nat_lt, Bool, false, true, ◌&&◌, List, [], ◌∷◌, ◌++◌, filter, length, map, slice_index, take}
use Rattle.std.specs.Prelude.{Result, Ok}
use Rattle.std.specs.List.{range_with_len}
use Rattle.xn_model.specs.Lives.{StoreState}
use Rattle.xn_model.specs.Types.{Types}
use Rattle.treefs_model.specs.declared.fault.Fault.{Fault}
use Rattle.tree_lines.specs.Creating.{MkdirDoes}
use Rattle.tree_lines.specs.Values.{Attributes, Volume}
use Rattle.tree_lines.specs.Freeing.{MakesFreely}
use Rattle.tree_lines.specs.Places.{IsFolder}
use Rattle.tree_lines.specs.Trees.{IsNodeIn, IsNowhereIn, IsPlaceIn}
use Rattle.tree_lines.specs.declared.node.Node.{Node}
use Rattle.tree_changes.specs.Folders.{IsNew}
use Rattle.tree_changes.specs.Paths.{DoesAll, IsRefused, IsSame, StopsAt}

-- At a path

abbrev pub MkdirIn : Types → ℕ → ℕ → List ℕ → Attributes → StoreState → StoreState → Volume → Volume → Result ℕ Fault → Type 0
MkdirIn T folder directory name attributes =
    MakesFreely (λ old new volume volume' result. MkdirDoes T old new volume volume' directory name attributes result) T (folder ∷ [])

-- with the permissions 0o755; a slash may stand behind the name
abbrev pub MkdirAt : Types → ℕ → List ℕ → StoreState → StoreState → Volume → Volume → Result ℕ Fault → Type 0
MkdirAt T folder path old new volume volume' result =
    (directory : ℕ) × (name : List ℕ) × (slash : Bool) × (attributes : Attributes) × IsPlaceIn old volume folder path directory name slash
    × IsNew attributes 493 × MkdirIn T folder directory name attributes old new volume volume' result

abbrev pub MakesFolder : Types → ℕ → List ℕ → StoreState → StoreState → Volume → Volume → Type 0
MakesFolder T folder path old new volume volume' = (number : ℕ) × MkdirAt T folder path old new volume volume' (Ok number)

abbrev pub IsUnmade : Types → ℕ → List ℕ → StoreState → StoreState → Volume → Volume → Type 0
IsUnmade T folder path old new volume volume' = IsRefused (MkdirAt T folder path old new volume volume') old new volume volume'

-- With parents

-- a symbolic link at the end is followed
abbrev pub IsFolderIn : StoreState → Volume → ℕ → List ℕ → Type 0
IsFolderIn state volume folder path = (node : Node) × IsNodeIn state volume folder path true node × IsFolder node

abbrev pub HasFolder : Types → ℕ → List ℕ → StoreState → StoreState → Volume → Volume → Type 0
HasFolder T folder path old new volume volume' =
    (IsFolderIn old volume folder path × IsSame old new volume volume')
    ⊎ (IsNowhereIn old volume folder path × MakesFolder T folder path old new volume volume')

-- 47 is a slash
abbrev pub is_front_end : List ℕ → ℕ → Bool
is_front_end path end = (slice_index path end == 47) && nat_lt 0 end

abbrev pub fronts_below : List ℕ → ℕ → List (List ℕ)
fronts_below path end = map (λ n. take n path) (filter (is_front_end path) (range_with_len 0 end))

abbrev pub fronts : List ℕ → List (List ℕ)
fronts path = fronts_below path (length path)

abbrev pub HasFolders : Types → ℕ → List ℕ → StoreState → StoreState → Volume → Volume → Type 0
HasFolders T folder path = DoesAll (HasFolder T folder) (fronts path ++ path ∷ [])

abbrev pub LacksFolders : Types → ℕ → List ℕ → StoreState → StoreState → Volume → Volume → Type 0
LacksFolders T folder path = StopsAt (HasFolder T folder) (IsUnmade T folder) (fronts path ++ path ∷ [])

-- Both

-- parents: whether folders above that are not there are made, too
abbrev pub Makes : Bool → Types → ℕ → List ℕ → StoreState → StoreState → Volume → Volume → Type 0
Makes false = MakesFolder
Makes true = HasFolders

abbrev pub IsLeftUnmade : Bool → Types → ℕ → List ℕ → StoreState → StoreState → Volume → Volume → Type 0
IsLeftUnmade false = IsUnmade
IsLeftUnmade true = LacksFolders
