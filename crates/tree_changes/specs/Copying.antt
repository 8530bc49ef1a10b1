-- What `cp` does where it is not to copy folders.
--     IsCopied                 what is copied of a path, and the folder and the name that it gets
--     CopiesAt, IsLeftAt       it is copied, or not
--     CopiesPaths              that is done of some paths; or there is no memory to begin
use Rattle.std.specs.Prelude.{◌≡◌, ◌⊎◌, ℕ, Bool, false, true, List, IsErr, Option, Result}
use Rattle.xn_model.specs.Lives.{StoreState}
use Rattle.xn_model.specs.Types.{Types}
use Rattle.tree_lines.specs.Values.{Volume}
use Rattle.tree_lines.specs.Places.{IsFolder, IsOwnName}
use Rattle.tree_lines.specs.Trees.{GoesIn, IsNodeIn}
use Rattle.tree_lines.specs.declared.node.Node.{Node}
use Rattle.tree_lines.specs.declared.told.Told.{Told}
use Rattle.tree_changes.specs.CopiedFiles.{IsReplaced, copied_over}
use Rattle.tree_changes.specs.Copies.{Copies, IsUncopied}
use Rattle.tree_changes.specs.Paths.{DoesPaths, IsSame}

-- goal: the path to which it goes; several: whether several things go there; a symbolic link at the end of its path is followed
abbrev pub IsCopied : StoreState → Volume → ℕ → List ℕ → Bool → List ℕ → Node → ℕ → List ℕ → Type 0
IsCopied state volume folder goal several path copied directory name =
    (node : Node) × (own : List ℕ) × (slash : Bool) × (there : Option Node) × IsNodeIn state volume folder path true node × ¬ IsFolder node
    × IsOwnName path own × GoesIn state volume folder goal several own directory name slash
    × IsReplaced state volume node directory name slash there × (copied ≡ copied_over false node there)

-- most: how many bytes are copied at once
abbrev pub CopiesAt : ℕ → Types → ℕ → List ℕ → Bool → List ℕ → StoreState → StoreState → Volume → Volume → Type 0
CopiesAt most T folder goal several path old new volume volume' =
    (node : Node) × (directory : ℕ) × (name : List ℕ) × (number : ℕ) × IsCopied old volume folder goal several path node directory name
    × Copies T folder most node directory name old new volume volume' number

-- nothing was changed; or what was begun of the copy is given up
abbrev pub IsLeftAt : ℕ → Types → ℕ → List ℕ → Bool → List ℕ → StoreState → StoreState → Volume → Volume → Type 0
IsLeftAt most T folder goal several path old new volume volume' = IsSame old new volume volume'
    ⊎ ((node : Node) × (directory : ℕ) × (name : List ℕ) × IsCopied old volume folder goal several path node directory name
    × IsUncopied T folder most node directory name old new volume volume')

-- 262,144 bytes are copied at once
abbrev pub CopiesPaths : {E : Type 0} → Types → ℕ → List ℕ → Bool → List (List ℕ) → Told → Told → StoreState → StoreState → Volume → Volume
    → Result (Unit {0}) E → Type 0
CopiesPaths T folder goal several paths told told' old new volume volume' result =
    (IsErr result × IsSame old new volume volume' × (told' ≡ told))
    ⊎ DoesPaths (CopiesAt 262144 T folder goal several) (IsLeftAt 262144 T folder goal several) paths told told' old new volume volume' result
