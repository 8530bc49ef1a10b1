-- What `cp -r` does along some paths, in their order, each in the volume that the one before left, with what is kept of the copies before.
--     IsSource                     what stands at a path, and the folder and the name that its copy gets
--     CopiesNode, LeavesNode       a folder is copied with all below it, anything else alone; or not
--     CopiesAllAt, LeavesAllAt     the same, of what stands at a path
--     StopsAllAt                   the line ends below the folder that stands there
--     CopiesAlong                  that is done of some paths; those that are left out are told
--     StopsAlong                    at one of them the word ends
--     HasNothing                   nothing is kept of copies yet
--     CopiesTrees                  all that
use Rattle.std.specs.Prelude.{◌≡◌, ◌⊎◌, ℕ, Bool, false, true, List, [], ◌∷◌, ◌++◌, IsErr, MatchResult, Result, Ok}
use Rattle.xn_model.specs.Lives.{StoreState}
use Rattle.xn_model.specs.Types.{Types}
use Rattle.tree_lines.specs.Values.{Volume}
use Rattle.tree_lines.specs.Places.{IsFolder, IsOwnName}
use Rattle.tree_lines.specs.Telling.{EndsLine, Tells}
use Rattle.tree_lines.specs.Trees.{GoesIn, IsNodeIn}
use Rattle.tree_lines.specs.declared.fault.Fault.{Fault as LineFault}
use Rattle.tree_lines.specs.declared.node.Node.{Node}
use Rattle.tree_lines.specs.declared.told.Told.{Told}
use Rattle.tree_changes.specs.CopiedFiles.{CopiesOver, LeavesOver}
use Rattle.tree_changes.specs.CopiedTrees.{CopiesTree, LeavesTree, StopsTree}
use Rattle.tree_changes.specs.Paths.{IsSame}
use Rattle.tree_changes.specs.declared.copies.Copying.{Copying}

-- goal: the path to which it goes; several: whether several things go there; a symbolic link at the end of its path is not followed
abbrev pub IsSource : StoreState → Volume → ℕ → List ℕ → Bool → List ℕ → Node → ℕ → List ℕ → Bool → Type 0
IsSource state volume folder goal several path node directory name slash = (own : List ℕ) × IsNodeIn state volume folder path false node
    × IsOwnName path own × GoesIn state volume folder goal several own directory name slash

abbrev pub CopiesNode : Types → ℕ → ℕ → List ℕ → Node → ℕ → List ℕ → Bool → Told → Told → Copying → Copying → StoreState → StoreState → Volume → Volume
    → Type 0
CopiesNode T folder most path node directory name slash told told' copying copying' old new volume volume' =
    ((¬ IsFolder node) × CopiesOver T folder most copying copying' node directory name slash old new volume volume' × (told' ≡ told)
    × (copying'.is_recursive ≡ copying.is_recursive))
    ⊎ (IsFolder node × CopiesTree T folder most path node directory name slash told told' copying copying' old new volume volume' (Ok tt))

abbrev pub LeavesNode : Types → ℕ → ℕ → List ℕ → Node → ℕ → List ℕ → Bool → Told → Told → Copying → Copying → StoreState → StoreState → Volume → Volume
    → Type 0
LeavesNode T folder most path node directory name slash told told' copying copying' old new volume volume' =
    ((¬ IsFolder node) × LeavesOver T folder most copying copying' node directory name slash old new volume volume' × (told' ≡ told)
    × (copying'.is_recursive ≡ copying.is_recursive))
    ⊎ (IsFolder node × LeavesTree T folder most path node directory name slash told told' copying copying' old new volume volume')

-- most: how many bytes are copied at once
abbrev pub CopiesAllAt : Types → ℕ → ℕ → List ℕ → Bool → List ℕ → Told → Told → Copying → Copying → StoreState → StoreState → Volume → Volume → Type 0
CopiesAllAt T folder most goal several path told told' copying copying' old new volume volume' =
    (node : Node) × (directory : ℕ) × (name : List ℕ) × (slash : Bool) × IsSource old volume folder goal several path node directory name slash
    × CopiesNode T folder most path node directory name slash told told' copying copying' old new volume volume'

-- the path leads nowhere, or nothing can be copied from there to the other; or that is not done, or not whole
abbrev pub LeavesAllAt : Types → ℕ → ℕ → List ℕ → Bool → List ℕ → Told → Told → Copying → Copying → StoreState → StoreState → Volume → Volume → Type 0
LeavesAllAt T folder most goal several path told told' copying copying' old new volume volume' =
    (IsSame old new volume volume' × (told' ≡ told) × (copying' ≡ copying))
    ⊎ ((node : Node) × (directory : ℕ) × (name : List ℕ) × (slash : Bool) × IsSource old volume folder goal several path node directory name slash
    × LeavesNode T folder most path node directory name slash told told' copying copying' old new volume volume')

abbrev pub StopsAllAt : Types → ℕ → ℕ → List ℕ → Bool → List ℕ → Told → Copying → StoreState → StoreState → Volume → Volume → Type 0
StopsAllAt T folder most goal several path told copying old new volume volume' =
    (node : Node) × (directory : ℕ) × (name : List ℕ) × (slash : Bool) × IsSource old volume folder goal several path node directory name slash
    × IsFolder node × StopsTree T folder most path node directory name slash told copying old new volume volume'

-- Some paths

pub data CopiesAlong (T : Types) (folder most : ℕ) (goal : List ℕ) (several : Bool) (told : Told) (copying : Copying) (old : StoreState) (volume : Volume)
    : List (List ℕ) → Told → Copying → StoreState → Volume → Type 0 where
  none : CopiesAlong T folder most goal several told copying old volume [] told copying old volume
  copies : {paths : List (List ℕ)} {path : List ℕ} {told' : Told} {copying' : Copying} {new : StoreState} {volume' : Volume}
      (told1 : Told) (copying1 : Copying) (middle : StoreState) (between : Volume) →
      CopiesAlong T folder most goal several told copying old volume paths told1 copying1 middle between →
      CopiesAllAt T folder most goal several path told1 told' copying1 copying' middle new between volume' →
      CopiesAlong T folder most goal several told copying old volume (paths ++ path ∷ []) told' copying' new volume'
  leaves : {paths : List (List ℕ)} {path : List ℕ} {told' : Told} {copying' : Copying} {new : StoreState} {volume' : Volume}
      (told1 told2 : Told) (copying1 : Copying) (middle : StoreState) (between : Volume) (fault : LineFault) →
      CopiesAlong T folder most goal several told copying old volume paths told1 copying1 middle between →
      LeavesAllAt T folder most goal several path told1 told2 copying1 copying' middle new between volume' → (¬ EndsLine fault) → Tells told2 told' fault →
      CopiesAlong T folder most goal several told copying old volume (paths ++ path ∷ []) told' copying' new volume'

-- the goal is not found, or what stands at the path is not copied, and the word ends there; or it ends below the folder that stands there
abbrev pub StopsAlong : Types → ℕ → ℕ → List ℕ → Bool → List (List ℕ) → Told → Copying → StoreState → StoreState → Volume → Volume → Type 0
StopsAlong T folder most goal several paths told copying old new volume volume' =
    (before : List (List ℕ)) × (path : List ℕ) × (behind : List (List ℕ)) × (told1 : Told) × (copying1 : Copying) × (middle : StoreState)
    × (between : Volume) × (paths ≡ before ++ path ∷ behind)
    × CopiesAlong T folder most goal several told copying old volume before told1 copying1 middle between
    × (((told' : Told) × (copying' : Copying)
    × LeavesAllAt T folder most goal several path told1 told' copying1 copying' middle new between volume')
    ⊎ StopsAllAt T folder most goal several path told1 copying1 middle new between volume')

abbrev pub HasNothing : Copying → Type 0
HasNothing copying = (copying.copied.entries ≡ []) × (copying.sources.entries ≡ []) × (copying.is_recursive ≡ true)

-- 262,144 bytes are copied at once; or there is no memory to begin
abbrev pub CopiesTrees : {E : Type 0} → Types → ℕ → List ℕ → Bool → List (List ℕ) → Told → Told → StoreState → StoreState → Volume → Volume
    → Result (Unit {0}) E → Type 0
CopiesTrees T folder goal several paths told told' old new volume volume' result =
    (IsErr result × IsSame old new volume volume' × (told' ≡ told))
    ⊎ ((copying : Copying) × HasNothing copying × MatchResult result
    (λ done. (copying' : Copying) × CopiesAlong T folder 262144 goal several told copying old volume paths told' copying' new volume')
    (λ fault. StopsAlong T folder 262144 goal several paths told copying old new volume volume'))
