-- What `cp` does with a folder before what is in it.
--     Climbs                         from a folder to the one in which it stands, so many times, up to another one or the top
--     IsBelow                        a folder is another one or stands below it, or not
--     CopiesFolder, LeavesFolder     the folder to which it is copied is there, or is made; or not
use Rattle.std.specs.Prelude.{◌≡◌, ◌≢◌, ◌⊎◌, ℕ, ◌+◌, Bool, false, true, List, [], ◌∷◌, None, Some, Result, Ok, Err}
use Rattle.xn_model.specs.Lives.{StoreState}
use Rattle.xn_model.specs.Types.{Types}
use Rattle.treefs_model.specs.declared.fault.Fault.{Fault}
use Rattle.tree_lines.specs.Values.{Attributes, Volume}
use Rattle.tree_lines.specs.declared.node.Node.{Node}
use Rattle.tree_lines.specs.declared.reason.Reason.{Reason}
use Rattle.tree_changes.specs.CopiedFiles.{IsReplaced}
use Rattle.tree_changes.specs.Copies.{HasRightsOf}
use Rattle.tree_changes.specs.Making.{MkdirIn}
use Rattle.tree_changes.specs.Paths.{IsSame}

-- Leads: where a path leads from a folder on; none on the way is the other one, or the top
pub data Climbs (Leads : ℕ → List ℕ → Bool → Result ℕ Reason → Type 0) (above folder : ℕ) : ℕ → ℕ → Type 0 where
  none : Climbs Leads above folder 0 folder
  up : {count number : ℕ} (parent : ℕ) → Climbs Leads above folder count number → number ≢ above → number ≢ 1 →
      Leads number (46 ∷ 46 ∷ []) true (Ok parent) → Climbs Leads above folder (count + 1) parent

-- more folders than can stand above one another are not climbed
abbrev pub IsBelow : (ℕ → List ℕ → Bool → Result ℕ Reason → Type 0) → ℕ → ℕ → Bool → Type 0
IsBelow Leads folder above true = (count : ℕ) × Climbs Leads above folder count above
IsBelow Leads folder above false = (count : ℕ) × (number : ℕ) × Climbs Leads above folder count number
    × (((number ≡ 1) × (number ≢ above)) ⊎ (count ≡ 262209296))

-- new: whether it was made
abbrev pub CopiesFolder : Types → ℕ → Node → ℕ → List ℕ → Bool → StoreState → StoreState → Volume → Volume → ℕ → Bool → Type 0
CopiesFolder T folder node directory name slash old new volume volume' number false = (other : Node)
    × IsReplaced old volume node directory name slash (Some other) × (number ≡ other.number) × IsSame old new volume volume'
CopiesFolder T folder node directory name slash old new volume volume' number true = (attributes : Attributes)
    × IsReplaced old volume node directory name slash None × HasRightsOf attributes node
    × MkdirIn T folder directory name attributes old new volume volume' (Ok number)

-- something is against it; or the call is refused
abbrev pub LeavesFolder : Types → ℕ → Node → ℕ → List ℕ → Bool → StoreState → StoreState → Volume → Volume → Type 0
LeavesFolder T folder node directory name slash old new volume volume' = IsSame old new volume volume'
    ⊎ ((attributes : Attributes) × (fault : Fault) × IsReplaced old volume node directory name slash None × HasRightsOf attributes node
    × MkdirIn T folder directory name attributes old new volume volume' (Err fault))
