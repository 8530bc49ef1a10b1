-- Where paths of a line lead in a volume, by what is seen of it.
--     IsFolder          a node is a folder
--     IsFoundNode       what stands where a path leads
--     LeadsNowhere      nothing stands where a path leads
--     IsPlace           what stands before the last name of a path leads to the folder
--     StopsBefore       that leads nowhere
--     IsThere           what a name in a folder leads to, if there is such a name
--     IsInto, IsTo      something that is to be at a path goes into the folder that is there; no folder is, and it goes to that place
--     IsGoal            the one or the other
--     GoesTo            the folder and the name that something gets there, which has a name of its own
--     IsOwnName         the last name of a path, where something can have it
--     IsLastName        the last name of a path; of one of slashes alone the path
use Rattle.std.specs.Prelude.{◌≡◌, ◌≢◌, ◌⊎◌, ℕ, ◌==◌, ◌<◌, not, Bool, false, true, List, [], ◌∷◌, length, MatchOption, Option, Result, Ok, Err}
use Rattle.treefs_format.specs.declared.kind.Kind.TheVariants.{Directory}
use Rattle.treefs_paths.specs.Components.{IsParted}
use Rattle.tree_lines.specs.declared.node.Node.{Node}
use Rattle.tree_lines.specs.declared.paths.Goal.{Goal}
use Rattle.tree_lines.specs.declared.paths.Goal.TheVariants.{Into, To}
use Rattle.tree_lines.specs.declared.reason.Reason.{Reason}
use Rattle.tree_lines.specs.declared.reason.Reason.TheVariants.{Missing}

abbrev pub IsFolder : Node → Type 0
IsFolder node = node.kind ≡ Directory

-- Leads: where a path leads from a folder on, a symbolic link at its end followed or not; Shows: what stands at a number
abbrev pub IsFoundNode : (ℕ → List ℕ → Bool → Result ℕ Reason → Type 0) → (ℕ → Result Node Reason → Type 0) → ℕ → List ℕ → Bool → Node
    → Type 0
IsFoundNode Leads Shows folder path last node = (number : ℕ) × Leads folder path last (Ok number) × Shows number (Ok node)

-- slash: whether one follows the name
pub record IsPlace (Leads : ℕ → List ℕ → Bool → Result ℕ Reason → Type 0) (folder : ℕ) (path : List ℕ) (directory : ℕ) (name : List ℕ) (slash : Bool)
    : Type 0 where
  pub before : List ℕ
  pub behind : List ℕ
  pub parted : IsParted path before name behind
  pub some : 0 < length name
  pub leads : Leads folder before true (Ok directory)
  pub slashes : slash ≡ not (length behind == 0)

-- what stands before the last name of a path leads nowhere, and why
abbrev pub StopsBefore : (ℕ → List ℕ → Bool → Result ℕ Reason → Type 0) → ℕ → List ℕ → Reason → Type 0
StopsBefore Leads folder path reason = (before : List ℕ) × (name : List ℕ) × (behind : List ℕ) × IsParted path before name behind × (0 < length name)
    × Leads folder before true (Err reason)

-- Names: the number to which a name in a folder leads
abbrev pub IsThere : (ℕ → List ℕ → Result ℕ Reason → Type 0) → (ℕ → Result Node Reason → Type 0) → ℕ → List ℕ → Option Node → Type 0
IsThere Names Shows folder name there = MatchOption there (Names folder name (Err Missing))
    (λ node. (number : ℕ) × Names folder name (Ok number) × Shows number (Ok node))

abbrev pub IsInto : (ℕ → List ℕ → Bool → Result ℕ Reason → Type 0) → (ℕ → Result Node Reason → Type 0) → ℕ → List ℕ → ℕ → Type 0
IsInto Leads Shows folder path directory = (node : Node) × IsFoundNode Leads Shows folder path true node × IsFolder node × (directory ≡ node.number)

abbrev pub LeadsNowhere : (ℕ → List ℕ → Bool → Result ℕ Reason → Type 0) → (ℕ → Result Node Reason → Type 0) → ℕ → List ℕ → Type 0
LeadsNowhere Leads Shows folder path =
    Leads folder path true (Err Missing) ⊎ ((number : ℕ) × Leads folder path true (Ok number) × Shows number (Err Missing))

-- what stands there is none; or nothing does
abbrev pub HasNoFolder : (ℕ → List ℕ → Bool → Result ℕ Reason → Type 0) → (ℕ → Result Node Reason → Type 0) → ℕ → List ℕ → Type 0
HasNoFolder Leads Shows folder path =
    ((node : Node) × IsFoundNode Leads Shows folder path true node × ¬ IsFolder node)
    ⊎ LeadsNowhere Leads Shows folder path

abbrev pub IsTo : (ℕ → List ℕ → Bool → Result ℕ Reason → Type 0) → (ℕ → Result Node Reason → Type 0) → ℕ → List ℕ → ℕ → List ℕ → Bool → Type 0
IsTo Leads Shows folder path directory name slash = HasNoFolder Leads Shows folder path × IsPlace Leads folder path directory name slash

-- several: whether several things go there, so that it has to be a folder
abbrev pub IsGoal : (ℕ → List ℕ → Bool → Result ℕ Reason → Type 0) → (ℕ → Result Node Reason → Type 0) → ℕ → List ℕ → Bool → Goal → Type 0
IsGoal Leads Shows folder path several (Into directory) = IsInto Leads Shows folder path directory
IsGoal Leads Shows folder path several (To place) = (several ≡ false) × IsTo Leads Shows folder path place.folder place.name.now place.has_slash

abbrev pub goal_folder : Goal → ℕ
goal_folder (Into directory) = directory
goal_folder (To place) = place.folder

abbrev pub goal_name : Goal → List ℕ → List ℕ
goal_name (Into directory) own = own
goal_name (To place) own = place.name.now

abbrev pub goal_slash : Goal → Bool
goal_slash (Into directory) = false
goal_slash (To place) = place.has_slash

abbrev pub GoesTo : (ℕ → List ℕ → Bool → Result ℕ Reason → Type 0) → (ℕ → Result Node Reason → Type 0) → ℕ → List ℕ → Bool → List ℕ → ℕ → List ℕ → Bool
    → Type 0
GoesTo Leads Shows folder path several own directory name slash =
    (IsInto Leads Shows folder path directory × (name ≡ own) × (slash ≡ false))
    ⊎ ((several ≡ false) × IsTo Leads Shows folder path directory name slash)

-- not `.` and not `..`
pub record IsOwnName (path name : List ℕ) : Type 0 where
  pub before : List ℕ
  pub behind : List ℕ
  pub parted : IsParted path before name behind
  pub some : 0 < length name
  pub no_dot : name ≢ 46 ∷ []
  pub no_dots : name ≢ 46 ∷ 46 ∷ []

abbrev pub IsLastName : List ℕ → List ℕ → Type 0
IsLastName path name = ((before : List ℕ) × (behind : List ℕ) × IsParted path before name behind × (0 < length name))
    ⊎ ((before : List ℕ) × (behind : List ℕ) × IsParted path before [] behind × (name ≡ path))
