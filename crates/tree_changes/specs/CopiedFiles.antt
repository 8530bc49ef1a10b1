-- What `cp` does with a file or a symbolic link that gets a name in a folder. most: how many bytes are copied at once.
--     time_kept                     the time that its copy gets, where times are kept
--     CopiesFirst, LeavesFirst      it is copied, and that is kept; or not
--     CopiesFile, LeavesFile        the same; or its copy, which was kept, gets one more name
--     IsReplaced                    what has the name, if something has, and can be replaced
--     copied_over                   what is copied: a single file gets the rights of the one whose place it takes
--     Replaces                      all that
--     CopiesOver, LeavesOver        it is copied in the place of what has the name, or not
use Rattle.std.specs.Prelude.{◌≡◌, ◌⊎◌, ℕ, ℤ, Bool, true, false, List, IsTrue, MatchOption, Option, None, Some, Result, Ok, Err}
use Rattle.xn_model.specs.Lives.{StoreState}
use Rattle.xn_model.specs.Types.{Types}
use Rattle.treefs_format.specs.declared.kind.Kind.{Kind}
use Rattle.treefs_format.specs.declared.kind.Kind.TheVariants.{Directory, File, SymbolicLink}
use Rattle.treefs_model.specs.declared.fault.Fault.{Fault}
use Rattle.tree_lines.specs.Values.{Volume}
use Rattle.tree_lines.specs.Places.{IsFolder}
use Rattle.tree_lines.specs.Trees.{IsThereIn}
use Rattle.tree_lines.specs.declared.node.Node.{Node}
use Rattle.tree_changes.specs.Copies.{Copies, IsUncopied}
use Rattle.tree_changes.specs.Files.{MtimeIfAny}
use Rattle.tree_changes.specs.KeptCopies.{ForgetsIfAny, Keeps, KeepsSame, LacksRoom, copy_kept, is_kept}
use Rattle.tree_changes.specs.MoreNames.{PutsName}
use Rattle.tree_changes.specs.Moving.{CanReplace}
use Rattle.tree_changes.specs.Paths.{IsRefused, IsSame}
use Rattle.tree_changes.specs.declared.copies.Copying.{Copying}

-- A name that it can have

abbrev pub time_kept : Bool → Node → Option ℤ
time_kept false node = None
time_kept true node = Some node.modified

abbrev pub CopiesFirst : Types → ℕ → ℕ → Copying → Copying → Node → ℕ → List ℕ → StoreState → StoreState → Volume → Volume → Result (Unit {0}) Fault → Type 0
CopiesFirst T folder most copying copying' node directory name old new volume volume' result =
    (number : ℕ) × (middle : StoreState) × (between : Volume) × Copies T folder most node directory name old middle volume between number
    × Keeps copying copying' node number × MtimeIfAny T folder number (time_kept copying.is_recursive node) middle new between volume' result

-- it is not copied; or it is, and there is no memory to keep that, or its time is refused
abbrev pub LeavesFirst : Types → ℕ → ℕ → Copying → Copying → Node → ℕ → List ℕ → StoreState → StoreState → Volume → Volume → Type 0
LeavesFirst T folder most copying copying' node directory name old new volume volume' =
    (IsUncopied T folder most node directory name old new volume volume' × KeepsSame copying copying')
    ⊎ (((number : ℕ) × Copies T folder most node directory name old new volume volume' number × (is_kept copying node ≡ true)
    × LacksRoom copying copying' node number)
    ⊎ ((fault : Fault) × CopiesFirst T folder most copying copying' node directory name old new volume volume' (Err fault)))

abbrev pub CopiesFile : Types → ℕ → ℕ → Copying → Copying → Node → ℕ → List ℕ → StoreState → StoreState → Volume → Volume → Type 0
CopiesFile T folder most copying copying' node directory name old new volume volume' = MatchOption (copy_kept copying node)
    (CopiesFirst T folder most copying copying' node directory name old new volume volume' (Ok tt))
    (λ number. PutsName T folder number directory name old new volume volume' (Ok tt) × KeepsSame copying copying')

abbrev pub LeavesFile : Types → ℕ → ℕ → Copying → Copying → Node → ℕ → List ℕ → StoreState → StoreState → Volume → Volume → Type 0
LeavesFile T folder most copying copying' node directory name old new volume volume' = MatchOption (copy_kept copying node)
    (LeavesFirst T folder most copying copying' node directory name old new volume volume')
    (λ number. IsRefused (PutsName T folder number directory name old new volume volume') old new volume volume' × KeepsSame copying copying')

-- In the place of what has the name

-- slash: whether one follows the name, as only a folder's may
abbrev pub IsReplaced : StoreState → Volume → Node → ℕ → List ℕ → Bool → Option Node → Type 0
IsReplaced state volume node directory name slash there =
    IsThereIn state volume directory name there × MatchOption there (IsTrue slash → IsFolder node) (CanReplace node)

abbrev pub with_rights_of : Node → Node → Node
with_rights_of node other = record node { permissions = other.permissions; uid = other.uid; gid = other.gid }

-- those of a symbolic link are none
abbrev pub with_rights_over : Kind → Node → Node → Node
with_rights_over SymbolicLink node other = node
with_rights_over Directory node other = with_rights_of node other
with_rights_over File node other = with_rights_of node other

-- recursive: whether folders are copied, and each file keeps its own
abbrev pub copied_over : Bool → Node → Option Node → Node
copied_over recursive node None = node
copied_over true node (Some other) = node
copied_over false node (Some other) = with_rights_over other.kind node other

-- where that is a copy it is forgotten
abbrev pub Replaces : Copying → Copying → StoreState → Volume → Node → ℕ → List ℕ → Bool → Node → Type 0
Replaces copying forgotten state volume node directory name slash copied =
    (there : Option Node) × IsReplaced state volume node directory name slash there × ForgetsIfAny copying forgotten there
    × (forgotten.is_recursive ≡ copying.is_recursive) × (copied ≡ copied_over copying.is_recursive node there)

abbrev pub CopiesOver : Types → ℕ → ℕ → Copying → Copying → Node → ℕ → List ℕ → Bool → StoreState → StoreState → Volume → Volume → Type 0
CopiesOver T folder most copying copying' node directory name slash old new volume volume' =
    (forgotten : Copying) × (copied : Node) × Replaces copying forgotten old volume node directory name slash copied
    × CopiesFile T folder most forgotten copying' copied directory name old new volume volume'

-- something is against it; or it is not copied
abbrev pub LeavesOver : Types → ℕ → ℕ → Copying → Copying → Node → ℕ → List ℕ → Bool → StoreState → StoreState → Volume → Volume → Type 0
LeavesOver T folder most copying copying' node directory name slash old new volume volume' =
    (IsSame old new volume volume' × KeepsSame copying copying')
    ⊎ ((forgotten : Copying) × (copied : Node) × Replaces copying forgotten old volume node directory name slash copied
    × LeavesFile T folder most forgotten copying' copied directory name old new volume volume')
