-- What `cp -r` does with a folder and all below it, name by name, each in the volume that the one before left. most: how many bytes are copied at once.
--     IsDoneOrTold                  something was done; or it had a fault, which is told
--     into_of, inner_of             the folder into which is copied what is met; none where it could not be made
--     GivesTime                     a folder that was made for a copy gets the time of its node
--     GoesInto                      a folder that is met is gone into where its copy is there; or what is in it is left out
--     CopiesOtherMet                a file or a symbolic link that is met is copied, or told
--     CopiesFolderMet               the folder to which one that is met is copied is there, or it is told
--     CopiesMet, StopsMet           what is done of a name that is met; or what is so where the line ends there
--     CopiesLeft, StopsLeft         the same, of a folder that is left
--     CopiesVisited, StopsVisited   the same, of what a walk comes to
--     CopiesThrough                 a walk comes to something, of which that is done, so often
--     CopiesWhole, CopiesPart       until it is at its end; or up to a fault that ends the line
--     CopiesBelow                   all below a folder is copied, and then its copy gets its time
--     CopiesTree                    the same, once the folder itself is copied, which is not copied into itself
--     LeavesTree, StopsTree         it is not; or the line ends below it
use Rattle.std.specs.Prelude.{◌≡◌, ◌⊎◌, ℕ, ◌+◌, ◌-◌, Bool, false, List, [], ◌∷◌, ◌++◌, length, take, slice_get, Option, None, Some, Result, Ok, Err}
use Rattle.xn_model.specs.Lives.{StoreState}
use Rattle.xn_model.specs.Types.{Types}
use Rattle.treefs_model.specs.declared.fault.Fault.{Fault}
use Rattle.tree_lines.specs.Values.{Volume}
use Rattle.tree_lines.specs.Looks.{FindsPath}
use Rattle.tree_lines.specs.Places.{IsFolder}
use Rattle.tree_lines.specs.Telling.{EndsLine, Tells}
use Rattle.tree_lines.specs.Trees.{ComesIn}
use Rattle.tree_lines.specs.Walks.{IsUnseen, Met, Outcome, PassesOver, Progress, begun, without}
use Rattle.tree_lines.specs.Walks.Outcome.{Ends, Leaves, Meets, Unseen}
use Rattle.tree_lines.specs.declared.fault.Fault.{Fault as LineFault}
use Rattle.tree_lines.specs.declared.node.Node.{Node}
use Rattle.tree_lines.specs.declared.told.Told.{Told}
use Rattle.tree_changes.specs.Below.{HasEnded, TellsIfAny}
use Rattle.tree_changes.specs.CopiedFiles.{CopiesOver, LeavesOver, time_kept}
use Rattle.tree_changes.specs.CopiedFolders.{CopiesFolder, IsBelow, LeavesFolder}
use Rattle.tree_changes.specs.Files.{MtimeIfAny}
use Rattle.tree_changes.specs.Paths.{IsSame}
use Rattle.tree_changes.specs.declared.copies.Copying.{Copying}
use Rattle.tree_changes.specs.declared.copying.Into.{Into}

-- Done, Left: what is so where it was done, and where it wasn't; a fault that is told is none that ends the line
abbrev pub IsDoneOrTold : (Done Left : Type 0) → Told → Told → Type 0
IsDoneOrTold Done Left told told' = (Done × (told' ≡ told)) ⊎ ((fault : LineFault) × Left × (¬ EndsLine fault) × Tells told told' fault)

-- Folders: those to which are copied the ones in which a walk is, the innermost last

abbrev pub into_of : Option (Option Into) → Option Into
into_of None = None
into_of (Some into) = into

abbrev pub inner_of : List (Option Into) → Option Into
inner_of folders = into_of (slice_get folders (length folders - 1))

-- one that was there already keeps its own
abbrev pub GivesTime : Types → ℕ → Node → Option Into → StoreState → StoreState → Volume → Volume → Result (Unit {0}) Fault → Type 0
GivesTime T folder node None old new volume volume' result = IsSame old new volume volume' × (result ≡ Ok tt)
GivesTime T folder node (Some into) old new volume volume' result =
    MtimeIfAny T folder into.number (time_kept into.is_new node) old new volume volume' result

-- A name that is met

abbrev pub GoesInto : Option Into → Progress → Progress → Type 0
GoesInto None far far' = PassesOver far far'
GoesInto (Some into) far far' = far' ≡ far

abbrev pub CopiesOtherMet : Types → ℕ → ℕ → Met → ℕ → Told → Told → Copying → Copying → StoreState → StoreState → Volume → Volume → Type 0
CopiesOtherMet T folder most met directory told told' copying copying' old new volume volume' =
    IsDoneOrTold (CopiesOver T folder most copying copying' met.node directory met.name false old new volume volume')
    (LeavesOver T folder most copying copying' met.node directory met.name false old new volume volume') told told'
    × (copying'.is_recursive ≡ copying.is_recursive)

-- slash: whether one follows the name
abbrev pub CopiesFolderMet : Types → ℕ → Node → ℕ → List ℕ → Bool → Option Into → Told → Told → StoreState → StoreState → Volume → Volume → Type 0
CopiesFolderMet T folder node directory name slash None told told' old new volume volume' =
    (fault : LineFault) × LeavesFolder T folder node directory name slash old new volume volume' × (¬ EndsLine fault) × Tells told told' fault
CopiesFolderMet T folder node directory name slash (Some into) told told' old new volume volume' =
    CopiesFolder T folder node directory name slash old new volume volume' into.number into.is_new × (told' ≡ told)

-- inner: the folder into which it is copied; where that could not be made nothing is done
abbrev pub CopiesMet : Types → ℕ → ℕ → Met → Option Into → Progress → Progress → Told → Told → List (Option Into) → List (Option Into) → Copying → Copying
    → StoreState → StoreState → Volume → Volume → Type 0
CopiesMet T folder most met None far far' told told' folders folders' copying copying' old new volume volume' =
    IsSame old new volume volume' × (far' ≡ far) × (told' ≡ told) × (folders' ≡ folders) × (copying' ≡ copying)
CopiesMet T folder most met (Some inner) far far' told told' folders folders' copying copying' old new volume volume' =
    ((¬ IsFolder met.node) × CopiesOtherMet T folder most met inner.number told told' copying copying' old new volume volume' × (far' ≡ far)
    × (folders' ≡ folders))
    ⊎ (IsFolder met.node × (into : Option Into) × CopiesFolderMet T folder met.node inner.number met.name false into told told' old new volume volume'
    × GoesInto into far far' × (folders' ≡ folders ++ into ∷ []) × (copying' ≡ copying))

-- it is not copied; or a folder is, and there is no memory to go into it
abbrev pub StopsMet : Types → ℕ → ℕ → Met → Option Into → Copying → StoreState → StoreState → Volume → Volume → Type 0
StopsMet T folder most met None copying old new volume volume' = ⊥
StopsMet T folder most met (Some inner) copying old new volume volume' =
    ((¬ IsFolder met.node) × (copying' : Copying)
    × LeavesOver T folder most copying copying' met.node inner.number met.name false old new volume volume')
    ⊎ (IsFolder met.node × (LeavesFolder T folder met.node inner.number met.name false old new volume volume'
    ⊎ ((into : Into) × CopiesFolder T folder met.node inner.number met.name false old new volume volume' into.number into.is_new)))

-- A folder that is left

abbrev pub CopiesLeft : Types → ℕ → Met → Progress → Progress → Told → Told → List (Option Into) → List (Option Into) → Copying → Copying
    → StoreState → StoreState → Volume → Volume → Type 0
CopiesLeft T folder met far far' told told' folders folders' copying copying' old new volume volume' =
    TellsIfAny (GivesTime T folder met.node (inner_of folders) old new volume volume') told told' × (far' ≡ far)
    × (folders' ≡ take (length folders - 1) folders) × (copying' ≡ copying)

abbrev pub StopsLeft : Types → ℕ → Met → List (Option Into) → StoreState → StoreState → Volume → Volume → Type 0
StopsLeft T folder met folders old new volume volume' = (fault : Fault) × GivesTime T folder met.node (inner_of folders) old new volume volume' (Err fault)

-- What a walk comes to

abbrev pub CopiesVisited : Types → ℕ → ℕ → Outcome → Progress → Progress → Told → Told → List (Option Into) → List (Option Into) → Copying → Copying
    → StoreState → StoreState → Volume → Volume → Type 0
CopiesVisited T folder most (Meets met) far far' told told' folders = CopiesMet T folder most met (inner_of folders) far far' told told' folders
CopiesVisited T folder most (Leaves met) far far' told told' folders = CopiesLeft T folder met far far' told told' folders
CopiesVisited T folder most Unseen far far' told told' folders = λ folders' copying copying' old new volume volume'. ⊥
CopiesVisited T folder most Ends far far' told told' folders = λ folders' copying copying' old new volume volume'. ⊥

abbrev pub StopsVisited : Types → ℕ → ℕ → Outcome → List (Option Into) → Copying → StoreState → StoreState → Volume → Volume → Type 0
StopsVisited T folder most (Meets met) folders copying = StopsMet T folder most met (inner_of folders) copying
StopsVisited T folder most (Leaves met) folders copying = StopsLeft T folder met folders
StopsVisited T folder most Unseen folders copying = λ old new volume volume'. ⊥
StopsVisited T folder most Ends folders copying = λ old new volume volume'. ⊥

pub data CopiesThrough (T : Types) (folder most : ℕ) (far : Progress) (told : Told) (folders : List (Option Into)) (copying : Copying) (old : StoreState)
    (volume : Volume) : ℕ → Progress → Told → List (Option Into) → Copying → StoreState → Volume → Type 0 where
  none : CopiesThrough T folder most far told folders copying old volume 0 far told folders copying old volume
  more : {steps : ℕ} {far' : Progress} {told' : Told} {folders' : List (Option Into)} {copying' : Copying} {new : StoreState} {volume' : Volume}
      (far1 far2 : Progress) (told1 told2 : Told) (folders1 : List (Option Into)) (copying1 : Copying) (middle : StoreState) (between : Volume)
      (outcome : Outcome) → CopiesThrough T folder most far told folders copying old volume steps far1 told1 folders1 copying1 middle between →
      ComesIn middle between IsUnseen far1 told1 far2 told2 outcome →
      CopiesVisited T folder most outcome far2 far' told2 told' folders1 folders' copying1 copying' middle new between volume' →
      CopiesThrough T folder most far told folders copying old volume (steps + 1) far' told' folders' copying' new volume'

-- All below a folder

-- path: that of the folder, by which all is told; number: of the folder; its own copy is left out
abbrev pub CopiesWhole : Types → ℕ → ℕ → List ℕ → ℕ → Into → Told → Told → Copying → Copying → StoreState → StoreState → Volume → Volume → Type 0
CopiesWhole T folder most path number into told told' copying copying' old new volume volume' = (steps : ℕ) × (far : Progress) × (told1 : Told)
    × (folders : List (Option Into)) × CopiesThrough T folder most (without (begun path number) into.number) told (Some into ∷ []) copying old volume
    steps far told1 folders copying' new volume' × HasEnded IsUnseen steps far told1 told' new volume'

-- what the walk comes to next is not copied; or there is no memory to go on to it
abbrev pub CopiesPart : Types → ℕ → ℕ → List ℕ → ℕ → Into → Told → Copying → StoreState → StoreState → Volume → Volume → Type 0
CopiesPart T folder most path number into told copying old new volume volume' = (steps : ℕ) × (far : Progress) × (told1 : Told)
    × (folders : List (Option Into)) × (copying1 : Copying) × (middle : StoreState) × (between : Volume)
    × CopiesThrough T folder most (without (begun path number) into.number) told (Some into ∷ []) copying old volume
    steps far told1 folders copying1 middle between
    × (IsSame middle new between volume'
    ⊎ ((far' : Progress) × (told2 : Told) × (outcome : Outcome) × ComesIn middle between IsUnseen far told1 far' told2 outcome
    × StopsVisited T folder most outcome folders copying1 middle new between volume'))

-- into: the folder to which is copied
abbrev pub CopiesBelow : Types → ℕ → ℕ → List ℕ → Node → Into → Told → Told → Copying → Copying → StoreState → StoreState → Volume → Volume
    → Result (Unit {0}) Fault → Type 0
CopiesBelow T folder most path node into told told' copying copying' old new volume volume' result = (middle : StoreState) × (between : Volume)
    × CopiesWhole T folder most path node.number into told told' copying copying' old middle volume between
    × GivesTime T folder node (Some into) middle new between volume' result

-- The folder with all below it, to a name in a folder

abbrev pub CopiesTree : Types → ℕ → ℕ → List ℕ → Node → ℕ → List ℕ → Bool → Told → Told → Copying → Copying → StoreState → StoreState → Volume → Volume
    → Result (Unit {0}) Fault → Type 0
CopiesTree T folder most path node directory name slash told told' copying copying' old new volume volume' result =
    (into : Into) × (middle : StoreState) × (between : Volume) × IsBelow (FindsPath old volume) directory node.number false
    × CopiesFolder T folder node directory name slash old middle volume between into.number into.is_new
    × CopiesBelow T folder most path node into told told' copying copying' middle new between volume' result

-- nothing is copied; or all is, but the time of the folder is refused
abbrev pub LeavesTree : Types → ℕ → ℕ → List ℕ → Node → ℕ → List ℕ → Bool → Told → Told → Copying → Copying → StoreState → StoreState → Volume → Volume
    → Type 0
LeavesTree T folder most path node directory name slash told told' copying copying' old new volume volume' =
    (LeavesFolder T folder node directory name slash old new volume volume' × (told' ≡ told) × (copying' ≡ copying))
    ⊎ ((fault : Fault) × CopiesTree T folder most path node directory name slash told told' copying copying' old new volume volume' (Err fault))

abbrev pub StopsTree : Types → ℕ → ℕ → List ℕ → Node → ℕ → List ℕ → Bool → Told → Copying → StoreState → StoreState → Volume → Volume → Type 0
StopsTree T folder most path node directory name slash told copying old new volume volume' =
    (into : Into) × (middle : StoreState) × (between : Volume) × IsBelow (FindsPath old volume) directory node.number false
    × CopiesFolder T folder node directory name slash old middle volume between into.number into.is_new
    × CopiesPart T folder most path node.number into told copying middle new between volume'
