-- A walk goes through all that stands below a folder, name by name.
--     Met, met_of              a name that is met, with what stands there
--     entry_of                 a name in a folder, and its number
--     names_of                 what `names` answers
--     Entered, entered_of      a folder in which a walk is
--     Progress, progress       how far a walk is
--     begun                    it has just begun
--     without                  a folder is left out wherever it is met
--     PassesOver               what is in the innermost folder is left out
--     separator, with_name     a path with a name behind it
--     Outcome                  what a step of a walk comes to
--     met_outcome, left_outcome        the same, where a name is passed, or a folder is left
--     outcome_of, step_outcome         the same, as `next` and `next_met` answer it
--     has_seen                 a folder was seen, by its number
--     Sees                     what stands at a number, as a walk takes it
--     gone_into, entered_at    a folder that is gone into
--     at_names, left_to, past_name, past_met     how far a walk is: names of the innermost folder are left; it is left; behind a name; behind one that was met
--     met_at, MeetsName        a name that is met; or that can't be seen
--     Reads, NamesLeft         the names of a folder, and those that are still to be met
--     NextName                 the next name
--     LeavesInner              the innermost folder is left
--     PassesName, LeavesFolder, Steps     a step of a walk: the next name is passed; or the folder is left; or nothing is left
--     StepsAlong, ComesTo      steps whose outcomes are passed over; and then one that isn't
--     IsUnseen, IsUnmet        nothing is met or left; nothing is met, and it is not at its end
use Rattle.std.specs.Prelude.{◌≡◌, ◌⊎◌, ℕ, ◌==◌, Bool, false, true, List, [], ◌∷◌, ◌++◌, ◌-◌, length, map, reverse, take, slice_get, if◌then◌else◌}
use Rattle.std.specs.Prelude.{Option, None, Some, Result, Ok, Err, ⊤}
use Rattle.std.specs.Option.{option_map}
use Rattle.std.specs.List.{list_any}
use Rattle.std.specs.Global.{Vec}
use Rattle.std.specs.Ordering.{nat_cmp}
use Rattle.std.specs.BTreeMap.{is_at}
use Rattle.std.specs.BTreeSet.{insert_key}
use Rattle.treefs_format.specs.declared.kind.Kind.{Kind}
use Rattle.treefs_format.specs.declared.kind.Kind.TheVariants.{Directory, File, SymbolicLink}
use Rattle.tree_lines.specs.Places.{IsFolder}
use Rattle.tree_lines.specs.Telling.{TellsAt}
use Rattle.tree_lines.specs.declared.node.Named.{Named}
use Rattle.tree_lines.specs.declared.node.Node.{Node}
use Rattle.tree_lines.specs.declared.reason.Reason.{Reason}
use Rattle.tree_lines.specs.declared.reason.Reason.TheVariants.{TwoNames}
use Rattle.tree_lines.specs.declared.told.Told.{Told}
use Rattle.tree_lines.specs.declared.walking.Frame.{Frame}
use Rattle.tree_lines.specs.declared.walking.Step.{Step}
use Rattle.tree_lines.specs.declared.walking.Visit.{Visit}
use Rattle.tree_lines.specs.declared.walking.Visit.TheVariants as visit
use Rattle.tree_lines.specs.declared.walking.Walk.{Walk}

-- Names

-- depth: in how many folders it stands below the first one; folder: the number of the folder that has it
pub record Met : Type 0 where
  pub depth : ℕ
  pub folder : ℕ
  pub name : List ℕ
  pub node : Node

abbrev pub met_of : Step → Met
met_of step = record { depth = step.depth; folder = step.folder; name = step.name.items; node = step.node }

abbrev pub entry_of : Named → List ℕ × ℕ
entry_of named = (named.name.items, named.number)

abbrev pub names_of : Result (Vec Named) Reason → Result (List (List ℕ × ℕ)) Reason
names_of (Ok names) = Ok (map entry_of names.items)
names_of (Err reason) = Err reason

-- How far a walk is

-- met: how it was met, nothing of the first one; names: those that are still to be met, in their order, once they were read; length: of its path
pub record Entered : Type 0 where
  pub folder : ℕ
  pub met : Option Met
  pub names : Option (List (List ℕ × ℕ))
  pub length : ℕ

abbrev pub entered_of : Frame → Entered
entered_of frame = record {
  folder = frame.folder;
  met = option_map met_of frame.step;
  names = if frame.is_read then Some (map entry_of (reverse frame.waiting.items)) else None;
  length = frame.length;
}

-- folders: those in which it is, the innermost last; path: of what was met or left last; seen: the numbers of the folders that were seen, rising
pub record Progress : Type 0 where
  pub folders : List Entered
  pub path : List ℕ
  pub seen : List ℕ

abbrev pub progress : Walk → Progress
progress walk = record { folders = map entered_of walk.frames.items; path = walk.path.items; seen = walk.seen.keys }

abbrev pub begun : List ℕ → ℕ → Progress
begun path folder = record {
  folders = record { folder = folder; met = None; names = None; length = length path } ∷ [];
  path = path;
  seen = folder ∷ [];
}

abbrev pub without : Progress → ℕ → Progress
without far folder = record far { seen = insert_key nat_cmp far.seen folder }

abbrev pub PassesOver : Progress → Progress → Type 0
PassesOver far far' = ((far.folders ≡ []) × (far' ≡ far))
    ⊎ ((outer : List Entered) × (inner : Entered) × (far.folders ≡ outer ++ inner ∷ [])
    × (far' ≡ record far { folders = outer ++ record inner { names = Some [] } ∷ [] }))

-- Steps

-- what stands between a path and a name behind it: nothing behind a slash, and at the beginning
abbrev pub separator : Option ℕ → List ℕ
separator None = []
separator (Some last) = if last == 47 then [] else 47 ∷ []

abbrev pub with_name : List ℕ → List ℕ → List ℕ
with_name path name = path ++ separator (slice_get path (length path - 1)) ++ name

pub data Outcome : Type 0 where
  Unseen : Outcome
  Meets : Met → Outcome
  Leaves : Met → Outcome
  Ends : Outcome

abbrev pub met_outcome : Option Met → Outcome
met_outcome (Some met) = Meets met
met_outcome None = Unseen

-- of the first folder, which was not met
abbrev pub left_outcome : Option Met → Outcome
left_outcome (Some met) = Leaves met
left_outcome None = Ends

abbrev pub outcome_of : Option Visit → Outcome
outcome_of (Some (visit.Met step)) = Meets (met_of step)
outcome_of (Some (visit.Left step)) = Leaves (met_of step)
outcome_of None = Ends

abbrev pub step_outcome : Option Step → Outcome
step_outcome (Some step) = Meets (met_of step)
step_outcome None = Ends

abbrev pub has_seen : List ℕ → ℕ → Bool
has_seen seen number = list_any (is_at (nat_cmp number)) seen

-- Shows: what stands at a number. A folder that was seen before has two names, and is left out
abbrev pub Sees : (ℕ → Result Node Reason → Type 0) → ℕ → List ℕ → List ℕ → Result Node Reason → Type 0
Sees Shows number seen seen' (Ok node) = Shows number (Ok node) × ((¬ IsFolder node × (seen' ≡ seen))
    ⊎ (IsFolder node × (has_seen seen node.number ≡ false) × (seen' ≡ insert_key nat_cmp seen node.number)))
Sees Shows number seen seen' (Err reason) = (seen' ≡ seen) × (Shows number (Err reason)
    ⊎ ((node : Node) × Shows number (Ok node) × IsFolder node × (has_seen seen node.number ≡ true) × (reason ≡ TwoNames)))

-- length: of its path
abbrev pub gone_into : ℕ → Met → Entered
gone_into length met = record { folder = met.node.number; met = Some met; names = None; length = length }

-- a folder that is met is gone into
abbrev pub entered_at : ℕ → Met → Kind → List Entered
entered_at length met Directory = gone_into length met ∷ []
entered_at length met File = []
entered_at length met SymbolicLink = []

-- these names of the innermost folder are left
abbrev pub at_names : Progress → List Entered → Entered → List (List ℕ × ℕ) → Progress
at_names far outer inner names = record {
  folders = outer ++ record inner { names = Some names } ∷ [];
  path = take inner.length far.path;
  seen = far.seen;
}

-- the innermost folder is left
abbrev pub left_to : Progress → List Entered → Entered → Progress
left_to far outer inner = record { folders = outer; path = take inner.length far.path; seen = far.seen }

abbrev pub met_at : Progress → ℕ → List ℕ → Node → Met
met_at far folder name node = record { depth = length far.folders - 1; folder = folder; name = name; node = node }

abbrev pub past_name : Progress → List ℕ → List ℕ → List Entered → Progress
past_name far name seen entered = record { folders = far.folders ++ entered; path = with_name far.path name; seen = seen }

abbrev pub past_met : Progress → ℕ → List ℕ → Node → List ℕ → Progress
past_met far folder name node seen =
    past_name far name seen (entered_at (length (with_name far.path name)) (met_at far folder name node) node.kind)

-- The first fact is of a name that is met, the other of one that can't be seen, which is told and left out
abbrev pub MeetsName : (ℕ → Result Node Reason → Type 0) → Progress → Told → Progress → Told → ℕ → List ℕ × ℕ → Option Met → Type 0
MeetsName Shows far told far' told' folder entry (Some met) = (node : Node) × (seen : List ℕ) × Sees Shows entry.1 far.seen seen (Ok node)
    × (met ≡ met_at far folder entry.0 node) × (far' ≡ past_met far folder entry.0 node seen) × (told' ≡ told)
MeetsName Shows far told far' told' folder entry None = (reason : Reason) × Sees Shows entry.1 far.seen far.seen (Err reason)
    × (far' ≡ past_name far entry.0 far.seen []) × TellsAt told told' reason

-- Lists: the names of a folder. What can't be read is told, and has no names
abbrev pub Reads : (ℕ → Result (List (List ℕ × ℕ)) Reason → Type 0) → ℕ → Told → Told → List (List ℕ × ℕ) → Type 0
Reads Lists folder told told' names = (Lists folder (Ok names) × (told' ≡ told))
    ⊎ ((reason : Reason) × Lists folder (Err reason) × TellsAt told told' reason × (names ≡ []))

-- they are read when the first of them is asked for
abbrev pub NamesLeft : (ℕ → Result (List (List ℕ × ℕ)) Reason → Type 0) → Entered → Told → Told → List (List ℕ × ℕ) → Type 0
NamesLeft Lists inner told told' names = ((inner.names ≡ Some names) × (told' ≡ told))
    ⊎ ((inner.names ≡ None) × Reads Lists inner.folder told told' names)

-- the next name, with the number of the folder that has it
abbrev pub NextName : (ℕ → Result (List (List ℕ × ℕ)) Reason → Type 0) → Progress → Told → Progress → Told → Option (ℕ × (List ℕ × ℕ)) → Type 0
NextName Lists far told far' told' (Some next) = (outer : List Entered) × (inner : Entered) × (names : List (List ℕ × ℕ))
    × (far.folders ≡ outer ++ inner ∷ []) × NamesLeft Lists inner told told' (next.1 ∷ names) × (far' ≡ at_names far outer inner names)
    × (next.0 ≡ inner.folder)
NextName Lists far told far' told' None = ((far.folders ≡ []) × (far' ≡ far) × (told' ≡ told))
    ⊎ ((outer : List Entered) × (inner : Entered) × (far.folders ≡ outer ++ inner ∷ []) × NamesLeft Lists inner told told' []
    × (far' ≡ at_names far outer inner []))

-- the innermost folder is left
abbrev pub LeavesInner : Progress → Progress → Outcome → Type 0
LeavesInner far far' outcome = ((far.folders ≡ []) × (far' ≡ far) × (outcome ≡ Ends))
    ⊎ ((outer : List Entered) × (inner : Entered) × (far.folders ≡ outer ++ inner ∷ []) × (far' ≡ record far { folders = outer })
    × (outcome ≡ left_outcome inner.met))

-- the next name of the innermost folder is met, or left out
pub record PassesName (Lists : ℕ → Result (List (List ℕ × ℕ)) Reason → Type 0) (Shows : ℕ → Result Node Reason → Type 0)
    (far : Progress) (told : Told) (far' : Progress) (told' : Told) (outcome : Outcome) : Type 0 where
  pub outer : List Entered
  pub inner : Entered
  pub entry : List ℕ × ℕ
  pub names : List (List ℕ × ℕ)
  pub between : Told
  pub met : Option Met
  pub innermost : far.folders ≡ outer ++ inner ∷ []
  pub left : NamesLeft Lists inner told between (entry ∷ names)
  pub meets : MeetsName Shows (at_names far outer inner names) between far' told' inner.folder entry met
  pub is : outcome ≡ met_outcome met

-- none of its names is left
pub record LeavesFolder (Lists : ℕ → Result (List (List ℕ × ℕ)) Reason → Type 0) (far : Progress) (told : Told) (far' : Progress) (told' : Told)
    (outcome : Outcome) : Type 0 where
  pub outer : List Entered
  pub inner : Entered
  pub innermost : far.folders ≡ outer ++ inner ∷ []
  pub left : NamesLeft Lists inner told told' []
  pub far_is : far' ≡ left_to far outer inner
  pub is : outcome ≡ left_outcome inner.met

-- or there was nothing more
abbrev pub Steps : (ℕ → Result (List (List ℕ × ℕ)) Reason → Type 0) → (ℕ → Result Node Reason → Type 0) → Progress → Told → Progress → Told → Outcome → Type 0
Steps Lists Shows far told far' told' outcome = PassesName Lists Shows far told far' told' outcome
    ⊎ (LeavesFolder Lists far told far' told' outcome ⊎ ((far.folders ≡ []) × (far' ≡ far) × (told' ≡ told) × (outcome ≡ Ends)))

-- Over: which outcomes are passed over
pub data StepsAlong (Lists : ℕ → Result (List (List ℕ × ℕ)) Reason → Type 0) (Shows : ℕ → Result Node Reason → Type 0) (Over : Outcome → Type 0)
    (far : Progress) (told : Told) : Progress → Told → Type 0 where
  none : StepsAlong Lists Shows Over far told far told
  more : {far' : Progress} {told' : Told} (between : Progress) (middle : Told) (outcome : Outcome) → StepsAlong Lists Shows Over far told between middle →
      Steps Lists Shows between middle far' told' outcome → Over outcome → StepsAlong Lists Shows Over far told far' told'

abbrev pub ComesTo : (ℕ → Result (List (List ℕ × ℕ)) Reason → Type 0) → (ℕ → Result Node Reason → Type 0) → (Outcome → Type 0) → Progress → Told → Progress
    → Told → Outcome → Type 0
ComesTo Lists Shows Over far told far' told' outcome = (between : Progress) × (middle : Told) × StepsAlong Lists Shows Over far told between middle
    × Steps Lists Shows between middle far' told' outcome × ¬ Over outcome

abbrev pub IsUnseen : Outcome → Type 0
IsUnseen Unseen = ⊤
IsUnseen (Meets met) = ⊥
IsUnseen (Leaves met) = ⊥
IsUnseen Ends = ⊥

abbrev pub IsUnmet : Outcome → Type 0
IsUnmet Unseen = ⊤
IsUnmet (Meets met) = ⊥
IsUnmet (Leaves met) = ⊤
IsUnmet Ends = ⊥
