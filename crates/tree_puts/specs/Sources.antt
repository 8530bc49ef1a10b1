-- What `put` does, source by source.
--     HasGoal            where something goes that is to be at a path
--     IsSingle           a place that is no folder, where no slash follows the name
--     GoesBy             a place is that of a goal: where that is a folder, under the own name of the source
--     node_at            what has a name in a folder, where it can be seen
--     GetsRights         permissions, user and group of a file that standard input becomes
--     IsStream           goods are what standard input has
--     PutsPlain          what arrives is put as a file
--     PutsStream         standard input is put at a path
--     PutsSpecial        what a pipe or a device has is put
--     PutsFileTo         a file is put at a goal, or what a pipe or a device has
--     folder_filled      the folder that one without a name of its own fills
--     FillsThere, FillsAt     a folder is put into one that is there, or at a place
--     PutsFolderTo       the one or the other
--     PutsOne            what stands at a path of the system is put
--     PutsSource         a source is put: standard input, or that
--     PutsEach           some sources are put, one behind the other, and their faults are told
--     PutsUpTo           the same, up to one whose fault ends the line
--     PutsInTurn         all are put, or those up to one
--     PutsNone           none is put
--     PutsSources        all are put, or those up to one, or none
--     PutsAll            the same, where nothing is kept of files with several names yet
use Rattle.std.specs.Prelude.{◌≡◌, ◌≢◌, ◌⊎◌, ℕ, ◌%◌, ◌==◌, Bool, false, true, List, [], ◌∷◌, ◌++◌, length, if◌then◌else◌}
use Rattle.std.specs.Prelude.{IsErr, MatchOption, MatchResult, Option, None, Some, Result, Ok, Err}
use Rattle.std.specs.BTreeMap.{BTreeMap}
use Rattle.xn_model.specs.Lives.{StoreState}
use Rattle.treefs_format.specs.declared.kind.Kind.TheVariants.{SymbolicLink}
use Rattle.host_trees.specs.Naming.{own_name}
use Rattle.host_trees.specs.declared.attributes.Attributes.{Attributes as Told}
use Rattle.host_trees.specs.declared.attributes.Kind.TheVariants.{File, Folder}
use Rattle.tree_lines.specs.Values.{Volume}
use Rattle.tree_lines.specs.Looks.{FindsPath, node_seen, number_seen}
use Rattle.tree_lines.specs.Places.{IsGoal, IsTo, goal_folder, goal_name, goal_slash}
use Rattle.tree_lines.specs.Telling.{GoesOn}
use Rattle.tree_lines.specs.declared.fault.Fault.{Fault as LineFault}
use Rattle.tree_lines.specs.declared.fault.Fault.TheVariants.{NoMemory}
use Rattle.tree_lines.specs.declared.node.Node.{Node}
use Rattle.tree_lines.specs.declared.paths.Goal.{Goal}
use Rattle.tree_lines.specs.declared.paths.Goal.TheVariants.{Into, To}
use Rattle.tree_lines.specs.declared.paths.Place.{Place}
use Rattle.tree_lines.specs.declared.reason.Reason.{Reason}
use Rattle.tree_puts.specs.Files.{PutsFileAt, PutsOnce}
use Rattle.tree_puts.specs.Folders.{Entered, Enters, EntersThere, IsUnread, NotEntered}
use Rattle.tree_puts.specs.Lines.{LineState, Stays, StaysButTold}
use Rattle.tree_puts.specs.Trees.{PutsFolder}
use Rattle.tree_puts.specs.declared.arriving.Goods.{Goods}

-- Where things go

-- several: whether several things go there, so that it has to be a folder
abbrev pub HasGoal : LineState → List ℕ → Bool → Goal → Type 0
HasGoal a path several goal =
    IsGoal (FindsPath a.store a.volume) (λ number result. result ≡ node_seen a.store a.volume number) a.folder path several goal

abbrev pub IsSingle : StoreState → Volume → ℕ → List ℕ → Place → Type 0
IsSingle state volume folder path place =
    IsTo (FindsPath state volume) (λ number result. result ≡ node_seen state volume number) folder path place.folder place.name.now false

-- source: the path of the system
abbrev pub GoesBy : Place → Goal → List ℕ → Type 0
GoesBy place goal source = (place.folder ≡ goal_folder goal) × (place.name.now ≡ goal_name goal (own_name source))

-- Standard input

abbrev pub node_shown : Result Node Reason → Option Node
node_shown (Ok node) = Some node
node_shown (Err reason) = None

abbrev pub node_by : StoreState → Volume → Result ℕ Reason → Option Node
node_by state volume (Ok number) = node_shown (node_seen state volume number)
node_by state volume (Err reason) = None

abbrev pub node_at : StoreState → Volume → ℕ → List ℕ → Option Node
node_at state volume folder name = node_by state volume (number_seen state volume folder name)

-- those of the file that it replaces; 420 is 0o644, and the user and the group of a new file are those under which the program runs
abbrev pub GetsRights : Option Node → ℕ → ℕ → ℕ → Type 0
GetsRights None permissions uid gid = permissions ≡ 420
GetsRights (Some node) permissions uid gid =
    ((node.kind ≢ SymbolicLink) × (permissions ≡ node.permissions % 4096) × (uid ≡ node.uid) × (gid ≡ node.gid))
    ⊎ ((node.kind ≡ SymbolicLink) × (permissions ≡ 420))

-- no size is told of it, so that it has no holes
abbrev pub IsStream : LineState → Goods → Type 0
IsStream a goods = let told = goods.attributes.now in
    (told.size ≡ 0) × GetsRights (node_at a.store a.volume goods.place.folder goods.place.name.now) told.permissions told.uid told.gid

-- its number is not told
abbrev pub PutsPlain : {E : Type 0} → Goods → ℕ → Result (Unit {0}) E → LineState → LineState → Type 0
PutsPlain {E} goods room (Ok done) a b = (number : ℕ) × PutsFileAt {E = E} goods room (Ok number) a b
PutsPlain {E} goods room (Err fault) a b = PutsFileAt {E = E} goods room (Err fault) a b

-- lines: whether it has the lines of a shell, which is a fault; so it is where the path leads to a folder, or a slash stands at its end
abbrev pub PutsStream : {E : Type 0} → Bool → List ℕ → ℕ → Result (Unit {0}) E → LineState → LineState → Type 0
PutsStream lines path room result a b = (IsErr result × Stays a b)
    ⊎ ((lines ≡ false) × ((goods : Goods) × IsSingle a.store a.volume a.folder path goods.place × IsStream a goods × PutsPlain goods room result a b))

-- Paths of the system

-- nothing is done with what can't be opened
abbrev pub PutsSpecial : {E : Type 0} → Goods → ℕ → Result (Unit {0}) E → LineState → LineState → Type 0
PutsSpecial goods room result a b = (IsErr result × Stays a b) ⊎ PutsPlain goods room result a b

abbrev pub PutsByKind : {E : Type 0} → Goods → ℕ → Result (Unit {0}) E → LineState → LineState → Type 0
PutsByKind goods room result a b = ((goods.attributes.now.kind ≡ File) × PutsOnce goods room result a b)
    ⊎ ((goods.attributes.now.kind ≢ File) × PutsSpecial goods room result a b)

-- told: what the system tells of what is at the path; where a slash follows the name it is a fault
abbrev pub PutsFileTo : {E : Type 0} → List ℕ → Goal → Told → ℕ → Result (Unit {0}) E → LineState → LineState → Type 0
PutsFileTo source goal told room result a b = (IsErr result × Stays a b)
    ⊎ ((goal_slash goal ≡ false)
    × ((goods : Goods) × GoesBy goods.place goal source × (goods.attributes.now ≡ told) × PutsByKind goods room result a b))

abbrev pub folder_filled : List ℕ → Goal → Option ℕ
folder_filled own (Into number) = if length own == 0 then Some number else None
folder_filled own (To place) = None

abbrev pub FillsThere : ℕ → Told → ℕ → Result (Unit {0}) LineFault → LineState → LineState → Type 0
FillsThere number told room result a b = ((fault : LineFault) × (result ≡ Err fault) × IsUnread fault a b)
    ⊎ ((frame : Entered) × (begun : LineState) × EntersThere number told frame a begun × PutsFolder room frame result begun b)

abbrev pub FillsAt : Goods → ℕ → Result (Unit {0}) LineFault → LineState → LineState → Type 0
FillsAt goods room result a b = ((fault : LineFault) × (result ≡ Err fault) × NotEntered goods fault a b)
    ⊎ ((frame : Entered) × (begun : LineState) × Enters goods frame a begun × PutsFolder room frame result begun b)

abbrev pub PutsFolderTo : List ℕ → Goal → Told → ℕ → Result (Unit {0}) LineFault → LineState → LineState → Type 0
PutsFolderTo source goal told room result a b = MatchOption (folder_filled (own_name source) goal)
    ((IsErr result × Stays a b) ⊎ ((goods : Goods) × GoesBy goods.place goal source × (goods.attributes.now ≡ told) × FillsAt goods room result a b))
    (λ number. FillsThere number told room result a b)

abbrev pub PutsOne : List ℕ → Bool → ℕ → List ℕ → Result (Unit {0}) LineFault → LineState → LineState → Type 0
PutsOne path several room source result a b = (IsErr result × Stays a b)
    ⊎ ((told : Told) × (goal : Goal) × HasGoal a path several goal
    × (((told.kind ≡ Folder) × PutsFolderTo source goal told room result a b) ⊎ ((told.kind ≢ Folder) × PutsFileTo source goal told room result a b)))

-- 45 is `-`
abbrev pub PutsSource : Bool → List ℕ → Bool → ℕ → List ℕ → Result (Unit {0}) LineFault → LineState → LineState → Type 0
PutsSource lines path several room source result a b = ((source ≡ 45 ∷ []) × PutsStream lines path room result a b)
    ⊎ ((source ≢ 45 ∷ []) × PutsOne path several room source result a b)

-- All of them

pub data PutsEach (lines : Bool) (path : List ℕ) (several : Bool) (room : ℕ) (a : LineState) : List (List ℕ) → LineState → Type 0 where
  none : PutsEach lines path several room a [] a
  more : {sources : List (List ℕ)} {source : List ℕ} {b : LineState} (done : Result (Unit {0}) LineFault) (before between : LineState) →
      PutsEach lines path several room a sources before → PutsSource lines path several room source done before between → StaysButTold between b →
      GoesOn between.told b.told done (Ok tt) → PutsEach lines path several room a (sources ++ source ∷ []) b

abbrev pub PutsUpTo : Bool → List ℕ → Bool → ℕ → List (List ℕ) → LineFault → LineState → LineState → Type 0
PutsUpTo lines path several room sources fault a b = (before : List (List ℕ)) × (source : List ℕ) × (behind : List (List ℕ))
    × (done : Result (Unit {0}) LineFault) × (put : LineState) × (between : LineState) × (sources ≡ before ++ source ∷ behind)
    × PutsEach lines path several room a before put × PutsSource lines path several room source done put between × StaysButTold between b
    × GoesOn between.told b.told done (Err fault)

abbrev pub PutsInTurn : Bool → List ℕ → Bool → ℕ → List (List ℕ) → Result (Unit {0}) LineFault → LineState → LineState → Type 0
PutsInTurn lines path several room sources result a b = MatchResult result (λ done. PutsEach lines path several room a sources b)
    (λ fault. PutsUpTo lines path several room sources fault a b)

-- there is no memory to begin; or several go to a path that leads to no folder
abbrev pub PutsNone : {A : Type 0} → Bool → Result A LineFault → LineState → LineState → Type 0
PutsNone several result a b = ((result ≡ Err NoMemory) ⊎ (IsErr result × (several ≡ true))) × Stays a b

abbrev pub PutsSources : Bool → List ℕ → Bool → ℕ → List (List ℕ) → Result (Unit {0}) LineFault → LineState → LineState → Type 0
PutsSources lines path several room sources result a b = PutsNone several result a b ⊎ PutsInTurn lines path several room sources result a b

-- a, b: what the line has come to at first and at last, with what is kept of files with several names
abbrev pub PutsAll : Bool → List ℕ → Bool → ℕ → List (List ℕ) → Result (Unit {0}) LineFault
    → (BTreeMap (ℕ × ℕ) ℕ → BTreeMap ℕ (ℕ × ℕ) → LineState) → (BTreeMap (ℕ × ℕ) ℕ → BTreeMap ℕ (ℕ × ℕ) → LineState) → Type 0
PutsAll lines path several room sources result a b =
    (linked : BTreeMap (ℕ × ℕ) ℕ) × (kept : BTreeMap ℕ (ℕ × ℕ)) × (linked' : BTreeMap (ℕ × ℕ) ℕ) × (kept' : BTreeMap ℕ (ℕ × ℕ))
    × (linked.entries ≡ []) × (kept.entries ≡ []) × PutsSources lines path several room sources result (a linked kept) (b linked' kept')
