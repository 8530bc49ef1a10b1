-- What is done with a volume, call by call.
--     Action         a call, with what it is asked and what it answers
--     IsSame         nothing was changed
--     Does           what an action does to a store and to a volume
--     Runs           actions one after another, each in the volume that the one before left
--     Performs       some actions were run that are as a plan has them
--     Nothing        a plan: no action
--     Calls          a plan: one call
--     Then           a plan: what comes first, and where that was done what comes behind it
--     OrElse         a plan: what comes first, and where that failed what comes behind it, whose answer isn't told
use Rattle.std.specs.Prelude.{◌≡◌, ◌⊎◌, ℕ, ℤ, Bool, true, List, [], ◌∷◌, ◌++◌, Result, Ok, Err, IsErr, MatchResult}
use Rattle.xn_model.specs.Lives.{StoreState}
use Rattle.xn_model.specs.Types.{Types}
use Rattle.treefs_format.specs.declared.kind.Kind.{Kind}
use Rattle.treefs_model.specs.declared.fault.Fault.{Fault}
use Rattle.tree_lines.specs.Values.{Attributes, Begun, Put, Settings, Volume}
use Rattle.tree_lines.specs.Committing.{CommitDoes}
use Rattle.tree_lines.specs.Creating.{BeginDoes, MkdirDoes}
use Rattle.tree_lines.specs.Linking.{LinkDoes}
use Rattle.tree_lines.specs.Renaming.{RenameDoes}
use Rattle.tree_lines.specs.Setting.{AttributesDoes, MtimeDoes}
use Rattle.tree_lines.specs.Unlinking.{UnlinkDoes}
use Rattle.tree_lines.specs.Freeing.{GivesUp, MakesFreely}
use Rattle.tree_lines.specs.Pieces.{WritesAll}
use Rattle.tree_lines.specs.Puts.{PutDoes}

pub data Action : Type 0 where
  -- an inode is begun with its first bytes
  begins : Kind → Attributes → List ℕ → Result ℕ Fault → Action
  -- bytes of an inode that was begun are written, by its block, from a byte on
  writes : ℕ → ℕ → List ℕ → Result (Unit {0}) Fault → Action
  -- an inode that was begun gets a name in a folder, in the place of what has it
  names : ℕ → ℕ → List ℕ → Result ℕ Fault → Action
  -- an inode that was begun is given up
  gives_up : ℕ → Result Bool Fault → Action
  -- a whole file or symbolic link is put under a name in a folder, in the place of what has it
  puts : ℕ → List ℕ → Kind → Attributes → List ℕ → Result ℕ Fault → Action
  -- a number gets one more name in a folder
  links : ℕ → ℕ → List ℕ → Result (Unit {0}) Fault → Action
  -- a name in a folder becomes another one there
  renames : ℕ → List ℕ → List ℕ → Result (Unit {0}) Fault → Action
  -- a name in a folder is taken
  unlinks : ℕ → List ℕ → Result (Unit {0}) Fault → Action
  -- the time of a number is set
  sets_time : ℕ → ℤ → Result (Unit {0}) Fault → Action
  -- a folder is made under a name in a folder
  makes_folder : ℕ → List ℕ → Attributes → Result ℕ Fault → Action
  -- permissions, owner and time of a number are set
  sets : ℕ → Settings → Result (Unit {0}) Fault → Action

abbrev pub IsSame : StoreState → StoreState → Volume → Volume → Type 0
IsSame old new volume volume' = (new ≡ old) × (volume' ≡ volume)

abbrev pub IsPut : Put → ℕ → List ℕ → Kind → Attributes → List ℕ → Type 0
IsPut put directory name kind attributes bytes = (put.directory ≡ directory) × (put.name.now ≡ name) × (put.kind ≡ kind) × (put.attributes ≡ attributes)
    × (put.bytes.now ≡ bytes) × (put.replace ≡ true)

-- folder: the one that is held
abbrev pub Does : Types → ℕ → Action → StoreState → StoreState → Volume → Volume → Type 0
Does T folder (begins kind attributes head result) old new volume volume' =
    MakesFreely (λ old new volume volume' result. BeginDoes T old new volume kind attributes head result × (volume' ≡ volume)) T (folder ∷ [])
    old new volume volume' result
Does T folder (writes block at bytes result) old new volume volume' = WritesAll T (folder ∷ []) (Begun block at) bytes old new volume volume' result
Does T folder (names block directory name result) old new volume volume' =
    MakesFreely (λ old new volume volume' result. CommitDoes T old new volume volume' block directory name true result) T (folder ∷ [])
    old new volume volume' result
Does T folder (gives_up block result) old new volume volume' = GivesUp T block old new volume volume' result
Does T folder (puts directory name kind attributes bytes result) old new volume volume' =
    (put : Put) × IsPut put directory name kind attributes bytes × PutDoes T (folder ∷ []) put old new volume volume' result
Does T folder (links number directory name result) old new volume volume' =
    MakesFreely (λ old new volume volume' result. LinkDoes T old new volume volume' number directory name result) T (folder ∷ [])
    old new volume volume' result
Does T folder (renames directory name new_name result) old new volume volume' =
    MakesFreely (λ old new volume volume' result. RenameDoes T old new volume volume' directory name directory new_name result) T (folder ∷ [])
    old new volume volume' result
Does T folder (unlinks directory name result) old new volume volume' =
    MakesFreely (λ old new volume volume' result. UnlinkDoes T old new volume volume' directory name result) T (folder ∷ [])
    old new volume volume' result
Does T folder (sets_time number mtime result) old new volume volume' =
    MakesFreely (λ old new volume volume' result. MtimeDoes old volume volume' number mtime result × (new ≡ old)) T (folder ∷ [])
    old new volume volume' result
Does T folder (makes_folder directory name attributes result) old new volume volume' =
    MakesFreely (λ old new volume volume' result. MkdirDoes T old new volume volume' directory name attributes result) T (folder ∷ [])
    old new volume volume' result
Does T folder (sets number settings result) old new volume volume' =
    MakesFreely (λ old new volume volume' result. AttributesDoes T old new volume volume' number settings result) T (folder ∷ [])
    old new volume volume' result

abbrev pub Runs : Types → ℕ → List Action → StoreState → StoreState → Volume → Volume → Type 0
Runs T folder [] old new volume volume' = IsSame old new volume volume'
Runs T folder (action ∷ actions) old new volume volume' =
    (middle : StoreState) × (between : Volume) × Does T folder action old middle volume between × Runs T folder actions middle new between volume'

pub record Performs (T : Types) (folder : ℕ) (Plan : List Action → Type 0) (old new : StoreState) (volume volume' : Volume) : Type 0 where
  pub actions : List Action
  pub planned : Plan actions
  pub runs : Runs T folder actions old new volume volume'

-- Plans: which actions, and what the whole answers

abbrev pub Nothing : List Action → Type 0
Nothing actions = actions ≡ []

-- the fault of a call is told in a line's words
abbrev pub Calls : {A E : Type 0} → (Result A Fault → Action) → Result A E → List Action → Type 0
Calls call result actions = MatchResult result (λ answer. actions ≡ call (Ok answer) ∷ []) (λ told. (fault : Fault) × (actions ≡ call (Err fault) ∷ []))

abbrev pub Then : {A B E : Type 0} → (Result A E → List Action → Type 0) → (A → Result B E → List Action → Type 0) → Result B E → List Action → Type 0
Then {A} {B} {E} First Next result actions = (IsErr result × ((fault : E) × First (Err fault) actions))
    ⊎ ((answer : A) × (before : List Action) × (behind : List Action) × (actions ≡ before ++ behind) × First (Ok answer) before × Next answer result behind)

abbrev pub OrElse : {A E : Type 0} → (Result A E → List Action → Type 0) → (List Action → Type 0) → Result A E → List Action → Type 0
OrElse First Else result actions = MatchResult result (λ answer. First (Ok answer) actions)
    (λ fault. (before : List Action) × (behind : List Action) × (actions ≡ before ++ behind) × First (Err fault) before × Else behind)
