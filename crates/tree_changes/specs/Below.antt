-- What words do below a folder, name by name, each in the volume that the one before left.
--     TellsIfAny              what was done had no fault; or it is told
--     GoesThrough             a walk comes to something, with which something is done, so often
--     HasEnded                then it is at its end
--     SetsMet                 what is to be set of a name that is met
--     SetsEach                the same, of each that is met
--     SetsNext                the same call, of the next one
--     SetsAll, SetsUpTo       what is to be set below a folder is set; or up to a fault that ends the line
--     SetsBelow               the one or the other
--     SetsTree, SetsTreeUpTo, SetsTreeAt      the same, of what stands at a path and all below it
use Rattle.std.specs.Prelude.{◌≡◌, ◌⊎◌, ℕ, ◌+◌, ◌-◌, ◌^◌, true, List, Result, Ok, Err, MatchResult}
use Rattle.xn_model.specs.Lives.{StoreState}
use Rattle.xn_model.specs.Types.{Types}
use Rattle.treefs_model.specs.declared.fault.Fault.{Fault}
use Rattle.tree_lines.specs.Values.{Volume}
use Rattle.tree_lines.specs.Places.{IsFolder}
use Rattle.tree_lines.specs.Telling.{EndsLine, Tells}
use Rattle.tree_lines.specs.Trees.{ComesIn, IsNodeIn}
use Rattle.tree_lines.specs.Walks.{IsUnmet, Met, Outcome, Progress, begun}
use Rattle.tree_lines.specs.Walks.Outcome.{Ends, Leaves, Meets, Unseen}
use Rattle.tree_lines.specs.declared.fault.Fault.{Fault as LineFault}
use Rattle.tree_lines.specs.declared.node.Node.{Node}
use Rattle.tree_lines.specs.declared.told.Told.{Told}
use Rattle.tree_changes.specs.Attributes.{IsUnset, SetsIfAny, set_of}
use Rattle.tree_changes.specs.Paths.{IsRefused, IsSame}
use Rattle.tree_changes.specs.PathsTold.{AtPathTold}
use Rattle.tree_changes.specs.declared.setting.Setting.{Setting}

-- Does: what the call did, and answered
abbrev pub TellsIfAny : (Result (Unit {0}) Fault → Type 0) → Told → Told → Type 0
TellsIfAny Does told told' = (Does (Ok tt) × (told' ≡ told))
    ⊎ ((fault : Fault) × (line : LineFault) × Does (Err fault) × (¬ EndsLine line) × Tells told told' line)

-- Over: which outcomes are passed over; Does: what is done with one that isn't, of what was told before the walk went on to it, of what was told there and
-- afterwards, of something that is counted along, and of the volume
pub data GoesThrough {A : Type 0} (Over : Outcome → Type 0)
    (Does : Outcome → Told → Told → Told → A → A → StoreState → StoreState → Volume → Volume → Type 0)
    (far : Progress) (told : Told) (counted : A) (old : StoreState) (volume : Volume) : ℕ → Progress → Told → A → StoreState → Volume → Type 0 where
  none : GoesThrough Over Does far told counted old volume 0 far told counted old volume
  more : {steps : ℕ} {far' : Progress} {told' : Told} {counted' : A} {new : StoreState} {volume' : Volume}
      (far1 : Progress) (told1 told2 : Told) (counted1 : A) (middle : StoreState) (between : Volume) (outcome : Outcome) →
      GoesThrough Over Does far told counted old volume steps far1 told1 counted1 middle between →
      ComesIn middle between Over far1 told1 far' told2 outcome → Does outcome told1 told2 told' counted1 counted' middle new between volume' →
      GoesThrough Over Does far told counted old volume (steps + 1) far' told' counted' new volume'

-- more names than are met in so many steps are in no volume
abbrev pub HasEnded : (Outcome → Type 0) → ℕ → Progress → Told → Told → StoreState → Volume → Type 0
HasEnded Over steps far told told' state volume = ((far' : Progress) × ComesIn state volume Over far told far' told' Ends)
    ⊎ ((steps ≡ 2 ^ 64 - 1) × (told' ≡ told))

-- `chmod` and `chown`

abbrev pub SetsMet : Setting → Types → ℕ → Outcome → Told → Told → Told → Unit {0} → Unit {0} → StoreState → StoreState → Volume → Volume → Type 0
SetsMet setting T folder (Meets met) before told told' counted counted' old new volume volume' =
    TellsIfAny (SetsIfAny T folder met.node.number (set_of setting met.node) old new volume volume') told told'
SetsMet setting T folder Unseen before told told' counted counted' old new volume volume' = ⊥
SetsMet setting T folder (Leaves met) before told told' counted counted' old new volume volume' = ⊥
SetsMet setting T folder Ends before told told' counted counted' old new volume volume' = ⊥

abbrev pub SetsEach : Setting → Types → ℕ → Progress → Told → StoreState → Volume → ℕ → Progress → Told → StoreState → Volume → Type 0
SetsEach setting T folder far told old volume steps far' told' new volume' =
    GoesThrough IsUnmet (SetsMet setting T folder) far told tt old volume steps far' told' tt new volume'

abbrev pub SetsNext : Setting → Types → ℕ → Progress → Told → StoreState → StoreState → Volume → Volume → Result (Unit {0}) Fault → Type 0
SetsNext setting T folder far told old new volume volume' result = (far' : Progress) × (told' : Told) × (met : Met)
    × ComesIn old volume IsUnmet far told far' told' (Meets met)
    × SetsIfAny T folder met.node.number (set_of setting met.node) old new volume volume' result

-- number: of the folder
abbrev pub SetsAll : Setting → Types → ℕ → List ℕ → ℕ → Told → Told → StoreState → StoreState → Volume → Volume → Type 0
SetsAll setting T folder path number told told' old new volume volume' = (steps : ℕ) × (far : Progress) × (told1 : Told)
    × SetsEach setting T folder (begun path number) told old volume steps far told1 new volume' × HasEnded IsUnmet steps far told1 told' new volume'

abbrev pub SetsUpTo : Setting → Types → ℕ → List ℕ → ℕ → Told → StoreState → StoreState → Volume → Volume → Type 0
SetsUpTo setting T folder path number told old new volume volume' = (steps : ℕ) × (far : Progress) × (told1 : Told) × (middle : StoreState)
    × (between : Volume) × SetsEach setting T folder (begun path number) told old volume steps far told1 middle between
    × IsRefused (SetsNext setting T folder far told1 middle new between volume') middle new between volume'

abbrev pub SetsBelow : {E : Type 0} → Setting → Types → ℕ → List ℕ → ℕ → Told → Told → StoreState → StoreState → Volume → Volume → Result (Unit {0}) E → Type 0
SetsBelow setting T folder path number told told' old new volume volume' result =
    MatchResult result (λ done. SetsAll setting T folder path number told told' old new volume volume')
    (λ fault. SetsUpTo setting T folder path number told old new volume volume')

-- of what stands at a path, a symbolic link at whose end is followed, and of all below it where it is a folder
abbrev pub SetsTree : Setting → Types → ℕ → List ℕ → Told → Told → StoreState → StoreState → Volume → Volume → Type 0
SetsTree setting T folder path told told' old new volume volume' = (node : Node) × (middle : StoreState) × (between : Volume)
    × IsNodeIn old volume folder path true node × SetsIfAny T folder node.number (set_of setting node) old middle volume between (Ok tt)
    × (((¬ IsFolder node) × IsSame middle new between volume' × (told' ≡ told))
    ⊎ (IsFolder node × SetsAll setting T folder path node.number told told' middle new between volume'))

-- it is not set, and nothing is told; or the line ends below it
abbrev pub SetsTreeUpTo : Setting → Types → ℕ → List ℕ → LineFault → Told → Told → StoreState → StoreState → Volume → Volume → Type 0
SetsTreeUpTo setting T folder path line told told' old new volume volume' =
    (IsUnset setting T folder path old new volume volume' × (told' ≡ told))
    ⊎ ((node : Node) × (middle : StoreState) × (between : Volume) × IsNodeIn old volume folder path true node
    × SetsIfAny T folder node.number (set_of setting node) old middle volume between (Ok tt) × IsFolder node
    × SetsUpTo setting T folder path node.number told middle new between volume' × EndsLine line)

abbrev pub SetsTreeAt : Setting → Types → ℕ → List ℕ → Told → Told → StoreState → StoreState → Volume → Volume → Result (Unit {0}) LineFault → Type 0
SetsTreeAt setting T folder = AtPathTold (SetsTree setting T folder) (SetsTreeUpTo setting T folder)
