-- A word goes from path to path, and tells what it could not do below each.
--     AtPathTold     what a word does at one path, with what is told there; or it is left out, with its fault
--     TellsAlong     what a word does at some paths, in their order, each in the volume that the one before left and behind what was told there; the fault of
--                    one that was left out is told, too
--     EndsBy         a line ends by a fault, or for want of memory to tell it
--     EndsAlong      the line ended at one of them
--     TellsPaths     what a word does at some paths; or the line ended at one of them
use Rattle.std.specs.Prelude.{◌≡◌, ◌⊎◌, ℕ, List, [], ◌∷◌, ◌++◌, Result, MatchResult}
use Rattle.xn_model.specs.Lives.{StoreState}
use Rattle.tree_lines.specs.Values.{Volume}
use Rattle.tree_lines.specs.Telling.{EndsLine, Tells}
use Rattle.tree_lines.specs.declared.fault.Fault.{Fault}
use Rattle.tree_lines.specs.declared.fault.Fault.TheVariants.{NoMemory}
use Rattle.tree_lines.specs.declared.told.Told.{Told}

-- Done: what is done at a path; Left: what is so where it is left out with a fault
abbrev pub AtPathTold : (Done : List ℕ → Told → Told → StoreState → StoreState → Volume → Volume → Type 0)
    → (Left : List ℕ → Fault → Told → Told → StoreState → StoreState → Volume → Volume → Type 0) → List ℕ → Told → Told → StoreState → StoreState
    → Volume → Volume → Result (Unit {0}) Fault → Type 0
AtPathTold Done Left path told told' old new volume volume' result =
    MatchResult result (λ done. Done path told told' old new volume volume') (λ fault. Left path fault told told' old new volume volume')

pub data TellsAlong (Done : List ℕ → Told → Told → StoreState → StoreState → Volume → Volume → Type 0)
    (Left : List ℕ → Fault → Told → Told → StoreState → StoreState → Volume → Volume → Type 0)
    : List (List ℕ) → Told → Told → StoreState → StoreState → Volume → Volume → Type 0 where
  none : {told : Told} {state : StoreState} {volume : Volume} → TellsAlong Done Left [] told told state state volume volume
  does : {paths : List (List ℕ)} {path : List ℕ} {told told' : Told} {old new : StoreState} {volume volume' : Volume}
      (told1 : Told) (middle : StoreState) (between : Volume) → TellsAlong Done Left paths told told1 old middle volume between →
      Done path told1 told' middle new between volume' → TellsAlong Done Left (paths ++ path ∷ []) told told' old new volume volume'
  leaves : {paths : List (List ℕ)} {path : List ℕ} {told told' : Told} {old new : StoreState} {volume volume' : Volume}
      (told1 told2 : Told) (fault : Fault) (middle : StoreState) (between : Volume) → TellsAlong Done Left paths told told1 old middle volume between →
      Left path fault told1 told2 middle new between volume' → ¬ EndsLine fault → Tells told2 told' fault →
      TellsAlong Done Left (paths ++ path ∷ []) told told' old new volume volume'

abbrev pub EndsBy : Fault → Fault → Type 0
EndsBy fault ends = (ends ≡ NoMemory) ⊎ (EndsLine fault × (ends ≡ fault))

-- ends: the fault that ended it
abbrev pub EndsAlong : (Done : List ℕ → Told → Told → StoreState → StoreState → Volume → Volume → Type 0)
    → (Left : List ℕ → Fault → Told → Told → StoreState → StoreState → Volume → Volume → Type 0) → List (List ℕ) → Told → StoreState → StoreState
    → Volume → Volume → Fault → Type 0
EndsAlong Done Left paths told old new volume volume' ends =
    (before : List (List ℕ)) × (path : List ℕ) × (behind : List (List ℕ)) × (told1 : Told) × (told2 : Told) × (fault : Fault) × (middle : StoreState)
    × (between : Volume) × (paths ≡ before ++ path ∷ behind) × TellsAlong Done Left before told told1 old middle volume between
    × Left path fault told1 told2 middle new between volume' × EndsBy fault ends

abbrev pub TellsPaths : (Done : List ℕ → Told → Told → StoreState → StoreState → Volume → Volume → Type 0)
    → (Left : List ℕ → Fault → Told → Told → StoreState → StoreState → Volume → Volume → Type 0) → List (List ℕ) → Told → Told → StoreState → StoreState
    → Volume → Volume → Result (Unit {0}) Fault → Type 0
TellsPaths Done Left paths told told' old new volume volume' result =
    MatchResult result (λ done. TellsAlong Done Left paths told told' old new volume volume')
    (λ fault. EndsAlong Done Left paths told old new volume volume' fault)
