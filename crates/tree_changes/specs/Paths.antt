-- A word goes from path to path.
--     IsSame         nothing was changed
--     IsRefused      nothing was; or a call was refused
--     AtPath         what a word does at one path, or it is left out, with its fault
--     DoesEach       what a word does at some paths, in their order, each in the volume that the one before left; which of them were left out
--     DoesAll        the same, where none was left out
--     StopsAt        the first ones were done, and then one was left out
--     DoesPaths      the same, with what is told; or the line ended at one of them
use Rattle.std.specs.Prelude.{◌≡◌, ◌⊎◌, ℕ, List, [], ◌∷◌, ◌++◌, length, Result, Err, MatchResult}
use Rattle.xn_model.specs.Lives.{StoreState}
use Rattle.treefs_model.specs.declared.fault.Fault.{Fault}
use Rattle.tree_lines.specs.Values.{Volume}
use Rattle.tree_lines.specs.Telling.{LeavesOut}
use Rattle.tree_lines.specs.declared.told.Told.{Told}

abbrev pub IsSame : StoreState → StoreState → Volume → Volume → Type 0
IsSame old new volume volume' = (new ≡ old) × (volume' ≡ volume)

-- Does: what the call did, and answered
abbrev pub IsRefused : {A : Type 0} → (Result A Fault → Type 0) → StoreState → StoreState → Volume → Volume → Type 0
IsRefused Does old new volume volume' = IsSame old new volume volume' ⊎ ((fault : Fault) × Does (Err fault))

-- Done: what is done at a path; Left: what is so where it is left out
abbrev pub AtPath : {E : Type 0} → (Done Left : List ℕ → StoreState → StoreState → Volume → Volume → Type 0) → List ℕ → StoreState → StoreState
    → Volume → Volume → Result (Unit {0}) E → Type 0
AtPath Done Left path old new volume volume' result =
    MatchResult result (λ done. Done path old new volume volume') (λ fault. Left path old new volume volume')

pub data DoesEach (Done Left : List ℕ → StoreState → StoreState → Volume → Volume → Type 0)
    : List (List ℕ) → List (List ℕ) → StoreState → StoreState → Volume → Volume → Type 0 where
  none : {state : StoreState} {volume : Volume} → DoesEach Done Left [] [] state state volume volume
  does : {paths left : List (List ℕ)} {path : List ℕ} {old new : StoreState} {volume volume' : Volume} (middle : StoreState) (between : Volume) →
      DoesEach Done Left paths left old middle volume between → Done path middle new between volume' →
      DoesEach Done Left (paths ++ path ∷ []) left old new volume volume'
  leaves : {paths left : List (List ℕ)} {path : List ℕ} {old new : StoreState} {volume volume' : Volume} (middle : StoreState) (between : Volume) →
      DoesEach Done Left paths left old middle volume between → Left path middle new between volume' →
      DoesEach Done Left (paths ++ path ∷ []) (left ++ path ∷ []) old new volume volume'

abbrev pub DoesAll : (Done : List ℕ → StoreState → StoreState → Volume → Volume → Type 0) → List (List ℕ) → StoreState → StoreState → Volume → Volume → Type 0
DoesAll Done paths old new volume volume' = DoesEach Done (λ path old new volume volume'. ⊥) paths [] old new volume volume'

abbrev pub StopsAt : (Done Left : List ℕ → StoreState → StoreState → Volume → Volume → Type 0) → List (List ℕ) → StoreState → StoreState → Volume → Volume
    → Type 0
StopsAt Done Left paths old new volume volume' =
    (before : List (List ℕ)) × (path : List ℕ) × (behind : List (List ℕ)) × (middle : StoreState) × (between : Volume) × (paths ≡ before ++ path ∷ behind)
    × DoesAll Done before old middle volume between × Left path middle new between volume'

-- those that were left out are told
abbrev pub TellsEach : (Done Left : List ℕ → StoreState → StoreState → Volume → Volume → Type 0) → List (List ℕ) → Told → Told → StoreState → StoreState
    → Volume → Volume → Type 0
TellsEach Done Left paths told told' old new volume volume' =
    (left : List (List ℕ)) × DoesEach Done Left paths left old new volume volume' × LeavesOut told told' (length left)

-- the last one is left out, as the line ends there
abbrev pub EndsAt : (Done Left : List ℕ → StoreState → StoreState → Volume → Volume → Type 0) → List (List ℕ) → Told → StoreState → StoreState → Volume
    → Volume → Type 0
EndsAt Done Left paths told old new volume volume' =
    (before : List (List ℕ)) × (path : List ℕ) × (behind : List (List ℕ)) × (middle : StoreState) × (between : Volume) × (told' : Told)
    × (paths ≡ before ++ path ∷ behind) × TellsEach Done Left before told told' old middle volume between × Left path middle new between volume'

abbrev pub DoesPaths : {E : Type 0} → (Done Left : List ℕ → StoreState → StoreState → Volume → Volume → Type 0) → List (List ℕ) → Told → Told → StoreState
    → StoreState → Volume → Volume → Result (Unit {0}) E → Type 0
DoesPaths Done Left paths told told' old new volume volume' result =
    MatchResult result (λ done. TellsEach Done Left paths told told' old new volume volume')
    (λ fault. EndsAt Done Left paths told old new volume volume')
