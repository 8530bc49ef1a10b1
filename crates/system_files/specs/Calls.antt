-- The calls of a system by which a file is written: those that take its lock, and those that change anything. Looking and opening are none.
use Rattle.std.specs.Prelude.{◌≡◌, ◌⊎◌, ⊤, ℕ, Bool, true, false, if◌then◌else◌, List, [], ◌∷◌, ◌++◌, map, IsErr, is_ok, Option, Some, None, option_map, Result, Ok, Err, MatchResult}
use Rattle.std.specs.List.{AllByRecursion}
use Rattle.system_files.specs.Naming.{IsBeside}

pub data Step : Type 0 where
  -- the lock of the file that was opened
  Lock : Step
  -- whether the path still leads to that file
  Compare : (path : List ℕ) → Step
  -- a new file of this name
  Make : (name : List ℕ) → Step
  -- the mode and the owner of the old file, for the new one
  Keep : Step
  -- these bytes, to the file that is open
  Write : (bytes : List ℕ) → Step
  Sync : Step
  Rename : (from to : List ℕ) → Step
  SyncFolder : Step
  Remove : (name : List ℕ) → Step

-- a call, and whether it was answered well
abbrev pub Call : Type 0
Call = Step × Bool

-- the calls that were made, where they are known
abbrev pub Calls : Type 0
Calls = Option (List Call)

-- and these after them
abbrev pub with_calls : Calls → List Call → Calls
with_calls calls more = option_map (λ made. made ++ more) calls

abbrev pub well : Step → Call
well step = (step, true)

abbrev pub failed : Step → Call
failed step = (step, false)

-- a new file was made, and not found to be there
abbrev pub is_made : {A E : Type 0} → Result (Option A) E → Bool
is_made (Ok (Some file)) = true
is_made (Ok None) = false
is_made (Err fault) = false

-- it was answered, and yes
abbrev pub is_yes : {E : Type 0} → Result Bool E → Bool
is_yes (Ok answer) = answer
is_yes (Err fault) = false

-- calls that change nothing
abbrev pub IsQuietStep : Step → Type 0
IsQuietStep Lock = ⊤
IsQuietStep (Compare path) = ⊤
IsQuietStep step = ⊥

abbrev pub IsQuiet : Call → Type 0
IsQuiet call = IsQuietStep call.0

-- nothing was changed
pub record Looked (old new : Calls) : Type 0 where
  pub quiet : List Call
  pub all : AllByRecursion IsQuiet quiet
  pub calls : new ≡ with_calls old quiet

-- and the file of this path was locked, and then looked at again
pub record IsLocked (path : List ℕ) (old new : Calls) : Type 0 where
  pub quiet : List Call
  pub all : AllByRecursion IsQuiet quiet
  pub calls : new ≡ with_calls old (quiet ++ well Lock ∷ well (Compare path) ∷ [])

-- the mode and the owner, where there is an old file
abbrev pub kept_steps : Bool → List Step
kept_steps keeps = if keeps then Keep ∷ [] else []

-- what is done with the new file: before any byte is written it is given what the old one has, if there is an old one; and it takes its name last
abbrev pub plan : Bool → List ℕ → List ℕ → List ℕ → List Step
plan keeps bytes beside path = kept_steps keeps ++ Write bytes ∷ Sync ∷ Rename beside path ∷ []

-- these steps were made in turn, up to one that failed
pub record IsCut (steps : List Step) (made : List Call) : Type 0 where
  pub before : List Step
  pub step : Step
  pub after : List Step
  pub split : steps ≡ before ++ step ∷ after
  pub calls : made ≡ map well before ++ failed step ∷ []

-- all of them were, or they were cut
abbrev pub Goes : {A E : Type 0} → List Step → Calls → Calls → Result A E → Type 0
Goes steps old new result =
    MatchResult result (λ done. new ≡ with_calls old (map well steps)) (λ fault. (made : List Call) × IsCut steps made × (new ≡ with_calls old made))

-- new files of these names were not made
abbrev pub missed : List (List ℕ) → List Call
missed names = map (λ name. failed (Make name)) names

-- a new file was made beside that of a path
pub record IsMade (path beside : List ℕ) (made : List Call) : Type 0 where
  pub number : ℕ
  pub named : IsBeside path number beside
  pub names : List (List ℕ)
  pub calls : made ≡ missed names ++ well (Make beside) ∷ []

-- the same of all calls
abbrev pub Makes : List ℕ → List ℕ → Calls → Calls → Type 0
Makes path beside old new = (start : List Call) × IsMade path beside start × (new ≡ with_calls old start)

abbrev pub MakesNone : Calls → Calls → Type 0
MakesNone old new = (names : List (List ℕ)) × (new ≡ with_calls old (missed names))

-- a new file of these bytes took the place of that of a path, and its name is settled
pub record IsReplaced (keeps : Bool) (bytes path : List ℕ) (made : List Call) : Type 0 where
  pub beside : List ℕ
  pub start : List Call
  pub is_made : IsMade path beside start
  pub calls : made ≡ start ++ (map well (plan keeps bytes beside path) ++ well SyncFolder ∷ [])

-- no new file could be made
abbrev pub IsNotMade : List Call → Type 0
IsNotMade made = (names : List (List ℕ)) × (made ≡ missed names)

-- a new file was made, something failed, and it was removed
pub record IsRemoved (keeps : Bool) (bytes path : List ℕ) (made : List Call) : Type 0 where
  pub beside : List ℕ
  pub start : List Call
  pub middle : List Call
  pub is_made : IsMade path beside start
  pub is_cut : IsCut (plan keeps bytes beside path) middle
  pub calls : made ≡ start ++ (middle ++ well (Remove beside) ∷ [])

-- a new file took the place of that of a path, and its name may not be settled
pub record IsUnsettled (keeps : Bool) (bytes path : List ℕ) (made : List Call) : Type 0 where
  pub beside : List ℕ
  pub start : List Call
  pub is_made : IsMade path beside start
  pub calls : made ≡ start ++ (map well (plan keeps bytes beside path) ++ failed SyncFolder ∷ [])

-- where the file of a path was not replaced: only what was made for it is removed, and its own place is taken by a whole file or not at all
abbrev pub IsLeft : Bool → List ℕ → List ℕ → List Call → Type 0
IsLeft keeps bytes path made = IsNotMade made ⊎ IsRemoved keeps bytes path made ⊎ IsUnsettled keeps bytes path made

-- what a replacement does
abbrev pub Replaces : {A E : Type 0} → Bool → List ℕ → List ℕ → Calls → Calls → Result A E → Type 0
Replaces keeps bytes path old new result =
    MatchResult result
    (λ done. (made : List Call) × IsReplaced keeps bytes path made × (new ≡ with_calls old made))
    (λ fault. (made : List Call) × IsLeft keeps bytes path made × (new ≡ with_calls old made))

-- What is done to write these bytes to the file of a name. It fails and changes nothing; or the file of a path is locked, and replaced; or there is none of this
-- name, and a new one is made; or what is there is written in place.
abbrev pub Writes : {A E : Type 0} → List ℕ → List ℕ → Calls → Calls → Result A E → Type 0
Writes name bytes old new result =
    (IsErr result × Looked old new)
    ⊎ ((path : List ℕ) × (mid : Calls) × IsLocked path old mid × Replaces true bytes path mid new result)
    ⊎ ((mid : Calls) × Looked old mid × Replaces false bytes name mid new result)
    ⊎ ((mid : Calls) × Looked old mid × (new ≡ with_calls mid ((Write bytes, is_ok result) ∷ [])))
