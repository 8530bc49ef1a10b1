-- A word goes along some paths, and tells what it could not do below each: one more of them, and one at which the line ends.
use Rattle.std.proofs.Common.{◌≡◌, ℕ, ◌+◌, ◌<◌, List, [], ◌∷◌, ◌++◌, Bor, Result, Ok, Err, length, take, drop, get_or}
use Rattle.std.proofs.Common.{inl, inr, subst, sym}
use Rattle.std.specs.Prelude.{IfErr, IsErrAnd, MatchResult}
use Rattle.xn_model.specs.Lives.{StoreState}
use Rattle.xn_model.specs.Types.{Types}
use Rattle.tree_lines.specs.Values.{Volume}
use Rattle.tree_lines.specs.Telling.{EndsLine, GoesOn, PassesOn}
use Rattle.tree_lines.specs.declared.fault.Fault.{Fault}
use Rattle.tree_lines.specs.declared.told.Told.{Told}
use Rattle.tree_changes.specs.PathsTold.{AtPathTold, EndsAlong, TellsAlong, TellsPaths}
use Rattle.tree_changes.specs.PathsTold.TellsAlong.{does, leaves, none}
use Rattle.tree_changes.proofs.Along.{one_more, parts, texts}

-- before the first path
pub none_along : (Done : List ℕ → Told → Told → StoreState → StoreState → Volume → Volume → Type 0)
    (Left : List ℕ → Fault → Told → Told → StoreState → StoreState → Volume → Volume → Type 0) (told : Told) (old : StoreState) (volume : Volume) →
    TellsAlong Done Left [] told told old old volume volume
none_along Done Left told old volume = none

-- where something ends what is done

pub answered_with : {E : Type 0} (Made : Type 0) (Refused : E → Type 0) (Done : Type 0) (Left : E → Type 0) (result : Result (Unit {0}) E) →
    MatchResult result (λ done. Made) Refused → (Made → Done) → ((fault : E) → Refused fault → Left fault) → MatchResult result (λ done. Done) Left
answered_with Made Refused Done Left (Ok done) answered made refused = made answered
answered_with Made Refused Done Left (Err fault) answered made refused = refused fault answered

-- the fault that ends a line is one that ends it

ends_passing : (told told' : Told) (fault ends : Fault) → PassesOn told told' fault (Err ends) → EndsLine ends
ends_passing told told' fault ends (inl memory) = subst EndsLine (sym memory) tt
ends_passing told told' fault ends (inr it) = subst EndsLine (sym it.1) it.0

pub ends_line : (told told' : Told) (done answer : Result (Unit {0}) Fault) (ends : Fault) → GoesOn told told' done answer → answer ≡ Err ends → EndsLine ends
ends_line told told' (Ok made) answer ends goes err = let ok = goes.0 in cc
ends_line told told' (Err fault) answer ends goes err =
    ends_passing told told' fault ends (subst (λ (r : Result (Unit {0}) Fault). PassesOn told told' fault r) err goes)

pub answers_end : {A : Type 0} (ends : Fault) (result : Result A Fault) → EndsLine ends → IsErrAnd result (λ fault. fault ≡ ends) → IfErr result EndsLine
answers_end ends (Ok done) line err = tt
answers_end ends (Err fault) line err = subst EndsLine (sym err) line

module _ (Done : List ℕ → Told → Told → StoreState → StoreState → Volume → Volume → Type 0)
    (Left : List ℕ → Fault → Told → Told → StoreState → StoreState → Volume → Volume → Type 0) (told told1 told2 told3 : Told) (old middle new : StoreState)
    (volume between volume' : Volume) (before : List (List ℕ)) (path : List ℕ)
    (along : TellsAlong Done Left before told told1 old middle volume between) where
  one_after : (done answer : Result (Unit {0}) Fault) → AtPathTold Done Left path told1 told2 middle new between volume' done →
      GoesOn told2 told3 done answer → answer ≡ Ok tt → TellsAlong Done Left (before ++ path ∷ []) told told3 old new volume volume'
  one_after (Ok made) answer at goes ok =
      does told1 middle between along (subst (λ (t : Told). Done path told1 t middle new between volume') (sym goes.1) at)
  one_after (Err fault) answer at goes ok =
      let passed = subst (λ (r : Result (Unit {0}) Fault). PassesOn told2 told3 fault r) ok goes in
      leaves told1 told2 fault middle between along at passed.0 passed.1

  ends_at : (paths behind : List (List ℕ)) → paths ≡ before ++ path ∷ behind → (done answer : Result (Unit {0}) Fault) (ends : Fault) →
      AtPathTold Done Left path told1 told2 middle new between volume' done → GoesOn told2 told3 done answer → answer ≡ Err ends →
      EndsAlong Done Left paths told old new volume volume' ends
  ends_at paths behind parts (Ok made) answer ends at goes err = let ok = goes.0 in cc
  ends_at paths behind parts (Err fault) answer ends at goes err =
      let by = subst (λ (r : Result (Unit {0}) Fault). PassesOn told2 told3 fault r) err goes in
      (before, path, behind, told1, told2, fault, middle, between, parts, along, at, by)

stopped : (Done : List ℕ → Told → Told → StoreState → StoreState → Volume → Volume → Type 0)
    (Left : List ℕ → Fault → Told → Told → StoreState → StoreState → Volume → Volume → Type 0) (paths : List (List ℕ)) (told told' : Told)
    (old new : StoreState) (volume volume' : Volume) (ends : Fault) (result : Result (Unit {0}) Fault) → IsErrAnd result (λ fault. fault ≡ ends) →
    EndsAlong Done Left paths told old new volume volume' ends → TellsPaths Done Left paths told told' old new volume volume' result
stopped Done Left paths told told' old new volume volume' ends (Ok done) err along = absurd err
stopped Done Left paths told told' old new volume volume' ends (Err fault) err along =
    subst (λ (f : Fault). EndsAlong Done Left paths told old new volume volume' f) (sym err) along

-- Done, Left: of the types and the folder that stay
module _ (Done : Types → ℕ → List ℕ → Told → Told → StoreState → StoreState → Volume → Volume → Type 0)
    (Left : Types → ℕ → List ℕ → Fault → Told → Told → StoreState → StoreState → Volume → Volume → Type 0) (T types : Types) (top folder : ℕ)
    (types_are : types ≡ T) (folder_is : folder ≡ top) (paths : List (Bor (List ℕ))) (place : ℕ) (default : Bor (List ℕ)) (within : place < length paths)
    (told told1 told2 told3 : Told) (old middle new : StoreState) (volume between volume' : Volume) (done answer : Result (Unit {0}) Fault)
    (along : TellsAlong (Done T top) (Left T top) (take place (texts paths)) told told1 old middle volume between)
    (at : AtPathTold (Done types folder) (Left types folder) (get_or paths place default).now told1 told2 middle new between volume' done)
    (goes : GoesOn told2 told3 done answer) where
  at_so : AtPathTold (Done T top) (Left T top) (get_or paths place default).now told1 told2 middle new between volume' done
  at_so =
      subst (λ (n : ℕ). AtPathTold (Done T n) (Left T n) (get_or paths place default).now told1 told2 middle new between volume' done) folder_is
      (subst (λ (t : Types). AtPathTold (Done t folder) (Left t folder) (get_or paths place default).now told1 told2 middle new between volume' done) types_are
      at)

  pub goes_along : answer ≡ Ok tt → TellsAlong (Done T top) (Left T top) (take (place + 1) (texts paths)) told told3 old new volume volume'
  goes_along ok =
      rw (one_more paths place default within)
      (one_after (Done T top) (Left T top) told told1 told2 told3 old middle new volume between volume' (take place (texts paths))
      (get_or paths place default).now along done answer at_so goes ok)

  pub ends_along : (ends : Fault) (result : Result (Unit {0}) Fault) → answer ≡ Err ends → IsErrAnd result (λ fault. fault ≡ ends) →
      TellsPaths (Done T top) (Left T top) (texts paths) told told3 old new volume volume' result
  ends_along ends result err is =
      stopped (Done T top) (Left T top) (texts paths) told told3 old new volume volume' ends result is
      (ends_at (Done T top) (Left T top) told told1 told2 told3 old middle new volume between volume' (take place (texts paths))
      (get_or paths place default).now along (texts paths) (drop (place + 1) (texts paths)) (parts paths place default within) done answer ends at_so goes err)
