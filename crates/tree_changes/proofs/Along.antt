-- A word goes along some paths: at one of them, one more of them, and one that ends the line.
use Rattle.std.proofs.Common.{◌≡◌, ◌∙◌, ℕ, ◌+◌, ◌-◌, ◌^◌, ◌<◌, Bool, true, false, List, [], ◌∷◌, ◌++◌, Bor, Result, Ok, Err, length, take, drop, map, get_or}
use Rattle.std.proofs.Common.{ap, arith, refl, subst, sym, length-append}
use Rattle.std.specs.Prelude.{IsErr, MatchBool, MatchResult, min, nat_lt}
use Rattle.std.proofs.lemmas.Bool.{ltb-false}
use Rattle.std.proofs.lemmas.List.{drop_more, take-append-drop, take_more, get_or-map, length-map}
use Rattle.xn_model.specs.Lives.{StoreState}
use Rattle.xn_model.specs.Types.{Types}
use Rattle.treefs_model.specs.declared.fault.Fault.{Fault}
use Rattle.tree_lines.specs.Values.{Volume}
use Rattle.tree_lines.specs.Answers.{Answers}
use Rattle.tree_lines.specs.Telling.{GoesOn, LeavesOut, PassesOn, Tells}
use Rattle.tree_lines.specs.declared.fault.Fault.{Fault as LineFault}
use Rattle.tree_lines.specs.declared.told.Told.{Told}
use Rattle.tree_changes.specs.Paths.{AtPath, DoesAll, DoesPaths, EndsAt, StopsAt, TellsEach}
use Rattle.tree_changes.specs.Paths.DoesEach.{does, leaves, none}

-- at one path

call_at : {E : Type 0} (Done Left : Type 0) (Does : Result (Unit {0}) Fault → Type 0) (result : Result (Unit {0}) E) → Answers Does result →
    (Does (Ok tt) → Done) → ((fault : Fault) → Does (Err fault) → Left) → MatchResult result (λ done. Done) (λ told. Left)
call_at Done Left Does (Ok done) answers made refused = made answers
call_at Done Left Does (Err told) answers made refused = refused answers.0 answers.1

-- where a call ends what is done there
pub calls_at : {E : Type 0} (Done Left : List ℕ → StoreState → StoreState → Volume → Volume → Type 0) (path : List ℕ) (old new : StoreState)
    (volume volume' : Volume) (Does : Result (Unit {0}) Fault → Type 0) (result : Result (Unit {0}) E) → Answers Does result →
    (Does (Ok tt) → Done path old new volume volume') → ((fault : Fault) → Does (Err fault) → Left path old new volume volume') →
    AtPath Done Left path old new volume volume' result
calls_at Done Left path old new volume volume' Does result answers made refused =
    call_at (Done path old new volume volume') (Left path old new volume volume') Does result answers made refused

-- where something ends what is done

pub failed : {E : Type 0} (Done Left : Type 0) (result : Result (Unit {0}) E) → IsErr result → Left → MatchResult result (λ done. Done) (λ told. Left)
failed Done Left (Ok done) err left = cc
failed Done Left (Err fault) err left = left

pub answered_as : {E : Type 0} (Made Refused Done Left : Type 0) (result : Result (Unit {0}) E) → MatchResult result (λ done. Made) (λ told. Refused) →
    (Made → Done) → (Refused → Left) → MatchResult result (λ done. Done) (λ told. Left)
answered_as Made Refused Done Left (Ok done) answered made refused = made answered
answered_as Made Refused Done Left (Err told) answered made refused = refused answered

-- before the first path
pub none_yet : (Done Left : List ℕ → StoreState → StoreState → Volume → Volume → Type 0) (told : Told) (old : StoreState) (volume : Volume) →
    TellsEach Done Left [] told told old old volume volume
none_yet Done Left told old volume = ([], none, (λ is. refl, λ some. absurd (omega (arith, some))))

-- one more of them

abbrev pub texts : List (Bor (List ℕ)) → List (List ℕ)
texts paths = map (λ path. path.now) paths

module _ (paths : List (Bor (List ℕ))) (place : ℕ) (default : Bor (List ℕ)) (within : place < length paths) where
  pub one_more : take (place + 1) (texts paths) ≡ take place (texts paths) ++ (get_or paths place default).now ∷ []
  one_more =
      let there : place < length (texts paths) = rw length-map within in
      let next : get_or (texts paths) place [] ≡ (get_or paths place default).now = get_or-map (λ path. path.now) paths place default [] within in
      rw (take_more (texts paths) place [] there, next)

  pub parts : texts paths ≡ take place (texts paths) ++ (get_or paths place default).now ∷ drop (place + 1) (texts paths)
  parts =
      let there : place < length (texts paths) = rw length-map within in
      let next : get_or (texts paths) place [] ≡ (get_or paths place default).now = get_or-map (λ path. path.now) paths place default [] within in
      let rest = drop_more (texts paths) place [] there ∙ ap (λ (path : List ℕ). path ∷ drop (place + 1) (texts paths)) next in
      sym (take-append-drop place (texts paths)) ∙ ap (λ (l : List (List ℕ)). take place (texts paths) ++ l) rest

out_of_more : (told told1 told2 : Told) (left : List (List ℕ)) (path : List ℕ) → LeavesOut told1 told2 1 → LeavesOut told told2 (length (left ++ path ∷ []))
out_of_more told told1 told2 left path out =
    let more : length (left ++ path ∷ []) ≡ length left + 1 = length-append left (path ∷ []) in
    (λ none. absurd (omega arith), λ some. out.1 (omega arith))

-- a fault that is told is one that was left out

some_told : (few : Bool) (told told' : Told) (fault : LineFault) → nat_lt (length told.faults.items) 1000 ≡ few → MatchBool few
    ((told'.faults.items ≡ told.faults.items ++ fault ∷ []) × (told'.more ≡ told.more))
    ((told'.faults.items ≡ told.faults.items) × (told'.more ≡ min (told.more + 1) (2 ^ 64 - 1))) → 0 < length told'.faults.items
some_told true told told' fault few tells =
    let long = ap length tells.0 ∙ length-append told.faults.items (fault ∷ []) in omega (arith, long)
some_told false told told' fault few tells =
    let many = ltb-false (length told.faults.items) 1000 few in
    let long = ap length tells.0 in omega (arith, long, many)

told_is_left_out : (told told' : Told) (fault : LineFault) → Tells told told' fault → LeavesOut told told' 1
told_is_left_out told told' fault tells =
    (λ none. absurd (omega arith), λ some. some_told (nat_lt (length told.faults.items) 1000) told told' fault refl tells)

module _ (Done Left : List ℕ → StoreState → StoreState → Volume → Volume → Type 0) (told told1 told2 : Told) (old middle new : StoreState)
    (volume between volume' : Volume) (before : List (List ℕ)) (path : List ℕ) (tells : TellsEach Done Left before told told1 old middle volume between) where
  one_after : (done answer : Result (Unit {0}) LineFault) → AtPath Done Left path middle new between volume' done → GoesOn told1 told2 done answer →
      answer ≡ Ok tt → TellsEach Done Left (before ++ path ∷ []) told told2 old new volume volume'
  one_after (Ok made) answer at goes ok =
      (tells.0, does middle between tells.1 at, subst (λ (t : Told). LeavesOut told t (length tells.0)) (sym goes.1) tells.2)
  one_after (Err fault) answer at goes ok =
      let passed = subst (λ (r : Result (Unit {0}) LineFault). PassesOn told1 told2 fault r) ok goes in
      let out : LeavesOut told1 told2 1 = told_is_left_out told1 told2 fault passed.1 in
      (tells.0 ++ path ∷ [], leaves middle between tells.1 at, out_of_more told told1 told2 tells.0 path out)

  left_there : (done answer : Result (Unit {0}) LineFault) (fault : LineFault) → AtPath Done Left path middle new between volume' done →
      GoesOn told1 told2 done answer → answer ≡ Err fault → Left path middle new between volume'
  left_there (Ok made) answer fault at goes err = let ok = goes.0 in cc
  left_there (Err other) answer fault at goes err = at

pub stops_there : {E : Type 0} (Done Left : List ℕ → StoreState → StoreState → Volume → Volume → Type 0) (paths : List (Bor (List ℕ))) (place : ℕ)
    (default : Bor (List ℕ)) → place < length paths → (told told1 told2 : Told) (old middle new : StoreState) (volume between volume' : Volume) →
    TellsEach Done Left (take place (texts paths)) told told1 old middle volume between → Left (get_or paths place default).now middle new between volume' →
    (result : Result (Unit {0}) E) → IsErr result → DoesPaths Done Left (texts paths) told told2 old new volume volume' result
stops_there Done Left paths place default within told told1 told2 old middle new volume between volume' tells left result err =
    let path = (get_or paths place default).now in
    let at : EndsAt Done Left (texts paths) told old new volume volume' =
    (take place (texts paths), path, drop (place + 1) (texts paths), middle, between, told1, parts paths place default within, tells, left) in
    elim result as (λ r. IsErr r → DoesPaths Done Left (texts paths) told told2 old new volume volume' r)
    [ Ok made ↦ λ wrong. cc | Err fault ↦ λ right. at ] err

-- Done, Left: of the types and the folder that stay
module _ (Done Left : Types → ℕ → List ℕ → StoreState → StoreState → Volume → Volume → Type 0) (T types : Types) (top folder : ℕ)
    (types_are : types ≡ T) (folder_is : folder ≡ top) (paths : List (Bor (List ℕ))) (place : ℕ) (default : Bor (List ℕ)) (within : place < length paths)
    (told told0 told1 told2 : Told) (old middle new : StoreState) (volume between volume' : Volume) (done answer : Result (Unit {0}) LineFault)
    (tells : TellsEach (Done T top) (Left T top) (take place (texts paths)) told told0 old middle volume between) (told_is : told1 ≡ told0)
    (at : AtPath (Done types folder) (Left types folder) (get_or paths place default).now middle new between volume' done)
    (goes : GoesOn told1 told2 done answer) where
  tells_so : TellsEach (Done T top) (Left T top) (take place (texts paths)) told told1 old middle volume between
  tells_so =
      subst (λ (t : Told). TellsEach (Done T top) (Left T top) (take place (texts paths)) told t old middle volume between) (sym told_is) tells

  at_so : AtPath (Done T top) (Left T top) (get_or paths place default).now middle new between volume' done
  at_so =
      subst (λ (n : ℕ). AtPath (Done T n) (Left T n) (get_or paths place default).now middle new between volume' done) folder_is
      (subst (λ (t : Types). AtPath (Done t folder) (Left t folder) (get_or paths place default).now middle new between volume' done) types_are at)

  pub goes_on : answer ≡ Ok tt → TellsEach (Done T top) (Left T top) (take (place + 1) (texts paths)) told told2 old new volume volume'
  goes_on ok =
      rw (one_more paths place default within)
      (one_after (Done T top) (Left T top) told told1 told2 old middle new volume between volume' (take place (texts paths)) (get_or paths place default).now
      tells_so done answer at_so goes ok)

  pub ends_there : {E : Type 0} (fault : LineFault) (result : Result (Unit {0}) E) → answer ≡ Err fault → IsErr result →
      DoesPaths (Done T top) (Left T top) (texts paths) told told2 old new volume volume' result
  ends_there fault result err is =
      let path = (get_or paths place default).now in
      let left = left_there (Done T top) (Left T top) told told1 told2 old middle new volume between volume' (take place (texts paths)) path tells_so done
      answer fault at_so goes err in
      stops_there (Done T top) (Left T top) paths place default within told told1 told2 old middle new volume between volume' tells_so left result is

-- all of some paths

pub none_done : (Done : List ℕ → StoreState → StoreState → Volume → Volume → Type 0) (old : StoreState) (volume : Volume) → DoesAll Done [] old old volume volume
none_done Done old volume = none

-- Done, Left: of the types and the folder that stay
module _ (Done Left : Types → ℕ → List ℕ → StoreState → StoreState → Volume → Volume → Type 0) (T types : Types) (top folder : ℕ)
    (types_are : types ≡ T) (folder_is : folder ≡ top) (before : List (List ℕ)) (path : List ℕ) (old middle new : StoreState) (volume between volume' : Volume)
    (all : DoesAll (Done T top) before old middle volume between) where
  stays_so : (P : Types → ℕ → Type 0) → P types folder → P T top
  stays_so P h = subst (λ (n : ℕ). P T n) folder_is (subst (λ (t : Types). P t folder) types_are h)

  pub one_more_done : Done types folder path middle new between volume' → DoesAll (Done T top) (before ++ path ∷ []) old new volume volume'
  one_more_done made = does middle between all (stays_so (λ t n. Done t n path middle new between volume') made)

  pub stops_at : (paths behind : List (List ℕ)) → paths ≡ before ++ path ∷ behind → Left types folder path middle new between volume' →
      StopsAt (Done T top) (Left T top) paths old new volume volume'
  stops_at paths behind parts left = (before, path, behind, middle, between, parts, all, stays_so (λ t n. Left t n path middle new between volume') left)

  pub last_answered : {E : Type 0} (result : Result (Unit {0}) E) → AtPath (Done types folder) (Left types folder) path middle new between volume' result →
      AtPath (λ path. DoesAll (Done T top) (before ++ path ∷ [])) (λ path. StopsAt (Done T top) (Left T top) (before ++ path ∷ [])) path old new volume volume'
      result
  last_answered (Ok done) at = one_more_done at
  last_answered (Err fault) at = stops_at (before ++ path ∷ []) [] refl at
