-- Actions that were run by a plan: none, one call, and those of two plans one behind the other.
use Rattle.std.proofs.Common.{◌≡◌, ℕ, Bool, false, true, List, [], ◌∷◌, ◌++◌, Result, Ok, Err, inl, inr, refl, subst}
use Rattle.std.specs.Prelude.{IsErr, IsOk, MatchBool}
use Rattle.xn_model.specs.Lives.{StoreState}
use Rattle.xn_model.specs.Types.{Types}
use Rattle.treefs_model.specs.declared.fault.Fault.{Fault}
use Rattle.tree_lines.specs.Values.{Put, Volume}
use Rattle.tree_lines.specs.Freeing.{GivesUp}
use Rattle.tree_lines.specs.Puts.{PutDoes}
use Rattle.tree_lines.specs.Answers.{Answers}
use Rattle.tree_puts.specs.Actions.{Action, Calls, Does, OrElse, Performs, Runs}
use Rattle.tree_puts.specs.Actions.Action.{gives_up, puts}
use Rattle.tree_puts.specs.Arriving.{IsGivenUp}

-- nothing was changed
pub none_done : {T : Types} {folder : ℕ} {Plan : List Action → Type 0} {state new : StoreState} {volume volume' : Volume} → new ≡ state → volume' ≡ volume →
    Plan [] → Performs T folder Plan state new volume volume'
none_done state_is volume_is plan = record { actions = []; planned = plan; runs = (state_is, volume_is) }

runs_moved : (T : Types) (folder : ℕ) (actions : List Action) (old old' new : StoreState) (volume volume1 volume' : Volume) → old' ≡ old → volume1 ≡ volume →
    Runs T folder actions old' new volume1 volume' → Runs T folder actions old new volume volume'
runs_moved T folder actions old old' new volume volume1 volume' state_is volume_is runs =
    subst (λ (s : StoreState). Runs T folder actions s new volume volume') state_is
    (subst (λ (v : Volume). Runs T folder actions old' new v volume') volume_is runs)

runs_both : (T : Types) (folder : ℕ) (before behind : List Action) (old middle new : StoreState) (volume between volume' : Volume) →
    Runs T folder before old middle volume between → Runs T folder behind middle new between volume' →
    Runs T folder (before ++ behind) old new volume volume'
runs_both T folder [] behind old middle new volume between volume' first next =
    runs_moved T folder behind old middle new volume between volume' first.0 first.1 next
runs_both T folder (action ∷ before) behind old middle new volume between volume' first next =
    (first.0, first.1, first.2, runs_both T folder before behind first.0 middle new first.1 between volume' first.3 next)

-- where the types and the folder that is held are the same
pub performs_at : {T types : Types} {top folder : ℕ} {Plan : List Action → Type 0} {old new : StoreState} {volume volume' : Volume} → types ≡ T → folder ≡ top →
    Performs types folder Plan old new volume volume' → Performs T top Plan old new volume volume'
performs_at {T} {types} {top} {folder} {Plan} {old} {new} {volume} {volume'} types_are folder_is done =
    subst (λ (n : ℕ). Performs T n Plan old new volume volume') folder_is
    (subst (λ (t : Types). Performs t folder Plan old new volume volume') types_are done)

pub by_plan : {T : Types} {folder : ℕ} {Plan Other : List Action → Type 0} {old new : StoreState} {volume volume' : Volume} →
    Performs T folder Plan old new volume volume' → ((actions : List Action) → Plan actions → Other actions) → Performs T folder Other old new volume volume'
by_plan done so = record { actions = done.actions; planned = so done.actions done.planned; runs = done.runs }

pub both_done : {T types : Types} {top folder : ℕ} {First Next Plan : List Action → Type 0} {old middle new : StoreState} {volume between volume' : Volume} →
    Performs T top First old middle volume between → types ≡ T → folder ≡ top → Performs types folder Next middle new between volume' →
    ((before behind : List Action) → First before → Next behind → Plan (before ++ behind)) → Performs T top Plan old new volume volume'
both_done {T} {types} {top} {folder} {First} {Next} {Plan} {old} {middle} {new} {volume} {between} {volume'} first types_are folder_is next so =
    let behind = performs_at types_are folder_is next in
    record {
      actions = first.actions ++ behind.actions;
      planned = so first.actions behind.actions first.planned behind.planned;
      runs = runs_both T top first.actions behind.actions old middle new volume between volume' first.runs behind.runs;
    }

-- one call

one_run : (T : Types) (folder : ℕ) (action : Action) (old new : StoreState) (volume volume' : Volume) → Does T folder action old new volume volume' →
    Runs T folder (action ∷ []) old new volume volume'
one_run T folder action old new volume volume' does = (new, volume', does, (refl, refl))

pub one_done : (T : Types) (folder : ℕ) (old new : StoreState) (volume volume' : Volume) {A E : Type 0} (call : Result A Fault → Action)
    (result : Result A E) → Answers (λ answer. Does T folder (call answer) old new volume volume') result →
    Performs T folder (Calls call result) old new volume volume'
one_done T folder old new volume volume' call (Ok made) answers = record {
  actions = call (Ok made) ∷ [];
  planned = refl;
  runs = one_run T folder (call (Ok made)) old new volume volume' answers;
}
one_done T folder old new volume volume' call (Err told) answers = record {
  actions = call (Err answers.0) ∷ [];
  planned = (answers.0, refl);
  runs = one_run T folder (call (Err answers.0)) old new volume volume' answers.1;
}

pub answers_so : {A E : Type 0} (Called Other : Result A Fault → Type 0) (result : Result A E) →
    ((answer : Result A Fault) → Called answer → Other answer) → Answers Called result → Answers Other result
answers_so Called Other (Ok made) so answers = so (Ok made) answers
answers_so Called Other (Err told) so answers = (answers.0, so (Err answers.0) answers.1)

pub put_done : (T : Types) (folder : ℕ) (old new : StoreState) (volume volume' : Volume) {E : Type 0} (put : Put) (result : Result ℕ E) → put.replace ≡ true →
    Answers (PutDoes T (folder ∷ []) put old new volume volume') result →
    Performs T folder (Calls (puts put.directory put.name.now put.kind put.attributes put.bytes.now) result) old new volume volume'
put_done T folder old new volume volume' put result over answers =
    let call : Result ℕ Fault → Action = puts put.directory put.name.now put.kind put.attributes put.bytes.now in
    one_done T folder old new volume volume' call result
    (answers_so (λ answer. PutDoes T (folder ∷ []) put old new volume volume' answer) (λ answer. Does T folder (call answer) old new volume volume') result
    (λ answer does. (put, (refl, refl, refl, refl, refl, over), does)) answers)

-- a look, or a call whose answer is known
pub action_done : {T : Types} {folder : ℕ} {old new : StoreState} {volume volume' : Volume} (action : Action) → Does T folder action old new volume volume' →
    Performs T folder (λ actions. actions ≡ action ∷ []) old new volume volume'
action_done {T} {folder} {old} {new} {volume} {volume'} action does =
    record { actions = action ∷ []; planned = refl; runs = one_run T folder action old new volume volume' does }

-- what comes first failed, and then something else is done

pub stays_done : {T : Types} {folder : ℕ} {old new : StoreState} {volume volume' : Volume} {A E : Type 0} (First : Result A E → List Action → Type 0)
    (Else : List Action → Type 0) (result : Result A E) → IsOk result → Performs T folder (First result) old new volume volume' →
    Performs T folder (OrElse First Else result) old new volume volume'
stays_done First Else (Ok answer) is done = done
stays_done First Else (Err fault) is done = absurd (let wrong : ⊥ = cc in wrong)

pub else_done : {T types : Types} {top folder : ℕ} {old middle new : StoreState} {volume between volume' : Volume} {A E : Type 0}
    (First : Result A E → List Action → Type 0) (Else : List Action → Type 0) (result : Result A E) → IsErr result →
    Performs T top (First result) old middle volume between → types ≡ T → folder ≡ top → Performs types folder Else middle new between volume' →
    Performs T top (OrElse First Else result) old new volume volume'
else_done First Else (Ok answer) is first types_are folder_is next = absurd (let wrong : ⊥ = cc in wrong)
else_done First Else (Err fault) is first types_are folder_is next =
    both_done first types_are folder_is next (λ before behind one other. (before, behind, refl, one, other))

-- a call whose answer isn't told
pub some_answer : {A E : Type 0} (call : Result A Fault → Action) (result : Result A E) (actions : List Action) → Calls call result actions →
    (answer : Result A Fault) × (actions ≡ call answer ∷ [])
some_answer call (Ok made) actions called = (Ok made, called)
some_answer call (Err told) actions called = (Err called.0, called.1)

-- an inode is given up, or nothing is done any more
pub gave_up : (T : Types) (folder : ℕ) (old new : StoreState) (volume volume' : Volume) (block : ℕ) {Same : Type 0} (broken : Bool) →
    MatchBool broken Same ((given : Result Bool Fault) × GivesUp T block old new volume volume' given) → (Same → new ≡ old) → (Same → volume' ≡ volume) →
    Performs T folder (IsGivenUp block) old new volume volume'
gave_up T folder old new volume volume' block true does state_is volume_is = none_done (state_is does) (volume_is does) (inl refl)
gave_up T folder old new volume volume' block false does state_is volume_is =
    by_plan (action_done (gives_up block does.0) does.1) (λ actions is. inr (does.0, is))
