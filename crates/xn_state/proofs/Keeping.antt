-- What the calls of a state leave keeps the model's rules.
use Rattle.std.proofs.Common.{◌≡◌, refl, ℕ, ◌+◌, ◌<◌, List, [], ◌∷◌, length, false, Option, Some, None, Result, Ok, Err, sym, ◌∙◌, ap, slice_get, slice_set, subst}
use Rattle.store_types.specs.declared.refusal.Refusal.{Refusal}
use Rattle.xn_model.specs.Root.{with_slot}
use Rattle.xn_model.specs.Lives.{StoreState, Life, Lives, life_at, lowest_free, begun_at, settled_at, freed, drops_of}
use Rattle.xn_model.specs.Results.{unless, result_map, result_and_then, Gives, GivesExactly}
use Rattle.xn_model.specs.Calls.{Edit, init_of, propose_of, forget_of, init_at, init_refusal, new_life, own_life, root_now, root_state, accepts, make_root_of, make_root_at, make_root_refusal, drop_root_of, drop_root_refusal, slot_now, begun_place, settled_place, settled_after, first_pending}
use Rattle.xn_model.specs.Types.{Types}
use Rattle.xn_model.specs.Rules.{IsConsistent, Keeps}
use Rattle.xn_model.specs.Images.{IsSound, block_of}
use Rattle.xn_model.specs.Mounts.{IsRecovered}
use Rattle.xn_model.specs.Worlds.{World}
use Rattle.xn_model.proofs.ForCallers.{mount_holds, types_mounted, given_ok, same_ok, never_ok, then_ok, gives_keeps, gives_exactly_keeps, init_keeps, propose_keeps, make_root_keeps, drop_root_keeps, forget_keeps, begun_keeps, settled_keeps}
use Rattle.udf_run.specs.declared.reads.ReadSet.{ReadSet}
use Rattle.templates.specs.Tables.{TableValue}
use Rattle.templates.specs.Language.{language, types_of_image}
use Rattle.claims.specs.Decided.{AreDecided}
use Rattle.xn_state.specs.States.{Continues, IsStateOf, own_types}
use Rattle.xn_state.specs.Plans.{make_root_plan, make_root_plan_at}
use Rattle.xn_state.specs.Proposals.{drop_root_plan, accepted_entry}

-- a state with these lives and this next number
abbrev pub state_of : Lives → ℕ → StoreState
state_of lives next = record { lives = lives; next = next }

-- what keeps the rules continues
pub continues : (old new : StoreState) → Keeps (own_types old) old new → Continues old new
continues old new k = record { rules = k.consistent; types = k.types language }

-- and under the same table it is a state, where the chunks that are kept decide what blocks own
pub goes_on : (table : TableValue) (sets kept : List (Option ReadSet)) (old new : StoreState) → IsStateOf table sets old → Continues old new → AreDecided (own_types old) kept new.lives → IsStateOf table kept new
goes_on table sets kept old new is k decided = record {
  rules = subst (λ T. IsConsistent T new) (sym k.types) k.rules;
  decided = subst (λ T. AreDecided T kept new.lives) (sym k.types) decided;
  own = is.own ∙ sym k.types;
}

-- the first state of a mount
module _ (image : List (List ℕ)) (lives : Lives) (sound : IsSound (types_of_image image) (length image) (block_of image)) (recovered : IsRecovered (types_of_image image) image lives) where
  abbrev world : World
  world = record { language = language; image = image; settled = image; given = []; state = state_of [] 1; down = false }

  pub mounted_consistent : IsConsistent (own_types (state_of lives 1)) (state_of lives 1)
  mounted_consistent = (mount_holds world sound lives recovered).state

  pub mounted_types : own_types (state_of lives 1) ≡ types_of_image image
  mounted_types = types_mounted world lives sound recovered

pub started_keeps : (T : Types) (lives : Lives) (next fs ty : ℕ) (bytes : List ℕ) (block : ℕ) → IsConsistent T (state_of lives next) →
    init_refusal T (state_of lives next) fs ty bytes ≡ None → lowest_free lives ≡ Some block →
    Keeps T (state_of lives next) (state_of (slice_set lives block (Some (new_life next (Some fs) ty bytes))) (next + 1))
started_keeps T lives next fs ty bytes block h allowed free =
    let after = state_of (slice_set lives block (Some (new_life next (Some fs) ty bytes))) (next + 1) in
    let state = state_of lives next in
    let given = ap (λ r. unless r (init_at state fs ty bytes (lowest_free lives))) allowed ∙ ap (init_at state fs ty bytes) free in
    init_keeps T state h fs ty bytes (block, next) after given

pub begun_goes_on : (T : Types) (lives : Lives) (next b : ℕ) (given : List ℕ × ℕ) → IsConsistent T (state_of lives next) → begun_place lives (slice_get lives b) ≡ Ok given →
    Keeps T (state_of lives next) (state_of (begun_at lives b given.1) next)
begun_goes_on T lives next b given h e =
    let whole = ap (result_map (λ (x : List ℕ × ℕ). (x, state_of (begun_at lives b x.1) next))) e in
    begun_keeps T (state_of lives next) h b given (state_of (begun_at lives b given.1) next) whole

pub settled_continues : (lives : Lives) (next b k : ℕ) (bytes : List ℕ) → IsConsistent (own_types (state_of lives next)) (state_of lives next) → settled_place bytes (slice_get lives b) ≡ Ok k →
    Continues (state_of lives next) (state_of (freed (settled_at lives b k) (drops_of (first_pending k (life_at lives b)))) next)
settled_continues lives next b k bytes h e =
    let state = state_of lives next in
    let drops = drops_of (first_pending k (life_at lives b)) in
    let whole = ap (result_map (settled_after state b)) e in
    let kept = settled_keeps (own_types state) state h b bytes (k, length drops) (state_of (freed (settled_at lives b k) drops) next) whole in
    record { rules = kept.0; types = kept.2 language }

-- make_root, from its plan

unless_planned : (refusal : Option Refusal) (state : StoreState) (fs b : ℕ) (l : Life) (plan : List ℕ × ℕ) →
    unless refusal (Ok (with_slot (root_now state) fs (b, l.ty), l.ty)) ≡ Ok plan →
    unless refusal (Ok (accepts state 0 (root_state state fs (b, l.ty) ((b, l.ty) ∷ []) []))) ≡ Ok (accepts state 0 (accepted_entry state fs plan.0 ((b, plan.1) ∷ []) [] None))
unless_planned None state fs b l plan e = let same = same_ok (with_slot (root_now state) fs (b, l.ty), l.ty) plan e in
    λ i. Ok (accepts state 0 (accepted_entry state fs (same i).0 ((b, (same i).1) ∷ []) [] None))
unless_planned (Some refusal) state fs b l plan e = absurd (never_ok refusal plan e)

planned : (r : Result Life Refusal) (state : StoreState) (fs b : ℕ) (plan : List ℕ × ℕ) → result_and_then (make_root_plan_at state fs b) r ≡ Ok plan →
    result_and_then (make_root_at state fs b) r ≡ Ok (accepts state 0 (accepted_entry state fs plan.0 ((b, plan.1) ∷ []) [] None))
planned (Ok l) state fs b plan e = unless_planned (make_root_refusal state fs l) state fs b l plan e
planned (Err refusal) state fs b plan e = absurd (never_ok refusal plan e)

unless_refused : (refusal : Option Refusal) (state : StoreState) (fs b : ℕ) (l : Life) (e : Refusal) →
    unless {A = List ℕ × ℕ} refusal (Ok (with_slot (root_now state) fs (b, l.ty), l.ty)) ≡ Err e →
    unless refusal (Ok (accepts state 0 (root_state state fs (b, l.ty) ((b, l.ty) ∷ []) []))) ≡ Err e
unless_refused None state fs b l e h = cc
unless_refused (Some refusal) state fs b l e h = cc

refused : (r : Result Life Refusal) (state : StoreState) (fs b : ℕ) (e : Refusal) → result_and_then (make_root_plan_at state fs b) r ≡ Err e →
    result_and_then (make_root_at state fs b) r ≡ Err e
refused (Ok l) state fs b e h = unless_refused (make_root_refusal state fs l) state fs b l e h
refused (Err refusal) state fs b e h = cc

-- where the plan is refused, so is the call
pub root_refused : (state : StoreState) (fs b : ℕ) (e : Refusal) → make_root_plan state fs b ≡ Err e → make_root_of state fs b ≡ Err e
root_refused state fs b e h = refused (own_life state fs b) state fs b e h

-- where it is made, this is done
pub root_made : (state : StoreState) (fs b : ℕ) (plan : List ℕ × ℕ) → make_root_plan state fs b ≡ Ok plan → make_root_of state fs b ≡ Ok (accepts state 0 (accepted_entry state fs plan.0 ((b, plan.1) ∷ []) [] None))
root_made state fs b plan e = planned (own_life state fs b) state fs b plan e

pub rooted_continues : (state : StoreState) (fs b : ℕ) (plan : List ℕ × ℕ) → IsConsistent (own_types state) state → fs < 32 → make_root_plan state fs b ≡ Ok plan →
    Continues state (accepts state 0 (accepted_entry state fs plan.0 ((b, plan.1) ∷ []) [] None)).1
rooted_continues state fs b plan h few e =
    let new = (accepts state 0 (accepted_entry state fs plan.0 ((b, plan.1) ∷ []) [] None)).1 in
    continues state new (make_root_keeps (own_types state) state h fs few b state.next new (root_made state fs b plan e))

-- drop_root, from its plan

dropped_by : (refusal : Option Refusal) (state : StoreState) (fs : ℕ) (plan : List ℕ × ℕ) → unless refusal (Ok (with_slot (root_now state) fs (0, 0), (slot_now state fs).0)) ≡ Ok plan →
    unless refusal (Ok (accepts state 0 (root_state state fs (0, 0) [] ((slot_now state fs).0 ∷ [])))) ≡ Ok (accepts state 0 (accepted_entry state fs plan.0 [] (plan.1 ∷ []) None))
dropped_by None state fs plan e = let same = same_ok (with_slot (root_now state) fs (0, 0), (slot_now state fs).0) plan e in
    λ i. Ok (accepts state 0 (accepted_entry state fs (same i).0 [] ((same i).1 ∷ []) None))
dropped_by (Some refusal) state fs plan e = absurd (never_ok refusal plan e)

pub root_dropped : (T : Types) (state : StoreState) (fs : ℕ) (plan : List ℕ × ℕ) → drop_root_plan T state fs ≡ Ok plan →
    drop_root_of T state fs ≡ Ok (accepts state 0 (accepted_entry state fs plan.0 [] (plan.1 ∷ []) None))
root_dropped T state fs plan e = dropped_by (drop_root_refusal T state fs) state fs plan e

drop_refused_by : (refusal : Option Refusal) (state : StoreState) (fs : ℕ) (r : Refusal) → unless {A = List ℕ × ℕ} refusal (Ok (with_slot (root_now state) fs (0, 0), (slot_now state fs).0)) ≡ Err r →
    unless refusal (Ok (accepts state 0 (root_state state fs (0, 0) [] ((slot_now state fs).0 ∷ [])))) ≡ Err r
drop_refused_by None state fs r e = cc
drop_refused_by (Some refusal) state fs r e = cc

pub drop_refused : (T : Types) (state : StoreState) (fs : ℕ) (r : Refusal) → drop_root_plan T state fs ≡ Err r → drop_root_of T state fs ≡ Err r
drop_refused T state fs r e = drop_refused_by (drop_root_refusal T state fs) state fs r e

pub dropped_continues : (state : StoreState) (fs : ℕ) (plan : List ℕ × ℕ) → IsConsistent (own_types state) state → fs < 32 → drop_root_plan (own_types state) state fs ≡ Ok plan →
    Continues state (accepts state 0 (accepted_entry state fs plan.0 [] (plan.1 ∷ []) None)).1
dropped_continues state fs plan h few e =
    let new = (accepts state 0 (accepted_entry state fs plan.0 [] (plan.1 ∷ []) None)).1 in
    continues state new (drop_root_keeps (own_types state) state h fs few state.next new (root_dropped (own_types state) state fs plan e))

-- the bytes of block 0 in the plans
pub root_bytes : (state : StoreState) (fs b : ℕ) (plan : List ℕ × ℕ) → make_root_plan state fs b ≡ Ok plan → plan.0 ≡ with_slot (root_now state) fs (b, plan.1)
root_bytes state fs b plan e =
    let own = then_ok (make_root_plan_at state fs b) (own_life state fs b) plan e in
    let l = own.0 in
    let same = same_ok (with_slot (root_now state) fs (b, l.ty), l.ty) plan (given_ok (make_root_refusal state fs l) (Ok (with_slot (root_now state) fs (b, l.ty), l.ty)) plan own.2) in
    ap (λ (p : List ℕ × ℕ). p.0) (sym same) ∙ ap (λ t. with_slot (root_now state) fs (b, t)) (ap (λ (p : List ℕ × ℕ). p.1) same)

pub empty_slot_bytes : (T : Types) (state : StoreState) (fs : ℕ) (plan : List ℕ × ℕ) → drop_root_plan T state fs ≡ Ok plan → plan.0 ≡ with_slot (root_now state) fs (0, 0)
empty_slot_bytes T state fs plan e =
    let bytes = with_slot (root_now state) fs (0, 0) in
    ap (λ (p : List ℕ × ℕ). p.0) (sym (same_ok (bytes, (slot_now state fs).0) plan (given_ok (drop_root_refusal T state fs) (Ok (bytes, (slot_now state fs).0)) plan e)))

-- a call of a file system leaves the types of a state, whatever it answers
module _ (old new : StoreState) (rules : IsConsistent (own_types old) old) where
  abbrev HasTypes : StoreState → Type 0
  HasTypes state = own_types state ≡ own_types old

  pub init_types : (fs ty : ℕ) (bytes : List ℕ) (result : Result (ℕ × ℕ) Refusal) → Gives (init_of (own_types old) old fs ty bytes) old new result → own_types new ≡ own_types old
  init_types fs ty bytes result h = gives_keeps HasTypes (init_of (own_types old) old fs ty bytes) old new result h refl
      (λ made e. (init_keeps (own_types old) old rules fs ty bytes made new e).types language)

  pub propose_types : (fs b : ℕ) (edit : Edit) (result : Result ℕ Refusal) → Gives (propose_of (own_types old) old fs b edit) old new result → own_types new ≡ own_types old
  propose_types fs b edit result h = gives_keeps HasTypes (propose_of (own_types old) old fs b edit) old new result h refl
      (λ entry e. (propose_keeps (own_types old) old rules fs b edit entry new e).types language)

  pub make_root_types : (fs b : ℕ) (result : Result ℕ Refusal) → fs < 32 → Gives (make_root_of old fs b) old new result → own_types new ≡ own_types old
  make_root_types fs b result few h = gives_keeps HasTypes (make_root_of old fs b) old new result h refl
      (λ entry e. (make_root_keeps (own_types old) old rules fs few b entry new e).types language)

  pub forget_types : (fs b : ℕ) (result : Result (Unit {0}) Refusal) → GivesExactly (forget_of (own_types old) old fs b) old new result → own_types new ≡ own_types old
  forget_types fs b result h = gives_exactly_keeps HasTypes (forget_of (own_types old) old fs b) old new result h refl
      (λ done e. (forget_keeps (own_types old) old rules fs b done new e).types language)
