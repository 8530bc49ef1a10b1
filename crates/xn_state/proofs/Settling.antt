-- A state once a write has ended.
use Rattle.std.proofs.Common.{◌≡◌, ℕ, List, Option, subst, sym}
use Rattle.std.specs.Prelude.{Err, IfOk, Ok, OnErr, Result, slice_get}
use Rattle.templates.specs.Tables.{TableValue}
use Rattle.udf_run.specs.declared.reads.ReadSet.{ReadSet}
use Rattle.xn_model.specs.Calls.{first_pending, settled_place}
use Rattle.xn_model.specs.Lives.{Lives, drops_of, freed, life_at, settled_at}
use Rattle.xn_model.specs.Results.{Refusal, result_map}
use Rattle.claims.proofs.ForCallers.{settled_decided}
use Rattle.xn_state.specs.States.{IsStateOf, own_types}
use Rattle.xn_state.proofs.Keeping.{goes_on, settled_continues, state_of}

pub settled_state : (table : TableValue) (reads : List (Option ReadSet)) (lives lives' : Lives) (next b : ℕ) (bytes : List ℕ) (result : Result (ℕ × ℕ) Refusal) →
    IsStateOf table reads (state_of lives next) → result_map (λ (done : ℕ × ℕ). done.0) result ≡ settled_place bytes (slice_get lives b) →
    IfOk result (λ done. lives' ≡ freed (settled_at lives b done.0) (drops_of (first_pending done.0 (life_at lives b)))) → OnErr result (lives' ≡ lives) →
    IsStateOf table reads (state_of lives' next)
settled_state table reads lives lives' next b bytes (Ok done) is place now rest =
    let old = state_of lives next in
    let drops = drops_of (first_pending done.0 (life_at lives b)) in
    let new = state_of (freed (settled_at lives b done.0) drops) next in
    let kept = settled_continues lives next b done.0 bytes is.rules (sym place) in
    let decided = settled_decided (own_types old) reads lives b done.0 drops is.decided in
    subst (λ (xs : Lives). IsStateOf table reads (state_of xs next)) (sym now) (goes_on table reads reads old new is kept decided)
settled_state table reads lives lives' next b bytes (Err refusal) is place now rest =
    subst (λ (xs : Lives). IsStateOf table reads (state_of xs next)) (sym rest) is
