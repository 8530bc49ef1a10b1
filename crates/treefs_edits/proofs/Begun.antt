-- Blocks that are begun: where one is refused, and where one more is begun.
use Rattle.std.proofs.Common.{◌≡◌, ℕ, List, ◌∷◌, Result, Ok, Err, inl, inr, subst, ap, ◌∙◌}
use Rattle.xn_model.specs.Types.{Types}
use Rattle.xn_model.specs.Lives.{StoreState}
use Rattle.xn_model.specs.Calls.{init_of}
use Rattle.xn_model.specs.Results.{Gives}
use Rattle.store_types.specs.declared.refusal.Refusal.{Refusal}
use Rattle.treefs_model.specs.declared.fault.Fault.{Fault}
use Rattle.treefs_edits.specs.Plans.{Begins, Begun, Start, forgotten, start_fault}

-- a refusal changes nothing
pub unchanged : {A : Type 0} (called : Result (A × StoreState) Refusal) (old new : StoreState) (reason : Refusal) → Gives called old new (Err reason) → new ≡ old
unchanged {A} (Ok (answer, after)) old new reason h = elim h [ inl p ↦ absurd (cc p.0) | inr p ↦ p.1 ]
unchanged {A} (Err first) old new reason h = h.1

pub stops_here : (T : Types) (fs : ℕ) (start : Start) (starts : List Start) (begun : List ℕ) (old middle new : StoreState) (reason : Refusal) (fault : Fault) →
    Begun T fs start old middle (Err reason) → fault ≡ start_fault reason → new ≡ forgotten T fs begun middle → Begins T fs (start ∷ starts) begun old new (Err fault)
stops_here T fs start starts begun old middle new reason fault made is_fault is_new =
    let same : middle ≡ old = unchanged (init_of T old fs start.ty start.bytes) old middle reason made in
    inl (reason, subst (λ (s : StoreState). Begun T fs start old s (Err reason)) same made, is_fault, is_new ∙ ap (forgotten T fs begun) same)
