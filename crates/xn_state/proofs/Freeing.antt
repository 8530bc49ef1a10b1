-- Blocks that are free once a write is done.
use Rattle.std.proofs.Common.{◌≡◌, ℕ, List, length, take, refl, sym, ◌∙◌, ap, subst, inl, inr}
use Rattle.std.specs.Prelude.{Contains, Ok, slice_get}
use Rattle.xn_model.specs.Types.{Types}
use Rattle.xn_model.specs.Lives.{BlockState, StoreState, life_at, alive_and, is_owned_by, carried, first_states, drops_of}
use Rattle.xn_model.specs.Calls.{life_pending, settled_place, first_pending}
use Rattle.xn_model.specs.Rules.{IsConsistent, IsBy}
use Rattle.xn_model.proofs.ForCallers.{Contains-none, Contains-take, settles_place, drops_at}
use Rattle.dependencies.specs.Index.{MayFree}

-- What a write drops

pub may_free : (T : Types) (state : StoreState) (b k : ℕ) (bytes : List ℕ) → IsConsistent T state → settled_place bytes (slice_get state.lives b) ≡ Ok k →
    MayFree state.lives b (drops_of (first_pending k (life_at state.lives b)))
may_free T state b k bytes h e =
    let s = settles_place state.lives b bytes (slice_get state.lives b) k refl e in
    let first : first_pending k (life_at state.lives b) ≡ take k s.life.pending = ap (first_pending k) s.alive in
    subst (λ xs. MayFree state.lives b (drops_of xs)) (sym first) (elim s.case [
      | inl landed ↦
          let among : (c : ℕ) → Contains (drops_of (take k s.life.pending)) c → (d : BlockState) × Contains (carried s.life) d × Contains d.drops c =
          λ c i. let d = drops_at (take k s.life.pending) c i in (d.0, subst (λ o. Contains (first_states o s.life.pending) d.0) (sym landed.0) d.1, d.2) in
          record {
            apart = λ i.
                let d = drops_at (take k s.life.pending) b i in
                let dropped = (h.linked b s.life s.alive).dropped d.0 b (Contains-take k s.life.pending d.0 d.1) d.2 in
                h.waits.apart b dropped.life dropped.alive (subst (IsBy b) (sym dropped.holds) refl);
            at_rest = λ c i.
                let d = among c i in
                let rest = (h.linked b s.life s.alive).resting d.0 c d.1 d.2 in
                ap life_pending rest.alive ∙ ap length rest.holds;
            unowned = λ c i.
                let d = drops_at (take k s.life.pending) c i in
                let dropped = (h.linked b s.life s.alive).dropped d.0 c (Contains-take k s.life.pending d.0 d.1) d.2 in
                λ a. ap (alive_and (λ l. is_owned_by a l.status)) dropped.alive ∙ ap (is_owned_by a) dropped.holds;
          }
      | inr none ↦
          let nothing : (c : ℕ) → Contains (drops_of (take k s.life.pending)) c → ⊥ = λ c i. Contains-none c (subst (λ n. Contains (drops_of (take n s.life.pending)) c) none.0 i) in
          record { apart = λ i. nothing b i; at_rest = λ c i. absurd (nothing c i); unowned = λ c i. absurd (nothing c i) }
    ])
