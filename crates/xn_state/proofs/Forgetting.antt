-- What a forget leaves.
use Rattle.std.proofs.Common.{◌≡◌, ℕ, Option, Some, None, Result, Ok, Err, refl, ap, slice_set, subst}
use Rattle.std.specs.Prelude.{IsTrue}
use Rattle.store_types.specs.declared.refusal.Refusal.{Refusal}
use Rattle.xn_model.specs.Types.{Types}
use Rattle.xn_model.specs.Lives.{StoreState, Life, Lives}
use Rattle.xn_model.specs.Results.{unless, result_and_then}
use Rattle.xn_model.specs.Calls.{own_life, forget_refusal, forget_at, forget_of}
use Rattle.xn_model.specs.Rules.{IsConsistent, Keeps}
use Rattle.xn_model.proofs.ForCallers.{IsOwn, same_ok, never_ok, own_then, forget_keeps}
use Rattle.xn_state.specs.Forgets.{forget_plan, forget_plan_at}
use Rattle.xn_state.proofs.Keeping.{state_of}

-- A file system's own block

pub own_is : (state : StoreState) (fs b : ℕ) (l : Life) → own_life state fs b ≡ Ok l → IsOwn state.lives fs b l
own_is state fs b l e =
    let own = own_then state fs b (λ m. Ok m) l (ap (result_and_then (λ m. Ok m)) e) in
    subst (IsOwn state.lives fs b) (same_ok own.0 l own.2) own.1

-- and there is such a type
pub own_installed : (T : Types) (state : StoreState) (fs b : ℕ) (l : Life) → IsConsistent T state → own_life state fs b ≡ Ok l → IsTrue (T.installed l.ty)
own_installed T state fs b l h e = (h.linked b l (own_is state fs b l e).alive).installed

-- forget, from what it decides first

unless_ok : {A : Type 0} (refusal : Option Refusal) (x : A) (done : Unit {0}) → unless refusal (Ok tt) ≡ Ok done → unless refusal (Ok x) ≡ Ok x
unless_ok None x done e = refl
unless_ok (Some refusal) x done e = absurd (never_ok refusal done e)

unless_refused : {A : Type 0} (refusal : Option Refusal) (x : A) (e : Refusal) → unless {A = Unit {0}} refusal (Ok tt) ≡ Err e → unless refusal (Ok x) ≡ Err e
unless_refused None x e h = cc
unless_refused (Some refusal) x e h = cc

planned : (T : Types) (state : StoreState) (b : ℕ) (r : Result Life Refusal) (done : Unit {0}) → result_and_then (forget_plan_at T) r ≡ Ok done →
    result_and_then (forget_at T state b) r ≡ Ok (tt, record state { lives = slice_set state.lives b None })
planned T state b (Ok l) done e = unless_ok (forget_refusal T l) (tt, record state { lives = slice_set state.lives b None }) done e
planned T state b (Err refusal) done e = absurd (never_ok refusal done e)

refused : (T : Types) (state : StoreState) (b : ℕ) (r : Result Life Refusal) (e : Refusal) → result_and_then (forget_plan_at T) r ≡ Err e → result_and_then (forget_at T state b) r ≡ Err e
refused T state b (Ok l) e h = unless_refused (forget_refusal T l) (tt, record state { lives = slice_set state.lives b None }) e h
refused T state b (Err refusal) e h = cc

-- where the plan is refused, so is the call
pub forget_refused : (T : Types) (state : StoreState) (fs b : ℕ) (e : Refusal) → forget_plan T state fs b ≡ Err e → forget_of T state fs b ≡ Err e
forget_refused T state fs b e h = refused T state b (own_life state fs b) e h

pub forgotten_keeps : (T : Types) (lives : Lives) (next fs b : ℕ) (done : Unit {0}) → IsConsistent T (state_of lives next) → forget_plan T (state_of lives next) fs b ≡ Ok done →
    Keeps T (state_of lives next) (state_of (slice_set lives b None) next)
forgotten_keeps T lives next fs b done h e =
    let state = state_of lives next in
    forget_keeps T state h fs b tt (state_of (slice_set lives b None) next) (planned T state b (own_life state fs b) done e)
