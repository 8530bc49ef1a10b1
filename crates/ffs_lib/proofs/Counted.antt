-- How many numbers the edits of an action get.
use Rattle.std.proofs.Common.{◌≡◌, ℕ, ◌+◌, ◌-◌, ◌≤◌, [], ◌∷◌, length, take, Ok, sym, ◌∙◌, ap, arith}
use Rattle.ffs_lib.proofs.Common.{StoreState, Types, init_of, propose_of}
use Rattle.xn_model.proofs.ForCallers.{same_ok, then_ok}
use Rattle.ffs_model.proofs.ForCallers.{begun_next, proposed_next}
use Rattle.ffs_lib.specs.Orders.{Action, Attaches, Edits, FirstMade, Makes, Parts, act_of, made_by, made_of}

abbrev pub numbers_of : Action → ℕ
numbers_of (Makes edits) = length edits
numbers_of (Attaches ty bytes home edit) = 2

pub edits_next : (T : Types) (fs : ℕ) (edits : Edits) (old new : StoreState) → made_of T fs edits old ≡ Ok new → new.next ≡ old.next + length edits
edits_next T fs [] old new e = let next = ap (λ (s : StoreState). s.next) (same_ok old new e) in omega (arith, next)
edits_next T fs (first ∷ rest) old new e =
    let x = then_ok (λ done. made_of T fs rest done.1) (propose_of T old fs first.0 first.1) new e in
    omega (arith, proposed_next T old x.0.1 fs first.0 first.1 x.0.0 x.1, edits_next T fs rest x.0.1 new x.2)

-- none was given
pub first_none : (T : Types) (fs : ℕ) (edits : Edits) (old new : StoreState) → new ≡ old → FirstMade T fs edits old new
first_none T fs edits old new e =
    let next = ap (λ (s : StoreState). s.next) e in
    let none : new.next - old.next ≡ 0 = omega (arith, next) in
    ap (λ k. made_of T fs (take k edits) old) none ∙ ap (λ (s : StoreState). Ok s) (sym e)

pub act_next : (T : Types) (fs : ℕ) (action : Action) (old new : StoreState) → act_of T fs action old ≡ Ok new → new.next ≡ old.next + numbers_of action
act_next T fs (Makes edits) old new e = edits_next T fs edits old new e
act_next T fs (Attaches ty bytes home edit) old new e =
    let x = then_ok (λ begun. made_of T fs ((home, edit begun.0.0) ∷ []) begun.1) (init_of T old fs ty bytes) new e in
    let more = edits_next T fs ((home, edit x.0.0.0) ∷ []) x.0.1 new x.2 in
    omega (arith, begun_next T old x.0.1 fs ty bytes x.0.0 x.1, more)

pub parts_later : (T : Types) (fs : ℕ) (parts : Parts) (old new : StoreState) → made_by T fs parts old ≡ Ok new → old.next ≤ new.next
parts_later T fs [] old new e = let next = ap (λ (s : StoreState). s.next) (same_ok old new e) in omega (arith, next)
parts_later T fs (first ∷ rest) old new e =
    let x = then_ok (made_by T fs rest) (act_of T fs (first old) old) new e in
    omega (arith, act_next T fs (first old) old x.0 x.1, parts_later T fs rest x.0 new x.2)
