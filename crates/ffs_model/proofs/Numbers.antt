-- The numbers that edits get were given, and what is answered leaves them so. And what names an inode says of its links.
use Rattle.std.proofs.Common.{◌≡◌, ℕ, ◌≤◌, ◌≢◌, true, List, [], ◌∷◌, Option, Some, refl, sym, ◌∙◌, ap, inl, inr, arith, subst}
use Rattle.std.specs.Prelude.{IsTrue, Result, Ok, Err, nat_lt}
use Rattle.std.proofs.lemmas.Bool.{and_from, lt-ltb}
use Rattle.store_types.specs.declared.refusal.Refusal.{Refusal}
use Rattle.store_types.specs.declared.refusal.Refusal.TheVariants.{NoMemory}
use Rattle.xn_model.specs.Types.{Types}
use Rattle.xn_model.specs.Lives.{StoreState}
use Rattle.xn_model.specs.Results.{Gives, GivesExactly}
use Rattle.xn_model.specs.Calls.{Edit, forget_of, init_of, make_root_of, propose_of, was_given}
use Rattle.xn_model.specs.Rules.{IsConsistent}
use Rattle.xn_model.proofs.ForCallers.{Contains-cons, Contains-none, gives_exactly_keeps, gives_keeps}
use Rattle.ffs_model.specs.Cuts.{latest}
use Rattle.ffs_model.specs.Names.{HasLinks, Names}
use Rattle.ffs_model.specs.Volumes.{VolumeKeeps}
use Rattle.ffs_model.specs.Library.{library_layout}
use Rattle.ffs_model.specs.Shortages.{is_shortage}
use Rattle.ffs_model.proofs.Chosen.{everything, everything_cut, everything_seen}
use Rattle.ffs_model.proofs.Given.{proposed}
use Rattle.ffs_model.proofs.Later.{begun_next, forgot_next, next_some, proposed_next, rooted_next}
use Rattle.ffs_model.proofs.Shortages.{never_err, same_refusal}

pub proposed_given : (T : Types) (state new : StoreState) → IsConsistent T state → (fs b : ℕ) (e : Edit) (entry : ℕ) → propose_of T state fs b e ≡ Ok (entry, new) → IsTrue (was_given new (Some entry))
proposed_given T state new h fs b e entry done =
    let p = proposed T state new fs b e entry done in
    let some = next_some T state h in
    let is = p.entry_is in
    let next = p.next in
    and_from (nat_lt 0 entry) (nat_lt entry new.next) (lt-ltb 0 entry (omega arith)) (lt-ltb entry new.next (omega arith))

pub rooted_given : (T : Types) (state new : StoreState) → IsConsistent T state → (fs b entry : ℕ) → make_root_of state fs b ≡ Ok (entry, new) → IsTrue (was_given new (Some entry))
rooted_given T state new h fs b entry done =
    let p = rooted_next state new fs b entry done in
    let some = next_some T state h in
    let is = p.0 in
    let next = p.1 in
    and_from (nat_lt 0 entry) (nat_lt entry new.next) (lt-ltb 0 entry (omega arith)) (lt-ltb entry new.next (omega arith))

-- Over what a call answers

pub propose_later : (T : Types) (old new : StoreState) (fs b : ℕ) (e : Edit) (result : Result ℕ Refusal) → Gives (propose_of T old fs b e) old new result → old.next ≤ new.next
propose_later T old new fs b e result h = gives_keeps (λ s. old.next ≤ s.next) (propose_of T old fs b e) old new result h (omega arith) (λ entry done. let n = proposed_next T old new fs b e entry done in omega arith)

pub init_later : (T : Types) (old new : StoreState) (fs t : ℕ) (bytes : List ℕ) (result : Result (ℕ × ℕ) Refusal) → Gives (init_of T old fs t bytes) old new result → old.next ≤ new.next
init_later T old new fs t bytes result h = gives_keeps (λ s. old.next ≤ s.next) (init_of T old fs t bytes) old new result h (omega arith) (λ made done. let n = begun_next T old new fs t bytes made done in omega arith)

pub make_root_later : (old new : StoreState) (fs b : ℕ) (result : Result ℕ Refusal) → Gives (make_root_of old fs b) old new result → old.next ≤ new.next
make_root_later old new fs b result h = gives_keeps (λ s. old.next ≤ s.next) (make_root_of old fs b) old new result h (omega arith) (λ entry done. let n = (rooted_next old new fs b entry done).1 in omega arith)

pub forget_later : (T : Types) (old new : StoreState) (fs b : ℕ) (result : Result (Unit {0}) Refusal) → GivesExactly (forget_of T old fs b) old new result → old.next ≤ new.next
forget_later T old new fs b result h = gives_exactly_keeps (λ s. old.next ≤ s.next) (forget_of T old fs b) old new result h (omega arith) (λ done e. let n = forgot_next T old new fs b done e in omega arith)

-- a refusal is the definition's, or for want of memory
pub gives_short : {A : Type 0} (r : Result (A × StoreState) Refusal) (old new : StoreState) (refusal : Refusal) → Gives r old new (Err refusal) → ((s : Refusal) → r ≡ Err s → is_shortage s ≡ true) → is_shortage refusal ≡ true
gives_short {A} (Ok (answer, after)) old new refusal h short = elim h [ inl p ↦ absurd (never_err answer refusal (sym p.0)) | inr p ↦ ap is_shortage (same_refusal {A = A} refusal NoMemory p.0) ]
gives_short {A} (Err first) old new refusal h short = ap is_shortage (same_refusal {A = A} refusal first h.0) ∙ short first refl

-- What names an inode says of its links
pub named_links : (T : Types) (fs : ℕ) (array : ℕ → Option ℕ) (state : StoreState) → VolumeKeeps T library_layout fs array state → (n : ℕ) (y : ℕ × ℕ) → n ≢ 0 → Names library_layout (latest state.lives) fs n y →
    HasLinks library_layout (latest state.lives) fs n
named_links T fs array state v n y some names =
    let all = everything state.lives in
    let cut = everything_cut T state v.consistent in
    let same = everything_seen state.lives in
    subst (λ c. HasLinks library_layout c fs n) same ((v.numbers n some).good all y cut (subst (λ c. Names library_layout c fs n y) (sym same) names))

pub named_linked : (T : Types) (fs : ℕ) (array : ℕ → Option ℕ) (state : StoreState) (v : VolumeKeeps T library_layout fs array state) (n : ℕ) (y : ℕ × ℕ) (some : n ≢ 0) (names : Names library_layout (latest state.lives) fs n y) →
    let l = named_links T fs array state v n y some names in 1 ≤ library_layout.links (latest state.lives l.block) (library_layout.home n).1
named_linked T fs array state v n y some names =
    let l = named_links T fs array state v n y some names in
    let le = l.enough (y ∷ []) (λ i. Contains-none y i, tt) (λ z i. elim (Contains-cons y [] z i) [ inl e ↦ subst (Names library_layout (latest state.lives) fs n) e names | inr k ↦ absurd (Contains-none z k) ]) in
    omega arith
