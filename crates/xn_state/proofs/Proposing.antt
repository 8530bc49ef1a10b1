-- What edits and dropped roots decide, and what they leave.
use Rattle.std.proofs.Common.{◌≡◌, ℕ, List, Option, Some, None, Result, Ok, Err, sym}
use Rattle.store_types.specs.declared.refusal.Refusal.{Refusal}
use Rattle.xn_model.specs.Types.{Types}
use Rattle.std.specs.Prelude.{option_map}
use Rattle.std.proofs.lemmas.Option.{none-some, same_Some}
use Rattle.xn_model.specs.Lives.{Life, Lives, StoreState, current, life_at}
use Rattle.xn_model.specs.Results.{unless, result_and_then}
use Rattle.xn_model.specs.Calls.{Edit, own_life, accepts, edited, life_bytes, patched, propose_refusal, propose_at, propose_of}
use Rattle.xn_model.specs.Rules.{IsConsistent}
use Rattle.xn_model.proofs.ForCallers.{same_ok, never_ok, propose_keeps}
use Rattle.xn_state.specs.Proposals.{proposed_at, proposed_of, accepted_entry}
use Rattle.xn_state.specs.States.{Continues, own_types}
use Rattle.xn_state.proofs.Keeping.{continues}

-- The entry of an edit

unless_made : (refusal : Option Refusal) (state : StoreState) (fs b : ℕ) (e : Edit) (l : Life) (bytes : List ℕ) → unless refusal (Ok (patched (current l) e.patches)) ≡ Ok bytes →
    unless refusal (Ok (accepts state b (edited state.next fs e l))) ≡ Ok (accepts state b (accepted_entry state fs bytes e.adds e.drops e.after))
unless_made None state fs b e l bytes made = let same = same_ok (patched (current l) e.patches) bytes made in λ i. Ok (accepts state b (accepted_entry state fs (same i) e.adds e.drops e.after))
unless_made (Some refusal) state fs b e l bytes made = absurd (never_ok refusal bytes made)

made_by : (T : Types) (r : Result Life Refusal) (state : StoreState) (fs b : ℕ) (e : Edit) (bytes : List ℕ) → result_and_then (proposed_at T state fs b e) r ≡ Ok bytes →
    result_and_then (propose_at T state fs b e) r ≡ Ok (accepts state b (accepted_entry state fs bytes e.adds e.drops e.after))
made_by T (Ok l) state fs b e bytes made = unless_made (propose_refusal T state fs b e l) state fs b e l bytes made
made_by T (Err refusal) state fs b e bytes made = absurd (never_ok refusal bytes made)

pub edit_made : (T : Types) (state : StoreState) (fs b : ℕ) (e : Edit) (bytes : List ℕ) → proposed_of T state fs b e ≡ Ok bytes →
    propose_of T state fs b e ≡ Ok (accepts state b (accepted_entry state fs bytes e.adds e.drops e.after))
edit_made T state fs b e bytes made = made_by T (own_life state fs b) state fs b e bytes made

unless_refused : {A B : Type 0} (refusal : Option Refusal) (x : A) (y : B) (r : Refusal) → unless refusal (Ok x) ≡ Err r → unless refusal (Ok y) ≡ Err r
unless_refused None x y r h = cc
unless_refused (Some refusal) x y r h = cc

refused_by : (T : Types) (own : Result Life Refusal) (state : StoreState) (fs b : ℕ) (e : Edit) (r : Refusal) → result_and_then (proposed_at T state fs b e) own ≡ Err r →
    result_and_then (propose_at T state fs b e) own ≡ Err r
refused_by T (Ok l) state fs b e r h = unless_refused (propose_refusal T state fs b e l) (patched (current l) e.patches) (accepts state b (edited state.next fs e l)) r h
refused_by T (Err refusal) state fs b e r h = cc

pub edit_refused : (T : Types) (state : StoreState) (fs b : ℕ) (e : Edit) (r : Refusal) → proposed_of T state fs b e ≡ Err r → propose_of T state fs b e ≡ Err r
edit_refused T state fs b e r h = refused_by T (own_life state fs b) state fs b e r h

pub edit_continues : (state : StoreState) (fs b : ℕ) (e : Edit) (bytes : List ℕ) → IsConsistent (own_types state) state → proposed_of (own_types state) state fs b e ≡ Ok bytes →
    Continues state (accepts state b (accepted_entry state fs bytes e.adds e.drops e.after)).1
edit_continues state fs b e bytes h made =
    let new = (accepts state b (accepted_entry state fs bytes e.adds e.drops e.after)).1 in
    continues state new (propose_keeps (own_types state) state h fs b e state.next new (edit_made (own_types state) state fs b e bytes made))

pub newest_bytes : (lives : Lives) (b : ℕ) (old : List ℕ) → Some old ≡ option_map current (life_at lives b) → life_bytes (life_at lives b) ≡ old
newest_bytes lives b old e = by (life_at lives b) e
  where
    by : (o : Option Life) → Some old ≡ option_map current o → life_bytes o ≡ old
    by None e = absurd (none-some old (sym e))
    by (Some l) e = sym (same_Some old (current l) e)
