-- The newest bytes after acts: the patches of each, one after another.
use Rattle.std.proofs.Common.{◌≡◌, ◌==◌, ℕ, List, [], ◌∷◌, Ok, true, false, Bool, ap, sym, subst, ◌∙◌, inl, inr, refl, eq-eqb, eqb-true, if◌then◌else◌}
use Rattle.xn_model.specs.Types.{Types}
use Rattle.xn_model.specs.Lives.{StoreState}
use Rattle.xn_model.specs.Calls.{latest, patched, propose_of}
use Rattle.xn_model.specs.Rules.{IsConsistent}
use Rattle.xn_model.proofs.ForCallers.{propose_keeps}
use Rattle.ffs_model.proofs.ForCallers.{proposed_here, proposed_others}
use Rattle.treefs_model.specs.Acts.{Act, Made, Ran, edit_in}
use Rattle.treefs_model.proofs.Edited.{gives_ok}
use Rattle.treefs_edits.specs.Written.{all_written, written}

module _ (T : Types) (fs : ℕ) where
  abbrev Has : (ℕ → List ℕ) → StoreState → Type 0
  Has content state = IsConsistent T state × ((b : ℕ) → latest state.lives b ≡ content b)

  one_written : (act : Act) (content : ℕ → List ℕ) (old new : StoreState) (number : ℕ) → Has content old → Made T fs act old new (Ok number) → Has (written act content) new
  one_written act content old new number h made =
      let done = gives_ok (propose_of T old fs act.block (edit_in act old)) old new number made in
      ((propose_keeps T old h.0 fs act.block (edit_in act old) number new done).consistent, λ b. at done b (b == act.block) refl)
    where
      at : propose_of T old fs act.block (edit_in act old) ≡ Ok (number, new) → (b : ℕ) (t : Bool) → (b == act.block) ≡ t → latest new.lives b ≡ (if t then patched (content b) act.edit.patches else content b)
      at done b true e =
          let same : b ≡ act.block = eqb-true b act.block e in
          ap (latest new.lives) same ∙ (proposed_here T old new h.0 fs act.block (edit_in act old) number done
          ∙ (ap (λ (c : ℕ). patched (latest old.lives c) act.edit.patches) (sym same) ∙ ap (λ (m : List ℕ). patched m act.edit.patches) (h.1 b)))
      at done b false e = proposed_others T old new h.0 fs act.block (edit_in act old) number done b (λ z. cc (e, eq-eqb b act.block z)) ∙ h.1 b

  pub acts_written : (acts : List Act) (content : ℕ → List ℕ) (old new : StoreState) → Has content old → Ran T fs acts old new (Ok tt) → Has (all_written acts content) new
  acts_written [] content old new h ran = subst (Has content) (sym ran.1) h
  acts_written (act ∷ rest) content old new h ran = elim ran [
    | inl none ↦ absurd none
    | inr r ↦ acts_written rest (written act content) r.1 new (one_written act content old r.1 r.0 h r.2) r.3
  ]
