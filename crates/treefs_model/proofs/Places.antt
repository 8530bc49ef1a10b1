-- The kinds of edits for blocks in place: a new block is attached, and has its wait.
use Rattle.std.proofs.Common.{◌≡◌, ◌==◌, ℕ, ◌⊎◌, Bool, List, [], Option, Some, None, refl, sym, ◌∙◌, ap, inl, inr, subst}
use Rattle.std.specs.Prelude.{◌≢◌, IsTrue}
use Rattle.std.proofs.lemmas.Bool.{cases_Bool, eqb-true, false≢true, or_cases, or_left}
use Rattle.xn_model.specs.Types.{Types}
use Rattle.xn_model.specs.Lives.{BlockState, Lives, bytes_of}
use Rattle.ffs_model.specs.Cuts.{Choice, IsCut, chosen, latest, seen, seen_at}
use Rattle.ffs_model.specs.Edits.{HoldsOnly}
use Rattle.ffs_model.proofs.ForCallers.{chosen_in}
use Rattle.treefs_model.specs.Acts.{Act}
use Rattle.treefs_model.specs.Edited.{Edited, IsOwn}
use Rattle.treefs_model.specs.Places.{In, InPlace, IsWait, KeepsPlaces, Shape, pointer_at, with_block}

-- a block that has only one state, or whose states are alike, shows it or nothing
only_seen : (S : Shape) (lives : Lives) (k : Choice) (x : ℕ) (bytes : List ℕ) → HoldsOnly lives x bytes → IsTrue (S.empty bytes) → IsTrue (S.empty []) → IsTrue (S.empty (seen lives k x))
only_seen S lives k x bytes only empty none = subst (λ o. IsTrue (S.empty (seen_at k x o))) (sym only.alive) (go (chosen k x only.life) refl)
  where
    go : (o : Option BlockState) → chosen k x only.life ≡ o → IsTrue (S.empty (bytes_of o))
    go None e = none
    go (Some s) e = subst (λ m. IsTrue (S.empty m)) (sym (only.all s (chosen_in k x only.life s e))) empty

module _ (T : Types) (S : Shape) (fs : ℕ) (covered held : ℕ → Bool) (act : Act) (old new : Lives) (number : ℕ) (e : Edited T act old new number) (i : InPlace S fs (In covered) (In held) old) where
  own_now : (x : ℕ) → In covered x → IsOwn fs new x
  own_now x c = e.systems x ∙ i.own x c

  -- A new block that counts is attached: it is empty in all its states
  pub attaches : (x : ℕ) (bytes : List ℕ) → HoldsOnly old x bytes → IsTrue (S.empty bytes) → IsTrue (S.empty []) → x ≢ act.block → IsOwn fs old x → (In covered x → ⊥) → ((p o : ℕ) → pointer_at S old (latest old) p o ≡ x → ⊥) →
      ((o y : ℕ) → In (with_block covered x) y → pointer_at S new (latest new) act.block o ≡ y → (pointer_at S old (latest old) act.block o ≡ y) ⊎ (y ≡ x)) →
      (In covered act.block → In held act.block) → KeepsPlaces S fs (In covered) (In held) (In (with_block covered x)) (In held) act old new
  attaches x bytes only empty none far mine out alone moves place = record {
    moves = λ o y c at'. elim (moves o y c at') [
      | inl was ↦ inl was
      | inr same ↦ inr (λ h. out (i.counted x (subst (In held) same h)), λ k cut. subst (λ z. IsTrue (S.empty (seen new k z))) (sym same) (bare k cut))
    ];
    covers = λ p o y c at'. elim (or_cases (covered y) (y == x) c) [ inl was ↦ was | inr same ↦ absurd (alone p o (at' ∙ eqb-true y x same)) ];
    own = λ y c. elim (or_cases (covered y) (y == x) c) [ inl was ↦ own_now y was | inr same ↦ subst (IsOwn fs new) (sym (eqb-true y x same)) (e.systems x ∙ mine) ];
    counted = λ y h. grows y (i.counted y h);
    holds = λ y h. inl h;
    place = elim (cases_covered act.block) [ inl c ↦ inr (inl (place c)) | inr ne ↦ inl (λ c. elim (or_cases (covered act.block) (act.block == x) c) [ inl was ↦ ne was | inr same ↦ far (sym (eqb-true act.block x same)) ]) ];
  }
    where
      bare : (k : Choice) → IsCut new k → IsTrue (S.empty (seen new k x))
      bare k cut =
          let z = e.cuts k cut in
          let same : seen new k x ≡ seen old k x = elim z.case [ inl t ↦ t.others x far | inr l ↦ ap (λ v. v x) l.same ] in
          subst (λ m. IsTrue (S.empty m)) (sym same) (only_seen S old k x bytes only empty none)

      grows : (y : ℕ) → In covered y → In (with_block covered x) y
      grows y c = or_left (covered y) (y == x) c

      cases_covered : (y : ℕ) → In covered y ⊎ (In covered y → ⊥)
      cases_covered y = elim (cases_Bool (covered y)) [ inl t ↦ inl t | inr f ↦ inr (λ t. false≢true (sym f ∙ t)) ]

  -- Its wait, behind its owner
  pub waits : IsWait S act old new → In covered act.block → KeepsPlaces S fs (In covered) (In held) (In covered) (In (with_block held act.block)) act old new
  waits wait c = record {
    moves = λ o y d at'. inl ((λ j. S.pointer (sym (e.types act.block) j) (sym wait.same j) o) ∙ at');
    covers = λ p o y d at'. d;
    own = own_now;
    counted = λ y h. elim (or_cases (held y) (y == act.block) h) [ inl was ↦ i.counted y was | inr same ↦ subst (In covered) (sym (eqb-true y act.block same)) c ];
    holds = λ y h. elim (or_cases (held y) (y == act.block) h) [ inl was ↦ inl was | inr same ↦ inr (eqb-true y act.block same, wait) ];
    place = inr (inr wait);
  }
