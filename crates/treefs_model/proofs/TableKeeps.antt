-- An edit that moves no pointer, and one of a block by which a path passes.
use Rattle.std.proofs.Common.{◌≡◌, ℕ, List, [], ◌∷◌, refl, sym, ◌∙◌, ap, inl, inr, subst}
use Rattle.std.specs.Prelude.{◌≢◌, Contains}
use Rattle.std.proofs.lemmas.Bool.{cases_eq}
use Rattle.std.proofs.lemmas.Option.{same_Some}
use Rattle.xn_model.specs.Types.{Types}
use Rattle.xn_model.specs.Lives.{Life, Lives, StoreState, bytes_of}
use Rattle.xn_model.specs.Rules.{IsBy, IsConsistent}
use Rattle.ffs_model.specs.Cuts.{Choice, IsCut, latest, seen, seen_at}
use Rattle.ffs_model.specs.Cuts.{KeptFrom}
use Rattle.ffs_model.proofs.ForCallers.{everything, everything_seen, full_seen}
use Rattle.ffs_model.proofs.ForCallers.{chosen_in}
use Rattle.treefs_model.specs.Acts.{Act}
use Rattle.treefs_model.specs.Edited.{Edited, IsOwn, type_at, type_in}
use Rattle.treefs_model.specs.Places.{Shape, at, pointer_at}
use Rattle.treefs_model.specs.Tables.{IsPointed, MovesNone, PassesBy, ReadsTypes, StaysAt}
use Rattle.treefs_model.proofs.Over.{was, was_latest}
use Rattle.treefs_model.proofs.Table.{belongs, same_path, shown, to_all}

-- no bytes of newest have a block at two offsets
once_latest : (T : Types) (S : Shape) (reads : ReadsTypes T S) (state : StoreState) (h : IsConsistent T state) (p o o' x : ℕ) → x ≢ 0 →
    pointer_at S state.lives (latest state.lives) p o ≡ x → pointer_at S state.lives (latest state.lives) p o' ≡ x → o ≡ o'
once_latest T S reads state h p o o' x some one two =
    let s = shown T S reads state h (everything state.lives) p o x some (to_all T S reads state h p o x one) in
    let bytes : latest state.lives p ≡ s.shows.bytes = ap (λ v. v p) (sym (everything_seen state.lives)) ∙ (ap (seen_at (everything state.lives) p) s.alive ∙ ap bytes_of s.is) in
    reads.once s.life.ty s.shows.bytes o o' x ((h.lives_sound.each p s.life s.alive).fit s.shows (chosen_in (everything state.lives) p s.life s.shows s.is)) s.points
    ((λ j. S.pointer (type_in (sym s.alive j)) (sym bytes j) o') ∙ two) some

module _ (T : Types) (S : Shape) (reads : ReadsTypes T S) (fs : ℕ) (act : Act) (old new : StoreState) (number : ℕ) (h : IsConsistent T old) (h' : IsConsistent T new) (e : Edited T act old.lives new.lives number) where
  abbrev b : ℕ
  b = act.block

  -- the same bytes
  same_at : (v w : ℕ → List ℕ) (p o : ℕ) → v p ≡ w p → pointer_at S new.lives v p o ≡ pointer_at S old.lives w p o
  same_at v w p o bytes = (λ j. S.pointer (e.types p j) (bytes j) o)

  -- what a cut points to had an owner
  not_added : (k : Choice) (p o x u : ℕ) → x ≢ 0 → pointer_at S old.lives (seen old.lives k) p o ≡ x → Contains act.edit.adds (x, u) → ⊥
  not_added k p o x u some at' add =
      let f = e.fresh x u add in
      let y = (belongs T S reads old h k p o x some at').1 in
      subst (IsBy p) (ap (λ (l : Life). l.status) (same_Some y.life f.0 (sym y.alive ∙ f.1)) ∙ f.2) y.holds.1

  pub stays_after : MovesNone S act old.lives new.lives → StaysAt S fs old.lives → StaysAt S fs new.lives
  stays_after moves v k p o o' x cut mine some at' now =
      let z = e.cuts k cut in
      let mine' : IsOwn fs old.lives p = sym (e.systems p) ∙ mine in
      elim (cases_eq p b) [
        | inr ne ↦
            let same : seen new.lives k p ≡ seen old.lives k p = elim z.case [ inl t ↦ t.others p ne | inr l ↦ ap (λ v. v p) l.same ] in
            v k p o o' x z.cut mine' some (sym (same_at (seen new.lives k) (seen old.lives k) p o same) ∙ at') (sym (same_at (latest new.lives) (latest old.lives) p o' (e.others p ne)) ∙ now)
        | inl q ↦ elim z.case [
          | inl t ↦
              let all : seen new.lives k p ≡ latest new.lives p = ap (seen new.lives k) q ∙ (full_seen new.lives k b t.all ∙ ap (latest new.lives) (sym q)) in
              once_latest T S reads new h' p o o' x some (ap (λ m. S.pointer (type_at new.lives p) m o) (sym all) ∙ at') now
          | inr l ↦
              let was' : pointer_at S old.lives (seen old.lives k) p o ≡ x = sym (same_at (seen new.lives k) (seen old.lives k) p o (ap (λ v. v p) l.same)) ∙ at' in
              elim (moves o' x some (ap (λ c. pointer_at S new.lives (latest new.lives) c o') (sym q) ∙ now)) [
                | inl before ↦ v k p o o' x z.cut mine' some was' (ap (λ c. pointer_at S old.lives (latest old.lives) c o') q ∙ before)
                | inr add ↦ absurd (not_added k p o x add.0 some was' add.1)
              ]
        ]
      ]

  -- A path that passes by the block is the same, in each cut and in newest
  module _ (stays : StaysAt S fs old.lives) (top : ℕ) (pointed : IsPointed S old.lives b) (some : b ≢ 0)
      (mine : (k : Choice) → IsCut old.lives k → (os : List ℕ) → at S old.lives (seen old.lives k) top os ≢ 0 → IsOwn fs old.lives (at S old.lives (seen old.lives k) top os))
      (root : (k : Choice) (o : ℕ) → IsCut old.lives k → pointer_at S old.lives (seen old.lives k) 0 o ≡ 0) where
    pub path_cut : (k : Choice) → IsCut new.lives k → (os : List ℕ) → PassesBy S old.lives top b os → at S new.lives (seen new.lives k) top os ≡ at S old.lives (seen old.lives k) top os
    path_cut k cut [] by = refl
    path_cut k cut (o ∷ os) by =
        let z = e.cuts k cut in
        let q : ℕ = at S old.lives (seen old.lives k) top os in
        let far : q ≢ b = λ same. by.0 (same_path T S reads old h fs stays top k z.cut (mine k z.cut) (λ o. root k o z.cut) os b same some (inr pointed)) in
        let bytes : seen new.lives k q ≡ seen old.lives k q = elim z.case [ inl t ↦ t.others q far | inr l ↦ ap (λ v. v q) l.same ] in
        ap (λ c. pointer_at S new.lives (seen new.lives k) c o) (path_cut k cut os by.1) ∙ same_at (seen new.lives k) (seen old.lives k) q o bytes

    pub path_newest : (os : List ℕ) → PassesBy S old.lives top b os → at S new.lives (latest new.lives) top os ≡ at S old.lives (latest old.lives) top os
    path_newest [] by = refl
    path_newest (o ∷ os) by = ap (λ c. pointer_at S new.lives (latest new.lives) c o) (path_newest os by.1) ∙ same_at (latest new.lives) (latest old.lives) (at S old.lives (latest old.lives) top os) o (e.others (at S old.lives (latest old.lives) top os) by.0)

-- over what others do
pub stays_over : (T : Types) (S : Shape) (fs : ℕ) (old : Lives) (new : StoreState) (h : IsConsistent T new) (kept : KeptFrom fs old new.lives) → StaysAt S fs old → StaysAt S fs new.lives
stays_over T S fs old new h kept v k p o o' x cut mine some at' now =
    let y = was T fs old new h kept k cut p mine in
    v (kept k cut).choice p o o' x (kept k cut).cut y.2 some ((λ j. S.pointer (sym y.1 j) (sym y.0 j) o) ∙ at') ((λ j. S.pointer (sym y.1 j) (sym (was_latest T fs old new h kept p mine) j) o') ∙ now)
