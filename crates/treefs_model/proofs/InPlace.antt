-- An edit keeps blocks in place.
use Rattle.std.proofs.Common.{◌≡◌, ℕ, ◌⊎◌, List, [], ◌∷◌, refl, sym, ◌∙◌, ap, inl, inr, subst}
use Rattle.std.specs.Prelude.{◌≢◌, IsTrue}
use Rattle.std.proofs.lemmas.Bool.{cases_eq}
use Rattle.xn_model.specs.Types.{Types}
use Rattle.xn_model.specs.Lives.{Lives, StoreState}
use Rattle.xn_model.specs.Rules.{IsConsistent}
use Rattle.ffs_model.specs.Cuts.{Choice, IsCut, IsFullAt, latest, seen}
use Rattle.ffs_model.specs.Cuts.{KeptFrom}
use Rattle.ffs_model.proofs.ForCallers.{full_seen}
use Rattle.treefs_model.specs.Acts.{Act}
use Rattle.treefs_model.specs.Edited.{Edited, FullBehind, IsOwn, TakesIt, type_at}
use Rattle.treefs_model.proofs.Over.{was, was_latest}
use Rattle.treefs_model.specs.Places.{AllCovered, InPlace, IsWait, KeepsPlaces, Shape, at, pointer_at}

module _ (T : Types) (S : Shape) (fs : ℕ) (covered held covered' held' : ℕ → Type 0) (act : Act) (old new : Lives) (number : ℕ)
    (e : Edited T act old new number) (h : KeepsPlaces S fs covered held covered' held' act old new) (i : InPlace S fs covered held old) where
  abbrev b : ℕ
  b = act.block

  abbrev Old : (ℕ → List ℕ) → ℕ → ℕ → ℕ → Type 0
  Old v p o x = pointer_at S old v p o ≡ x

  abbrev New : (ℕ → List ℕ) → ℕ → ℕ → ℕ → Type 0
  New v p o x = pointer_at S new v p o ≡ x

  -- the same bytes have the same pointers
  same_at : (v w : ℕ → List ℕ) (p o : ℕ) → v p ≡ w p → pointer_at S new v p o ≡ pointer_at S old w p o
  same_at v w p o bytes = (λ j. S.pointer (e.types p j) (bytes j) o)

  was_own : (p : ℕ) → IsOwn fs new p → IsOwn fs old p
  was_own p m = sym (e.systems p) ∙ m

  took : (k : Choice) (o x : ℕ) → TakesIt act old new k → New (latest new) b o x → New (seen new k) b o x
  took k o x t at' = ap (λ m. S.pointer (type_at new b) m o) (full_seen new k b t.all) ∙ at'

  -- of an owner that is another block
  reached_other : (k : Choice) (p o x : ℕ) → IsCut new k → IsOwn fs new p → covered' x → p ≢ b → Old (latest old) p o x → New (seen new k) p o x ⊎ IsTrue (S.empty (seen new k x))
  reached_other k p o x cut m c ne at' =
      let z = e.cuts k cut in
      let was = i.reached k p o x z.cut (was_own p m) (h.covers p o x c at') at' in
      elim z.case [
        | inr l ↦ elim was [ inl y ↦ inl (same_at (seen new k) (seen old k) p o (ap (λ v. v p) l.same) ∙ y) | inr y ↦ inr (subst (λ v. IsTrue (S.empty (v x))) (sym l.same) y) ]
        | inl t ↦
            let to : Old (seen old k) p o x → New (seen new k) p o x = λ y. same_at (seen new k) (seen old k) p o (t.others p ne) ∙ y in
            elim (cases_eq x b) [
              | inr far ↦ elim was [ inl y ↦ inl (to y) | inr y ↦ inr (subst (λ m. IsTrue (S.empty m)) (sym (t.others x far)) y) ]
              | inl same ↦ elim h.place [
                | inl none ↦ absurd (none (subst covered' same c))
                | inr some ↦ elim some [
                  | inl mine ↦ inl (to (i.full k p o x z.cut (was_own p m) (subst held (sym same) mine) at' (subst (IsFullAt old k) (sym same) t.full)))
                  | inr wait ↦ elim was [ inl y ↦ inl (to y) | inr y ↦ inr (subst (λ m. IsTrue (S.empty m)) (seen_wait k x t wait same) y) ]
                ]
              ]
            ]
      ]
    where
      seen_wait : (k : Choice) (x : ℕ) → TakesIt act old new k → IsWait S act old new → x ≡ b → seen old k x ≡ seen new k x
      seen_wait k x t wait same = ap (seen old k) same ∙ (full_seen old k b t.full ∙ (sym wait.same ∙ (sym (full_seen new k b t.all) ∙ ap (seen new k) (sym same))))

  full_other : (k : Choice) (p o x : ℕ) → IsCut new k → IsOwn fs new p → held' x → p ≢ b → Old (latest old) p o x → IsFullAt new k x → New (seen new k) p o x
  full_other k p o x cut m c ne at' full =
      let z = e.cuts k cut in
      let same : seen new k p ≡ seen old k p = elim z.case [ inl t ↦ t.others p ne | inr l ↦ ap (λ v. v p) l.same ] in
      same_at (seen new k) (seen old k) p o same ∙ elim (h.holds x c) [
        | inl mine ↦ i.full k p o x z.cut (was_own p m) mine at' (z.full x full)
        | inr wait ↦ elim z.case [
          | inl t ↦
              let far : IsFullAt old k p = subst (FullBehind old k) (wait.1.behind p o (at' ∙ wait.0)) t.behind in
              ap (λ m. S.pointer (type_at old p) m o) (full_seen old k p far) ∙ at'
          | inr l ↦ absurd (l.short (subst (IsFullAt new k) wait.0 full))
        ]
      ]

  pub edit_keeps : InPlace S fs covered' held' new
  edit_keeps = record {
    own = h.own;
    counted = h.counted;
    reached = λ k p o x cut m c at'. elim (cases_eq p b) [
      | inr ne ↦ reached_other k p o x cut m c ne (sym (same_at (latest new) (latest old) p o (e.others p ne)) ∙ at')
      | inl same ↦ subst (λ q. New (seen new k) q o x ⊎ IsTrue (S.empty (seen new k x))) (sym same) (reached_here k o x cut (subst (IsOwn fs new) same m) c (subst (λ q. New (latest new) q o x) same at'))
    ];
    full = λ k p o x cut m c at' full. elim (cases_eq p b) [
      | inr ne ↦ full_other k p o x cut m c ne (sym (same_at (latest new) (latest old) p o (e.others p ne)) ∙ at') full
      | inl same ↦ subst (λ q. New (seen new k) q o x) (sym same) (full_here k o x cut (subst (IsOwn fs new) same m) c (subst (λ q. New (latest new) q o x) same at') full)
    ];
  }
    where
      reached_here : (k : Choice) (o x : ℕ) → IsCut new k → IsOwn fs new b → covered' x → New (latest new) b o x → New (seen new k) b o x ⊎ IsTrue (S.empty (seen new k x))
      reached_here k o x cut m c at' = let z = e.cuts k cut in elim z.case [
        | inl t ↦ inl (took k o x t at')
        | inr l ↦ elim (h.moves o x c at') [
          | inl was ↦ elim (i.reached k b o x z.cut (was_own b m) (h.covers b o x c was) was) [
            | inl y ↦ inl (same_at (seen new k) (seen old k) b o (ap (λ v. v b) l.same) ∙ y)
            | inr y ↦ inr (subst (λ v. IsTrue (S.empty (v x))) (sym l.same) y)
          ]
          | inr add ↦ inr (add.1 k cut)
        ]
      ]

      full_here : (k : Choice) (o x : ℕ) → IsCut new k → IsOwn fs new b → held' x → New (latest new) b o x → IsFullAt new k x → New (seen new k) b o x
      full_here k o x cut m c at' full = let z = e.cuts k cut in elim z.case [
        | inl t ↦ took k o x t at'
        | inr l ↦ elim (h.moves o x (h.counted x c) at') [
          | inl was ↦ elim (h.holds x c) [
            | inl mine ↦ same_at (seen new k) (seen old k) b o (ap (λ v. v b) l.same) ∙ i.full k b o x z.cut (was_own b m) mine was (z.full x full)
            | inr wait ↦ absurd (l.short (subst (IsFullAt new k) wait.0 full))
          ]
          | inr add ↦ absurd (add.0 c)
        ]
      ]

-- A path of newest stands in each cut in which its end is not empty
module _ (S : Shape) (fs : ℕ) (covered held : ℕ → Type 0) (lives : Lives) (i : InPlace S fs covered held lives) (top : ℕ) (mine : IsOwn fs lives top)
    (bare : (m : List ℕ) → IsTrue (S.empty m) → (t o : ℕ) → S.pointer t m o ≡ 0) (some : (x : ℕ) → covered x → x ≢ 0) (k : Choice) (cut : IsCut lives k) where
  abbrev now : List ℕ → ℕ
  now os = at S lives (latest lives) top os

  abbrev then : List ℕ → ℕ
  then os = at S lives (seen lives k) top os

  own : (os : List ℕ) → AllCovered covered S lives top os → IsOwn fs lives (now os)
  own [] c = mine
  own (o ∷ os) c = i.own (now (o ∷ os)) c.0

  pub stands : (os : List ℕ) → AllCovered covered S lives top os → (IsTrue (S.empty (seen lives k (now os))) → ⊥) → then os ≡ now os
  stands [] c some = refl
  stands (o ∷ os) c there = elim (i.reached k (now os) o (now (o ∷ os)) cut (own os c.1) c.0 refl) [
    | inr none ↦ absurd (there none)
    | inl y ↦ ap (λ p. pointer_at S lives (seen lives k) p o) (stands os c.1 (λ none. some (now (o ∷ os)) c.0 (sym y ∙ bare (seen lives k (now os)) none (type_at lives (now os)) o))) ∙ y
  ]

  -- the end's pointers, where all of it is taken
  pub full_path : (os : List ℕ) → AllCovered covered S lives top os → ((o : ℕ) (rest : List ℕ) → os ≡ o ∷ rest → held (now os)) → IsFullAt lives k (now os) → (o : ℕ) → then (o ∷ os) ≡ now (o ∷ os)
  full_path os c waited full o =
      ap (λ p. pointer_at S lives (seen lives k) p o) (end os c waited full) ∙ ap (λ m. S.pointer (type_at lives (now os)) m o) (full_seen lives k (now os) full)
    where
      end : (os : List ℕ) → AllCovered covered S lives top os → ((o : ℕ) (rest : List ℕ) → os ≡ o ∷ rest → held (now os)) → IsFullAt lives k (now os) → then os ≡ now os
      end [] c waited full = refl
      end (o ∷ os) c waited full =
          let y = i.full k (now os) o (now (o ∷ os)) cut (own os c.1) (waited o os refl) refl full in
          ap (λ p. pointer_at S lives (seen lives k) p o) (stands os c.1 (λ none. some (now (o ∷ os)) c.0 (sym y ∙ bare (seen lives k (now os)) none (type_at lives (now os)) o))) ∙ y

-- Over what others do, and what begins, lands, is synced or finished
module _ (S : Shape) (T : Types) (fs : ℕ) (old : Lives) (new : StoreState) (h : IsConsistent T new) (kept : KeptFrom fs old new.lives) where
  pub places_stay : (covered held covered' held' : ℕ → Type 0) → ((x : ℕ) → covered' x → covered x × IsOwn fs new.lives x) → ((x : ℕ) → held' x → held x × covered' x) → InPlace S fs covered held old → InPlace S fs covered' held' new.lives
  places_stay covered held covered' held' covers holds i = record {
    own = λ x c. (covers x c).1;
    counted = λ x c. (holds x c).1;
    reached = λ k p o x cut m c at'.
        let y = was T fs old new h kept k cut p m in
        let z = covers x c in
        let to : pointer_at S old (latest old) p o ≡ x = (λ j. S.pointer (sym y.1 j) (sym (was_latest T fs old new h kept p m) j) o) ∙ at' in
        elim (i.reached (kept k cut).choice p o x (kept k cut).cut y.2 z.0 to) [
          | inl there ↦ inl ((λ j. S.pointer (y.1 j) (y.0 j) o) ∙ there)
          | inr none ↦ inr (subst (λ v. IsTrue (S.empty v)) (sym (was T fs old new h kept k cut x z.1).0) none)
        ];
    full = λ k p o x cut m c at' full.
        let y = was T fs old new h kept k cut p m in
        let to : pointer_at S old (latest old) p o ≡ x = (λ j. S.pointer (sym y.1 j) (sym (was_latest T fs old new h kept p m) j) o) ∙ at' in
        (λ j. S.pointer (y.1 j) (y.0 j) o) ∙ i.full (kept k cut).choice p o x (kept k cut).cut y.2 (holds x c).0 to ((kept k cut).full x full);
  }
