-- No directory has a name twice, in any cut.
use Rattle.std.proofs.Common.{◌≡◌, ℕ, ◌⊎◌, List, sym, ◌∙◌, ap, inl, inr, subst}
use Rattle.std.specs.Prelude.{◌≢◌, IsTrue}
use Rattle.std.proofs.lemmas.Bool.{cases_eq}
use Rattle.xn_model.specs.Types.{Types}
use Rattle.xn_model.specs.Lives.{Lives, StoreState}
use Rattle.xn_model.specs.Rules.{IsConsistent}
use Rattle.ffs_model.specs.Cuts.{Choice, IsCut, latest, seen}
use Rattle.ffs_model.specs.Cuts.{KeptFrom}
use Rattle.ffs_model.proofs.ForCallers.{full_seen}
use Rattle.treefs_model.specs.Acts.{Act}
use Rattle.treefs_model.specs.Edited.{Edited, IsOwn}
use Rattle.treefs_model.specs.Single.{IsSingle, KeepsSingle, Records}
use Rattle.treefs_model.proofs.Over.{was, was_latest}

-- the law of a cut: a name is live in one bucket
pub one_bucket : (R : Records) (directory : ℕ → ℕ) (lives : Lives) → IsSingle R directory lives → (k : Choice) → IsCut lives k → (b c : ℕ) (name : List ℕ) → directory b ≢ 0 → directory b ≡ directory c →
    IsTrue (R.live b (seen lives k b) name) → IsTrue (R.live c (seen lives k c) name) → b ≡ c
one_bucket R directory lives v k cut b c name some same one two = v.apart b c name some same (v.kept k b name cut some one) (v.kept k c name cut (λ z. some (same ∙ z)) two)

module _ (T : Types) (R : Records) (directory : ℕ → ℕ) (act : Act) (old new : Lives) (number : ℕ) (e : Edited T act old new number) (h : (directory act.block ≡ 0) ⊎ KeepsSingle R directory act old new) (v : IsSingle R directory old) where
  abbrev b : ℕ
  b = act.block

  bucket : directory b ≢ 0 → KeepsSingle R directory act old new
  bucket some = elim h [ inl none ↦ absurd (some none) | inr y ↦ y ]

  abbrev Has : Lives → ℕ → List ℕ → Type 0
  Has lives c name = IsTrue (R.has c (latest lives c) name)

  to_new : (c : ℕ) (name : List ℕ) → c ≢ b → Has old c name → Has new c name
  to_new c name ne i = subst (λ m. IsTrue (R.has c m name)) (sym (e.others c ne)) i

  to_old : (c : ℕ) (name : List ℕ) → c ≢ b → Has new c name → Has old c name
  to_old c name ne i = subst (λ m. IsTrue (R.has c m name)) (e.others c ne) i

  kept_here : (k : Choice) (name : List ℕ) → IsCut new k → directory b ≢ 0 → IsTrue (R.live b (seen new k b) name) → Has new b name
  kept_here k name cut some live = let z = e.cuts k cut in let y = bucket some in elim z.case [
    | inl t ↦ y.live name (subst (λ m. IsTrue (R.live b m name)) (full_seen new k b t.all) live)
    | inr l ↦ let live' = subst (λ w. IsTrue (R.live b (w b) name)) l.same live in y.stays k name z.cut live' (v.kept k b name z.cut some live')
  ]

  one_apart : (c : ℕ) (name : List ℕ) → c ≢ b → directory b ≢ 0 → directory b ≡ directory c → Has new b name → Has new c name → b ≡ c
  one_apart c name ne some same one two = elim ((bucket some).fresh name one) [
    | inl was ↦ v.apart b c name some same was (to_old c name ne two)
    | inr none ↦ none c same (to_old c name ne two)
  ]

  pub single_keeps : IsSingle R directory new
  single_keeps = record {
    once = λ k c cut some. let z = e.cuts k cut in elim z.case [
      | inr l ↦ subst (λ w. IsTrue (R.once c (w c))) (sym l.same) (v.once k c z.cut some)
      | inl t ↦ elim (cases_eq c b) [
        | inr ne ↦ subst (λ m. IsTrue (R.once c m)) (sym (t.others c ne)) (v.once k c z.cut some)
        | inl q ↦ subst (λ d. IsTrue (R.once d (seen new k d))) (sym q) (subst (λ m. IsTrue (R.once b m)) (sym (full_seen new k b t.all)) (bucket (λ n. some (ap directory q ∙ n))).once)
      ]
    ];
    kept = λ k c name cut some live. elim (cases_eq c b) [
      | inl q ↦ subst (λ d. Has new d name) (sym q) (kept_here k name cut (λ n. some (ap directory q ∙ n)) (subst (λ d. IsTrue (R.live d (seen new k d) name)) q live))
      | inr ne ↦
          let z = e.cuts k cut in
          let same : seen new k c ≡ seen old k c = elim z.case [ inl t ↦ t.others c ne | inr l ↦ ap (λ w. w c) l.same ] in
          to_new c name ne (v.kept k c name z.cut some (subst (λ m. IsTrue (R.live c m name)) same live))
    ];
    apart = λ c d name some same one two. elim (cases_eq c b) [
      | inl q ↦ elim (cases_eq d b) [
        | inl r ↦ q ∙ sym r
        | inr ne ↦ q ∙ one_apart d name ne (λ n. some (ap directory q ∙ n)) (sym (ap directory q) ∙ same) (subst (λ x. Has new x name) q one) two
      ]
      | inr ne ↦ elim (cases_eq d b) [
        | inl r ↦ sym (one_apart c name ne (λ n. some (same ∙ (ap directory r ∙ n))) (sym (same ∙ ap directory r)) (subst (λ x. Has new x name) r two) one) ∙ sym r
        | inr far ↦ v.apart c d name some same (to_old c name ne one) (to_old d name far two)
      ]
    ];
  }

pub single_over : (T : Types) (R : Records) (directory directory' : ℕ → ℕ) (fs : ℕ) (old : Lives) (new : StoreState) (h : IsConsistent T new) (kept : KeptFrom fs old new.lives) →
    ((b : ℕ) → directory' b ≢ 0 → (directory' b ≡ directory b) × IsOwn fs new.lives b) → IsSingle R directory old → IsSingle R directory' new.lives
single_over T R directory directory' fs old new h kept buckets v = record {
  once = λ k b cut some. let y = buckets b some in subst (λ m. IsTrue (R.once b m)) (sym (was T fs old new h kept k cut b y.1).0) (v.once (kept k cut).choice b (kept k cut).cut (λ z. some (y.0 ∙ z)));
  kept = λ k b name cut some live.
      let y = buckets b some in
      subst (λ m. IsTrue (R.has b m name)) (sym (was_latest T fs old new h kept b y.1)) (v.kept (kept k cut).choice b name (kept k cut).cut (λ z. some (y.0 ∙ z)) (subst (λ m. IsTrue (R.live b m name)) (was T fs old new h kept k cut b y.1).0 live));
  apart = λ b c name some same one two.
      let y = buckets b some in
      let z = buckets c (λ n. some (same ∙ n)) in
      v.apart b c name (λ n. some (y.0 ∙ n)) (sym y.0 ∙ (same ∙ z.0)) (subst (λ m. IsTrue (R.has b m name)) (was_latest T fs old new h kept b y.1) one) (subst (λ m. IsTrue (R.has c m name)) (was_latest T fs old new h kept c z.1) two);
}
