-- Types that are looked up once.
use Rattle.std.proofs.Common.{◌≡◌, ◌∙◌, ℕ, ◌<◌, ◌≤◌, Bool, true, false, List, length, set, get_or, Option, Some, None, inl, inr, ap, sym, subst}
use Rattle.std.specs.Prelude.{IfSome, IsSomeAnd, slice_index}
use Rattle.std.proofs.lemmas.Bool.{cases_eq}
use Rattle.std.proofs.lemmas.List.{get_or-set_same, get_or-set_other}
use Rattle.xn_model.specs.Types.{Types}
use Rattle.udf_run.specs.Meaning.{Machine}
use Rattle.templates.specs.Meaning.{answer_after}
use Rattle.crash_check.specs.declared.known.KnownTypes.{KnownTypes}
use Rattle.crash_check.specs.Known.{AreKnown}

-- a size that each run answers
pub size-told : (o : Option ℕ) (size : List ℕ → ℕ) (run : List ℕ → Option Machine) → IfSome o (λ n. n ≤ 512)
    → IfSome o (λ n. (m : List ℕ) → IsSomeAnd (run m) (λ end. n ≡ slice_index end.registers 0)) → ((m : List ℕ) → size m ≡ answer_after (run m))
    → IfSome o (λ n. (n ≤ 512) × ((m : List ℕ) → size m ≡ n))
size-told None size run small answer told = tt
size-told (Some n) size run small answer told = (small, λ m. told m ∙ ends (run m) (answer m))
  where
    ends : (r : Option Machine) → IsSomeAnd r (λ end. n ≡ slice_index end.registers 0) → answer_after r ≡ n
    ends None h = absurd h
    ends (Some end) h = sym h

-- and one more type
module _ (T : Types) (known : KnownTypes) (i : ℕ) (b : Bool) (o : Option ℕ) (k : AreKnown T known) where
  other : (t : ℕ) → (t ≡ i → ⊥) → get_or (set known.marks i b) t false ≡ true → get_or known.marks t false ≡ true
  other t ne h = sym (get_or-set_other known.marks i t b false ne) ∙ h

  other-size : (t n : ℕ) → (t ≡ i → ⊥) → get_or (set known.sizes i o) t None ≡ Some n → get_or known.sizes t None ≡ Some n
  other-size t n ne h = sym (get_or-set_other known.sizes i t o None ne) ∙ h

  module _ (low : 1 ≤ i) (within : i < length known.marks) (within_sizes : i < length known.sizes) (is : b ≡ T.installed i)
      (sized : IfSome o (λ n. (n ≤ 512) × ((m : List ℕ) → T.size i m ≡ n))) where
    here : (t : ℕ) → t ≡ i → get_or (set known.marks i b) t false ≡ true → T.installed t ≡ true
    here t e h = ap T.installed e ∙ sym is ∙ sym (get_or-set_same known.marks i b false within) ∙ ap (λ j. get_or (set known.marks i b) j false) (sym e) ∙ h

    here-size : (t n : ℕ) → t ≡ i → get_or (set known.sizes i o) t None ≡ Some n → (n ≤ 512) × ((m : List ℕ) → T.size i m ≡ n)
    here-size t n e h =
        subst (λ p. IfSome p (λ n. (n ≤ 512) × ((m : List ℕ) → T.size i m ≡ n)))
        (sym (get_or-set_same known.sizes i o None within_sizes) ∙ ap (λ j. get_or (set known.sizes i o) j None) (sym e) ∙ h) sized

    pub known-more : AreKnown T (record { marks = set known.marks i b; sizes = set known.sizes i o })
    known-more = record {
      nonzero = λ t h. elim (cases_eq t i) [ inl e ↦ subst (λ j. 1 ≤ j) (sym e) low | inr ne ↦ k.nonzero t (other t ne h) ];
      installed = λ t h. elim (cases_eq t i) [ inl e ↦ here t e h | inr ne ↦ k.installed t (other t ne h) ];
      small = λ t n h. elim (cases_eq t i) [ inl e ↦ (here-size t n e h).0 | inr ne ↦ k.small t n (other-size t n ne h) ];
      size = λ t n h m. elim (cases_eq t i) [
        | inl e ↦ ap (λ j. T.size j m) e ∙ (here-size t n e h).1 m
        | inr ne ↦ k.size t n (other-size t n ne h) m
      ];
    }
