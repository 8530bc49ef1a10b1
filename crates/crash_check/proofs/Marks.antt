-- The marks of the named blocks.
use Rattle.std.proofs.Common.{◌≡◌, ◌∙◌, ◌||◌, ◌<◌, ℕ, zero, suc, Bool, true, false, List, [], length, replicate, set, refl, ap, sym, arith, inl, inr}
use Rattle.std.specs.Prelude.{◌==◌, get_or}
use Rattle.std.proofs.lemmas.Bool.{cases_eq, eq-eqb, ne_eqb}
use Rattle.std.proofs.lemmas.List.{length-replicate, get_or-set_same, get_or-set_other}
use Rattle.image_model.specs.Walk.{Named, has_block}
use Rattle.crash_check.specs.Marks.{AreMarked}

-- marks that are not set are as none
unset : (n b : ℕ) → get_or (replicate n false) b false ≡ false
unset zero b = refl
unset (suc n) zero = refl
unset (suc n) (suc b) = unset n b

-- where none is named, 0 alone is marked
pub none-named : (n : ℕ) → 0 < n → (marks : List Bool) → marks ≡ replicate n false → AreMarked (set marks 0 true) []
none-named n some marks e b =
    let long : length marks ≡ n = ap length e ∙ length-replicate n false in
    elim (cases_eq b 0) [
      | inl is0 ↦
          ap (λ k. get_or (set marks 0 true) k false) is0 ∙ get_or-set_same marks 0 true false (omega arith) ∙ sym (ap (λ q. q || has_block [] b) (eq-eqb b 0 is0))
      | inr other ↦
          get_or-set_other marks 0 b true false other ∙ ap (λ l. get_or l b false) e ∙ unset n b
          ∙ sym (ap (λ q. q || has_block [] b) (ne_eqb b 0 other))
    ]

-- of a block other than 0
pub taken_named : (entries : List Named) (b : ℕ) → (b ≡ 0 → ⊥) → ((b == 0) || has_block entries b) ≡ has_block entries b
taken_named entries b some = ap (λ (zero : Bool). zero || has_block entries b) (ne_eqb b 0 some)
