-- The verdict, step by step.
use Rattle.std.proofs.Common.{◌≡◌, ℕ, ◌<◌, ◌≤◌, min, Bool, true, false, List, refl, sym, ap, ◌∙◌, subst, arith}
use Rattle.std.specs.Prelude.{Result, Ok, Err, IsOk, nat_le, ◌↔◌}
use Rattle.std.proofs.lemmas.Bool.{lt-leb, le-leb}
use Rattle.udf_code.specs.declared.word.Word.{Word}
use Rattle.udf_code.specs.Tree.{Tree, Spells}
use Rattle.udf_code.specs.Reading.{tree_of}
use Rattle.udf_code.specs.Structure.{structure_of}
use Rattle.udf_code.proofs.ForCallers.{one_tree, programs_are_trees}
use Rattle.udf_verify.specs.declared.fault.Role.{Role}
use Rattle.udf_verify.specs.declared.fault.Role.TheVariants as role
use Rattle.udf_verify.specs.declared.fault.FaultKind.TheVariants as kind
use Rattle.udf_verify.specs.declared.fault.VerifyFault.{VerifyFault}
use Rattle.udf_verify.specs.Intervals.{Interval, start}
use Rattle.udf_verify.specs.Bounds.{◌>>=◌, demand, placed, size, no_register, bounds}
use Rattle.udf_verify.specs.Surveyed.{ceiling}
use Rattle.udf_verify.specs.Verdict.{cost, emits, cost_limit, answer_fits, program_verdict, IsAccepted}

limit_low : (r : Role) → cost_limit r ≤ 8192
limit_low role.Owns = omega arith
limit_low role.Size = omega arith

module _ (r : Role) (tree : Tree) (n : ℕ) (len : size tree ≡ n) where
  abbrev Verdict : Type 0
  Verdict = Result (List Interval) VerifyFault

  abbrev emits_step : Bool → Result (Unit {0}) VerifyFault
  emits_step b = placed (size tree) (demand b kind.Emits (tt {0}))

  abbrev cost_step : Bool → Result (Unit {0}) VerifyFault
  cost_step b = placed (size tree) (demand b kind.Cost (tt {0}))

  abbrev last_step : List Interval → Bool → Verdict
  last_step final b = placed (size tree) (demand b kind.SizeAnswer final)

  abbrev after_emits : List Interval → Unit {0} → Verdict
  after_emits final u = cost_step (nat_le (cost tree) (cost_limit r)) >>= (λ v. last_step final (answer_fits r final))

  abbrev after_bounds : List Interval → Verdict
  after_bounds final = emits_step (nat_le (emits tree) 128) >>= after_emits final

  pub at_word : (fault : VerifyFault) → bounds r no_register 0 tree start ≡ Err fault → program_verdict r tree ≡ Err fault
  at_word fault e = ap (λ b. b >>= after_bounds) e

  module _ (final : List Interval) (e : bounds r no_register 0 tree start ≡ Ok final) where
    bounded : program_verdict r tree ≡ after_bounds final
    bounded = ap (λ b. b >>= after_bounds) e

    pub too_many : 128 < emits tree → program_verdict r tree ≡ Err (record { at = n; kind = kind.Emits })
    too_many h = bounded ∙ ap (λ b. emits_step b >>= after_emits final) (lt-leb (emits tree) 128 h) ∙ ap (λ k. Err (record { at = k; kind = kind.Emits })) len

    few : emits tree ≤ 128 → program_verdict r tree ≡ after_emits final (tt {0})
    few h = bounded ∙ ap (λ b. emits_step b >>= after_emits final) (le-leb (emits tree) 128 h)

    pub too_dear : emits tree ≤ 128 → cost_limit r < cost tree → program_verdict r tree ≡ Err (record { at = n; kind = kind.Cost })
    too_dear h k = few h ∙ ap (λ b. cost_step b >>= (λ v. last_step final (answer_fits r final))) (lt-leb (cost tree) (cost_limit r) k) ∙ ap (λ m. Err (record { at = m; kind = kind.Cost })) len

    cheap : emits tree ≤ 128 → cost tree ≤ cost_limit r → program_verdict r tree ≡ last_step final (answer_fits r final)
    cheap h k = few h ∙ ap (λ b. cost_step b >>= (λ v. last_step final (answer_fits r final))) (le-leb (cost tree) (cost_limit r) k)

    pub too_large : emits tree ≤ 128 → cost tree ≤ cost_limit r → answer_fits r final ≡ false → program_verdict r tree ≡ Err (record { at = n; kind = kind.SizeAnswer })
    too_large h k l = cheap h k ∙ ap (last_step final) l ∙ ap (λ m. Err (record { at = m; kind = kind.SizeAnswer })) len

    pub fine : emits tree ≤ 128 → cost tree ≤ cost_limit r → answer_fits r final ≡ true → IsAccepted r tree
    fine h k l = subst IsOk (sym (cheap h k ∙ ap (last_step final) l)) refl

-- a count that is cut off, against a limit far below
pub above_limit : (r : Role) (count limit : ℕ) (tree : Tree) → count ≡ min (cost tree) ceiling → limit ≡ cost_limit r → limit < count → cost_limit r < cost tree
above_limit r count limit tree e s h = omega arith

pub within_limit : (r : Role) (count limit : ℕ) (tree : Tree) → count ≡ min (cost tree) ceiling → limit ≡ cost_limit r → count ≤ limit → cost tree ≤ cost_limit r
within_limit r count limit tree e s h = let l = limit_low r in omega arith

-- programs

pub spelled : (words : List Word) → IsOk (structure_of words) → Spells (tree_of words) words
spelled words h =
    let t = (programs_are_trees words).0 h in
    subst (λ tree. Spells tree words) (sym (one_tree t.0 words t.1)) t.1

pub accepted_are_trees : (r : Role) (words : List Word) → (IsOk (structure_of words) × IsAccepted r (tree_of words)) ↔ ((tree : Tree) × Spells tree words × IsAccepted r tree)
accepted_are_trees r words = (
  λ h. (tree_of words, spelled words h.0, h.1),
  λ t. ((programs_are_trees words).1 (t.0, t.1), subst (λ tree. IsAccepted r tree) (sym (one_tree t.0 words t.1)) t.2),
)
