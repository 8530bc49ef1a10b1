use Rattle.std.proofs.Common.{◌≡◌, ◌∙◌, ℕ, ap, arith, inl, inr, length, sym, take}
use Rattle.std.proofs.lemmas.Bool.{cases_lt}
use Rattle.std.proofs.lemmas.List.{take_all}
use Rattle.tree_changes.proofs.copies.head_of.Goals as goal

pub returns-clause-first : goal.returns-clause-first
returns-clause-first c =
    elim (cases_lt (length c.args.bytes.now) 384) [
      | inl short ↦ take_all c.min.result c.args.bytes.now (omega (arith, c.min.ensures, short)) ∙ sym (take_all 384 c.args.bytes.now (omega (arith, short)))
      | inr long ↦ let is : c.min.result ≡ 384 = omega (arith, c.min.ensures, long) in ap (λ (n : ℕ). take n c.args.bytes.now) is
    ]
