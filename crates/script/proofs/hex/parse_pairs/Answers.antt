use Rattle.std.proofs.Common.{arith, inl, inr, refl, sym, ◌∙◌}
use Rattle.std.proofs.lemmas.Bool.{cases_lt}
use Rattle.script.proofs.HexBytes.{zeros_at, hex_byte-past}
use Rattle.script.proofs.hex.parse_pairs.Goals as goal

pub returns-then-read_pairs-clause-block : goal.returns-then-read_pairs-clause-block
returns-then-read_pairs-clause-block c = λ k h. elim (cases_lt k c.in_ok-pairs.pairs) [
  | inl within ↦ c.if-read_pairs.ensures.read refl k within
  | inr past ↦ c.if-read_pairs.ensures.rest k past
      ∙ (zeros_at 512 k ∙ sym (hex_byte-past c.args.digits.now k (omega (arith, c.in_ok-pairs.ensures.some))))
]
