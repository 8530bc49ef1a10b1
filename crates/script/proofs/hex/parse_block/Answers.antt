use Rattle.std.proofs.Common.{◌≡◌, [], ◌∷◌, rules, sym, ap, ◌∙◌}
use Rattle.script.specs.Hex.{hex_byte}
use Rattle.script.proofs.HexBytes.{zeros_at, hex_byte-dash}
use Rattle.script.proofs.hex.parse_block.Goals as goal

pub returns-then-eq-clause-block : goal.returns-then-eq-clause-block
returns-then-eq-clause-block c = λ k h.
    let dash : c.args.text.now ≡ 45 ∷ [] = search rules in
    zeros_at 512 k ∙ sym (ap (λ text. hex_byte text k) dash ∙ hex_byte-dash k)
