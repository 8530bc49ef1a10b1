use Rattle.std.proofs.Common.{◌≡◌, [], ◌∷◌, rules, sym, ap, ◌∙◌}
use Rattle.script.specs.Hex.{block_with, hex_byte}
use Rattle.std.specs.Prelude.{slice_index}
use Rattle.script.proofs.HexBytes.{hex_byte-dash, read_more, spells_block, zeros_at}
use Rattle.script.proofs.hex.parse_start.Goals as goal

pub returns-clause-block : goal.returns-clause-block
returns-clause-block c = read_more c.parse_bytes.result c.parse_bytes.ensures.readable c.parse_bytes.ensures.bytes (λ hex bytes spells. spells_block c.args.text.now bytes.items hex spells)

pub returns-then-eq-clause-block : goal.returns-then-eq-clause-block
returns-then-eq-clause-block c = λ k h.
    let dash : c.args.text.now ≡ 45 ∷ [] = search rules in
    ap (λ bytes. slice_index (block_with bytes) k) c.new.ensures.items ∙ (zeros_at 512 k ∙ sym (ap (λ text. hex_byte text k) dash ∙ hex_byte-dash k))
