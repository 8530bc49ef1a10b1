use Rattle.std.proofs.Common.{◌≡◌, ◌+◌, ◌++◌, ◌∷◌, [], sym, ◌∙◌, arith}
use Rattle.std.specs.Prelude.{reverse}
use Rattle.arrayvec.specs.ArrayVec.{array_vec_len}
use Rattle.udf_code.specs.Structure.{place}
use Rattle.udf_code.proofs.Steps.{next_word}
use Rattle.udf_code.proofs.bytes.read_words.Goals as goal

pub loop-at-preserved : goal.loop-at-preserved
loop-at-preserved c =
    let items : c.push.new.self.items ≡ c.loop-at.words.items ++ c.in_ok-word.word ∷ [] = c.push.ensures.items in
    let len : array_vec_len c.push.new.self ≡ c.loop-at.at + 1 = rw c.loop-at.invariant.1 at c.push.ensures.len in
    let more = next_word c.args.bytes.now c.loop-at.at (place (reverse c.loop-at.blocks.items) c.loop-at.may_claim) _ c.loop-at.words.items c.in_ok-word.word (omega arith) (sym c.in_ok-word.ensures) c.in_ok-may_claim.ensures in
    (rw items (more ∙ c.loop-at.invariant.0), len, omega arith)
