use Rattle.std.proofs.Common.{◌≡◌, ◌++◌, ◌∷◌, [], sym, arith}
use Rattle.udf_asm.proofs.Texts.{line_kept, line_passed, line_fault, line_not_empty}
use Rattle.udf_asm.proofs.assembler.read_lines.Goals as goal

pub returns-in-Err-clause-words : goal.returns-in-Err-clause-words
returns-in-Err-clause-words c =
    line_fault c.args.text.now c.loop-rest.rest.now c.cut.result.0.now c.in-Some.more.now c.loop-rest.count c.loop-rest.words.items c.in-Err.kind c.loop-rest.invariant.0 (rw c.in-Some.is at c.cut.ensures.parts) (sym c.in-Err.ensures)

pub loop-rest-preserved-then-count-lt-MAX_WORDS : goal.loop-rest-preserved-then-count-lt-MAX_WORDS
loop-rest-preserved-then-count-lt-MAX_WORDS c =
    let items : c.push.new.self.items ≡ c.loop-rest.words.items ++ c.in-Ok.word ∷ [] = c.push.ensures.items in
    let len = c.push.ensures.len in
    let lengths = rw c.in-Some.is at c.cut.ensures.lengths in
    let some = line_not_empty c.cut.result.0.now c.in-Ok.word (sym c.in-Ok.ensures) in
    let read = line_kept c.args.text.now c.loop-rest.rest.now c.cut.result.0.now c.in-Some.more.now c.loop-rest.count c.loop-rest.words.items c.in-Ok.word c.loop-rest.invariant.0 (rw c.in-Some.is at c.cut.ensures.parts) (sym c.in-Ok.ensures) c.if-count-lt-MAX_WORDS.true in
    (rw items read, omega arith, omega arith)

pub loop-rest-preserved : goal.loop-rest-preserved
loop-rest-preserved c =
    let lengths = rw c.in-Some.is at c.cut.ensures.lengths in
    let some = line_not_empty c.cut.result.0.now c.in-Ok.word (sym c.in-Ok.ensures) in
    (line_passed c.args.text.now c.loop-rest.rest.now c.cut.result.0.now c.in-Some.more.now c.loop-rest.count c.loop-rest.words.items c.in-Ok.word c.loop-rest.invariant.0 (rw c.in-Some.is at c.cut.ensures.parts) (sym c.in-Ok.ensures) c.if-count-lt-MAX_WORDS.false, omega arith, omega arith)
