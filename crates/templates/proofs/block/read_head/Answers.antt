use Rattle.std.proofs.Common.{refl, ◌+◌, ◌≤◌, arith}
use Rattle.templates.specs.Reading.{owns_count, size_count}
use Rattle.templates.proofs.ReadSteps.{bad_mark, bad_counts, good_head}
use Rattle.templates.proofs.block.read_head.Goals as goal

pub returns-then-ne : goal.returns-then-ne
returns-then-ne c = bad_mark c.args.block.now _ _ c.as_slice.ensures c.ne.ensures c.if-ne.true

pub returns-then-count-gt-MAX_WORDS :
    goal.returns-then-count-gt-MAX_WORDS
returns-then-count-gt-MAX_WORDS c = bad_counts c.args.block.now _ _ c.as_slice.ensures c.ne.ensures c.if-ne.false c.if-count-gt-MAX_WORDS.true

pub returns : goal.returns
returns c =
    let few : owns_count c.args.block.now + size_count c.args.block.now ≤ 127 = c.if-count-gt-MAX_WORDS.false in
    (good_head c.args.block.now _ _ c.as_slice.ensures c.ne.ensures c.if-ne.false few, refl, omega arith)
