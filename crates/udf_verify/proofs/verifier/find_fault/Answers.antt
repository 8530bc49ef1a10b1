use Rattle.std.proofs.Common.{◌≡◌, ◌<◌, ◌≤◌, ap, sym, refl, arith, replicate, length}
use Rattle.udf_code.specs.Reading.{tree_of}
use Rattle.std.proofs.lemmas.Result.{err_from_is_err_and}
use Rattle.udf_verify.specs.Bounds.{bounds, no_register, size}
use Rattle.udf_verify.specs.Intervals.{start}
use Rattle.udf_verify.specs.Verdict.{emits}
use Rattle.udf_verify.proofs.Checking.{at_same}
use Rattle.udf_verify.proofs.Judged.{at_word, too_many, too_dear, too_large, fine, above_limit, within_limit}
use Rattle.udf_verify.proofs.verifier.find_fault.Goals as goal

pub check_block-requires : goal.check_block-requires
check_block-requires c = (_, (tree_of c.args.words.now, c.requires.leads, refl))

pub returns-in_err-check_block : goal.returns-in_err-check_block
returns-in_err-check_block c =
    let p = err_from_is_err_and c.from_residual.result c.from_residual.ensures.1 in
    rw (p.1, p.2) (
    let tree = tree_of c.args.words.now in
    let e = c.in_err-check_block.ensures (bounds c.args.role no_register 0 tree start) (at_same _ _ _ _ _ _ _ start _ (ap (λ i. replicate 16 i) c.new-intervals.ensures) (tree, c.requires.leads, refl)) in
    at_word c.args.role tree (size tree) refl _ e)

pub returns-then-counts-gt128 : goal.returns-then-counts-gt128
returns-then-counts-gt128 c =
    let tree = tree_of c.args.words.now in
    let e = c.in_ok-check_block.ensures (bounds c.args.role no_register 0 tree start) (at_same _ _ _ _ _ _ _ start _ (ap (λ i. replicate 16 i) c.new-intervals.ensures) (tree, c.requires.leads, refl)) in
    let len : size tree ≡ length c.args.words.now = let n = c.requires.leads.ends in omega arith in
    let many : 128 < emits tree = let p = c.requires.pairs in omega (arith, c.if-counts-gt128.true) in
    too_many c.args.role tree (length c.args.words.now) len _ e many

pub returns-then-counts-cost_limit : goal.returns-then-counts-cost_limit
returns-then-counts-cost_limit c =
    let tree = tree_of c.args.words.now in
    let e = c.in_ok-check_block.ensures (bounds c.args.role no_register 0 tree start) (at_same _ _ _ _ _ _ _ start _ (ap (λ i. replicate 16 i) c.new-intervals.ensures) (tree, c.requires.leads, refl)) in
    let len : size tree ≡ length c.args.words.now = let n = c.requires.leads.ends in omega arith in
    let few : emits tree ≤ 128 = let p = c.requires.pairs in omega (arith, c.if-counts-gt128.false) in
    too_dear c.args.role tree (length c.args.words.now) len _ e few (above_limit c.args.role c.args.counts.steps c.cost_limit.result tree c.requires.steps c.cost_limit.ensures c.if-counts-cost_limit.true)

pub returns-then-not-answer_fits : goal.returns-then-not-answer_fits
returns-then-not-answer_fits c =
    let tree = tree_of c.args.words.now in
    let e = c.in_ok-check_block.ensures (bounds c.args.role no_register 0 tree start) (at_same _ _ _ _ _ _ _ start _ (ap (λ i. replicate 16 i) c.new-intervals.ensures) (tree, c.requires.leads, refl)) in
    let len : size tree ≡ length c.args.words.now = let n = c.requires.leads.ends in omega arith in
    let few : emits tree ≤ 128 = let p = c.requires.pairs in omega (arith, c.if-counts-gt128.false) in
    let cheap = within_limit c.args.role c.args.counts.steps c.cost_limit.result tree c.requires.steps c.cost_limit.ensures c.if-counts-cost_limit.false in
    too_large c.args.role tree (length c.args.words.now) len _ e few cheap (sym c.if-not-answer_fits.ensures)

pub returns : goal.returns
returns c =
    let tree = tree_of c.args.words.now in
    let e = c.in_ok-check_block.ensures (bounds c.args.role no_register 0 tree start) (at_same _ _ _ _ _ _ _ start _ (ap (λ i. replicate 16 i) c.new-intervals.ensures) (tree, c.requires.leads, refl)) in
    let len : size tree ≡ length c.args.words.now = let n = c.requires.leads.ends in omega arith in
    let few : emits tree ≤ 128 = let p = c.requires.pairs in omega (arith, c.if-counts-gt128.false) in
    let cheap = within_limit c.args.role c.args.counts.steps c.cost_limit.result tree c.requires.steps c.cost_limit.ensures c.if-counts-cost_limit.false in
    fine c.args.role tree (length c.args.words.now) len _ e few cheap (sym c.if-not-answer_fits.ensures)
