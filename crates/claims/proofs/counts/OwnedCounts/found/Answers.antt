use Rattle.std.proofs.Common.{◌∙◌, ◌<◌, ◌≤◌, [], ap, length, map, replicate, sym, subst, arith}
use Rattle.std.specs.List.{range_with_len}
use Rattle.block_cache.specs.Views.{rest_at}
use Rattle.claims.proofs.Counted.{AreCountedTo, all_counted, few_counted, length-found, none_counted, one_found}
use Rattle.claims.proofs.counts.OwnedCounts.found.Goals as goal

pub loop-block-init : goal.loop-block-init
loop-block-init c = λ blocks.
    let found = c.args.found.now in
    let lives = map (rest_at found blocks) (range_with_len 0 (length found)) in
    subst (λ counts. AreCountedTo counts lives 0) (ap (λ n. replicate n 0) (length-found found blocks ∙ sym c.places-blocks.ensures) ∙ sym c.in_ok-new.ensures) (none_counted lives)

pub count_one-requires : goal.count_one-requires
count_one-requires c = λ b.
    let found = c.args.found.now in
    let long = length-found found [] in
    let there : c.loop-block.block < length found = omega (arith, c.loop-block-test.true, c.places-blocks.ensures) in
    let few = few_counted c.loop-block.owned (map (rest_at found []) (range_with_len 0 (length found))) c.loop-block.block
    (omega (arith, there, long)) (c.loop-block.invariant []) b in
    omega (arith, few, long, c.requires.few)

pub loop-block-preserved : goal.loop-block-preserved
loop-block-preserved c = λ blocks.
    let there : c.loop-block.block < length c.args.found.now = omega (arith, c.loop-block-test.true, c.places-blocks.ensures) in
    rw (c.count_one.ensures, c.owner_at.ensures) (one_found c.loop-block.owned c.args.found.now blocks c.loop-block.block there (c.loop-block.invariant blocks))

pub returns : goal.returns
returns c = λ blocks.
    let found = c.args.found.now in
    let all : length found ≤ c.loop-block.block = omega (arith, c.loop-block-test.false, c.places-blocks.ensures) in
    all_counted c.loop-block.owned (map (rest_at found blocks) (range_with_len 0 (length found))) c.loop-block.block
    (omega (arith, all, length-found found blocks)) (c.loop-block.invariant blocks)
