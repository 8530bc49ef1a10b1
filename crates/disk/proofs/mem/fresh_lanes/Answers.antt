use Rattle.std.proofs.Common.{◌≡◌, ◌∙◌, ◌*◌, ◌^◌, ◌<◌, length, ap, slice_get, arith}
use Rattle.std.proofs.lemmas.Grind.{common_steps}
use Rattle.disk.specs.Mem.{fresh_lane}
use Rattle.disk.proofs.Held.{fresh-more, fresh-numbers, fresh-all}
use Rattle.disk.proofs.mem.fresh_lanes.Goals as goal

pub loop-block-preserved : goal.loop-block-preserved
loop-block-preserved c =
    let image = c.args.image.now in
    let before = c.loop-block.invariant in
    let lane = c.in_ok-lane.ensures ∙ ap (fresh_lane c.loop-block.block) c.block_of.ensures in
    record {
      len = grind (arith, common_steps);
      room = grind (arith, common_steps);
      long = grind (arith, common_steps);
      each = λ k lt. ap (λ l. slice_get l k) c.push_reserved.ensures.items ∙ fresh-more image c.loop-block.places.items c.loop-block.block before.long before.each c.in_ok-lane.lane lane k lt;
    }

pub of_places-requires : goal.of_places-requires
of_places-requires c =
    let few : c.loop-block.block < 2 ^ 32 = omega arith in
    fresh-numbers c.args.image.now c.loop-block.places.items c.loop-block.block c.loop-block.invariant.long c.loop-block.invariant.each few

pub returns : goal.returns
returns c =
    let whole : length c.args.image.now ≡ 512 * c.loop-block.block = omega arith in
    rw c.of_places.ensures (fresh-all c.args.image.now c.loop-block.places.items c.loop-block.block c.loop-block.invariant.long c.loop-block.invariant.each whole)
