use Rattle.std.proofs.Common.{◌≡◌, ◌++◌, length, Some, slice_get, arith, rules, ◌∙◌}
use Rattle.std.proofs.lemmas.Grind.{common_steps}
use borrow.Author.Count.{below_more}
use Rattle.disk.specs.Mem.{MemoryLane}
use Rattle.disk.specs.Images.{block_of_image}
use Rattle.disk.proofs.BlockAt.{block_at-append_front, block_at-append_last}
use Rattle.disk.proofs.mem.bytes_of_all.Goals as goal

pub loop-block-preserved : goal.loop-block-preserved
loop-block-preserved c =
    let now = c.loop-block.bytes.items in
    let after = c.extend_from_slice.new.self.items in
    let joined : after ≡ now ++ c.in_ok-lane.lane.now.bytes = grind (arith, common_steps) in
    let last : length c.in_ok-lane.lane.now.bytes ≡ 512 = grind (arith, common_steps) in
    record {
      len = grind (arith, common_steps);
      each = below_more (λ k. (lane : MemoryLane) × (slice_get c.args.lanes.now k ≡ Some (Some lane)) × (lane.bytes ≡ block_of_image after k)) c.loop-block.block
          (λ k h. let p = c.loop-block.invariant.each k h in (p.0, p.1, p.2 ∙ grind (arith, block_at-append_front now c.in_ok-lane.lane.now.bytes k)))
          (c.in_ok-lane.lane.now, search rules, grind (arith, common_steps, block_at-append_last now c.in_ok-lane.lane.now.bytes c.loop-block.block));
    }

pub returns-clause-some : goal.returns-clause-some
returns-clause-some c = record {
  whole = grind (arith, common_steps);
  each = λ k h. c.loop-block.invariant.each k (omega arith);
}
