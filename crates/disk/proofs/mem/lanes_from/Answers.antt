use Rattle.std.proofs.Common.{◌≡◌, ◌∙◌, ℕ, ◌+◌, ◌-◌, ◌*◌, ◌/◌, ◌<◌, ◌≤◌, List, length, take, Some, slice_set, ap, arith}
use Rattle.std.proofs.lemmas.Grind.{common_steps}
use Rattle.disk.specs.Images.{block_of_image}
use Rattle.disk.specs.Mem.{MemoryLane, fresh_lane}
use Rattle.disk.proofs.BlockAt.{block_at-take}
use Rattle.disk.proofs.Held.{filled-count, filled-empty, filled-each}
use Rattle.disk.proofs.mem.lanes_from.Goals as goal

shorter : (xs ys : List ℕ) (m n k : ℕ) → ys ≡ take m xs → k ≤ m → k ≡ n → take k ys ≡ take n xs
shorter xs ys m n k is le same = grind (arith, common_steps)

abbrev lane_at : List ℕ → ℕ → MemoryLane
lane_at image k = fresh_lane k (block_of_image image k)

pub loop-done-preserved : goal.loop-done-preserved
loop-done-preserved g c =
    let all = c.args.image.items in
    let n = c.len.result / 512 in
    let done = c.loop-done.done in
    let before = c.loop-done.invariant in
    let more : done < n = omega arith in
    let b = n - 1 - done in
    let at : b + done + 1 ≡ n = omega arith in
    let fits : 512 * (n - done) ≤ length all = omega arith in
    let within : 512 * b + 512 ≤ 512 * (n - done) = omega arith in
    let lane : c.in_ok-lane.lane ≡ fresh_lane b (block_of_image all b) =
    c.in_ok-lane.ensures ∙ ap (fresh_lane b) (c.block_of.ensures ∙ (ap (λ xs. block_of_image xs b) (c.deref.ensures.value ∙ before.rest) ∙ block_at-take all (512 * (n - done)) b within fits)) in
    let put : c.put.new.self ≡ slice_set c.loop-done.lanes b (Some (fresh_lane b (block_of_image all b))) =
    c.put.ensures ∙ ap (λ (l : MemoryLane). slice_set c.loop-done.lanes l.number (Some l)) lane in
    record {
      rest = c.give_back.ensures ∙ shorter all c.loop-done.image.items (512 * (n - done)) (512 * (n - (done + 1))) (512 * b) before.rest (omega arith) (omega arith);
      count = rw put (filled-count (lane_at all) c.loop-done.lanes n done b at before.count before.empty before.each);
      empty = rw put (filled-empty (lane_at all) c.loop-done.lanes n done b at before.count before.empty before.each);
      each = rw put (filled-each (lane_at all) c.loop-done.lanes n done b at before.count before.empty before.each);
    }
