use Rattle.std.proofs.Common.{◌≡◌, ◌∙◌, ℕ, ◌+◌, ◌-◌, ◌*◌, ◌<◌, ◌≤◌, List, length, take, Some, slice_set, ap, arith}
use Rattle.std.proofs.lemmas.Grind.{common_steps}
use Rattle.disk.specs.Images.{block_of_image}
use Rattle.disk.proofs.ForCallers.{block_at-take, filled-count, filled-empty, filled-each}
use Rattle.file_disk.specs.File.{FileBlock, fresh_block}
use Rattle.file_disk.specs.declared.found_block.FoundBlock.{FoundBlock}
use Rattle.file_disk.proofs.Images.{lane_at, holds, opened}
use Rattle.file_disk.proofs.lanes.lanes_of.Goals as goal

shorter : (xs ys : List ℕ) (m n k : ℕ) → ys ≡ take m xs → k ≤ m → k ≡ n → take k ys ≡ take n xs
shorter xs ys m n k is le same = grind (arith, common_steps)

pub loop-done-preserved : goal.loop-done-preserved
loop-done-preserved c =
    let all = c.args.image.bytes.items in
    let n = c.args.blocks in
    let done = c.loop-done.done in
    let before = c.loop-done.invariant in
    let more : done < n = omega arith in
    let b = n - 1 - done in
    let at : b + done + 1 ≡ n = omega arith in
    let fits : 512 * (n - done) ≤ length all = omega arith in
    let within : 512 * b + 512 ≤ 512 * (n - done) = omega arith in
    let bytes : block_of_image c.loop-done.image.bytes.items b ≡ block_of_image all b =
    ap (λ xs. block_of_image xs b) before.rest ∙ block_at-take all (512 * (n - done)) b within fits in
    let lane : c.in_ok-lane.lane ≡ lane_at all b =
    c.in_ok-lane.ensures ∙ (ap (λ (f : FoundBlock). fresh_block f.number f.bytes) c.block.ensures ∙ ap (fresh_block b) bytes) in
    let put : c.put.new.self ≡ slice_set c.loop-done.lanes b (Some (lane_at all b)) =
    c.put.ensures ∙ ap (λ (l : FileBlock). slice_set c.loop-done.lanes l.number (Some l)) lane in
    record {
      rest = c.keep.ensures ∙ shorter all c.loop-done.image.bytes.items (512 * (n - done)) (512 * (n - (done + 1))) (512 * b) before.rest (omega arith) (omega arith);
      count = rw put (filled-count (lane_at all) c.loop-done.lanes n done b at before.count before.empty before.each);
      empty = rw put (filled-empty (lane_at all) c.loop-done.lanes n done b at before.count before.empty before.each);
      each = rw put (filled-each (lane_at all) c.loop-done.lanes n done b at before.count before.empty before.each);
    }

pub returns-clause-opened : goal.returns-clause-opened
returns-clause-opened c =
    let before = c.loop-done.invariant in
    opened c.args.image.bytes.items c.args.blocks c.requires c.loop-done.lanes before.count (λ k h. before.each k (omega arith) h)

pub returns-clause-image : goal.returns-clause-image
returns-clause-image c =
    let before = c.loop-done.invariant in
    holds c.args.image.bytes.items c.args.blocks c.requires c.loop-done.lanes before.count (λ k h. before.each k (omega arith) h)
