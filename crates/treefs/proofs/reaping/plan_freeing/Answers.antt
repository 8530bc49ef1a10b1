use Rattle.std.proofs.Common.{◌+◌, ◌<◌, length}
use Rattle.treefs_format.specs.Paths.{last_beside}
use Rattle.treefs_lookup.specs.Readable.{readable}
use Rattle.treefs.specs.Reaping.{cleared, first_beside, freed_among, freed_at, freed_beside}
use Rattle.treefs.proofs.FreedInodes.{before_end, cleared_more, few_more, joined_more, last_past, one_more}
use Rattle.treefs.proofs.reaping.plan_freeing.Goals as goal

pub loop-beside-preserved : goal.loop-beside-preserved
loop-beside-preserved g c =
    let content = readable (g.S.Store.state_of c.args.store.now) c.args.tree.fs.number in
    let top = c.args.tree.top in
    let numbers = c.args.numbers.now in
    let leaf = c.args.leaf in
    let at = c.loop-beside.beside in
    let to = last_beside leaf + 1 in
    let old = c.loop-beside.freed.items in
    let new = c.free_at.new.freed.items in
    let lt : at < to = before_end leaf at (last_beside leaf) c.leaves_beside.result c.leaves_beside.ensures.count (last_past leaf) c.loop-beside-test.true in
    let here = freed_among content top numbers at to in
    let rest = freed_among content top numbers (at + 1) to in
    let one = freed_at content top numbers at in
    let all = freed_beside content top numbers leaf in
    let more = one_more content top numbers at to lt in
    record {
      few = few_more (length new) (length old) at (first_beside leaf) c.first_beside-beside.result c.free_at.ensures.few c.loop-beside.invariant.few c.first_beside-beside.ensures.first c.loop-beside.auto.beside;
      joined = joined_more all old new here one rest c.loop-beside.invariant.joined more c.free_at.ensures.freed;
      written = cleared_more (cleared c.newest_bytes-bytes.result all) c.loop-beside.bytes c.free_at.new.bytes here one rest c.loop-beside.invariant.written more c.free_at.ensures.bytes;
    }
