use Rattle.std.proofs.Common.{arith, ◌++◌, ◌+◌, ◌-◌}
use Rattle.treefs_lookup.specs.Readable.{readable}
use Rattle.treefs_mending.specs.Names.{bucket_count, live_names, names_from, names_in}
use Rattle.treefs_mending.proofs.Gathered.{added, finished}
use Rattle.treefs_mending.proofs.LiveNames.{bucket_count_is, last_names, next_names}
use Rattle.treefs_mending.proofs.names.push_names.Goals as goal

pub loop-bucket-preserved : goal.loop-bucket-preserved
loop-bucket-preserved g c =
    let state = g.S.Store.state_of c.args.store.now in
    let fs = c.args.fs.number in
    let inode = c.args.inode in
    let next = c.loop-bucket.next in
    let b = c.in-Some.bucket in
    let few = c.in-Some.ensures.few in
    record {
      few = omega arith;
      so_far = added c.push_bucket.new.names.items c.loop-bucket.names.items (names_in b.block b.start b.bytes.now)
          (names_from (readable state fs) inode (b.number + 1) (bucket_count - (b.number + 1))) (names_from (readable state fs) inode next (bucket_count - next))
          (c.args.names.now.items ++ live_names (readable state fs) inode) c.in_ok-push_bucket.ensures (next_names state fs inode next b c.in-Some.ensures)
          c.loop-bucket.invariant.so_far;
    }

pub returns : goal.returns
returns g c =
    let state = g.S.Store.state_of c.args.store.now in
    let fs = c.args.fs.number in
    let inode = c.args.inode in
    let next = c.loop-bucket.next in
    let few = c.loop-bucket.invariant.few in
    finished c.loop-bucket.names.items (names_from (readable state fs) inode next (bucket_count - next))
    (c.args.names.now.items ++ live_names (readable state fs) inode) (last_names state fs inode next (omega (arith, bucket_count_is)) c.in_default.ensures)
    c.loop-bucket.invariant.so_far
