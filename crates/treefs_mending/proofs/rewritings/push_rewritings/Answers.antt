use Rattle.std.proofs.Common.{arith, ◌∙◌, ◌++◌, ◌+◌, ◌-◌, ap, append_assoc, sym}
use Rattle.treefs_lookup.specs.Readable.{readable}
use Rattle.treefs_mending.specs.Names.{bucket_count}
use Rattle.treefs_mending.specs.Rewritings.{bucket_rewriting, rewritings, rewritings_from}
use Rattle.treefs_mending.proofs.DeadRecords.{first_rewriting, last_rewriting, next_rewriting, read_rewriting}
use Rattle.treefs_mending.proofs.Gathered.{added, finished}
use Rattle.treefs_mending.proofs.rewritings.push_rewritings.Goals as goal

pub loop-leaf-init : goal.loop-leaf-init
loop-leaf-init g c =
    let content = readable (g.S.Store.state_of c.args.store.now) c.args.fs.number in
    let inode = c.args.inode in
    let old = c.args.acts.now.items in
    let here = bucket_rewriting content inode 0 in
    let behind = rewritings_from content inode 1 (bucket_count - 1) in
    record {
      few = omega arith;
      so_far = ap (λ l. l ++ behind)
          (c.in_ok-push_rewriting.ensures ∙ ap (λ l. old ++ l) (read_rewriting content inode 0 c.read_bucket.result c.read_bucket.ensures))
          ∙ (append_assoc old here behind ∙ ap (λ l. old ++ l) (sym (first_rewriting content inode)));
    }

pub loop-leaf-preserved : goal.loop-leaf-preserved
loop-leaf-preserved g c =
    let content = readable (g.S.Store.state_of c.args.store.now) c.args.fs.number in
    let inode = c.args.inode in
    let from = c.loop-leaf.from in
    let number = c.in-Some.leaf.number in
    let few = c.in-Some.ensures.few in
    let old = c.loop-leaf.acts.items in
    record {
      few = omega arith;
      so_far = added c.push_rewriting-in-Some.new.acts.items old (bucket_rewriting content inode (number + 1))
          (rewritings_from content inode (number + 1 + 1) (bucket_count - (number + 1 + 1))) (rewritings_from content inode (from + 1) (bucket_count - (from + 1)))
          (c.args.acts.now.items ++ rewritings content inode)
          (c.in_ok-push_rewriting-2.ensures
          ∙ ap (λ l. old ++ l) (read_rewriting content inode (number + 1) c.read_bucket-bucket.result c.read_bucket-bucket.ensures))
          (next_rewriting content inode from number c.in-Some.ensures.past few c.in-Some.ensures.first) c.loop-leaf.invariant.so_far;
    }

pub returns : goal.returns
returns g c =
    let content = readable (g.S.Store.state_of c.args.store.now) c.args.fs.number in
    let inode = c.args.inode in
    let from = c.loop-leaf.from in
    finished c.loop-leaf.acts.items (rewritings_from content inode (from + 1) (bucket_count - (from + 1)))
    (c.args.acts.now.items ++ rewritings content inode) (last_rewriting content inode from c.loop-leaf.invariant.few c.in_default.ensures)
    c.loop-leaf.invariant.so_far
