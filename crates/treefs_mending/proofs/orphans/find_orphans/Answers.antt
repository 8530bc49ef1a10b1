use Rattle.std.proofs.Common.{arith, ◌+◌, ◌-◌, ◌∷◌, [], ap, cond, not}
use Rattle.std.specs.Prelude.{◌&&◌, is_ok}
use Rattle.treefs_lookup.specs.Readable.{readable}
use Rattle.treefs_mending.specs.Orphans.{orphan_at, orphans_from, orphans_of}
use Rattle.treefs_mending.specs.Surveys.{inode_count}
use Rattle.treefs_mending.specs.Tallies.{is_found}
use Rattle.treefs_mending.proofs.Gathered.{added, finished}
use Rattle.treefs_mending.proofs.InTable.{last_inode, next_inode}
use Rattle.treefs_mending.proofs.orphans.find_orphans.Goals as goal

pub loop-leaf-preserved : goal.loop-leaf-preserved
loop-leaf-preserved g c =
    let content = readable (g.S.Store.state_of c.args.store.now) c.args.tree.fs.number in
    let top = c.args.tree.top in
    let tallies = c.args.tallies.now in
    let from = c.loop-leaf.from in
    let number = c.in-Some.leaf.number in
    let few = c.in-Some.ensures.few in
    record {
      few = omega arith;
      so_far = added c.push_orphan.new.numbers.items c.loop-leaf.numbers.items (orphan_at content top tallies (number + 1))
          (orphans_from content top tallies (number + 1 + 1) (inode_count - (number + 1))) (orphans_from content top tallies (from + 1) (inode_count - from))
          (orphans_of content top tallies) c.in_ok-push_orphan.ensures
          (next_inode content top (orphan_at content top tallies) (λ n none. ap (λ r. cond (is_ok r && not (is_found tallies n)) (n ∷ []) []) none)
          from number c.in-Some.ensures.past few c.in-Some.ensures.first) c.loop-leaf.invariant.so_far;
    }

pub returns : goal.returns
returns g c =
    let content = readable (g.S.Store.state_of c.args.store.now) c.args.tree.fs.number in
    let top = c.args.tree.top in
    let tallies = c.args.tallies.now in
    let from = c.loop-leaf.from in
    finished c.loop-leaf.numbers.items (orphans_from content top tallies (from + 1) (inode_count - from)) (orphans_of content top tallies)
    (last_inode content top (orphan_at content top tallies) (λ n none. ap (λ r. cond (is_ok r && not (is_found tallies n)) (n ∷ []) []) none)
    from c.loop-leaf.invariant.few c.in_default.ensures) c.loop-leaf.invariant.so_far
