use Rattle.treefs_format.specs.Paths.{steps}
use Rattle.treefs_lookup.specs.Readable.{readable}
use Rattle.treefs_lookup.proofs.TopPointers.{own_block}
use Rattle.treefs_lookup.proofs.Walks.{end_is}
use Rattle.treefs_lookup.proofs.paths.leaf_block.Goals as goal

pub returns-then-leaf-lt-OWN_LEAVES : goal.returns-then-leaf-lt-OWN_LEAVES
returns-then-leaf-lt-OWN_LEAVES g c =
    own_block (readable (g.S.Store.state_of c.args.store.now) c.args.fs.number) c.args.inode c.args.leaf c.pointer_at.result c.if-leaf-lt-OWN_LEAVES.true c.pointer_at.ensures

pub returns : goal.returns
returns g c =
    end_is (readable (g.S.Store.state_of c.args.store.now) c.args.fs.number) c.args.inode (steps c.args.leaf) c.find_in_tree.result c.end.result c.find_in_tree.ensures c.end.ensures
