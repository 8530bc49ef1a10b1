use Rattle.treefs_lookup.specs.Readable.{readable}
use Rattle.treefs_lookup.proofs.TopPointers.{in_tree_on, no_tree}
use Rattle.treefs_lookup.proofs.paths.find_in_tree.Goals as goal

pub returns-then-root-eq0 : goal.returns-then-root-eq0
returns-then-root-eq0 g c =
    no_tree (readable (g.S.Store.state_of c.args.store.now) c.args.fs.number) c.args.inode c.args.leaf c.height-height.result c.pointer_at-root.result
    c.requires.tree c.requires.there c.height-height.ensures c.pointer_at-root.ensures c.if-root-eq0.true

pub returns : goal.returns
returns g c =
    in_tree_on (readable (g.S.Store.state_of c.args.store.now) c.args.fs.number) c.args.inode c.args.leaf c.height-height.result c.pointer_at-root.result
    c.requires.tree c.requires.there c.height-height.ensures c.pointer_at-root.ensures
    c.path-offsets.result.items c.as_slice.result.now c.walk.result c.if-root-eq0.false c.path-offsets.ensures c.as_slice.ensures.value c.walk.ensures
