use Rattle.std.proofs.Common.{◌∙◌, length}
use Rattle.treefs_lookup.specs.Readable.{readable}
use Rattle.treefs_lookup.proofs.ReadParts.{in_inode, in_leaf}
use Rattle.treefs_lookup.proofs.bytes.copy_part.Goals as goal

pub returns-then-at : goal.returns-then-at
returns-then-at g c =
    let content = readable (g.S.Store.state_of c.args.store.now) c.args.fs.number in
    c.copy_block.ensures ∙ in_inode content c.args.inode c.args.at (length c.args.part.now) c.if-at.true c.requires.within

pub returns-else-at : goal.returns-else-at
returns-else-at g c =
    let content = readable (g.S.Store.state_of c.args.store.now) c.args.fs.number in
    c.copy_leaf.ensures ∙ in_leaf content c.args.inode c.args.at (length c.args.part.now) c.leaf_below-block.result c.leaf_below-block.ensures c.if-at.false c.requires.within
