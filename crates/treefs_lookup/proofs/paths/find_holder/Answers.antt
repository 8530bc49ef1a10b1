use Rattle.treefs_lookup.specs.Readable.{readable}
use Rattle.treefs_lookup.proofs.Walks.{holder_is}
use Rattle.treefs_lookup.proofs.paths.find_holder.Goals as goal

pub returns : goal.returns
returns g c =
    holder_is (readable (g.S.Store.state_of c.args.store.now) c.args.fs.number) c.args.inode c.args.leaf c.path-offsets.result.items c.as_slice.result.now c.walk.result
    c.path-offsets.ensures c.as_slice.ensures.value c.walk.ensures
