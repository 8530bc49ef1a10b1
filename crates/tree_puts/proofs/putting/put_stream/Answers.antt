use Rattle.std.proofs.Common.{Option, subst}
use Rattle.tree_lines.specs.declared.node.Node.{Node}
use Rattle.tree_puts.specs.Sources.{GetsRights}
use Rattle.tree_puts.proofs.PutSome.{stream_put}
use Rattle.tree_puts.proofs.putting.put_stream.Goals as goal

-- the path and the source are not told of
pub returns-clause-does : goal.returns-clause-does
returns-clause-does g c wide =
    let told = c.stream_attributes-attributes.result in
    let given = c.stream_attributes-attributes.ensures in
    let path = c.args.putting.now.path in
    stream_put
    (record { place = c.in_ok-place.place; path = path; source = path; attributes = record { ref_ptr = c.args.arriving.ref_ptr; now = told } })
    _ path.now _ _ _ _ (c.put_plain.ensures.does wide) c.if-putting.false c.in_ok-place.ensures
    (given.0, subst (λ (o : Option Node). GetsRights o told.permissions told.uid told.gid) c.seen_at.ensures given.1)
