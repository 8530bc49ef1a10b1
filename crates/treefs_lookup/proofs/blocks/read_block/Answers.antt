use Rattle.treefs_lookup.proofs.Readable.{bytes_read, none_read}
use Rattle.treefs_lookup.proofs.blocks.read_block.Goals as goal

pub returns-in-Ok : goal.returns-in-Ok
returns-in-Ok g c = bytes_read (g.S.Store.state_of c.args.store.now) c.args.fs.number c.args.block c.in-Ok.bytes c.in-Ok.ensures.bytes

pub returns-in-Err : goal.returns-in-Err
returns-in-Err g c = none_read (g.S.Store.state_of c.args.store.now) c.args.fs.number c.args.block c.in-Err.field-0 c.in-Err.ensures.bytes
