use Rattle.ffs_lookup.proofs.Readable.{not_refused}
use Rattle.ffs_lookup.proofs.Stores.{lent_latest}
use Rattle.ffs_lookup.proofs.places.read_block.Goals as goal

pub returns-clause-bytes : goal.returns-clause-bytes
returns-clause-bytes g c = lent_latest (g.S.Store.state_of c.args.store.now) c.args.fs.number c.args.block c.in_ok-bytes.bytes c.in_ok-bytes.ensures.bytes

pub returns-in_err-bytes-clause-reached : goal.returns-in_err-bytes-clause-reached
returns-in_err-bytes-clause-reached g c = λ ty reached.
    absurd (not_refused (g.S.Store.types_of _) (g.S.Store.state_of _) c.read.ensures.rules c.args.fs.number c.args.fs.few c.args.block ty reached _ c.in_err-bytes.ensures.bytes)
