use Rattle.std.proofs.Common.{rules}
use Rattle.xnfs_session.proofs.Opening.{fails_to_make}
use Rattle.xnfs_session.proofs.session.Session.make.Goals as goal

pub returns-in_err-volume-clause-makes : goal.returns-in_err-volume-clause-makes
returns-in_err-volume-clause-makes g c =
    let told = c.in_err-volume.ensures in
    fails_to_make (g.S.Store.types_of c.args.store) (g.S.Store.types_of c.flush.new.self) c.args.fs.number (g.S.Store.state_of c.args.store)
    (g.S.Store.state_of c.flush.new.self) (g.S.Store.state_of c.make.new.store) c.in_err-volume.field-0.0 c.in_ok-_waves.ensures.types
    ((c.in_ok-_waves._waves, c.in_ok-_waves.ensures.waves), c.in_ok-_waves.ensures.idle.1, c.in_ok-_waves.ensures.done) (search rules) told.answers told.order _ (search rules)
