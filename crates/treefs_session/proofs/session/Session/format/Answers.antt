use Rattle.std.proofs.Common.{◌≡◌, ℤ, Err, Ok, of_z, subst, to_z, w64}
use Rattle.std.proofs.Math.Facts.{to_z-of_z}
use Rattle.treefs.specs.Making.{MkfsDoes}
use Rattle.treefs_session.proofs.session.Session.format.Goals as goal

pub returns-in-Ok-clause-ok : goal.returns-in-Ok-clause-ok
returns-in-Ok-clause-ok g c =
    let T = g.S.Store.types_of c.args.store in
    let old = g.S.Store.state_of c.args.store in
    let new = g.S.Store.state_of c.mkfs.new.store in
    let time_is : to_z w64 (of_z w64 c.args.time) ≡ c.args.time = to_z-of_z {w = w64} {z = c.args.time} c.ranges.time in
    subst (λ (time : ℤ). MkfsDoes T old new c.args.fs c.args.types c.args.key.now time (Ok c.in-Ok.volume)) time_is c.in-Ok.ensures.does

pub returns-in-Err-clause-err : goal.returns-in-Err-clause-err
returns-in-Err-clause-err g c =
    let T = g.S.Store.types_of c.args.store in
    let old = g.S.Store.state_of c.args.store in
    let left = g.S.Store.state_of c.mkfs.new.store in
    let time_is : to_z w64 (of_z w64 c.args.time) ≡ c.args.time = to_z-of_z {w = w64} {z = c.args.time} c.ranges.time in
    (left, subst (λ (time : ℤ). MkfsDoes T old left c.args.fs c.args.types c.args.key.now time (Err c.in-Err.fault)) time_is c.in-Err.ensures.does)
