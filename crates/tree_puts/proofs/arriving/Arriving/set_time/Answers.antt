use Rattle.std.proofs.Common.{ℤ, FitsSigned, of_z, rules, subst, to_z, w64}
use Rattle.std.proofs.lemmas.Int.{to_z-of_z}
use Rattle.tree_puts.specs.Actions.{Calls, Performs}
use Rattle.tree_puts.specs.Actions.Action.{sets_time}
use Rattle.tree_puts.proofs.Performed.{one_done}
use Rattle.tree_puts.proofs.arriving.Arriving.set_time.Goals as goal

pub returns-clause-does : goal.returns-clause-does
returns-clause-does g c =
    let before = c.args.volume.now in
    let after = c.make.new.self in
    let T = g.S.Store.types_of before.session.store in
    let old = g.S.Store.state_of before.session.store in
    let new = g.S.Store.state_of after.session.store in
    let fits : FitsSigned w64 c.args.mtime = search rules in
    let back = to_z-of_z w64 c.args.mtime fits in
    subst (λ (m : ℤ). Performs T before.folder (Calls (sets_time c.args.number m) c.make.result) old new before.session.volume after.session.volume) back
    (one_done T before.folder old new before.session.volume after.session.volume (sets_time c.args.number (to_z w64 (of_z w64 c.args.mtime))) c.make.result
    c.make.ensures.does)
