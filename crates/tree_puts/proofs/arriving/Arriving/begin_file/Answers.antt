use Rattle.std.proofs.Common.{◌≡◌, ℕ, List, arith, min, subst, take}
use Rattle.treefs_format.specs.declared.kind.Kind.TheVariants.{File}
use Rattle.tree_puts.specs.Actions.{Calls, Performs}
use Rattle.tree_puts.specs.Actions.Action.{begins}
use Rattle.tree_puts.proofs.Arrivals.{head_of}
use Rattle.tree_puts.proofs.Performed.{by_plan, one_done}
use Rattle.tree_puts.proofs.arriving.Arriving.begin_file.Goals as goal

pub returns-clause-does : goal.returns-clause-does
returns-clause-does g c within =
    let before = c.args.volume.now in
    let after = c.make.new.self in
    let T = g.S.Store.types_of before.session.store in
    let old = g.S.Store.state_of before.session.store in
    let new = g.S.Store.state_of after.session.store in
    let attributes = c.new_attributes-attributes in
    let head = c.min-head_len.result in
    let head_is : head ≡ min c.args.first 384 = omega (arith, c.min.ensures, c.min-head_len.ensures) in
    by_plan
    (subst (λ (l : List ℕ). Performs T before.folder (Calls (begins File attributes.result l) c.make.result) old new before.session.volume after.session.volume)
    (head_of c.args.first c.args.piece.now head within head_is)
    (one_done T before.folder old new before.session.volume after.session.volume (begins File attributes.result (take head c.args.piece.now)) c.make.result
    c.make.ensures.does))
    (λ actions so. (attributes.result, attributes.ensures.rights, so))
