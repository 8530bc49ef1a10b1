use Rattle.std.proofs.Common.{ℤ, FitsSigned, Some, of_z, rules, subst, to_z, w64}
use Rattle.std.proofs.lemmas.Int.{to_z-of_z}
use Rattle.tree_lines.specs.Values.{Settings}
use Rattle.tree_puts.specs.Actions.{Calls, Performs}
use Rattle.tree_puts.specs.Actions.Action.{sets}
use Rattle.tree_puts.specs.Arriving.{all_of}
use Rattle.tree_puts.proofs.Performed.{one_done}
use Rattle.tree_puts.proofs.arriving.Arriving.set_all.Goals as goal

pub returns-clause-does : goal.returns-clause-does
returns-clause-does g c =
    let before = c.args.volume.now in
    let after = c.make.new.self in
    let T = g.S.Store.types_of before.session.store in
    let old = g.S.Store.state_of before.session.store in
    let new = g.S.Store.state_of after.session.store in
    let told = c.args.told.now in
    let set_to : ℤ → Settings = λ m. record (all_of told) { mtime = Some m } in
    let fits : FitsSigned w64 told.modified = search rules in
    let back = to_z-of_z w64 told.modified fits in
    subst (λ (m : ℤ). Performs T before.folder (Calls (sets c.args.number (set_to m)) c.make.result) old new before.session.volume after.session.volume) back
    (one_done T before.folder old new before.session.volume after.session.volume (sets c.args.number (set_to (to_z w64 (of_z w64 told.modified)))) c.make.result
    c.make.ensures.does)
