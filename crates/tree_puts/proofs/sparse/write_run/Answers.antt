use Rattle.std.proofs.Common.{ℕ, List, drop, refl, subst, take}
use Rattle.tree_puts.specs.Actions.{Calls, Performs}
use Rattle.tree_puts.specs.Actions.Action.{writes}
use Rattle.tree_puts.proofs.Arrivals.{part_got}
use Rattle.tree_puts.proofs.Performed.{one_done}
use Rattle.tree_puts.proofs.sparse.write_run.Goals as goal

pub returns-clause-does : goal.returns-clause-does
returns-clause-does g c within =
    let before = c.args.volume.now in
    let after = c.write_all.new.self in
    let T = g.S.Store.types_of before.session.store in
    let old = g.S.Store.state_of before.session.store in
    let new = g.S.Store.state_of after.session.store in
    let block = c.args.begun.1 in
    let bytes_are = part_got c.args.written.1.now c.args.ends.0 c.args.ends.1 c.get.result _ c.unwrap_or-run.result refl c.unwrap_or-run.ensures within
    c.get.ensures.lookup.0 in
    let place = c.saturating_add.result in
    let run = c.unwrap_or-run.result.now in
    subst (λ (at : ℕ). Performs T before.folder (Calls (writes block at (drop c.args.ends.0 (take c.args.ends.1 c.args.written.1.now))) c.write_all.result)
    old new before.session.volume after.session.volume)
    c.saturating_add.ensures
    (subst (λ (l : List ℕ). Performs T before.folder (Calls (writes block place l) c.write_all.result) old new before.session.volume after.session.volume)
    bytes_are
    (one_done T before.folder old new before.session.volume after.session.volume (writes block place run) c.write_all.result c.write_all.ensures.does))
