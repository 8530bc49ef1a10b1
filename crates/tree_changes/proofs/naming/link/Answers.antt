use Rattle.std.proofs.Common.{◌∙◌, ◌≡◌, ℕ, Result, false, inr, sym}
use Rattle.tree_lines.specs.Looks.{FindsPath, node_seen}
use Rattle.tree_lines.specs.declared.node.Node.{Node}
use Rattle.tree_lines.specs.declared.reason.Reason.{Reason}
use Rattle.tree_changes.specs.Naming.{IsUnlinked, IsUnlinkedTo, Links, LinksTo}
use Rattle.tree_changes.proofs.Along.{answered_as}
use Rattle.tree_changes.proofs.Going.{goes_to}
use Rattle.tree_changes.proofs.naming.link.Goals as goal

pub returns-clause-does : goal.returns-clause-does
returns-clause-does g c =
    let before = c.args.opened.now in
    let after = c.link_to.new.opened in
    let T = g.S.Store.types_of before.session.store in
    let old = g.S.Store.state_of before.session.store in
    let new = g.S.Store.state_of after.session.store in
    let volume = before.session.volume in
    let volume' = after.session.volume in
    let target = c.args.target.now in
    let own = c.in_ok-own.own.now in
    let place = c.place-place.result in
    let at = c.place-place.ensures in
    let goes = goes_to (FindsPath old volume) (λ (number : ℕ) (result : Result Node Reason). result ≡ node_seen old volume number) before.folder c.args.name.now
    false c.in_ok-goal.goal own place.folder place.name.now false at.folder at.name (sym c.if-place.false ∙ at.slash) c.in_ok-goal.ensures in
    answered_as (LinksTo T before.folder c.args.linking target place.folder place.name.now old new volume volume')
    (IsUnlinkedTo T before.folder c.args.linking target place.folder place.name.now old new volume volume')
    (Links T before.folder c.args.linking target c.args.name.now old new volume volume')
    (IsUnlinked T before.folder c.args.linking target c.args.name.now old new volume volume') c.link_to.result c.link_to.ensures.does
    (λ links. (own, place.folder, place.name.now, c.in_ok-own.ensures, goes, links))
    (λ unlinked. inr (own, place.folder, place.name.now, c.in_ok-own.ensures, goes, unlinked))
