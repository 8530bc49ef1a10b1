use Rattle.std.proofs.Common.{Option, Some, inr, refl, subst}
use Rattle.tree_lines.specs.Places.{IsFolder}
use Rattle.tree_lines.specs.Trees.{IsThereIn}
use Rattle.tree_lines.specs.declared.node.Node.{Node}
use Rattle.tree_puts.proofs.linking.link.Goals as goal

pub returns-clause-does : goal.returns-clause-does
returns-clause-does g c =
    let before = c.args.volume.now in
    let place = c.args.goods.place in
    let node = c.in-Some.node in
    let there = subst (λ (o : Option Node). IsThereIn (g.S.Store.state_of before.session.store) before.session.volume place.folder place.name.now o)
    c.in-Some.is c.in-Ok.ensures in
    let no_folder : ¬ IsFolder node = λ is. let h = c.if-is_folder.ensures.1 is in cc in
    inr (
      Some node,
      there,
      inr (inr (c.if-node-number.false, no_folder, (_, ((refl, refl), refl, refl, refl, c.forget.ensures), c.link_over.ensures.does))),
    )
