use Rattle.std.proofs.Common.{inr, refl}
use Rattle.tree_puts.specs.Lines.{line_of}
use Rattle.tree_puts.proofs.Going.{else_of}
use Rattle.tree_puts.proofs.tree_in.put_file_below.Goals as goal

pub returns-in-Ok-Some-clause-does : goal.returns-in-Ok-Some-clause-does
returns-in-Ok-Some-clause-does g c wide =
    let new = else_of _ _ c.in_ok-is_done.field-0 c.in_ok-is_done.ensures.does c.if-branch.false in
    let now = c.is_done.new.volume in
    let kept = c.is_done.new.arriving in
    inr (inr (
      new.0,
      (
        record c.args.goods { attributes = record c.args.goods.attributes { now = c.in-Ok-Some.opened } },
        line_of (g.S.Store.types_of now.session.store) (g.S.Store.state_of now.session.store) now.folder now.session.volume now.told kept.linked kept.sources,
        refl,
        new.1,
        c.put_regular.ensures.does wide,
      ),
    ))
