use Rattle.std.proofs.Common.{length, map, refl}
use Rattle.tree_puts.specs.Folders.{entered}
use Rattle.tree_puts.specs.Lines.{line_of}
use Rattle.tree_puts.proofs.Going.{next_fault, next_folder, next_other, not_pushed}
use Rattle.tree_puts.proofs.Stepped.{one_pushed, two_pushed}
use Rattle.tree_puts.proofs.tree_in.bring_next.Goals as goal

pub returns-in_err-push-clause-does : goal.returns-in_err-push-clause-does
returns-in_err-push-clause-does g c wide =
    not_pushed (length c.args.piece.now) (map entered c.args.frames.now.items) (entered c.args.last) c.args.name.now _ _ _
    c.put_name-done.result (c.put_name-done.ensures.does wide) c.from_residual.result c.from_residual.ensures.1

pub returns-in_err-push-in-Ok-Some-clause-does : goal.returns-in_err-push-in-Ok-Some-clause-does
returns-in_err-push-in-Ok-Some-clause-does g c wide =
    not_pushed (length c.args.piece.now) (map entered c.args.frames.now.items) (entered c.args.last) c.args.name.now _ _ _
    c.put_name-done.result (c.put_name-done.ensures.does wide) c.from_residual-in_err-push-in-Ok-Some.result
    c.from_residual-in_err-push-in-Ok-Some.ensures.1

pub returns-in_ok-push-in-Ok-Some-clause-does : goal.returns-in_ok-push-in-Ok-Some-clause-does
returns-in_ok-push-in-Ok-Some-clause-does g c wide =
    next_folder (length c.args.piece.now) (map entered c.args.frames.now.items) (entered c.args.last) c.args.name.now _ _ _
    c.put_name-done.result c.in-Ok-Some.field-0 c.in-Ok-Some.next c.in-Ok-Some.is c.in-Ok-Some.field-0-is
    (c.put_name-done.ensures.does wide)
    (two_pushed _ _ _ _ _ c.in_ok-push.ensures.items c.in_ok-push-in-Ok-Some.ensures.items)

pub returns-in-Ok-None-clause-does : goal.returns-in-Ok-None-clause-does
returns-in-Ok-None-clause-does g c wide =
    next_other (length c.args.piece.now) (map entered c.args.frames.now.items) (entered c.args.last) c.args.name.now _ _ _
    c.put_name-done.result c.in-Ok-None.field-0 c.in-Ok-None.is c.in-Ok-None.field-0-is
    (c.put_name-done.ensures.does wide) (one_pushed _ _ _ c.in_ok-push.ensures.items)

pub returns-in-Err-clause-does : goal.returns-in-Err-clause-does
returns-in-Err-clause-does g c wide =
    let now = c.put_name-done.new.volume in
    let kept = c.put_name-done.new.arriving in
    next_fault (length c.args.piece.now) (map entered c.args.frames.now.items) (entered c.args.last) c.args.name.now _ _ _
    (line_of (g.S.Store.types_of now.session.store) (g.S.Store.state_of now.session.store) now.folder now.session.volume now.told kept.linked kept.sources)
    c.put_name-done.result c.in-Err.fault c.in-Err.is (c.put_name-done.ensures.does wide) ((refl, refl), refl, refl, (refl, refl))
    (one_pushed _ _ _ c.in_ok-push.ensures.items) c.go_on.result c.go_on.ensures
