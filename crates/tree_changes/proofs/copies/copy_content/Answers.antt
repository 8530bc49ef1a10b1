use Rattle.std.proofs.Common.{◌≡◌, ◌∙◌, Err, Ok, ap, inl, inr, length}
use Rattle.tree_lines.specs.Contents.{bytes_seen}
use Rattle.tree_changes.proofs.BegunCopies.{begins_with, content_left, content_named, given_up}
use Rattle.tree_changes.proofs.CopiedBytes.{failed_at}
use Rattle.tree_changes.proofs.copies.copy_content.Goals as goal

pub returns-in_err-block-clause-does : goal.returns-in_err-block-clause-does
returns-in_err-block-clause-does g c =
    let before = c.args.opened.now in
    let after = c.make.new.self in
    let old = g.S.Store.state_of before.session.store in
    let head = c.in_ok-head.head.now in
    let seen : bytes_seen old before.session.volume c.args.copied.now.node.number 0 384 ≡ Ok head = c.in_ok-head.ensures.read in
    let refused = c.in_err-block.ensures.does in
    failed_at _ _ c.from_residual-in_err-block.result c.from_residual-in_err-block.ensures.0
    (inr (
      c.attributes_of.result,
      head,
      c.attributes_of.ensures.rights,
      seen,
      inl (
        refused.0,
        begins_with (g.S.Store.types_of before.session.store) before.folder c.attributes_of.result head c.head_of.result.now old
            (g.S.Store.state_of after.session.store) before.session.volume after.session.volume (Err refused.0) c.in_ok-head.ensures.few c.head_of.ensures.first
            refused.1,
      ),
    ))

pub returns-in-Ok-clause-does : goal.returns-in-Ok-clause-does
returns-in-Ok-clause-does g c =
    let before = c.args.opened.now in
    let between = c.make.new.self in
    let after = c.finish.new.opened in
    let T = g.S.Store.types_of before.session.store in
    let old = g.S.Store.state_of before.session.store in
    let middle = g.S.Store.state_of between.session.store in
    let head = c.in_ok-head.head.now in
    let copied = c.args.copied.now in
    let begun = c.in_ok-block in
    let seen : bytes_seen old before.session.volume copied.node.number 0 384 ≡ Ok head = c.in_ok-head.ensures.read in
    let begins = begins_with T before.folder c.attributes_of.result head c.head_of.result.now old middle before.session.volume between.session.volume
    (Ok begun.block) c.in_ok-head.ensures.few c.head_of.ensures.first begun.ensures.does in
    content_named T (g.S.Store.types_of between.session.store) before.folder between.folder begun.ensures.types begun.ensures.folder
    (length c.args.piece.now) copied.node copied.place.folder copied.place.name.now c.attributes_of.result head begun.block old middle before.session.volume
    between.session.volume c.attributes_of.ensures.rights seen begins (g.S.Store.state_of after.session.store) after.session.volume c.in-Ok.number
    c.in-Ok.ensures.does

pub returns-in-Err-clause-does : goal.returns-in-Err-clause-does
returns-in-Err-clause-does g c =
    let before = c.args.opened.now in
    let between = c.make.new.self in
    let stopped = c.finish.new.opened in
    let after = c.give_up.new.self in
    let T = g.S.Store.types_of before.session.store in
    let old = g.S.Store.state_of before.session.store in
    let middle = g.S.Store.state_of between.session.store in
    let left = g.S.Store.state_of stopped.session.store in
    let new = g.S.Store.state_of after.session.store in
    let head = c.in_ok-head.head.now in
    let copied = c.args.copied.now in
    let begun = c.in_ok-block in
    let seen : bytes_seen old before.session.volume copied.node.number 0 384 ≡ Ok head = c.in_ok-head.ensures.read in
    let begins = begins_with T before.folder c.attributes_of.result head c.head_of.result.now old middle before.session.volume between.session.volume
    (Ok begun.block) c.in_ok-head.ensures.few c.head_of.ensures.first begun.ensures.does in
    let gives = given_up T (g.S.Store.types_of stopped.session.store) (c.in-Err.ensures.types ∙ begun.ensures.types) begun.block left new
    stopped.session.volume after.session.volume stopped.is_broken (after.session ≡ stopped.session)
    (λ same. (ap (λ s. g.S.Store.state_of s.store) same, ap (λ s. s.volume) same)) c.give_up.ensures.does in
    content_left T (g.S.Store.types_of between.session.store) before.folder between.folder begun.ensures.types begun.ensures.folder
    (length c.args.piece.now) copied.node copied.place.folder copied.place.name.now c.attributes_of.result head begun.block old middle before.session.volume
    between.session.volume c.attributes_of.ensures.rights seen begins left new stopped.session.volume after.session.volume c.in-Err.ensures.does gives
