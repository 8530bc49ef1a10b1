use Rattle.std.proofs.Common.{◌≡◌, ◌+◌, ◌-◌, arith, length, refl, vec_len}
use Rattle.tree_lines.proofs.WalkSteps.{HasRead, is_now_read, next_named, none_named, was_read}
use Rattle.tree_lines.proofs.walking.Walk.next_name.Goals as goal
use Rattle.tree_lines.proofs.walking.Walk.next_name.Goals.{then-not-frame+in_ok-frame, else-not-frame}

pub returns-in-Some-pop-clause-next : goal.returns-in-Some-pop-clause-next
returns-in-Some-pop-clause-next g c =
    let walk = c.args.self.now in
    let frames = walk.frames in
    let frame = c.in-Some.frame.now in
    let read = c.if-not-frame.frame in
    let Lists = g.V.View.lists c.args.view.now in
    let told = c.args.told.now in
    let told' = c.if-not-frame.told in
    let long : length frames.items ≡ (vec_len frames - 1) + 1 = omega (arith, frames.ok.0, c.in-Some.ensures.variant.0 refl) in
    let has : HasRead Lists frame read told told' = elim c.if-not-frame.branch [
      | then-not-frame+in_ok-frame w ↦ is_now_read Lists frame read told told' w.waiting_of.new.told w.in_ok-frame.field-0 w.frame-is w.told-is
          w.if-not-frame.true w.in_ok-frame.ensures.names
      | else-not-frame w ↦ was_read Lists frame read told told' w.frame-is w.told-is w.if-not-frame.false
    ] in
    next_named Lists frames.items (vec_len frames - 1) frame read c.pop.new.self long c.in-Some.ensures.value walk.path.items c.truncate.new.self.items
    walk.seen.keys c.truncate.ensures.items told told' has c.in-Some-pop.name c.in-Some-pop.ensures.items

pub returns-in-None-clause-next : goal.returns-in-None-clause-next
returns-in-None-clause-next g c =
    let walk = c.args.self.now in
    let frames = walk.frames in
    let frame = c.in-Some.frame.now in
    let read = c.if-not-frame.frame in
    let Lists = g.V.View.lists c.args.view.now in
    let told = c.args.told.now in
    let told' = c.if-not-frame.told in
    let long : length frames.items ≡ (vec_len frames - 1) + 1 = omega (arith, frames.ok.0, c.in-Some.ensures.variant.0 refl) in
    let has : HasRead Lists frame read told told' = elim c.if-not-frame.branch [
      | then-not-frame+in_ok-frame w ↦ is_now_read Lists frame read told told' w.waiting_of.new.told w.in_ok-frame.field-0 w.frame-is w.told-is
          w.if-not-frame.true w.in_ok-frame.ensures.names
      | else-not-frame w ↦ was_read Lists frame read told told' w.frame-is w.told-is w.if-not-frame.false
    ] in
    let none : length read.waiting.items ≡ 0 = omega (arith, read.waiting.ok.0, c.in-None.ensures.cases.0) in
    let none_left : length c.pop.new.self.items ≡ 0 = omega (arith, c.pop.new.self.ok.0, c.in-None.ensures.cases.1) in
    none_named Lists frames.items (vec_len frames - 1) frame read c.pop.new.self long c.in-Some.ensures.value walk.path.items c.truncate.new.self.items
    walk.seen.keys c.truncate.ensures.items told told' has none none_left
