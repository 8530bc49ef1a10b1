use Rattle.std.proofs.Common.{◌≡◌, ◌+◌, ◌-◌, arith, length, refl, vec_len}
use Rattle.tree_lines.proofs.WalkSteps.{emptied}
use Rattle.tree_lines.proofs.walking.Walk.pass_over.Goals as goal

pub returns-in-Some : goal.returns-in-Some
returns-in-Some c =
    let frames = c.args.self.now.frames in
    let long : length frames.items ≡ (vec_len frames - 1) + 1 = omega (arith, frames.ok.0, c.in-Some.ensures.variant.0 refl) in
    emptied frames.items (vec_len frames - 1) c.in-Some.frame.now c.clear.new.self c.args.self.now.path.items c.args.self.now.seen.keys long
    c.in-Some.ensures.value c.clear.ensures.items
