use Rattle.std.proofs.Common.{◌∙◌, ◌<◌, ap, arith, ℕ, List, length, Option}
use Rattle.dependencies.specs.WaitLists.{at}
use Rattle.dependencies.proofs.WaitChains.{pushed}
use Rattle.dependencies.proofs.wait_lists.WaitLists.push.Goals as goal

pub invariant_of-self : goal.invariant_of-self
invariant_of-self c =
    let long = ap (λ (row : List (Option ℕ)). length row) c.self.view_is in
    let other : c.args.other < length c.self.inside.waits_for = omega (arith, c.requires.other, long) in
    let block : c.args.block < length c.self.inside.waits_for = omega (arith, c.requires.block, long) in
    let free = ap (λ (row : List (Option ℕ)). at row c.args.block) c.self.view_is ∙ c.requires.free in
    rw (c.set-3.ensures, c.set-2.ensures, c.set.ensures, c.item-first.ensures) (pushed c.self.inside.waits_for c.self.inside.first c.self.inside.next c.args.other c.args.block other block free c.self.invariant)
