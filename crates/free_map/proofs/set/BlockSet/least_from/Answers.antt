use Rattle.std.proofs.Common.{List, subst}
use Rattle.std.specs.Prelude.{Bool}
use Rattle.free_map.specs.Members.{IsLeastFrom, HasNoneFrom}
use Rattle.free_map.proofs.MemberRows.{least_is, lowest_later, none_is}
use Rattle.free_map.proofs.set.BlockSet.least_from.Goals as goal

pub returns-in-Some-clause-some : goal.returns-in-Some-clause-some
returns-in-Some-clause-some c =
    let inside = c.self.inside in
    subst (λ (s : List Bool). IsLeastFrom s c.args.from c.in-Some.block) c.self.view_is
    (least_is inside.bound inside.words inside.filled inside.count c.args.from c.in-Some.block c.self.invariant c.in-Some.ensures.some.0)

pub returns-in_err-word-clause-none : goal.returns-in_err-word-clause-none
returns-in_err-word-clause-none c =
    let inside = c.self.inside in
    rw c.from_residual.ensures (subst (λ (s : List Bool). HasNoneFrom s c.args.from) c.self.view_is
    (none_is inside.bound inside.words inside.filled inside.count c.args.from c.self.invariant c.in_default.ensures.none c.in_err-word.ensures.none))

pub returns-clause-some : goal.returns-clause-some
returns-clause-some c =
    let inside = c.self.inside in
    subst (λ (s : List Bool). IsLeastFrom s c.args.from c.lowest_in.result) c.self.view_is
    (least_is inside.bound inside.words inside.filled inside.count c.args.from c.lowest_in.result c.self.invariant
    (lowest_later inside.bound inside.words inside.filled inside.count c.args.from c.in_ok-word.word c.lowest_in.result c.self.invariant c.in_default.ensures.none c.in_ok-word.ensures.some
    c.lowest_in.ensures))
