use Rattle.std.proofs.Common.{◌∙◌, ap, arith}
use Rattle.std.specs.Prelude.{position}
use Rattle.free_map.specs.Members.{is_member}
use Rattle.free_map.proofs.MemberRows.{least_there, no_member, none_counted}
use Rattle.free_map.proofs.set.BlockSet.least.Goals as goal

pub returns-then-self-eq0 : goal.returns-then-self-eq0
returns-then-self-eq0 c =
    none_counted c.self.inside.bound c.self.inside.words c.self.inside.filled c.self.inside.count c.self.invariant (omega arith)
    ∙ ap (position is_member) c.self.view_is

pub returns-in_err-word : goal.returns-in_err-word
returns-in_err-word c =
    c.from_residual.ensures
    ∙ (no_member c.self.inside.bound c.self.inside.words c.self.inside.filled c.self.inside.count c.self.invariant c.in_err-word.ensures.none
    ∙ ap (position is_member) c.self.view_is)

pub returns : goal.returns
returns c =
    least_there c.self.inside.bound c.self.inside.words c.self.inside.filled c.self.inside.count c.in_ok-word.word c.lowest_in.result c.self.invariant c.in_ok-word.ensures.some c.lowest_in.ensures
    ∙ ap (position is_member) c.self.view_is
