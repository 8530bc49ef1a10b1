use Rattle.std.proofs.Common.{◌∙◌, ap, sym, ℕ, List, Option, None}
use Rattle.std.specs.Prelude.{slice_set}
use Rattle.dependencies.specs.WaitLists.{at}
use Rattle.dependencies.proofs.WaitChains.{front_waits, none_left, popped}
use Rattle.dependencies.proofs.wait_lists.WaitLists.pop.Goals as goal

pub returns-in_err-block-clause-none : goal.returns-in_err-block-clause-none
returns-in_err-block-clause-none c =
    rw c.from_residual.ensures (λ b waited. none_left c.self.inside.waits_for c.self.inside.first c.self.inside.next c.args.other c.self.invariant (sym c.in_err-block.ensures) b
    (ap (λ (row : List (Option ℕ)). at row b) c.self.view_is ∙ waited))

pub invariant_of-self : goal.invariant_of-self
invariant_of-self c =
    rw (c.release.ensures.waits, c.release.ensures.first) (popped c.self.inside.waits_for c.self.inside.first c.self.inside.next c.args.other c.in_ok-block.block c.self.invariant (sym c.in_ok-block.ensures))

pub returns-clause-some : goal.returns-clause-some
returns-clause-some c =
    record {
      waited = ap (λ (row : List (Option ℕ)). at row c.in_ok-block.block) (sym c.self.view_is) ∙ front_waits c.self.inside.waits_for c.self.inside.first c.self.inside.next c.args.other c.in_ok-block.block c.self.invariant (sym c.in_ok-block.ensures);
      now = c.release.ensures.waits ∙ ap (λ (row : List (Option ℕ)). slice_set row c.in_ok-block.block None) c.self.view_is;
    }
