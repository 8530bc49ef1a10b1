use Rattle.std.proofs.Common.{Ok, ap, ◌∙◌}
use Rattle.system_files.specs.Targets.{IsTarget}
use Rattle.system_files.proofs.Made.{looked_on, value_in}
use Rattle.system_files.proofs.Taken.{target_after}
use Rattle.system_files.proofs.taking.take.Goals as goal

pub returns-in_err-target-clause-looked : goal.returns-in_err-target-clause-looked
returns-in_err-target-clause-looked g c = looked_on _ _ _ c.loop.invariant c.try_take.ensures.looked

pub returns-in-Some-clause-looked : goal.returns-in-Some-clause-looked
returns-in-Some-clause-looked g c = looked_on _ _ _ c.loop.invariant c.try_take.ensures.looked

pub returns-in-Some-clause-target : goal.returns-in-Some-clause-target
returns-in-Some-clause-target g c =
    let mid = g.Y.System.calls c.loop.system in
    let new = g.Y.System.calls c.try_take.new.system in
    target_after c.args.name.now (g.Y.System.calls c.args.system.now) mid new c.in-Some.target c.loop.invariant
    (value_in (IsTarget c.args.name.now mid new) c.try_take.result c.in-Some.target (c.in_ok-target.was ∙ ap Ok c.in-Some.is) c.try_take.ensures.target)

pub loop-preserved : goal.loop-preserved
loop-preserved g c = looked_on _ _ _ c.loop.invariant c.try_take.ensures.looked
