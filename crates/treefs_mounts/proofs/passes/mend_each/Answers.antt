use Rattle.std.proofs.Common.{◌∙◌, Err, Ok, subst}
use Rattle.xn_model.specs.Types.{Types}
use Rattle.treefs_mounts.specs.Passes.{MendsOne, ends, goes, stops}
use Rattle.treefs_mounts.proofs.passes.mend_each.Goals as goal

pub returns-in-Err-clause-does : goal.returns-in-Err-clause-does
returns-in-Err-clause-does g c =
    let old = g.S.Store.state_of c.loop-numbered.store in
    let new = g.S.Store.state_of c.mend_one.new.store in
    let numbered = c.in-Some.numbered in
    let one = subst (λ (t : Types). MendsOne t c.args.volume.now c.args.tallies.now numbered old new (Err c.in-Err.fault)) c.loop-numbered.invariant.types c.in-Err.ensures.does in
    c.loop-numbered.invariant.goes new (Err c.in-Err.fault) (stops numbered c.in-Some.ensures one)

pub loop-numbered-preserved : goal.loop-numbered-preserved
loop-numbered-preserved g c =
    let old = g.S.Store.state_of c.loop-numbered.store in
    let middle = g.S.Store.state_of c.mend_one.new.store in
    let numbered = c.in-Some.numbered in
    let one = subst (λ (t : Types). MendsOne t c.args.volume.now c.args.tallies.now numbered old middle (Ok tt)) c.loop-numbered.invariant.types c.in_default-mend_one.ensures.does in
    record {
      types = c.mend_one.ensures.types ∙ c.loop-numbered.invariant.types;
      goes = λ new result h. c.loop-numbered.invariant.goes new result (goes numbered middle c.in-Some.ensures one h);
    }

pub returns-clause-does : goal.returns-clause-does
returns-clause-does g c = c.loop-numbered.invariant.goes (g.S.Store.state_of c.loop-numbered.store) (Ok tt) (ends c.in_default.ensures)
