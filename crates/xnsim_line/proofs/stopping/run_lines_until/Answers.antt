use Rattle.std.proofs.Common.{◌∙◌, map-id, rules, sym}
use Rattle.std.proofs.lemmas.Iterator.Adapters.{YieldsList-from_vec}
use Rattle.std.proofs.lemmas.Iterator.Consumers.{YieldsList-end, YieldsList-so_far, YieldsList-turn}
use Rattle.world.specs.Worlds.{world_with}
use Rattle.xnsim_line.proofs.SpelledLines.{front_of}
use Rattle.xnsim_line.proofs.StoppedRuns.{line_within, lines_to_end, lines_to_stop, no_lines_within}
use Rattle.xnsim_line.proofs.stopping.run_lines_until.Goals as goal

pub loop-line-init : goal.loop-line-init
loop-line-init g c = no_lines_within (world_with c.args.world.now) c.args.stop.writes (g.W.Write.contents c.args.out.now)

pub loop-line-preserved : goal.loop-line-preserved
loop-line-preserved g c =
    line_within (world_with c.args.world.now) c.loop-line.yielded c.in-Some.line c.args.stop.writes
    (g.W.Write.contents c.args.out.now) (g.W.Write.contents c.loop-line.out) (g.W.Write.contents c.run_line_within.new.out)
    (world_with c.loop-line.world) (world_with c.run_line_within.new.world) c.loop-line.left c.run_line_within.new.left
    (rw c.if-not-branch.false at c.in_ok-run_line_within.ensures.run) c.loop-line.invariant

pub returns-then-not-branch-clause-run : goal.returns-then-not-branch-clause-run
returns-then-not-branch-clause-run g c =
    let all = c.args.lines.items in
    let road = YieldsList-from_vec {s = c.into_iter-line-iterator.result} c.args.lines.items (search rules) (search rules) in
    let so_far = YieldsList-so_far road c.loop-line.yielded c.loop-line.line-iterator c.loop-line.yielded_by in
    let turn = YieldsList-turn road c.loop-line.yielded c.loop-line.line-iterator c.loop-line.yielded_by c.next.result c.next.new.self c.in-Some.line c.in-Some.is c.next.ensures.steps in
    let front = front_of all c.loop-line.yielded c.in-Some.line (sym (map-id c.loop-line.yielded) ∙ so_far) turn.0 turn.1 in
    lines_to_stop (world_with c.args.world.now) c.loop-line.yielded all c.in-Some.line c.args.stop
    (g.W.Write.contents c.args.out.now) (g.W.Write.contents c.loop-line.out) (g.W.Write.contents c.run_line_within.new.out)
    (world_with c.loop-line.world) (world_with c.run_line_within.new.world) c.loop-line.left c.lose_unsettled.new.world.image (λ event rest. c.lose_unsettled.ensures) front
    (rw c.if-not-branch.true at c.in_ok-run_line_within.ensures.run) c.requires c.loop-line.invariant

pub returns-clause-run : goal.returns-clause-run
returns-clause-run g c =
    let end = YieldsList-end (YieldsList-from_vec {s = c.into_iter-line-iterator.result} c.args.lines.items (search rules) (search rules))
    c.loop-line.yielded c.loop-line.line-iterator c.loop-line.yielded_by c.next.result c.next.new.self c.in-None.is c.next.ensures.steps in
    lines_to_end (world_with c.args.world.now) c.loop-line.yielded c.args.lines.items c.args.stop (g.W.Write.contents c.args.out.now) (g.W.Write.contents c.loop-line.out)
    (world_with c.loop-line.world) c.loop-line.left (sym (map-id c.loop-line.yielded) ∙ end.0) c.loop-line.invariant
