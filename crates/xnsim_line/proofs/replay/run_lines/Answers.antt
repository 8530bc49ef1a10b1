use Rattle.std.proofs.Common.{◌∙◌, map-id, rules, sym}
use Rattle.std.proofs.lemmas.Iterator.Adapters.{YieldsList-from_vec}
use Rattle.std.proofs.lemmas.Iterator.Consumers.{YieldsList-end}
use Rattle.world.specs.Worlds.{world_with}
use Rattle.xnsim_line.proofs.ScriptRuns.{lines_run, no_lines_run}
use Rattle.xnsim_line.proofs.replay.run_lines.Goals as goal

pub loop-line-init : goal.loop-line-init
loop-line-init g c = no_lines_run (world_with c.args.world.now) (g.W.Write.contents c.args.out.now)

pub returns-clause-run : goal.returns-clause-run
returns-clause-run g c =
    let end = YieldsList-end (YieldsList-from_vec {s = c.into_iter-line-iterator.result} c.args.lines.items (search rules) (search rules))
    c.loop-line.yielded c.loop-line.line-iterator c.loop-line.yielded_by c.next.result c.next.new.self c.in-None.is c.next.ensures.steps in
    lines_run (world_with c.args.world.now) c.loop-line.yielded c.args.lines.items (g.W.Write.contents c.args.out.now) (g.W.Write.contents c.loop-line.out)
    (world_with c.loop-line.world) (sym (map-id c.loop-line.yielded) ∙ end.0) c.loop-line.invariant
