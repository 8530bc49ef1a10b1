use Rattle.std.proofs.Common.{sym, rules, arith}
use Rattle.std.proofs.lemmas.List.{take_more}
use Rattle.std.proofs.lemmas.Slice.Zip.{all_zipped_more}
use Rattle.shared.specs.Hubs.{MayAnswer}
use Rattle.shared.proofs.clients.worker.Goals as goal

pub loop-call-preserved : goal.loop-call-preserved
loop-call-preserved g c = record {
  each = rw (c.push_reserved.ensures.items, take_more c.args.calls.now c.loop-call.call-index c.call-item.result (omega arith), sym c.call-item.is)
      (all_zipped_more (MayAnswer g.L.Lane.bytes_of g.L.Lane.crash_leaves c.args.fs.number) _ _ _ _ c.loop-call.invariant.each c.call-answer.ensures);
  len = search rules;
  room = search rules;
}
