use Rattle.xnsim_line.proofs.replay.run_line.Goals as goal

pub returns-clause-run : goal.returns-clause-run
returns-clause-run g c = record {
  event = c.event_into.new.event;
  spells = c.event_into.ensures;
  reply = c.step_into.new.reply;
  step = c.step_into.ensures.step;
  printed = c.in_ok-print_reply.ensures;
}
