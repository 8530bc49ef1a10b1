use Rattle.xnsim_line.proofs.stopping.run_line_within.Goals as goal

pub returns-in-Some-clause-run : goal.returns-in-Some-clause-run
returns-in-Some-clause-run g c = record {
  run = record {
    event = c.event_into.new.event;
    spells = c.event_into.ensures;
    reply = c.in-Some.reply;
    step = c.in-Some.ensures.some.0;
    printed = c.in_ok-print_reply-in-Some.ensures;
  };
  counted = c.in-Some.ensures.some.1;
}
