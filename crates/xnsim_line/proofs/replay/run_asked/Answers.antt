use Rattle.xnsim_line.proofs.replay.run_asked.Goals as goal

pub returns-in-Some-clause-run : goal.returns-in-Some-clause-run
returns-in-Some-clause-run g c = rw c.in-Some.is c.run_lines_until.ensures.run

pub returns-in-None-clause-run : goal.returns-in-None-clause-run
returns-in-None-clause-run g c = rw c.in-None.is c.run_lines.ensures.run
