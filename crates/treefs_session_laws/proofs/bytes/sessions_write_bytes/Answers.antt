use Rattle.treefs_session_laws.proofs.Written.{AreWrites, all_end, none_written, part_end}
use Rattle.treefs_session_laws.proofs.bytes.sessions_write_bytes.Goals as goal

pub returns-clause-all : goal.returns-clause-all
returns-clause-all c = λ T held old new volume volume' number at bytes is_open few wide some all.
    let writes : AreWrites T number = record {
      done = λ old new v v' at bytes taken is_open few wide does. c.write_changes_bytes.ensures T old new v v' number at bytes taken is_open few wide does;
      refused = λ old new v v' at bytes fault is_open few wide does.
          c.refused_write_keeps_the_session.ensures T old new v v' number at bytes fault is_open few wide does;
    } in
    all_end T held number writes at bytes wide old new volume volume' (is_open, few) some all

pub returns-clause-part : goal.returns-clause-part
returns-clause-part c = λ T held old new volume volume' number at bytes fault is_open few wide all.
    let writes : AreWrites T number = record {
      done = λ old new v v' at bytes taken is_open few wide does. c.write_changes_bytes.ensures T old new v v' number at bytes taken is_open few wide does;
      refused = λ old new v v' at bytes fault is_open few wide does.
          c.refused_write_keeps_the_session.ensures T old new v v' number at bytes fault is_open few wide does;
    } in
    part_end T held number writes at bytes wide old new volume volume' (is_open, few) fault all

pub returns-clause-none : goal.returns-clause-none
returns-clause-none c = λ T held old new volume volume' target bytes result empty all.
    none_written T held target bytes old new volume volume' result all empty
