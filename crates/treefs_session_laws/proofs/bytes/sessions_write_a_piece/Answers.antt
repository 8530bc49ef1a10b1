use Rattle.treefs_session_laws.proofs.Written.{AreWrites, none_end, piece_end}
use Rattle.treefs_session_laws.proofs.bytes.sessions_write_a_piece.Goals as goal

pub returns-clause-done : goal.returns-clause-done
returns-clause-done c = λ T held old new volume volume' number at bytes taken is_open few wide some makes.
    let writes : AreWrites T number = record {
      done = λ old new v v' at bytes taken is_open few wide does. c.write_changes_bytes.ensures T old new v v' number at bytes taken is_open few wide does;
      refused = λ old new v v' at bytes fault is_open few wide does.
          c.refused_write_keeps_the_session.ensures T old new v v' number at bytes fault is_open few wide does;
    } in
    piece_end T held number writes at bytes wide old new volume volume' (is_open, few) taken some makes

pub returns-clause-refused : goal.returns-clause-refused
returns-clause-refused c = λ T held old new volume volume' number at bytes fault is_open few wide makes.
    let writes : AreWrites T number = record {
      done = λ old new v v' at bytes taken is_open few wide does. c.write_changes_bytes.ensures T old new v v' number at bytes taken is_open few wide does;
      refused = λ old new v v' at bytes fault is_open few wide does.
          c.refused_write_keeps_the_session.ensures T old new v v' number at bytes fault is_open few wide does;
    } in
    none_end T held number writes at bytes wide old new volume volume' (is_open, few) fault makes
