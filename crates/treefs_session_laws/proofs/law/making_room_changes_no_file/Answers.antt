use Rattle.treefs_session_laws.proofs.Room.{room_before}
use Rattle.treefs_session_laws.proofs.law.making_room_changes_no_file.Goals as goal

pub returns : goal.returns
returns c = room_before
