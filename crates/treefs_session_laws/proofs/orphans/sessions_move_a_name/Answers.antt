use Rattle.std.proofs.Common.{Err}
use Rattle.treefs.specs.Renaming.{RenameDoes}
use Rattle.treefs_laws.specs.Kept.{files_in}
use Rattle.treefs_session_laws.specs.Before.{IsUnheld}
use Rattle.treefs_session_laws.proofs.Again.{again_before}
use Rattle.treefs_session_laws.proofs.Freed.{held_or_not, made_freely}
use Rattle.treefs_session_laws.proofs.Names.{refused_before}
use Rattle.treefs_session_laws.proofs.Standing.{stands_still}
use Rattle.treefs_session_laws.proofs.orphans.sessions_move_a_name.Goals as goal

pub returns : goal.returns
returns c = λ T held old new volume volume' d name to other is_open stands bytes makes.
    let done = made_freely T held (λ s s' v v' result. RenameDoes T s s' v v' d name to other result)
    (λ s s' v v' fault open_there again does. again_before T s s' v v' fault (λ f. RenameDoes T s s' v v' d name to other (Err f))
    (λ full. refused_before T s s' v v' _ open_there (c.refused_rename_answers_the_files.ensures T s s' v v' d name to other _ open_there.kept full))
    (λ space at. c.want_of_space_changes_no_file.ensures.rename T s s' v v' d name to other fault open_there space at) again does)
    old new volume volume' tt is_open makes in
    let still = stands_still (IsUnheld held) (held_or_not held) (files_in old volume) (files_in done.0 done.1) (done.2).files d name stands in
    let moved = c.rename_moves_a_name.ensures T done.0 new done.1 volume' d name to other (done.2).is_open still bytes done.3 in (
      moved.0,
      done.0,
      done.1,
      done.2,
      moved.1,
    )
