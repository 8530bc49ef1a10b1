use Rattle.std.proofs.Common.{◌≡◌, true, Err, Ok, subst}
use Rattle.treefs_model.specs.Changes.{removed}
use Rattle.treefs.specs.Unlinking.{RmdirDoes}
use Rattle.treefs_laws.specs.Kept.{files_in}
use Rattle.treefs_session_laws.proofs.Again.{again_before}
use Rattle.treefs_session_laws.proofs.Freed.{made_freely}
use Rattle.treefs_session_laws.proofs.Names.{refused_before}
use Rattle.treefs_session_laws.proofs.orphans.sessions_end_a_directory.Goals as goal

pub returns : goal.returns
returns c = λ T held old new volume volume' d name is_open makes.
    let done = made_freely T held (λ s s' v v' result. RmdirDoes T s s' v v' d name result)
    (λ s s' v v' fault open_there again does. again_before T s s' v v' fault (λ f. RmdirDoes T s s' v v' d name (Err f))
    (λ full. refused_before T s s' v v' _ open_there (c.refused_rmdir_answers_the_files.ensures T s s' v v' d name _ open_there.kept full))
    (λ space at. c.want_of_space_changes_no_file.ensures.rmdir T s s' v v' d name fault open_there space at) again does)
    old new volume volume' tt is_open makes in
    let ended = c.rmdir_ends_an_empty_directory.ensures T done.0 new done.1 volume' d name (done.2).is_open.kept done.3 in (
      c.open_volumes_stay_open.ensures.rmdir T done.0 new done.1 volume' d name (done.2).is_open done.3,
      done.0,
      done.1,
      done.2,
      ended.1,
      ended.2,
      ended.3,
      subst (λ t. removed (files_in done.0 done.1) t d name true ≡ Ok (files_in new volume')) (done.2).clock ended.4,
    )
