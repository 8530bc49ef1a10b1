use Rattle.std.proofs.Common.{◌≡◌, Err, Ok, subst}
use Rattle.treefs_model.specs.Changes.{linked}
use Rattle.treefs.specs.Linking.{LinkDoes}
use Rattle.treefs_laws.specs.Kept.{files_in}
use Rattle.treefs_session_laws.proofs.Again.{again_before}
use Rattle.treefs_session_laws.proofs.Freed.{made_freely}
use Rattle.treefs_session_laws.proofs.Names.{refused_before}
use Rattle.treefs_session_laws.proofs.orphans.sessions_make_a_name.Goals as goal

pub returns : goal.returns
returns c = λ T held old new volume volume' n d name is_open bytes makes.
    let done = made_freely T held (λ s s' v v' result. LinkDoes T s s' v v' n d name result)
    (λ s s' v v' fault open_there again does. again_before T s s' v v' fault (λ f. LinkDoes T s s' v v' n d name (Err f))
    (λ full. refused_before T s s' v v' _ open_there (c.refused_link_answers_the_files.ensures T s s' v v' n d name _ full))
    (λ space at. c.want_of_space_changes_no_file.ensures.link T s s' v v' n d name fault open_there space at) again does)
    old new volume volume' tt is_open makes in
    let made = c.link_makes_a_name.ensures T done.0 new done.1 volume' n d name (done.2).is_open bytes done.3 in (
      made.0,
      done.0,
      done.1,
      done.2,
      subst (λ t. linked (files_in done.0 done.1) t n d name ≡ Ok (files_in new volume')) (done.2).clock made.1,
    )
