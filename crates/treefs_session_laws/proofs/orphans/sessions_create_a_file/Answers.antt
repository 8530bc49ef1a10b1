use Rattle.std.proofs.Common.{Err, [], subst}
use Rattle.treefs_model.specs.Files.{File}
use Rattle.treefs.specs.Creating.{CreateDoes}
use Rattle.treefs_laws.specs.Making.{MakesInode, new_inode}
use Rattle.treefs_session_laws.proofs.Again.{again_before}
use Rattle.treefs_session_laws.proofs.Freed.{made_freely}
use Rattle.treefs_session_laws.proofs.Names.{refused_before}
use Rattle.treefs_session_laws.proofs.orphans.sessions_create_a_file.Goals as goal

pub returns : goal.returns
returns c = λ T held old new volume volume' d name attributes n is_open fits bytes makes.
    let done = made_freely T held (λ s s' v v' result. CreateDoes T s s' v v' d name attributes result)
    (λ s s' v v' fault open_there again does. again_before T s s' v v' fault (λ f. CreateDoes T s s' v v' d name attributes (Err f))
    (λ full. refused_before T s s' v v' _ open_there (c.refused_new_inodes_answer_the_files.ensures.create T s s' v v' d name attributes _ full))
    (λ space at. c.want_of_space_changes_no_file.ensures.create T s s' v v' d name attributes fault open_there space at) again does)
    old new volume volume' n is_open makes in
    let made = c.create_makes_a_file.ensures T done.0 new done.1 volume' d name attributes n (done.2).is_open fits bytes done.3 in (
      made.0,
      done.0,
      done.1,
      done.2,
      subst (λ t. MakesInode done.0 new done.1 volume' d name n (new_inode t attributes (File []))) (done.2).clock made.1,
    )
