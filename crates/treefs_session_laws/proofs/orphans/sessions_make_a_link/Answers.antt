use Rattle.std.proofs.Common.{Err, subst}
use Rattle.treefs_model.specs.Files.{SymbolicLink}
use Rattle.treefs.specs.Creating.{SymlinkDoes}
use Rattle.treefs_laws.specs.Making.{MakesInode, new_inode}
use Rattle.treefs_session_laws.proofs.Again.{again_before}
use Rattle.treefs_session_laws.proofs.Freed.{made_freely}
use Rattle.treefs_session_laws.proofs.Names.{refused_before}
use Rattle.treefs_session_laws.proofs.orphans.sessions_make_a_link.Goals as goal

pub returns : goal.returns
returns c = λ T held old new volume volume' d name attributes target n is_open fits bytes wide short makes.
    let done = made_freely T held (λ s s' v v' result. SymlinkDoes T s s' v v' d name attributes target result)
    (λ s s' v v' fault open_there again does. again_before T s s' v v' fault (λ f. SymlinkDoes T s s' v v' d name attributes target (Err f))
    (λ full. refused_before T s s' v v' _ open_there (c.refused_new_inodes_answer_the_files.ensures.symlink T s s' v v' d name attributes target _ full))
    (λ space at. c.want_of_space_changes_no_file.ensures.symlink T s s' v v' d name attributes target fault open_there space at) again does)
    old new volume volume' n is_open makes in
    let made = c.symlink_makes_a_link.ensures T done.0 new done.1 volume' d name attributes target n (done.2).is_open fits bytes wide short done.3 in (
      made.0,
      done.0,
      done.1,
      done.2,
      subst (λ t. MakesInode done.0 new done.1 volume' d name n (new_inode t attributes (SymbolicLink target))) (done.2).clock made.1,
    )
