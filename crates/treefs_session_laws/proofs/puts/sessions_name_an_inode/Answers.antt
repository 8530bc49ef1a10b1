use Rattle.treefs_session_laws.proofs.Naming.{AreCommits, commit_named, commit_refused, not_placed, placed}
use Rattle.treefs_session_laws.proofs.puts.sessions_name_an_inode.Goals as goal

pub returns-clause-named : goal.returns-clause-named
returns-clause-named c = λ T held old new volume volume' block inode d name replace n is_open begun wide makes.
    let commits : AreCommits T = record {
      refused = λ s s' v v' block d name replace fault does. commit_refused T s s' v v' block d name fault _ _
          (λ does. c.refused_commit_answers_the_files.ensures.named T s s' v v' block d name fault does)
          (λ does. c.refused_commit_answers_the_files.ensures.replaced T s s' v v' block d name fault does) replace does;
      space = λ s s' v v' block d name replace fault is_open space does.
          c.want_of_space_changes_no_file.ensures.commit T s s' v v' block d name replace fault is_open space does;
      named = λ s s' v v' block inode d name replace n is_open begun wide does. commit_named T s s' v v' block d name n inode
          (λ does. c.commit_names_an_inode.ensures T s s' v v' block inode d name n is_open begun wide does)
          (λ does. c.commit_replaces_a_name.ensures T s s' v v' block inode d name n is_open begun wide does) replace does;
    } in
    placed T commits held block d name replace old new volume volume' inode n is_open begun
    (c.give_up_changes_no_file.ensures.begun T old volume block inode is_open begun) wide makes

pub returns-clause-refused : goal.returns-clause-refused
returns-clause-refused c = λ T held old new volume volume' block d name replace fault is_open other makes.
    let commits : AreCommits T = record {
      refused = λ s s' v v' block d name replace fault does. commit_refused T s s' v v' block d name fault _ _
          (λ does. c.refused_commit_answers_the_files.ensures.named T s s' v v' block d name fault does)
          (λ does. c.refused_commit_answers_the_files.ensures.replaced T s s' v v' block d name fault does) replace does;
      space = λ s s' v v' block d name replace fault is_open space does.
          c.want_of_space_changes_no_file.ensures.commit T s s' v v' block d name replace fault is_open space does;
      named = λ s s' v v' block inode d name replace n is_open begun wide does. commit_named T s s' v v' block d name n inode
          (λ does. c.commit_names_an_inode.ensures T s s' v v' block inode d name n is_open begun wide does)
          (λ does. c.commit_replaces_a_name.ensures T s s' v v' block inode d name n is_open begun wide does) replace does;
    } in
    not_placed T commits held block d name replace old new volume volume' fault is_open other makes
