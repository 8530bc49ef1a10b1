use Rattle.std.proofs.Common.{◌<◌, take, arith}
use Rattle.std.proofs.lemmas.List.{length-take}
use Rattle.std.proofs.lemmas.List.Elements.{All-take}
use Rattle.treefs_session_laws.proofs.Naming.{AreCommits, commit_named, commit_refused}
use Rattle.treefs_session_laws.proofs.Put.{AreBegins, is_put}
use Rattle.treefs_session_laws.proofs.puts.sessions_put_files.Goals as goal

pub returns : goal.returns
returns c = λ T held put old new volume volume' n is_open fit file wide name_wide does.
    let commits : AreCommits T = record {
      refused = λ s s' v v' block d name replace fault does. commit_refused T s s' v v' block d name fault _ _
          (λ does. c.refused_commit_answers_the_files.ensures.named T s s' v v' block d name fault does)
          (λ does. c.refused_commit_answers_the_files.ensures.replaced T s s' v v' block d name fault does) replace does;
      space = λ s s' v v' block d name replace fault is_open space does.
          c.want_of_space_changes_no_file.ensures.commit T s s' v v' block d name replace fault is_open space does;
      named = λ s s' v v' block inode d name replace n is_open begun wide does. commit_named T s s' v v' block d name n inode
          (λ does. c.commit_names_an_inode.ensures T s s' v v' block inode d name n is_open begun wide does)
          (λ does. c.commit_replaces_a_name.ensures T s s' v v' block inode d name n is_open begun wide does) replace does;
    } in
    let laws : AreBegins T put = record {
      refused = λ s s' v fault does. c.begin_changes_no_file.ensures.refused T s s' v put.kind put.attributes (take 384 put.bytes.now) fault does;
      begun = λ s s' v b is_open does. c.begin_changes_no_file.ensures.begun T s s' v put.kind put.attributes (take 384 put.bytes.now) b is_open fit
          (All-take (λ b. b < 256) 384 put.bytes.now wide) (let l = length-take 384 put.bytes.now in omega arith) does;
      unnamed = λ s v b inode is_open begun. c.give_up_changes_no_file.ensures.begun T s v b inode is_open begun;
      writes = λ b s s' v at bytes result is_open unnamed wide does.
          c.begun_writes_change_no_file.ensures T s s' v b at bytes result is_open unnamed wide does;
      gives = λ b s s' v result is_open unnamed does. c.give_up_changes_no_file.ensures.given T s s' v b result is_open unnamed does;
    } in
    is_put T commits held put laws file wide name_wide old new volume volume' n is_open does
