use Rattle.std.proofs.Common.{◌≡◌, Ok, ap, inl, inr}
use Rattle.treefs_model.specs.Changes.{unlinked}
use Rattle.treefs.specs.Unlinking.{UnlinkDoes}
use Rattle.treefs_laws.specs.Kept.{files_in}
use Rattle.treefs_session.specs.Freeing.{lacks_space}
use Rattle.treefs_session_laws.proofs.Faults.{unlinked_space}
use Rattle.treefs_session_laws.proofs.Names.{files_before, full_before}
use Rattle.treefs_session_laws.proofs.Space.{made_once}
use Rattle.treefs_session_laws.proofs.law.sessions_end_a_name.Goals as goal

pub returns : goal.returns
returns c = λ T held old new volume volume' d name is_open makes.
    let done = made_once T (λ s s' v v' result. UnlinkDoes T s s' v v' d name result)
    (λ s s' v v' open_there refused.
    let told = c.refused_unlink_answers_the_files.ensures T s s' v v' d name _ refused in
    elim told.1 [ inl same ↦ full_before T s s' v v' open_there same.0 told.0 | inr store ↦ absurd (cc store.1) ])
    (λ s s' v v' fault open_there refused.
    let told = c.refused_unlink_answers_the_files.ensures T s s' v v' d name fault refused in
    elim told.1 [
      | inl same ↦ elim same.1 [ inl said ↦ unlinked_space (files_in s v) v.memory.clock d name fault said | inr is ↦ ap lacks_space is ]
      | inr store ↦ ap lacks_space store.1
    ])
    held old new volume volume' tt is_open makes in
    let ended = c.unlink_ends_a_name.ensures T done.0 new done.1 volume' d name done.2.is_open.kept done.3 in (
      c.open_volumes_stay_open.ensures.unlink T done.0 new done.1 volume' d name done.2.is_open done.3,
      files_before T old done.0 volume done.1 (λ f t. unlinked f t d name ≡ Ok (files_in new volume')) done.2 ended.1,
    )
