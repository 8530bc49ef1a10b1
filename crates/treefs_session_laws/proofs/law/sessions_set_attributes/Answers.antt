use Rattle.std.proofs.Common.{◌≡◌, Ok, ap, inl, inr}
use Rattle.treefs_model.specs.Files.{and_then, changed_at, found}
use Rattle.treefs.specs.Setting.{AttributesDoes}
use Rattle.treefs_laws.specs.Kept.{files_in}
use Rattle.treefs_laws.specs.Setting.{with_attributes}
use Rattle.treefs_session.specs.Freeing.{lacks_space}
use Rattle.treefs_session_laws.proofs.Faults.{found_space}
use Rattle.treefs_session_laws.proofs.Names.{files_before, full_before}
use Rattle.treefs_session_laws.proofs.Space.{made_once}
use Rattle.treefs_session_laws.proofs.law.sessions_set_attributes.Goals as goal

pub returns : goal.returns
returns c = λ T held old new volume volume' n attributes is_open wide makes.
    let done = made_once T (λ s s' v v' result. AttributesDoes T s s' v v' n attributes result)
    (λ s s' v v' open_there refused.
    let told = c.refused_attributes_change_nothing.ensures.attributes T s s' v v' n attributes _ refused in
    full_before T s s' v v' open_there told.0 told.1)
    (λ s s' v v' fault open_there refused.
    let told = c.refused_attributes_change_nothing.ensures.attributes T s s' v v' n attributes fault refused in
    elim told.2 [
      | inl said ↦ found_space (files_in s v) n fault said
      | inr want ↦ elim want [ inl is ↦ ap lacks_space is | inr store ↦ ap lacks_space store.1 ]
    ])
    held old new volume volume' tt is_open makes in
    let sets = c.set_attributes_sets_what_is_told.ensures T done.0 new done.1 volume' n attributes wide done.2.is_open.kept done.3 in (
      c.open_volumes_stay_open.ensures.attributes T done.0 new done.1 volume' n attributes wide done.2.is_open done.3,
      files_before T old done.0 volume done.1
          (λ f t. and_then (found f n) (λ inode. Ok (changed_at f n (with_attributes t attributes))) ≡ Ok (files_in new volume')) done.2 sets.1,
    )
