use Rattle.std.proofs.Common.{◌≡◌, Ok, sym, subst, ap, inl, inr}
use Rattle.treefs_model.specs.Changes.{with_mtime}
use Rattle.treefs_model.specs.Files.{and_then, changed_at, found}
use Rattle.treefs.specs.Setting.{MtimeDoes}
use Rattle.treefs_laws.specs.Kept.{files_in}
use Rattle.treefs_laws.specs.Open.{IsOpen}
use Rattle.treefs_session_laws.proofs.Space.{made_once}
use Rattle.treefs_session.specs.Freeing.{lacks_space}
use Rattle.treefs_session_laws.proofs.Faults.{found_space}
use Rattle.treefs_session_laws.proofs.Names.{files_before, full_before}
use Rattle.treefs_session_laws.proofs.law.sessions_set_a_time.Goals as goal

pub returns : goal.returns
returns c = λ T held old new volume volume' n mtime is_open fits makes.
    let done = made_once T (λ s s' v v' result. MtimeDoes s v v' n mtime result × (s' ≡ s))
    (λ s s' v v' open_there refused.
    let told = c.refused_attributes_change_nothing.ensures.times s v v' n mtime _ refused.0 in full_before T s s' v v' open_there refused.1 told.0)
    (λ s s' v v' fault open_there refused.
    let told = c.refused_attributes_change_nothing.ensures.times s v v' n mtime fault refused.0 in
    elim told.1 [
      | inl said ↦ found_space (files_in s v) n fault said
      | inr want ↦ elim want [ inl is ↦ ap lacks_space is | inr store ↦ ap lacks_space store.1 ]
    ])
    held old new volume volume' tt is_open makes in
    let sets = c.set_mtime_sets_a_time.ensures T done.0 done.1 volume' n mtime fits done.2.is_open.kept done.3.0 in
    let opens = c.open_volumes_stay_open.ensures.times T done.0 done.1 volume' n mtime fits done.2.is_open done.3.0 in (
      subst (λ s. IsOpen T s volume') (sym done.3.1) opens,
      files_before T old done.0 volume done.1
          (λ f t. and_then (found f n) (λ inode. Ok (changed_at f n (with_mtime t mtime))) ≡ Ok (files_in new volume')) done.2
          (subst (λ s. and_then (found (files_in done.0 done.1) n)
          (λ inode. Ok (changed_at (files_in done.0 done.1) n (with_mtime done.1.memory.clock mtime))) ≡ Ok (files_in s volume')) (sym done.3.1) sets.1),
    )
