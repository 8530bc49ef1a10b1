-- The time when the content of an inode changed is set.
use Rattle.std.proofs.Common.{◌≡◌, ℕ, ℤ, List, Ok, sym, ◌∙◌, ap, subst}
use Rattle.std.specs.Prelude.{FitsSigned}
use Rattle.std.specs.Int.{w64}
use Rattle.xn_model.specs.Types.{Types}
use Rattle.xn_model.specs.Lives.{StoreState}
use Rattle.treefs_model.specs.Changes.{with_mtime}
use Rattle.treefs_model.specs.Files.{Files, and_then, changed_at, found}
use Rattle.treefs_model.specs.Reading.{files_of}
use Rattle.treefs_lookup.specs.Inodes.{inode_found}
use Rattle.treefs_lookup.specs.Readable.{readable}
use Rattle.treefs_lookup.specs.declared.inodes.Found.{Found}
use Rattle.treefs_edits.specs.declared.times.Times.{Times}
use Rattle.treefs.specs.Setting.{MtimeDoes, mtime_volume}
use Rattle.treefs.specs.declared.volume.Volume.{Volume}
use Rattle.treefs_values.specs.Values.{found_value}
use Rattle.treefs_values.proofs.ForCallers.{inodes_found}
use Rattle.treefs_laws.specs.Kept.{IsKept, files_in}
use Rattle.treefs_laws.specs.Seen.{AreTimes, IsSession}
use Rattle.treefs_laws.proofs.Planned.{then_ok}
use Rattle.treefs_laws.proofs.Seeing.{found_seen, seen_touched}
use Rattle.treefs_laws.proofs.Touching.{all_touched, once_touched}

module _ (T : Types) (state : StoreState) (volume volume' : Volume) (n : ℕ) (mtime : ℤ) (fits : FitsSigned w64 mtime) (kept : IsKept T state volume) where
  abbrev content : ℕ → List ℕ
  content = readable state volume.tree.fs.number

  abbrev files : Files
  files = files_of content volume.tree.top

  abbrev times : Times
  times = record { mtime = mtime; ctime = volume.memory.clock }

  abbrev Said : Volume → Type 0
  Said v = IsKept T state v × (and_then (found (files_in state volume) n) (λ inode. Ok (changed_at (files_in state volume) n (with_mtime volume.memory.clock mtime))) ≡ Ok (files_in state v))

  later_session : IsSession (mtime_volume volume n mtime).memory
  later_session = record {
    once = once_touched n times volume.memory.touched kept.session.once;
    clock = kept.session.clock;
    times = all_touched (λ touch. AreTimes touch.times) n times (fits, kept.session.clock) volume.memory.touched kept.session.times;
  }

  said : (x : Found) → inode_found content volume.tree.top n ≡ Ok x → Said (mtime_volume volume n mtime)
  said x is = (
    record { store = kept.store; bytes = kept.bytes; session = later_session },
    ap (λ r. and_then r (λ inode. Ok (changed_at (files_in state volume) n (with_mtime volume.memory.clock mtime))))
        (found_seen volume.memory.touched files n (found_value content volume.tree.top x)
        (sym (inodes_found content volume.tree.top n) ∙ ap (λ r. and_then r (λ x. Ok (found_value content volume.tree.top x))) is))
        ∙ ap Ok (sym (seen_touched volume.memory.touched files n times)),
  )

  pub timed_so : MtimeDoes state volume volume' n mtime (Ok tt) → Said volume'
  timed_so (planned, is) =
      let x = then_ok (inode_found content volume.tree.top n) _ tt planned in
      subst Said (sym is) (said x.0 x.1)
