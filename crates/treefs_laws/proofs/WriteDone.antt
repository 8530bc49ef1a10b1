-- What write_some does to a file, where it is done.
use Rattle.std.proofs.Common.{◌≡◌, ◌≢◌, ℕ, ◌+◌, ◌/◌, ◌%◌, ◌<◌, ◌≤◌, List, length, Result, Ok, Err, refl, sym, ◌∙◌, ap, inl, inr, arith, subst}
use Rattle.std.specs.Prelude.{All, is_some, min}
use Rattle.xn_model.specs.Types.{Types}
use Rattle.xn_model.specs.Lives.{StoreState}
use Rattle.treefs_format.specs.Leaves.{greatest_size}
use Rattle.treefs_format.specs.Paths.{last_beside}
use Rattle.treefs_model.specs.Changes.{written as written_files}
use Rattle.treefs_model.specs.Reading.{byte_of}
use Rattle.treefs_model.specs.declared.fault.Fault.{Fault}
use Rattle.treefs_lookup.specs.Inodes.{file_found}
use Rattle.treefs_lookup.specs.Readable.{readable}
use Rattle.treefs_lookup.specs.declared.inodes.Found.{Found}
use Rattle.treefs_byte_plans.specs.Runs.{run_plan}
use Rattle.treefs_byte_plans.specs.Writes.{Nothing, Step, write_planned}
use Rattle.treefs.specs.Writing.{StepDoes, Takes, WriteDoes}
use Rattle.treefs.specs.declared.volume.Volume.{Volume}
use Rattle.treefs_laws.specs.Kept.{files_in}
use Rattle.treefs_laws.specs.Open.{IsOpen}
use Rattle.treefs_laws.specs.Reading.{HasFewBytes}
use Rattle.treefs_laws.proofs.FileOver.{written_none}
use Rattle.treefs_laws.proofs.PiecesWritten.{Said, content_done, leaf_done}
use Rattle.treefs_laws.proofs.Planned.{same_done}
use Rattle.treefs_laws.proofs.RunWritten.{run_done}
use Rattle.treefs_laws.proofs.TrimOpen.{trim_said}
use Rattle.treefs_laws.proofs.TrimSought.{write_sought}
use Rattle.treefs_laws.proofs.WriteSteps.{IsStep, counts_beside, counts_enough, is_ready, size_few}

module _ (T : Types) (old : StoreState) (volume : Volume) (is_open : IsOpen T old volume) (number at : ℕ)
    (bytes : List ℕ)
    (few : HasFewBytes (files_in old volume) number) (wide : All (λ b. b < 256) bytes) where
  abbrev own : ℕ
  own = volume.tree.fs.number

  abbrev Done : StoreState → Volume → ℕ → Type 0
  Done new volume' taken = IsOpen T new volume' × (written_files (files_in old volume) volume.memory.clock number at bytes taken ≡ Ok (files_in new volume'))
      × (taken ≤ length bytes) × (0 < length bytes → 0 < taken) × (at + taken ≤ greatest_size)

  module _ (middle : StoreState) (open_there : IsOpen T middle volume) (same : files_in middle volume ≡ files_in old volume) (new : StoreState)
      (volume' : Volume) (taken : ℕ)
      (x : Found) (x_is : file_found (readable middle own) volume.tree.top number ≡ Ok x) (low : at < greatest_size)
      (zeros : length bytes ≢ 0 → (p : ℕ) → x.fields.size ≤ p → p < at → byte_of (readable middle own) x.block p ≡ 0) where
    small : x.fields.size ≤ greatest_size
    small = size_few T middle volume open_there number x x_is (subst (λ g. HasFewBytes g number) (sym same) few)

    abbrev Does : Step → Type 0
    Does step = StepDoes T middle new volume volume' number bytes (Ok step) (Ok taken)

    none_done : length bytes ≡ 0 → Does Nothing → Done new volume' taken
    none_done none (result, s, v) =
        let taken_is : taken ≡ 0 = same_done taken 0 result in
        subst (λ w. Done new w taken) (sym v) (subst (λ t. Done t volume taken) (sym s) (
          open_there,
          ap (λ g. written_files g volume.memory.clock number at bytes taken) (sym same) ∙ written_none T middle volume open_there number x x_is at
              bytes taken none low,
          omega arith,
          λ some. absurd (omega arith),
          omega arith,
        ))

    done_now : (some : length bytes ≢ 0) → Said T middle volume open_there number x x_is small at low (zeros some) bytes some wide new volume' taken →
        Done new volume' taken
    done_now some (opened, files, more, less, end) = (
      opened,
      ap (λ g. written_files g volume.memory.clock number at bytes taken) (sym same) ∙ files,
      less,
      λ any. more,
      end,
    )

    step_done : (step : Step) → IsStep middle volume at bytes x step → Does step → Done new volume' taken
    step_done step (inl (none, is)) does = none_done none (subst Does is does)
    step_done step (inr (some, inl (lt, is))) does =
        done_now some (content_done T middle volume open_there number x x_is small at low (zeros some) bytes some wide lt new volume' taken
        (subst Does is does))
    step_done step (inr (some, inr (inl (high, there, is)))) does =
        done_now some (leaf_done T middle volume open_there number x x_is small at low (zeros some) bytes some wide high there new volume' taken
        (subst Does is does))
    step_done step (inr (some, inr (inr (high, none, plan, r, is)))) does =
        let counts = counts_beside r.count (last_beside (at / 512)) (at / 512) ((at % 512 + length bytes) / 512 + min 1 ((at % 512 + length bytes) % 512))
        r.some r.few in
        done_now some (run_done T middle volume open_there number x x_is small at low (zeros some) bytes some wide high none r.count r.some counts.0
        (counts_enough r.count (at % 512 + length bytes) r.some counts.1) r.missing new volume' taken
        (subst (λ p. Takes T middle new volume volume' number (run_plan bytes p) p.taken (is_some p.size) (Ok taken)) r.plan_is (subst Does is does)))

  pub write_done : (new : StoreState) (volume' : Volume) (taken : ℕ) → WriteDoes T old new volume volume' number at bytes (Ok taken) → Done new volume' taken
  write_done new volume' taken (kept, sought, inl (none, v)) = absurd none
  write_done new volume' taken (kept, sought, inr (middle, trims, does)) = by (write_planned middle volume.tree volume.memory number at bytes) refl does
    where
      s : IsOpen T middle volume × (files_in middle volume ≡ files_in old volume)
      s = trim_said T old volume is_open kept (write_sought old volume number at (length bytes) kept sought) middle (Ok tt) trims

      by : (r : Result Step Fault) → write_planned middle volume.tree volume.memory number at bytes ≡ r → StepDoes T middle new volume volume' number bytes
          r (Ok taken) → Done new volume' taken
      by (Err fault) e does = absurd (cc does.0)
      by (Ok step) e does =
          let a = is_ready T old middle volume is_open s.0 number at bytes kept sought trims step e in
          step_done middle s.0 s.1 new volume' taken a.file a.found a.low a.zeros step a.is_step does
