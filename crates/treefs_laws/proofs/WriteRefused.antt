-- What write_some leaves of a file, where it is refused.
use Rattle.std.proofs.Common.{◌≡◌, ◌≢◌, ◌⊎◌, ℕ, ◌+◌, ◌/◌, ◌%◌, ◌<◌, ◌≤◌, List, [], ◌∷◌, length, take, None, Result, Ok, Err, refl, sym, ◌∙◌, ap, inl, inr, arith, subst}
use Rattle.std.specs.Prelude.{All, min}
use Rattle.std.proofs.lemmas.List.{take_min}
use Rattle.xn_model.specs.Types.{Types}
use Rattle.xn_model.specs.Lives.{StoreState}
use Rattle.treefs_format.specs.Fields.{changes_patch}
use Rattle.treefs_format.specs.Inodes.{content_patch}
use Rattle.treefs_format.specs.Leaves.{greatest_size}
use Rattle.treefs_format.specs.Paths.{last_beside}
use Rattle.treefs_model.specs.Acts.{bytes_act, patch_act}
use Rattle.treefs_model.specs.Files.{changed_at}
use Rattle.treefs_model.specs.Reading.{byte_of, leaf_block}
use Rattle.treefs_model.specs.declared.fault.Fault.{Fault}
use Rattle.treefs_lookup.specs.Bytes.{part_left}
use Rattle.treefs_lookup.specs.Inodes.{file_found}
use Rattle.treefs_lookup.specs.Readable.{readable}
use Rattle.treefs_lookup.specs.declared.inodes.Found.{Found}
use Rattle.treefs_edits.specs.Plans.{Does, Plan}
use Rattle.treefs_byte_plans.specs.Fields.{risen, size_acts, size_changes, times_now}
use Rattle.treefs_byte_plans.specs.Runs.{run_plan}
use Rattle.treefs_byte_plans.specs.Writes.{Step, first_piece, write_planned}
use Rattle.treefs.specs.Writing.{StepDoes, WriteDoes}
use Rattle.treefs.specs.declared.volume.Volume.{Volume}
use Rattle.treefs_values.specs.Bytes.{with_put}
use Rattle.treefs_laws.specs.Kept.{files_in}
use Rattle.treefs_laws.specs.Open.{IsOpen}
use Rattle.treefs_laws.specs.Overwriting.{IsPartlyPut}
use Rattle.treefs_laws.specs.Reading.{HasFewBytes}
use Rattle.treefs_laws.specs.Refusals.{IsOfStore}
use Rattle.treefs_laws.proofs.PiecesWritten.{leaf_refused}
use Rattle.treefs_laws.proofs.RefusedNames.{does_refused}
use Rattle.treefs_laws.proofs.RunWritten.{run_refused}
use Rattle.treefs_laws.proofs.TimesWritten.{refused_whole}
use Rattle.treefs_laws.proofs.TrimOpen.{trim_said}
use Rattle.treefs_laws.proofs.TrimSought.{write_sought}
use Rattle.treefs_laws.proofs.WriteSteps.{IsStep, counts_beside, counts_enough, is_ready, size_few}

module _ (T : Types) (old : StoreState) (volume : Volume) (is_open : IsOpen T old volume) (number at : ℕ)
    (bytes : List ℕ)
    (few : HasFewBytes (files_in old volume) number) (wide : All (λ b. b < 256) bytes) (fault : Fault) where
  abbrev own : ℕ
  own = volume.tree.fs.number

  abbrev Left : StoreState → Volume → Type 0
  Left new volume' = (volume' ≡ volume) × IsOpen T new volume
      × ((files_in new volume ≡ files_in old volume) ⊎ (IsOfStore fault × IsPartlyPut (files_in old volume) number at bytes (files_in new volume)))

  module _ (middle : StoreState) (open_there : IsOpen T middle volume) (same : files_in middle volume ≡ files_in old volume) (new : StoreState)
      (volume' : Volume) where
    same_left : volume' ≡ volume → new ≡ middle → Left new volume'
    same_left v s =
        let now = subst (λ t. IsOpen T t volume × (files_in t volume ≡ files_in old volume)) (sym s) (open_there, same) in (v, now.0, inl now.1)

    put_left : volume' ≡ volume → IsOfStore fault → IsOpen T new volume → (c : ℕ) → files_in new volume ≡ changed_at (files_in middle volume) number
        (with_put at (take c bytes)) → Left new volume'
    put_left v store opened c files = (
      v,
      opened,
      inr (
        store,
        (
          min c (length bytes),
          omega arith,
          files ∙ (ap (λ g. changed_at g number (with_put at (take c bytes))) same ∙ ap (λ l. changed_at (files_in old volume) number (with_put at l))
              (sym (take_min c bytes))),
        ),
      ),
    )

    module _ (x : Found) (x_is : file_found (readable middle own) volume.tree.top number ≡ Ok x) (low : at < greatest_size)
        (zeros : length bytes ≢ 0 → (p : ℕ) → x.fields.size ≤ p → p < at → byte_of (readable middle own) x.block p ≡ 0) where
      small : x.fields.size ≤ greatest_size
      small = size_few T middle volume open_there number x x_is (subst (λ g. HasFewBytes g number) (sym same) few)

      abbrev Takes_so : Step → Type 0
      Takes_so step = StepDoes T middle new volume volume' number bytes (Ok step) (Err fault)

      step_left : (step : Step) → IsStep middle volume at bytes x step → Takes_so step → Left new volume'
      step_left step (inl (none, is)) does = absurd (cc (subst Takes_so is does).0)
      step_left step (inr (some, inl (lt, is))) does =
          let now = subst Takes_so is does in
          same_left now.1 (refused_whole T own (patch_act x.block (content_patch at (first_piece at bytes)
          ∷ changes_patch (size_changes (risen x.fields.size (at + length (first_piece at bytes))) (times_now volume.memory)) ∷ []) None) middle new fault
          now.0)
      step_left step (inr (some, inr (inl (high, there, is)))) does =
          let now = subst Takes_so is does in
          let leaf : ℕ = leaf_block (readable middle own) x.block (at / 512) in
          let leaf_plan : Plan = record {
            starts = [];
            acts = λ begun. bytes_act leaf (at % 512) (first_piece at bytes) None
                ∷ size_acts x.block leaf (risen x.fields.size (at + length (first_piece at bytes))) (times_now volume.memory);
          } in
          elim (leaf_refused T middle volume open_there number x x_is small at low (zeros some) bytes some wide high there new fault now.0) [
            | inl kept ↦ same_left now.1 kept
            | inr put ↦ put_left now.1 (does_refused T own leaf_plan middle new fault now.0) put.0 (part_left at) put.1
          ]
      step_left step (inr (some, inr (inr (high, none, plan, r, is)))) does =
          let now = subst Takes_so is does in
          let counts = counts_beside r.count (last_beside (at / 512)) (at / 512) ((at % 512 + length bytes) / 512 + min 1 ((at % 512 + length bytes) % 512))
          r.some r.few in
          let left = run_refused T middle volume open_there number x x_is small at low (zeros some) bytes some wide high none r.count r.some counts.0
          (counts_enough r.count (at % 512 + length bytes) r.some counts.1) r.missing new fault
          (subst (λ p. Does T own (run_plan bytes p) middle new (Err fault)) r.plan_is now.0) in
          put_left now.1 (does_refused T own (run_plan bytes plan) middle new fault now.0) left.0 left.1 left.2

  pub write_refused : (new : StoreState) (volume' : Volume) → WriteDoes T old new volume volume' number at bytes (Err fault) → Left new volume'
  write_refused new volume' (kept, sought, inl (trims, v)) =
      let s = trim_said T old volume is_open kept (write_sought old volume number at (length bytes) kept sought) new (Err fault) trims in
      (v, s.0, inl s.1)
  write_refused new volume' (kept, sought, inr (middle, trims, does)) = by (write_planned middle volume.tree volume.memory number at bytes) refl does
    where
      s : IsOpen T middle volume × (files_in middle volume ≡ files_in old volume)
      s = trim_said T old volume is_open kept (write_sought old volume number at (length bytes) kept sought) middle (Ok tt) trims

      by : (r : Result Step Fault) → write_planned middle volume.tree volume.memory number at bytes ≡ r → StepDoes T middle new volume volume' number bytes
          r (Err fault) → Left new volume'
      by (Err other) e does = same_left middle s.0 s.1 new volume' does.2 does.1
      by (Ok step) e does =
          let a = is_ready T old middle volume is_open s.0 number at bytes kept sought trims step e in
          step_left middle s.0 s.1 new volume' a.file a.found a.low a.zeros step a.is_step does
