-- What write_begun makes of an inode that was begun, where it writes behind its bytes.
use Rattle.std.proofs.Common.{◌≡◌, ◌≢◌, ℕ, ◌+◌, ◌/◌, ◌%◌, ◌<◌, ◌≤◌, Bool, List, [], ◌++◌, length, take, Option, None, Some, Result, Ok, Err, refl, sym, ◌∙◌, ap, inl, inr, subst}
use Rattle.std.specs.Prelude.{All, min}
use Rattle.store_types.specs.declared.refusal.Refusal.{Refusal}
use Rattle.xn_model.specs.Types.{Types}
use Rattle.xn_model.specs.Lives.{StoreState}
use Rattle.treefs_format.specs.Fields.{fields_of}
use Rattle.treefs_format.specs.Leaves.{greatest_size}
use Rattle.treefs_format.specs.Paths.{last_beside}
use Rattle.treefs_model.specs.Changes.{rewritten}
use Rattle.treefs_model.specs.Files.{Inode, bytes_in}
use Rattle.treefs_model.specs.Reading.{key_in}
use Rattle.treefs_model.specs.declared.fault.Fault.{Fault}
use Rattle.treefs_model.specs.declared.fault.Fault.TheVariants.{Kernel}
use Rattle.treefs_lookup.specs.Readable.{readable}
use Rattle.treefs_lookup.specs.declared.inodes.Found.{Found}
use Rattle.treefs_edits.specs.Plans.{Does, Plan}
use Rattle.treefs_byte_plans.specs.Kept.{IsTrimSought}
use Rattle.treefs_byte_plans.specs.Runs.{run_plan}
use Rattle.treefs_byte_plans.specs.Writes.{Nothing, Piece, Run, Step, step_planned}
use Rattle.treefs_byte_plans.specs.declared.kept.Kept.{Kept}
use Rattle.treefs.specs.Trimming.{TrimDoes, TrimsFirst}
use Rattle.treefs.specs.declared.volume.Volume.{Volume}
use Rattle.treefs_puts.specs.Begun.{written_begun}
use Rattle.treefs_puts.specs.Writing.{StepWrites, WriteBegunDoes, begun_planned}
use Rattle.treefs_values.proofs.ForCallers.{IsAlike}
use Rattle.treefs_laws.specs.Begun.{IsBegun}
use Rattle.treefs_laws.specs.Open.{IsOpen}
use Rattle.treefs_laws.specs.Unnamed.{IsUnnamed}
use Rattle.treefs_laws.proofs.BegunWritten.{begun_found, begun_written, kept_is}
use Rattle.treefs_laws.proofs.ForgottenStarts.{does_same}
use Rattle.treefs_laws.proofs.OwnGrown.{content_grown, leaf_grown}
use Rattle.treefs_laws.proofs.OwnRun.{run_grown}
use Rattle.treefs_laws.proofs.OwnSaid.{begun_read, size_is}
use Rattle.treefs_laws.proofs.OwnTrimmed.{trim_says}
use Rattle.treefs_laws.proofs.Planned.{same_done, then_ok}
use Rattle.treefs_laws.proofs.SpaceLacked.{reads}
use Rattle.treefs_laws.proofs.WriteSteps.{IsStep, counts_beside, counts_enough, step_is}

-- A piece

module _ (T : Types) (middle : StoreState) (volume : Volume) (is_open : IsOpen T middle volume) (inode : Inode) (bytes : List ℕ) (some : length bytes ≢ 0)
    (wide : All (λ b. b < 256) bytes) (new : StoreState) (taken : ℕ) (open_new : IsOpen T new volume) where
  abbrev fs : ℕ
  fs = volume.tree.fs.number

  -- so many of the bytes are written behind those that it had
  abbrev pub IsGrown : ℕ → ℕ → Type 0
  IsGrown block at = (0 < taken) × (taken ≤ length bytes) × (at + taken ≤ greatest_size)
      × IsBegun new volume block (rewritten volume.memory.clock (λ old. old ++ take taken bytes) inode)

  abbrev Writes_so : Step → Type 0
  Writes_so step = StepWrites T fs bytes (Ok step) middle new (Ok taken)

  module _ (x : Found) (begun : IsBegun middle volume x.block inode) (x_fields : x.fields ≡ fields_of (readable middle fs x.block))
      (low : length begun.bytes < greatest_size) (unnamed : IsUnnamed new volume x.block) where
    abbrev end : ℕ
    end = length begun.bytes

    step_grows : (step : Step) → IsStep middle volume end bytes x step → Writes_so step → IsGrown x.block end
    step_grows step (inl (none, is)) does = absurd (some none)
    step_grows step (inr (full, inl (lt, is))) does =
        let d = subst Writes_so is does in
        content_grown T middle volume is_open x.block inode begun bytes some wide low lt x.fields.size (ap (λ f. f.size) x_fields) new taken d.0 d.1 open_new
        unnamed
    step_grows step (inr (full, inr (inl (high, there, is)))) does =
        let d = subst Writes_so is does in
        leaf_grown T middle volume is_open x.block inode begun bytes some wide low high there x.fields.size (ap (λ f. f.size) x_fields) new taken d.0 d.1
        open_new unnamed
    step_grows step (inr (full, inr (inr (high, none, plan, r, is)))) does =
        let d = subst Writes_so is does in
        let counts = counts_beside r.count (last_beside (end / 512)) (end / 512) ((end % 512 + length bytes) / 512 + min 1 ((end % 512 + length bytes) % 512))
        r.some r.few in
        run_grown T middle volume is_open x inode begun x_fields bytes some wide low high r.count r.some counts.0
        (counts_enough r.count (end % 512 + length bytes) r.some counts.1) r.missing new taken (d.0 ∙ ap (λ p. p.taken) r.plan_is)
        (subst (λ p. Does T fs (run_plan bytes p) middle new (Ok tt)) r.plan_is d.1) open_new unnamed

    pub planned_grows : (step : Step) → step_planned middle volume.tree volume.memory end bytes x ≡ Ok step → Writes_so step → IsGrown x.block end
    planned_grows step planned does = step_grows step (step_is middle volume end bytes x low step planned) does

-- The call

module _ (T : Types) (old : StoreState) (volume : Volume) (is_open : IsOpen T old volume) (c : ℕ) (inode : Inode) (begun : IsBegun old volume c inode)
    (bytes : List ℕ) (wide : All (λ b. b < 256) bytes) where
  abbrev own : ℕ
  own = volume.tree.fs.number

  abbrev At : StoreState → Type 0
  At s = IsOpen T s volume × IsBegun s volume c inode

  -- The trim before

  sized : (bs : List ℕ) → bytes_in inode.content ≡ Ok bs → (fields_of (readable old own c)).size ≡ length bs
  sized bs is =
      size_is (readable old own) (key_in (readable old own) volume.tree.top) c inode begun.says begun.bytes begun.bytes_are
      ∙ ap length (same_done begun.bytes bs (sym begun.bytes_are ∙ is))

  trims_say : (at : ℕ) (kept : Option Kept) (asked : Found → Bool) → IsTrimSought (readable old own) (written_begun (readable old own) c at) asked kept →
      (new : StoreState) (result : Result (Unit {0}) Fault) → TrimsFirst T own volume.memory kept old new result → At new
  trims_say at None asked sought new result does = subst At (sym does.1) (is_open, begun)
  trims_say at (Some k) asked sought new result does =
      trim_says T volume c inode is_open.few is_open.tree (fields_of (readable old own c)).size sized volume.memory old new result (is_open, begun)
      (subst (λ k. TrimDoes T own volume.memory k old new result) (kept_is (readable old own) c at asked k sought) does)

  -- Where it is written

  module _ (some : length bytes ≢ 0) (new : StoreState) (taken : ℕ) where
    abbrev Grown : ℕ → ℕ → Type 0
    Grown block at = (0 < taken) × (taken ≤ length bytes) × (at + taken ≤ greatest_size)
        × IsBegun new volume block (rewritten volume.memory.clock (λ old. old ++ take taken bytes) inode)

    from_middle : (middle : StoreState) → At middle → (at : ℕ) → at ≡ length begun.bytes → IsOpen T new volume → IsUnnamed new volume c →
        StepWrites T own bytes (begun_planned middle volume.tree volume.memory c at bytes) middle new (Ok taken) → Grown c at
    from_middle middle there at at_is open_new unnamed does = by (begun_planned middle volume.tree volume.memory c at bytes) refl does
      where
        at_end : at ≡ length there.1.bytes
        at_end = at_is ∙ ap length (same_done begun.bytes there.1.bytes (sym begun.bytes_are ∙ there.1.bytes_are))

        by : (r : Result Step Fault) → begun_planned middle volume.tree volume.memory c at bytes ≡ r → StepWrites T own bytes r middle new (Ok taken) →
            Grown c at
        by (Err fault) e does = absurd (cc does.0)
        by (Ok step) e does =
            let a = then_ok (written_begun (readable middle own) c at) (step_planned middle volume.tree volume.memory at bytes) step e in
            let x = a.0 in
            let is = begun_found (readable middle own) c at x a.1 in
            let at_block : (b : ℕ) → x.block ≡ b → (begun_b : IsBegun middle volume b inode) → at ≡ length begun_b.bytes →
            x.fields ≡ fields_of (readable middle own b) → IsUnnamed new volume b → Grown b at =
            λ b same. subst (λ b. (begun_b : IsBegun middle volume b inode) → at ≡ length begun_b.bytes → x.fields ≡ fields_of (readable middle own b) →
            IsUnnamed new volume b → Grown b at) same
            (λ begun_x end x_fields unnamed_x. subst (λ a. a < greatest_size → step_planned middle volume.tree volume.memory a bytes x ≡ Ok step →
            Grown x.block a) (sym end)
            (λ low planned. planned_grows T middle volume there.0 inode bytes some wide new taken open_new x begun_x x_fields low unnamed_x step planned does)
            is.low a.2) in
            at_block c is.block there.1 at_end is.fields unnamed

    pub begun_grown : (at : ℕ) → at ≡ length begun.bytes → WriteBegunDoes T old new volume c at bytes (Ok taken) → Grown c at
    begun_grown at at_is does =
        let said = begun_written T old volume is_open c begun.unnamed at bytes wide new (Ok taken) does in
        elim does.2 [
          | inl none ↦ absurd none
          | inr r ↦ from_middle r.0 (trims_say at does.0 _ does.1 r.0 (Ok tt) r.1) at at_is said.0 said.2 r.2
        ]

  -- Where it is refused

  module _ (at : ℕ) (new : StoreState) (fault : Fault) (other : (reason : Refusal) → fault ≢ Kernel reason) where
    plan_refused : (middle : StoreState) → At middle → IsUnnamed new volume c → (plan : Plan) → Does T own plan middle new (Err fault) →
        IsBegun new volume c inode
    plan_refused middle there unnamed plan does =
        let same = does_same T own plan middle new fault there.0.kept.store other does in
        let read : readable new own ≡ readable middle own = reads T middle new volume volume there.0 same in
        begun_read middle new volume volume c inode there.1 unnamed
        (subst (λ m. IsAlike (readable middle own) m c) (sym read) (record { own = refl; leaves = λ i. refl; bytes = λ i full. refl }))

    step_refused : (middle : StoreState) → At middle → IsUnnamed new volume c → (r : Result Step Fault) → StepWrites T own bytes r middle new (Err fault) →
        IsBegun new volume c inode
    step_refused middle there unnamed (Err told) does = subst (λ s. IsBegun s volume c inode) (sym does.1) there.1
    step_refused middle there unnamed (Ok Nothing) does = absurd (cc does.0)
    step_refused middle there unnamed (Ok (Piece count is_dated acts)) does =
        plan_refused middle there unnamed (record { starts = []; acts = λ begun. acts }) does
    step_refused middle there unnamed (Ok (Run plan)) does = plan_refused middle there unnamed (run_plan bytes plan) does

    pub begun_not_grown : WriteBegunDoes T old new volume c at bytes (Err fault) → IsBegun new volume c inode
    begun_not_grown does =
        let said = begun_written T old volume is_open c begun.unnamed at bytes wide new (Err fault) does in
        elim does.2 [
          | inl trims ↦ (trims_say at does.0 _ does.1 new (Err fault) trims).1
          | inr r ↦ step_refused r.0 (trims_say at does.0 _ does.1 r.0 (Ok tt) r.1) said.2
              (begun_planned r.0 volume.tree volume.memory c at bytes) r.2
        ]
