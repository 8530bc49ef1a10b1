-- What the next piece of a write is: nothing, bytes in the inode or in a leaf that is there, or a run of leaves that are missing.
use Rattle.std.proofs.Common.{◌≡◌, ◌≢◌, ◌⊎◌, Option, ℕ, zero, suc, ◌+◌, ◌-◌, ◌*◌, ◌/◌, ◌%◌, ◌<◌, ◌≤◌, Bool, true, false, not, ◌&&◌, List, [], ◌∷◌, length, Result, Ok, Err, refl, sym, ◌∙◌, ap, inl, inr, arith, subst, if◌then◌else◌}
use Rattle.std.specs.Prelude.{min, nat_le, nat_lt, ◌==◌}
use Rattle.std.proofs.lemmas.Bool.{eqb-false, eqb-true, leb-false, lt-ltb, ltb-false, ltb-true, ne_eqb}
use Rattle.std.proofs.lemmas.List.FromFn.{length-map-range_with_len}
use Rattle.xn_model.specs.Types.{Types}
use Rattle.xn_model.specs.Lives.{StoreState}
use Rattle.treefs_format.specs.Fields.{fields_of}
use Rattle.treefs_format.specs.Leaves.{greatest_size}
use Rattle.treefs_format.specs.declared.fields.Fields.{Fields}
use Rattle.treefs_format.specs.declared.kind.Kind.{Kind}
use Rattle.treefs_format.specs.declared.kind.Kind.TheVariants as kind
use Rattle.treefs_model.specs.Files.{Inode, and_then, bytes_in, file_at}
use Rattle.treefs_model.specs.Reading.{byte_of, bytes_of, content_at, files_of, key_in, leaf_block}
use Rattle.treefs_model.specs.declared.fault.Fault.{Fault}
use Rattle.treefs_model.specs.declared.fault.Fault.TheVariants.{Full, TooLarge}
use Rattle.treefs_lookup.specs.Inodes.{file_found}
use Rattle.treefs_lookup.specs.Readable.{readable}
use Rattle.treefs_lookup.specs.declared.inodes.Found.{Found}
use Rattle.treefs_edits.specs.Rooms.{has_room}
use Rattle.treefs_byte_plans.specs.Runs.{run_planned}
use Rattle.treefs_byte_plans.specs.Writes.{IsTrimToWrite, Nothing, Run, Step, content_in_room, content_step, first_piece, leaf_in_room, leaf_step, leaves_step, piece_step, raises, run_step, step_planned, write_planned, written_file}
use Rattle.treefs_byte_plans.specs.declared.kept.Kept.{Kept}
use Rattle.treefs_byte_plans.specs.declared.run_plan.RunPlan.{RunPlan}
use Rattle.treefs.specs.Trimming.{TrimsFirst}
use Rattle.treefs.specs.declared.volume.Volume.{Volume}
use Rattle.treefs_values.specs.Values.{found_value}
use Rattle.treefs_values.proofs.ForCallers.{inodes_found}
use Rattle.treefs_laws.specs.Kept.{files_in}
use Rattle.treefs_laws.specs.Open.{IsOpen}
use Rattle.treefs_laws.specs.Reading.{HasFewBytes}
use Rattle.treefs_laws.proofs.Planned.{same_done, then_ok}
use Rattle.treefs_laws.proofs.RunPlanned.{IsRunOf, run_of}
use Rattle.treefs_laws.proofs.Seeing.{found_seen}
use Rattle.treefs_laws.proofs.TrimOpen.{IsFileFound, found_file}
use Rattle.treefs_laws.proofs.TrimmedFirst.{sought_zeros}

-- The bytes of a file that is found

module _ (T : Types) (state : StoreState) (volume : Volume) (is_open : IsOpen T state volume) (n : ℕ) (x : Found)
    (x_is : file_found (readable state volume.tree.fs.number) volume.tree.top n ≡ Ok x) where
  abbrev m : ℕ → List ℕ
  m = readable state volume.tree.fs.number

  x_found : IsFileFound T state volume is_open n x
  x_found = found_file T state volume is_open n x x_is

  bytes_known : (k : Kind) → k ≢ kind.Directory → bytes_in (content_at m (key_in m volume.tree.top) x.block x.fields.parent k) ≡ Ok (bytes_of m x.block)
  bytes_known kind.Directory other = absurd (other refl)
  bytes_known kind.File other = refl
  bytes_known kind.SymbolicLink other = refl

  pub file_bytes : file_at (files_in state volume) n ≡ Ok (bytes_of m x.block)
  file_bytes = ap (λ r. and_then r (λ (inode : Inode). bytes_in inode.content))
      (found_seen volume.memory.touched (files_of m volume.tree.top) n (found_value m volume.tree.top x)
      (sym (inodes_found m volume.tree.top n) ∙ ap (λ r. and_then r (λ x. Ok (found_value m volume.tree.top x))) x_found.here))
      ∙ bytes_known x.kind x_found.no_directory

  bytes_long : length (bytes_of m x.block) ≡ x.fields.size
  bytes_long = length-map-range_with_len (byte_of m x.block) 0 (fields_of (m x.block)).size
      ∙ (ap (λ c. (fields_of (m c)).size) x_found.is.block ∙ ap (λ (g : Fields). g.size) (sym x_found.is.fields))

  pub size_few : HasFewBytes (files_in state volume) n → x.fields.size ≤ greatest_size
  size_few few = subst (λ k. k ≤ greatest_size) bytes_long (few (bytes_of m x.block) file_bytes)

-- A run

pub counts_beside : (count last leaf most : ℕ) → 0 < count → count ≤ min (last + 1 - leaf) most → (leaf + (count - 1) ≤ last) × (count ≤ most)
counts_beside count last leaf most some few = (omega arith, omega arith)

pub counts_enough : (count bytes : ℕ) → 0 < count → count ≤ bytes / 512 + min 1 (bytes % 512) → 512 * (count - 1) < bytes
counts_enough count bytes some few = omega arith

-- The step

module _ (middle : StoreState) (volume : Volume) (at : ℕ) (bytes : List ℕ) (x : Found) where
  abbrev own : ℕ
  own = volume.tree.fs.number

  abbrev leaf : ℕ
  leaf = leaf_block (readable middle own) x.block (at / 512)

  -- in the inode, in a leaf that is there, or a run
  abbrev pub IsInInode : Step → Type 0
  IsInInode step = (at < 384) × (step ≡ content_step volume.memory x at (first_piece at bytes))

  abbrev pub IsInLeaf : Step → Type 0
  IsInLeaf step = (384 ≤ at) × (leaf ≢ 0) × (step ≡ leaf_step volume.memory x leaf at (first_piece at bytes))

  abbrev pub IsInRun : Step → Type 0
  IsInRun step = (384 ≤ at) × (leaf ≡ 0) × (plan : RunPlan) × IsRunOf middle volume.tree volume.memory x at (length bytes) plan × (step ≡ Run plan)

  abbrev pub IsStep : Step → Type 0
  IsStep step = ((length bytes ≡ 0) × (step ≡ Nothing)) ⊎ ((length bytes ≢ 0) × (IsInInode step ⊎ (IsInLeaf step ⊎ IsInRun step)))

  module _ (low : at < greatest_size) (step : Step) where
    in_content : length bytes ≢ 0 → at < 384 → (t : Bool) → ◌≡◌ {A = Result Step Fault} (if t then Ok
        (content_step volume.memory x at (first_piece at bytes)) else Err Full) (Ok step) → IsStep step
    in_content some lt false e = absurd (cc e)
    in_content some lt true e = inr (some, inl (lt, sym (same_done (content_step volume.memory x at (first_piece at bytes)) step e)))

    in_leaf : length bytes ≢ 0 → 384 ≤ at → leaf ≢ 0 → (t : Bool) →
        ◌≡◌ {A = Result Step Fault} (if t then Ok (leaf_step volume.memory x leaf at (first_piece at bytes)) else Err Full) (Ok step) → IsStep step
    in_leaf some high there false e = absurd (cc e)
    in_leaf some high there true e = inr (some, inr (inl (high, there, sym (same_done (leaf_step volume.memory x leaf at (first_piece at bytes)) step e))))

    positive : (k : ℕ) → k ≢ 0 → 0 < k
    positive zero ne = absurd (ne refl)
    positive (suc k) ne = omega arith

    in_run : length bytes ≢ 0 → 384 ≤ at → leaf ≡ 0 → (r : Result RunPlan Fault) → run_planned middle volume.tree volume.memory x at (length bytes) ≡ r →
        run_step r ≡ Ok step → IsStep step
    in_run some high none (Err fault) is e = absurd (cc e)
    in_run some high none (Ok plan) is e =
        inr (
          some,
          inr (inr (
            high,
            none,
            plan,
            run_of middle volume.tree volume.memory x at (length bytes) plan (positive (length bytes) some) low none is,
            sym (same_done (Run plan) step e),
          )),
        )

    in_leaves : length bytes ≢ 0 → 384 ≤ at → (t : Bool) → (leaf == 0) ≡ t → (if t then run_step
        (run_planned middle volume.tree volume.memory x at (length bytes))
        else leaf_in_room middle own volume.memory x leaf at (first_piece at bytes)) ≡ Ok step → IsStep step
    in_leaves some high true e planned = in_run some high (eqb-true leaf 0 e) (run_planned middle volume.tree volume.memory x at (length bytes)) refl planned
    in_leaves some high false e planned = in_leaf some high (eqb-false leaf 0 e) (has_room middle own (length volume.memory.touched) 2
        ((leaf, 1) ∷ (x.block, 1) ∷ [])) planned

    in_piece : length bytes ≢ 0 → (t : Bool) → nat_lt at 384 ≡ t → (if t then content_in_room middle own volume.memory x at (first_piece at bytes)
        else leaves_step middle volume.tree volume.memory x leaf at bytes) ≡ Ok step → IsStep step
    in_piece some true e planned = in_content some (ltb-true at 384 e) (has_room middle own (length volume.memory.touched) 1 ((x.block, 1) ∷ [])) planned
    in_piece some false e planned = in_leaves some (ltb-false at 384 e) (leaf == 0) refl planned

    pub step_is : step_planned middle volume.tree volume.memory at bytes x ≡ Ok step → IsStep step
    step_is planned = by (length bytes == 0) refl planned
      where
        by : (t : Bool) → (length bytes == 0) ≡ t → (if t then Ok Nothing else piece_step middle volume.tree volume.memory x at bytes) ≡ Ok step → IsStep step
        by true e planned = inl (eqb-true (length bytes) 0 e, sym (same_done Nothing step planned))
        by false e planned = in_piece (eqb-false (length bytes) 0 e) (nat_lt at 384) refl planned

-- What is known before a step is made

module _ (T : Types) (old middle : StoreState) (volume : Volume) (is_open : IsOpen T old volume) (open_there : IsOpen T middle volume)
    (number at : ℕ) (bytes : List ℕ)
    (kept : Option Kept) (sought : IsTrimToWrite (readable old volume.tree.fs.number) volume.tree.top number at (length bytes) kept)
    (trims : TrimsFirst T volume.tree.fs.number volume.memory kept old middle (Ok tt)) (step : Step)
    (planned : write_planned middle volume.tree volume.memory number at bytes ≡ Ok step) where
  chosen_low : (t : Bool) (x y : Found) → ◌≡◌ {A = Result Found Fault} (if t then Err TooLarge else Ok x) (Ok y) → (t ≡ false) × (x ≡ y)
  chosen_low true x y e = absurd (cc e)
  chosen_low false x y e = (refl, same_done x y e)

  is_asked : (x : Found) → length bytes ≢ 0 → x.fields.size < at → raises at (length bytes) x ≡ true
  is_asked x some lt = (λ j. not (ne_eqb (length bytes) 0 some j) && lt-ltb x.fields.size (at + length bytes) (omega arith) j)

  pub record IsReady : Type 0 where
    pub file : Found
    pub found : file_found (readable middle volume.tree.fs.number) volume.tree.top number ≡ Ok file
    pub low : at < greatest_size
    pub zeros : length bytes ≢ 0 → (p : ℕ) → file.fields.size ≤ p → p < at → byte_of (readable middle volume.tree.fs.number) file.block p ≡ 0
    pub is_step : IsStep middle volume at bytes file step

  pub is_ready : IsReady
  is_ready =
      let a = then_ok (written_file (readable middle volume.tree.fs.number) volume.tree.top number at)
      (step_planned middle volume.tree volume.memory at bytes) step planned in
      let x = a.0 in
      let b = then_ok (file_found (readable middle volume.tree.fs.number) volume.tree.top number)
      (λ (file : Found). if nat_le greatest_size at then Err TooLarge else Ok file) x a.1 in
      let c = chosen_low (nat_le greatest_size at) b.0 x b.2 in
      let low : at < greatest_size = leb-false greatest_size at c.0 in
      record {
        file = x;
        found = b.1 ∙ ap Ok c.1;
        low = low;
        zeros = λ some p past lt. sought_zeros T old middle volume is_open open_there number (nat_le greatest_size at) x a.1
            (raises at (length bytes)) kept trims
            (is_asked x some (omega arith)) sought p past (omega arith);
        is_step = step_is middle volume at bytes x low step a.2;
      }
