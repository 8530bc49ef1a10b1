-- What write_begun leaves of an inode that has no number, and of the files.
use Rattle.std.proofs.Common.{◌≡◌, ◌≢◌, ℕ, ◌+◌, ◌-◌, ◌/◌, ◌%◌, ◌<◌, ◌≤◌, Bool, true, false, List, [], ◌∷◌, length, Option, None, Some, Result, Ok, Err, refl, sym, ◌∙◌, ap, inl, inr, arith, subst, if◌then◌else◌}
use Rattle.std.specs.Prelude.{All, MatchBool, MatchResult, min, nat_le, ◌==◌}
use Rattle.std.proofs.lemmas.Bool.{le-ltb, leb-false, lt-ltb}
use Rattle.std.proofs.lemmas.List.Elements.{All-take}
use Rattle.store_types.specs.declared.refusal.Refusal.{Refusal}
use Rattle.xn_model.specs.Types.{Types}
use Rattle.xn_model.specs.Lives.{StoreState}
use Rattle.treefs_format.specs.Fields.{changes_patch, fields_of}
use Rattle.treefs_format.specs.Inodes.{content_patch, kind_of}
use Rattle.treefs_format.specs.Leaves.{greatest_size}
use Rattle.treefs_format.specs.Paths.{last_beside}
use Rattle.treefs_format.specs.declared.kind.Kind.{Kind}
use Rattle.treefs_format.specs.declared.kind.Kind.TheVariants as kind
use Rattle.treefs_model.specs.Acts.{Act, Ran, bytes_act, patch_act}
use Rattle.treefs_model.specs.Reading.{leaf_block}
use Rattle.treefs_model.specs.declared.fault.Fault.{Fault}
use Rattle.treefs_model.specs.declared.fault.Fault.TheVariants.{NoEntry, TooLarge}
use Rattle.treefs_lookup.specs.Bytes.{part_left}
use Rattle.treefs_lookup.specs.Inodes.{found_block, found_kind, if_bytes}
use Rattle.treefs_lookup.specs.Readable.{readable}
use Rattle.treefs_lookup.specs.declared.inodes.Found.{Found}
use Rattle.treefs_edits.specs.Plans.{Does, Plan}
use Rattle.treefs_edits.specs.declared.times.Times.{Times}
use Rattle.treefs_byte_plans.specs.Fields.{risen, size_acts, size_changes, times_now}
use Rattle.treefs_byte_plans.specs.Kept.{IsTrimSought, IsUntrimmed, kept_up_to}
use Rattle.treefs_byte_plans.specs.Runs.{run_plan}
use Rattle.treefs_byte_plans.specs.Writes.{Step, first_piece, step_planned}
use Rattle.treefs_byte_plans.specs.declared.kept.Kept.{Kept}
use Rattle.treefs.specs.Trimming.{TrimDoes, TrimsFirst}
use Rattle.treefs.specs.declared.volume.Volume.{Volume}
use Rattle.treefs_puts.specs.Begun.{begun_file, written_begun}
use Rattle.treefs_puts.specs.Writing.{StepWrites, WriteBegunDoes, Writes, begun_planned}
use Rattle.treefs_laws.specs.Kept.{files_in}
use Rattle.treefs_laws.specs.Open.{IsOpen}
use Rattle.treefs_laws.specs.Unnamed.{IsUnnamed}
use Rattle.treefs_laws.proofs.AsideBegun.{IsAsideAt, Stays, stays_then}
use Rattle.treefs_laws.proofs.AsideEdits.{content_made, does_stays, leaf_made, ran_first, size_ran}
use Rattle.treefs_laws.proofs.AsideTrims.{trim_aside}
use Rattle.treefs_laws.proofs.AsideVolume.{aside_unnamed, unnamed_aside}
use Rattle.treefs_laws.proofs.AsideWritten.{run_aside}
use Rattle.treefs_laws.proofs.ForgottenBlocks.{stays_open}
use Rattle.treefs_laws.proofs.PiecesWritten.{piece_is}
use Rattle.treefs_laws.proofs.Planned.{same_done, then_ok}
use Rattle.treefs_laws.proofs.WriteSteps.{IsStep, counts_beside, step_is}

-- What is found

module _ (content : ℕ → List ℕ) (c : ℕ) where
  same_kind : (x y : Found) (k : Kind) → if_bytes x k ≡ Ok y → x ≡ y
  same_kind x y kind.Directory e = absurd (cc e)
  same_kind x y kind.File e = same_done x y e
  same_kind x y kind.SymbolicLink e = same_done x y e

  in_block : (x : Found) → found_block content c ≡ Ok x → (x.block ≡ c) × (x.fields ≡ fields_of (content c))
  in_block x e = by (c == 0) e
    where
      of_kind : (o : Option Kind) → found_kind c (fields_of (content c)) o ≡ Ok x → (x.block ≡ c) × (x.fields ≡ fields_of (content c))
      of_kind None e = absurd (cc e)
      of_kind (Some k) e =
          let same = same_done (record { block = c; fields = fields_of (content c); kind = k }) x e in
          (ap (λ (y : Found). y.block) (sym same), ap (λ (y : Found). y.fields) (sym same))

      by : (t : Bool) → (if t then Err NoEntry else found_kind c (fields_of (content c)) (kind_of (fields_of (content c)).mode)) ≡ Ok x →
          (x.block ≡ c) × (x.fields ≡ fields_of (content c))
      by true e = absurd (cc e)
      by false e = of_kind (kind_of (fields_of (content c)).mode) e

  pub record IsBegunFile (at : ℕ) (x : Found) : Type 0 where
    pub block : x.block ≡ c
    pub fields : x.fields ≡ fields_of (content c)
    pub low : at < greatest_size

  pub begun_found : (at : ℕ) (x : Found) → written_begun content c at ≡ Ok x → IsBegunFile at x
  begun_found at x e =
      let a = then_ok (begun_file content c) (λ (file : Found). if nat_le greatest_size at then Err TooLarge else Ok file) x e in
      let b = then_ok (found_block content c) (λ (file : Found). if_bytes file file.kind) a.0 a.1 in
      let f = in_block b.0 b.1 in
      let same = same_kind b.0 a.0 b.0.kind b.2 in
      let l = lower (nat_le greatest_size at) refl a.0 a.2 in
      record {
        block = ap (λ (y : Found). y.block) (sym (same ∙ l.1)) ∙ f.0;
        fields = ap (λ (y : Found). y.fields) (sym (same ∙ l.1)) ∙ f.1;
        low = leb-false greatest_size at l.0;
      }
    where
      lower : (t : Bool) → nat_le greatest_size at ≡ t → (y : Found) → ◌≡◌ {A = Result Found Fault} (if t then Err TooLarge else Ok y) (Ok x) →
          (nat_le greatest_size at ≡ false) × (y ≡ x)
      lower true is y e = absurd (cc e)
      lower false is y e = (is, same_done y x e)

  -- what is trimmed before is all past its size
  pub kept_is : (at : ℕ) (asked : Found → Bool) (k : Kept) → IsTrimSought content (written_begun content c at) asked (Some k) → k ≡ kept_up_to c (fields_of (content c)).size
  kept_is at asked k sought = by (written_begun content c at) refl sought
    where
      of_file : (file : Found) → IsBegunFile at file → (t : Bool) → MatchBool t (IsUntrimmed content file (Some k)) (◌≡◌ {A = Option Kept} (Some k) None) →
          k ≡ kept_up_to c (fields_of (content c)).size
      of_file file is true untrimmed = untrimmed.1 ∙ (λ j. kept_up_to (is.block j) (is.fields j).size)
      of_file file is false none = absurd (cc none)

      by : (r : Result Found Fault) → written_begun content c at ≡ r →
          MatchResult r (λ file. MatchBool (asked file) (IsUntrimmed content file (Some k)) (◌≡◌ {A = Option Kept} (Some k) None))
          (λ fault. ◌≡◌ {A = Option Kept} (Some k) None) → k ≡ kept_up_to c (fields_of (content c)).size
      by (Err fault) e none = absurd (cc none)
      by (Ok file) e is = of_file file (begun_found at file e) (asked file) is

-- either answer carries a plan out, or is refused
any_does : (T : Types) (fs : ℕ) (plan : Plan) (taken : ℕ) (old new : StoreState) (result : Result ℕ Fault) → Writes T fs plan taken old new result →
    (answer : Result (Unit {0}) Fault) × Does T fs plan old new answer
any_does T fs plan taken old new (Ok count) does = (Ok tt, does.1)
any_does T fs plan taken old new (Err fault) does = (Err fault, does)

module _ (T : Types) (old : StoreState) (volume : Volume) (is_open : IsOpen T old volume) (c : ℕ)
    (unnamed : IsUnnamed old volume c) (at : ℕ) (bytes : List ℕ) (wide : All (λ b. b < 256) bytes) where
  abbrev fs : ℕ
  fs = volume.tree.fs.number

  abbrev top : ℕ
  top = volume.tree.top

  abbrev node : ℕ
  node = volume.tree.node_type

  abbrev inode : ℕ
  inode = volume.tree.inode_type

  abbrev At : ℕ → StoreState → Type 0
  At b = IsAsideAt T fs node inode top b is_open.few is_open.tree

  abbrev Stay : ℕ → StoreState → StoreState → Type 0
  Stay b = Stays T fs node inode top b is_open.few is_open.tree

  here : At c old
  here = record {
    here = record { store = is_open.kept.store; root = is_open.root; volume = is_open.kept.bytes };
    aside = unnamed_aside T old volume c is_open unnamed;
  }

  abbrev pub Said : StoreState → Type 0
  Said new = IsOpen T new volume × (files_in new volume ≡ files_in old volume) × IsUnnamed new volume c

  said : (new : StoreState) → Stay c old new → Said new
  said new (there, files) =
      let o = stays_open T old new volume is_open there.here files in (o.0, o.1, aside_unnamed new volume c there.aside)

  -- The trim before

  trims : (kept : Option Kept) (asked : Found → Bool) → IsTrimSought (readable old fs) (written_begun (readable old fs) c at) asked kept → (new : StoreState)
      (result : Result (Unit {0}) Fault) → TrimsFirst T fs volume.memory kept old new result → Stay c old new
  trims None asked sought new result does = subst (Stay c old) (sym does.1) (here, refl)
  trims (Some k) asked sought new result does =
      let is = kept_is (readable old fs) c at asked k sought in
      trim_aside T volume.tree c is_open.few is_open.tree (fields_of (readable old fs c)).size volume.memory old new result here
      (subst (λ k. TrimDoes T fs volume.memory k old new result) is does)

  -- A piece

  module _ (middle : StoreState) (there : IsAsideAt T fs node inode top c is_open.few is_open.tree middle) (new : StoreState) (result : Result ℕ Fault)
      (x : Found)
      (is : IsBegunFile (readable middle fs) c at x) where
    at_x : At x.block middle
    at_x = subst (λ b. At b middle) (sym is.block) there

    acts_stay : (acts : List Act) → ((left : StoreState) (ran : Result (Unit {0}) Refusal) → Ran T fs acts middle left ran → Stay x.block middle left) →
        (taken : ℕ) → Writes T fs (record { starts = []; acts = λ begun. acts }) taken middle new result → Stay x.block middle new
    acts_stay acts walk taken writes =
        let d = any_does T fs (record { starts = []; acts = λ begun. acts }) taken middle new result writes in
        does_stays T fs node inode top x.block is_open.few is_open.tree (record { starts = []; acts = λ begun. acts }) middle new d.0
        (λ i d lt. absurd (omega arith)) at_x
        (λ begun s left ran begins now keeps does. subst (λ s. Stay x.block s left) (sym begins.1)
        (walk left ran (subst (λ s. Ran T fs acts s left ran) begins.1 does))) d.1

    abbrev piece : List ℕ
    piece = first_piece at bytes

    abbrev times : Times
    times = times_now volume.memory

    piece_wide : All (λ b. b < 256) piece
    piece_wide = All-take (λ b. b < 256) (part_left at) bytes wide

    abbrev size : Option ℕ
    size = risen x.fields.size (at + length piece)

    abbrev own_act : Act
    own_act = patch_act x.block (content_patch at piece ∷ changes_patch (size_changes size times) ∷ []) None

    content_ran : length bytes ≢ 0 → at < 384 → (left : StoreState) (ran : Result (Unit {0}) Refusal) → Ran T fs (own_act ∷ []) middle left ran →
        Stay x.block middle left
    content_ran some lt left ran does = elim (ran_first T fs own_act [] middle left ran does) [
      | inl same ↦ subst (Stay x.block middle) (sym same) (at_x, refl)
      | inr (entry, next, made, rest) ↦
          let p = piece_is at bytes some is.low in
          let fits = p.fits in
          let left_is : part_left at ≡ 384 - at = ap (λ t. if t then 384 - at else 512 - at % 512) (lt-ltb at 384 lt) in
          subst (Stay x.block middle) (sym rest.1) (content_made T fs node inode top x.block is_open.few is_open.tree middle at_x at piece size times next
          entry (omega arith) piece_wide made).0
    ]

    abbrev leaf : ℕ
    leaf = leaf_block (readable middle fs) x.block (at / 512)

    leaf_ran : length bytes ≢ 0 → 384 ≤ at → (left : StoreState) (ran : Result (Unit {0}) Refusal) →
        Ran T fs (bytes_act leaf (at % 512) piece None ∷ size_acts x.block leaf size times) middle left ran → Stay x.block middle left
    leaf_ran some high left ran does =
        elim (ran_first T fs (bytes_act leaf (at % 512) piece None) (size_acts x.block leaf size times) middle left ran does) [
          | inl same ↦ subst (Stay x.block middle) (sym same) (at_x, refl)
          | inr (entry, next, made, rest) ↦
              let p = piece_is at bytes some is.low in
              let fits = p.fits in
              let low = is.low in
              let left_is : part_left at ≡ 512 - at % 512 = ap (λ t. if t then 384 - at else 512 - at % 512) (le-ltb at 384 high) in
              let one = (leaf_made T fs node inode top x.block is_open.few is_open.tree middle at_x (at / 512) (omega arith) (at % 512) piece None next
              entry (omega arith) piece_wide made).0 in
              stays_then T fs node inode top x.block is_open.few is_open.tree middle next left one
              (size_ran T fs node inode top x.block is_open.few is_open.tree size times leaf next left ran one.0 rest)
        ]

    abbrev Does_so : Step → Type 0
    Does_so step = StepWrites T fs bytes (Ok step) middle new result

    step_stays : (step : Step) → IsStep middle volume at bytes x step → Does_so step → Stay x.block middle new
    step_stays step (inl (none, step_of)) does = subst (Stay x.block middle) (sym (subst Does_so step_of does).1) (at_x, refl)
    step_stays step (inr (some, inl (lt, step_of))) does =
        acts_stay (own_act ∷ []) (content_ran some lt) (length piece) (subst Does_so step_of does)
    step_stays step (inr (some, inr (inl (high, leaf_there, step_of)))) does =
        acts_stay (bytes_act leaf (at % 512) piece None ∷ size_acts x.block leaf size times) (leaf_ran some high) (length piece) (subst Does_so step_of does)
    step_stays step (inr (some, inr (inr (high, none, plan, r, step_of)))) does =
        let d = any_does T fs (run_plan bytes plan) plan.taken middle new result (subst Does_so step_of does) in
        let counts = counts_beside r.count (last_beside (at / 512)) (at / 512) ((at % 512 + length bytes) / 512 + min 1 ((at % 512 + length bytes) % 512))
        r.some r.few in
        run_aside T volume.tree is_open.few is_open.tree is_open.short.0 volume.memory middle x at_x
        (ap (λ b. fields_of (readable middle fs b)) is.block ∙ sym is.fields) at bytes wide is.low r.count r.some counts.0 r.missing new d.0
        (subst (λ p. Does T fs (run_plan bytes p) middle new d.0) r.plan_is d.1)

    pub step_stay : (step : Step) → step_planned middle volume.tree volume.memory at bytes x ≡ Ok step → Does_so step → Stay c middle new
    step_stay step planned does =
        subst (λ b. Stay b middle new) is.block (step_stays step (step_is middle volume at bytes x is.low step planned) does)

  planned_stays : (middle new : StoreState) (result : Result ℕ Fault) → At c middle →
      StepWrites T fs bytes (begun_planned middle volume.tree volume.memory c at bytes) middle new result → Stay c middle new
  planned_stays middle new result there does = by (begun_planned middle volume.tree volume.memory c at bytes) refl does
    where
      by : (r : Result Step Fault) → begun_planned middle volume.tree volume.memory c at bytes ≡ r → StepWrites T fs bytes r middle new result →
          Stay c middle new
      by (Err fault) e does = subst (Stay c middle) (sym does.1) (there, refl)
      by (Ok step) e does =
          let a = then_ok (written_begun (readable middle fs) c at) (step_planned middle volume.tree volume.memory at bytes) step e in
          step_stay middle there new result a.0 (begun_found (readable middle fs) c at a.0 a.1) step a.2 does

  pub begun_written : (new : StoreState) (result : Result ℕ Fault) → WriteBegunDoes T old new volume c at bytes result → Said new
  begun_written new result (kept, sought, inl failed) = by result failed
    where
      by : (r : Result ℕ Fault) → MatchResult r (λ taken. ⊥) (λ fault. TrimsFirst T fs volume.memory kept old new (Err fault)) → Said new
      by (Ok taken) none = absurd none
      by (Err fault) does = said new (trims kept _ sought new (Err fault) does)
  begun_written new result (kept, sought, inr (middle, trimmed, does)) =
      let first = trims kept _ sought middle (Ok tt) trimmed in
      said new (stays_then T fs node inode top c is_open.few is_open.tree old middle new first (planned_stays middle new result first.0 does))
