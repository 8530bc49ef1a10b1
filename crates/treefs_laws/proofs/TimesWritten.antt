-- Times that were only touched are written: no file changes, and no pointer.
use Rattle.std.proofs.Common.{◌≡◌, ◌≢◌, ◌⊎◌, ℕ, Bool, true, false, List, [], ◌∷◌, Option, None, Some, Result, Ok, Err, refl, sym, ◌∙◌, ap, inl, inr, subst, if◌then◌else◌}
use Rattle.std.specs.Prelude.{All, IsTrue, MatchResult, fold, nat_lt, option_map}
use Rattle.std.specs.Option.{ok_or}
use Rattle.std.proofs.lemmas.Bool.{cases_eq, ne_eqb}
use Rattle.std.proofs.lemmas.List.Elements.{All-cons, All-head, All-nil, All-tail}
use Rattle.xn_model.specs.Types.{Types}
use Rattle.xn_model.specs.Lives.{StoreState}
use Rattle.xn_model.specs.PendingIn.{pending_in_of}
use Rattle.xn_model.specs.Calls.{patched, propose_of}
use Rattle.xn_model.specs.Results.{Gives}
use Rattle.store_types.specs.declared.refusal.Refusal.{Refusal}
use Rattle.treefs_format.specs.Fields.{IsInRange, changed, fields_of}
use Rattle.treefs_format.specs.declared.fields.Change.TheVariants.{Ctime, Mtime}
use Rattle.treefs_format.specs.declared.fields.Fields.{Fields}
use Rattle.treefs_model.specs.Acts.{Act, Ran, changes_act, edit_in}
use Rattle.treefs_model.specs.Changes.{moved_to}
use Rattle.treefs_model.specs.Files.{Content, Files, Inode, and_then, changed_at}
use Rattle.treefs_model.specs.Reading.{files_of, inode_with}
use Rattle.treefs_model.specs.Trees.{has_pointer}
use Rattle.treefs_model.specs.declared.fault.Fault.{Fault}
use Rattle.treefs_model.specs.declared.fault.Fault.TheVariants.{Full, NoEntry}
use Rattle.treefs_lookup.specs.Inodes.{inode_found}
use Rattle.treefs_lookup.specs.Readable.{readable}
use Rattle.treefs_lookup.specs.declared.inodes.Found.{Found}
use Rattle.treefs_edits.specs.Kinds.{time_parts}
use Rattle.treefs_edits.specs.Plans.{Does, forgotten}
use Rattle.treefs_edits.specs.Written.{written}
use Rattle.treefs_edits.specs.declared.memory.Touched.{Touched}
use Rattle.treefs_edits.specs.declared.times.Times.{Times}
use Rattle.treefs_edits.specs.declared.tree.Tree.{Tree}
use Rattle.treefs_byte_plans.specs.Attributes.{attributes_act}
use Rattle.treefs_byte_plans.specs.declared.attributes.AttributesPlan.{AttributesPlan}
use Rattle.treefs.specs.Trimming.{DoesIfAny}
use Rattle.treefs.specs.WritingTimes.{WriteTimesDoes, WritesOne, WritesTimes, plan_of_times, times_found, times_planned}
use Rattle.treefs.specs.declared.volume.Volume.{Volume}
use Rattle.treefs_values.specs.Kinds.{kinds}
use Rattle.treefs_values.specs.Values.{AreChanges, KeepsBlocks, found_value}
use Rattle.treefs_values.specs.Volumes.{IsVolume}
use Rattle.treefs_values.specs.Ways.{SamePointers, block_numbered}
use Rattle.treefs_values.proofs.ForCallers.{IsAt, IsFound, acts_read, changes_keep, fields_changed, found_inode, inodes_found, numbered_same}
use Rattle.treefs_laws.specs.Kept.{IsKept, files_in}
use Rattle.treefs_laws.specs.Open.{IsOpen}
use Rattle.treefs_laws.specs.Seen.{AreTimes, AreTouchedOnce, IsSession, seen_files, seen_inode, with_times}
use Rattle.treefs_laws.proofs.Planned.{ran_acts, same_done}
use Rattle.treefs_laws.proofs.Seeing.{seen_changed, unchanged}
use Rattle.treefs_laws.proofs.StillOpen.{ran_root}
use Rattle.treefs_laws.proofs.Touching.{not_there, read_behind, read_here}

-- What is refused

pub gives_none : {A : Type 0} (r : Result (A × StoreState) Refusal) (old new : StoreState) (reason : Refusal) → Gives r old new (Err reason) → new ≡ old
gives_none (Ok made) old new reason gives = elim gives [
  | inl done ↦ absurd (cc done.0)
  | inr none ↦ none.1
]
gives_none (Err other) old new reason gives = gives.1

-- a plan that begins no block and makes one act is refused as a whole
module _ (T : Types) (fs : ℕ) (act : Act) (old new : StoreState) (fault : Fault) where
  of_begun : (begun : List ℕ) → ◌≡◌ {A = Result (List ℕ) Fault} (Ok begun) (Ok []) → (middle left : StoreState) → middle ≡ old → left ≡ middle →
      new ≡ forgotten T fs begun left → new ≡ old
  of_begun [] none middle left first same is = is ∙ (same ∙ first)
  of_begun (b ∷ begun) none middle left first same is = absurd (cc (same_done (b ∷ begun) [] none))

  left_alone : (middle left : StoreState) (reason : Refusal) → Ran T fs (act ∷ []) middle left (Err reason) → left ≡ middle
  left_alone middle left reason ran = elim ran [
    | inl made ↦ gives_none (propose_of T middle fs act.block (edit_in act middle)) middle left reason made
    | inr r ↦ absurd (cc r.3.0)
  ]

  pub refused_whole : Does T fs (record { starts = []; acts = λ begun. act ∷ [] }) old new (Err fault) → new ≡ old
  refused_whole does = elim does [
    | inl none ↦ elim none [
      | inl lacks ↦ lacks.1
      | inr begins ↦ absurd (cc begins.0)
    ]
    | inr r ↦
        let keeps = r.3 in
        of_begun r.0 r.2.0 r.1 keeps.0 r.2.1
        (elim keeps.3 [
          | inl ran ↦ left_alone r.1 keeps.0 keeps.1 ran
          | inr none ↦ none.1
        ]) keeps.4
  ]

-- What is written

-- both times, and nothing else
module _ (was : Fields) (times : Times) where
  abbrev now : Fields
  now = fold (fold changed) was (time_parts (Some times))

  times_fine : AreTimes times → All AreChanges (time_parts (Some times))
  times_fine fit =
      All-cons AreChanges (Mtime times.mtime ∷ Ctime times.ctime ∷ []) []
      (refl, All-cons IsInRange (Mtime times.mtime) (Ctime times.ctime ∷ []) fit.0 (All-cons IsInRange (Ctime times.ctime) [] fit.1 (All-nil IsInRange)))
      (All-nil AreChanges)

  times_make : (content : Content) → moved_to was.parent content ≡ content → inode_with now (moved_to now.parent content) ≡ with_times times (inode_with was content)
  times_make content stands = ap (inode_with now) stands

-- the inode of the first touch has its times then
module _ (touch : Touched) (rest : List Touched) (files : Files) (lacks : All (λ other. other.number ≢ touch.number) rest) where
  abbrev n : ℕ
  n = touch.number

  pub written_seen : seen_files rest (changed_at files n (with_times touch.times)) ≡ seen_files (touch ∷ rest) files
  written_seen =
      seen_changed (touch ∷ rest) rest files n (with_times touch.times) (λ inode. inode)
      (λ m times ne. sym (read_behind touch rest m times (λ same. ne (sym same))))
      (λ inode there.
      ap (λ (t : Times). record inode { mtime = t.mtime; ctime = t.ctime })
      (not_there n touch.times touch.times rest lacks ∙ sym (read_here touch rest n (record { mtime = inode.mtime; ctime = inode.ctime }) refl)))
      ∙ (λ j m. unchanged (touch ∷ rest) (seen_files (touch ∷ rest) files) n touch.times m j)

  -- where it is not there, nothing was read of it
  pub none_seen : files n ≡ None → seen_files rest files ≡ seen_files (touch ∷ rest) files
  unfolding seen_files
  none_seen none = λ j m. at m (cases_eq m n) j
    where
      by : (m : ℕ) → m ≢ n → (o : Option Inode) → option_map (seen_inode rest m) o ≡ option_map (seen_inode (touch ∷ rest) m) o
      by m ne None = refl
      by m ne (Some inode) =
          ap (λ (t : Times). Some (record inode { mtime = t.mtime; ctime = t.ctime }))
          (sym (read_behind touch rest m (record { mtime = inode.mtime; ctime = inode.ctime }) (λ same. ne (sym same))))

      at : (m : ℕ) → (m ≡ n) ⊎ (m ≢ n) → seen_files rest files m ≡ seen_files (touch ∷ rest) files m
      at m (inl is) =
          let here = ap files is ∙ none in
          ap (option_map (seen_inode rest m)) here ∙ sym (ap (option_map (seen_inode (touch ∷ rest) m)) here)
      at m (inr ne) = by m ne (files m)

module _ (T : Types) (tree : Tree) where
  abbrev fs : ℕ
  fs = tree.fs.number

  abbrev top : ℕ
  top = tree.top

  abbrev At : StoreState → Type 0
  At s = IsAt T fs tree.node_type tree.inode_type top s

  abbrev files_at : StoreState → Files
  files_at s = files_of (readable s fs) top

  abbrev pub HasNoNumber : StoreState → ℕ → Type 0
  HasNoNumber s b = (m : ℕ) → block_numbered (readable s fs) top m ≢ b

  -- no type changes, and no pointer, and no block but those of inodes with numbers
  abbrev pub IsSteady : StoreState → StoreState → Type 0
  IsSteady old new = (kinds new fs ≡ kinds old fs) × SamePointers tree.node_type tree.inode_type (kinds old fs) (readable old fs) (readable new fs)
      × ((b : ℕ) → HasNoNumber old b → readable new fs b ≡ readable old fs b)

  steady_same : (s : StoreState) → IsSteady s s
  steady_same s = (refl, λ p o has. refl, λ b other. refl)

  steady_then : (old middle new : StoreState) → At old → IsSteady old middle → IsSteady middle new → IsSteady old new
  steady_then old middle new here first second = (
    second.0 ∙ first.0,
    λ p o has. second.1 p o (subst (λ t. IsTrue (has_pointer tree.node_type tree.inode_type (t p) o)) (sym first.0) has) ∙ first.1 p o has,
    λ b other. second.2 b (λ m same. other m (sym (numbers m) ∙ same)) ∙ first.2 b other,
  )
    where
      numbers : (m : ℕ) → block_numbered (readable middle fs) top m ≡ block_numbered (readable old fs) top m
      numbers = numbered_same tree.node_type tree.inode_type top (kinds old fs) (readable old fs) (readable middle fs) here.volume.typed first.1

  -- the times of one inode are written
  module _ (touch : Touched) (rest : List Touched) (old new : StoreState) (here : At old) (fit : AreTimes touch.times)
      (lacks : All (λ other. other.number ≢ touch.number) rest) where
    abbrev Said : Type 0
    Said = At new × (seen_files rest (files_at new) ≡ seen_files (touch ∷ rest) (files_at old)) × IsSteady old new

    module _ (x : Found) (x_is : inode_found (readable old fs) top touch.number ≡ Ok x) where
      is : IsFound (readable old fs) top touch.number x
      is = found_inode (readable old fs) top touch.number x x_is

      abbrev c : ℕ
      c = block_numbered (readable old fs) top touch.number

      abbrev act : Act
      act = changes_act c (time_parts (Some touch.times)) None

      made : IsVolume tree.node_type tree.inode_type (kinds old fs) (written act (readable old fs)) top
          × (files_of (written act (readable old fs)) top ≡ changed_at (files_at old) touch.number (with_times touch.times))
      made =
          fields_changed tree.node_type tree.inode_type top (kinds old fs) (readable old fs) here.volume touch.number is.number is.there (time_parts (Some touch.times))
          (times_fine (fields_of (readable old fs c)) touch.times fit) None refl refl (with_times touch.times) (times_make (fields_of (readable old fs c)) touch.times)

      keeps : SamePointers tree.node_type tree.inode_type (kinds old fs) (readable old fs) (written act (readable old fs))
      keeps =
          changes_keep tree.node_type tree.inode_type top (kinds old fs) (readable old fs) here.volume touch.number is.number is.there
          (time_parts (Some touch.times)) (times_fine (fields_of (readable old fs c)) touch.times fit) None

      others : (b : ℕ) → HasNoNumber old b → written act (readable old fs) b ≡ readable old fs b
      others b other =
          ap (λ t. if t then patched (readable old fs b) act.edit.patches else readable old fs b) (ne_eqb b c (λ same. other touch.number (sym same)))

      keep : All KeepsBlocks (act ∷ [])
      keep = All-cons KeepsBlocks act [] refl (All-nil KeepsBlocks)

      acted : Ran T fs (act ∷ []) old new (Ok tt) → Said
      acted ran =
          let read = acts_read T fs (act ∷ []) old new here.store keep ran in (
            record {
              store = read.0;
              root = ran_root T fs (act ∷ []) old new here.store keep ran ∙ here.root;
              volume = subst (λ t. IsVolume tree.node_type tree.inode_type t (readable new fs) top) (sym read.2)
                  (subst (λ m. IsVolume tree.node_type tree.inode_type (kinds old fs) m top) (sym read.1) made.0);
            },
            ap (λ m. seen_files rest (files_of m top)) read.1 ∙ (ap (seen_files rest) made.1 ∙ written_seen touch rest (files_at old) lacks),
            (
              read.2,
              subst (SamePointers tree.node_type tree.inode_type (kinds old fs) (readable old fs)) (sym read.1) keeps,
              λ b other. ap (λ m. m b) read.1 ∙ others b other,
            ),
          )

      abbrev plan : AttributesPlan
      plan = record { block = x.block; mode = None; owner = None; times = touch.times }

      in_room : (b : Bool) → DoesIfAny T fs (plan_of_times (if b then Ok (Some plan) else Err Full)) old new (Ok tt) → Said
      in_room true does = acted (subst (λ b. Ran T fs (changes_act b (time_parts (Some touch.times)) None ∷ []) old new (Ok tt)) is.block
          (ran_acts T fs (attributes_act plan ∷ []) old new does))
      in_room false does = absurd (cc does.0)

    none_there : (fault : Fault) → inode_found (readable old fs) top touch.number ≡ Err fault → files_at old touch.number ≡ None
    none_there fault is =
        by (files_at old touch.number)
        (sym (inodes_found (readable old fs) top touch.number) ∙ ap (λ r. and_then r (λ (x : Found). Ok (found_value (readable old fs) top x))) is)
      where
        by : (o : Option Inode) → ok_or o NoEntry ≡ Err fault → o ≡ None
        by None e = refl
        by (Some inode) e = absurd (cc e)

    pub one_written : WritesOne T tree touch old new (Ok tt) → Said
    one_written does = by (inode_found (readable old fs) top touch.number) refl does
      where
        by : (r : Result Found Fault) → inode_found (readable old fs) top touch.number ≡ r → DoesIfAny T fs (plan_of_times (times_found old touch.times r)) old new (Ok tt) → Said
        by (Ok x) is does = in_room x is (nat_lt (pending_in_of old x.block) 64) does
        by (Err fault) is does =
            subst (λ s. At s × (seen_files rest (files_at s) ≡ seen_files (touch ∷ rest) (files_at old)) × IsSteady old s) (sym does.1)
            (here, none_seen touch rest (files_at old) lacks (none_there fault is), steady_same old)

  pub one_refused : (touch : Touched) (old new : StoreState) (fault : Fault) → WritesOne T tree touch old new (Err fault) → new ≡ old
  one_refused touch old new fault does = by (times_planned old tree touch) does
    where
      by : (r : Result (Option AttributesPlan) Fault) → DoesIfAny T fs (plan_of_times r) old new (Err fault) → new ≡ old
      by (Ok None) does = absurd (cc does.0)
      by (Ok (Some plan)) does = refused_whole T fs (attributes_act plan) old new fault does
      by (Err other) does = does.1

  -- one inode after another

  abbrev pub IsWritten : List Touched → List Touched → StoreState → StoreState → Type 0
  IsWritten touched left old new = At new × AreTouchedOnce left × (seen_files left (files_at new) ≡ seen_files touched (files_at old)) × IsSteady old new

  pub all_times : (touched left : List Touched) (old new : StoreState) (result : Result (Unit {0}) Fault) → At old → AreTouchedOnce touched →
      All (λ touch. AreTimes touch.times) touched → WritesTimes T tree touched left old new result → IsWritten touched left old new
  all_times [] left old new result here once fit (done, same, none) =
      subst (λ s. IsWritten [] left old s) (sym same) (here, subst AreTouchedOnce (sym none) tt, ap (λ l. seen_files l (files_at old)) none, steady_same old)
  all_times (touch ∷ rest) left old new result here once fit writes = elim writes [
    | inl r ↦ refused result r.0 r.1
    | inr r ↦
        let first = one_written touch rest old r.0 here (All-head (λ touch. AreTimes touch.times) touch rest fit) once.0 r.1 in
        let others = all_times rest left r.0 new result first.0 once.1 (All-tail (λ touch. AreTimes touch.times) touch rest fit) r.2 in
        (others.0, others.1, others.2 ∙ first.1, steady_then old r.0 new here first.2 others.3)
  ]
    where
      refused : (result : Result (Unit {0}) Fault) → MatchResult result (λ done. ⊥) (λ fault. WritesOne T tree touch old new (Err fault)) → left ≡ touch ∷ rest →
          IsWritten (touch ∷ rest) left old new
      refused (Ok done) none same = absurd none
      refused (Err fault) does same =
          subst (λ l. IsWritten (touch ∷ rest) l old new) (sym same) (subst (λ s. IsWritten (touch ∷ rest) (touch ∷ rest) old s) (sym (one_refused touch old new fault does)) (here, once, refl, steady_same old))

  -- those that are left were touched
  pub all_left : (P : Touched → Type 0) (touched left : List Touched) (old new : StoreState) (result : Result (Unit {0}) Fault) →
      WritesTimes T tree touched left old new result → All P touched → All P left
  all_left P [] left old new result (done, same, none) all = subst (All P) (sym none) all
  all_left P (touch ∷ rest) left old new result writes all = elim writes [
    | inl r ↦ subst (All P) (sym r.1) all
    | inr r ↦ all_left P rest left r.0 new result r.2 (All-tail P touch rest all)
  ]

-- The call

module _ (T : Types) (state state' : StoreState) (volume volume' : Volume) (is_open : IsOpen T state volume) where
  abbrev later : List Touched → Volume
  later left = record volume { memory = record volume.memory { touched = left } }

  abbrev Written : List Touched → Type 0
  Written left = IsWritten T volume.tree volume.memory.touched left state state'

  module _ (result : Result (Unit {0}) Fault) where
    times_done : (left : List Touched) → WritesTimes T volume.tree volume.memory.touched left state state' result → Written left
    times_done left writes =
        all_times T volume.tree volume.memory.touched left state state' result
        (record { store = is_open.kept.store; root = is_open.root; volume = is_open.kept.bytes }) is_open.kept.session.once is_open.kept.session.times writes

    -- no type changes, and no pointer
    pub times_steady : WriteTimesDoes T state state' volume volume' result → IsSteady T volume.tree state state' × (volume'.tree ≡ volume.tree)
    times_steady (left, writes, is) = ((times_done left writes).3, ap (λ (v : Volume). v.tree) is)

  pub times_said : (result : Result (Unit {0}) Fault) → WriteTimesDoes T state state' volume volume' result → IsOpen T state' volume' × (files_in state' volume' ≡ files_in state volume)
  times_said result (left, writes, is) = subst (λ v. IsOpen T state' v × (files_in state' v ≡ files_in state volume)) (sym is) (whole, done.2)
    where
      kept : IsKept T state volume
      kept = is_open.kept

      done : Written left
      done = times_done result left writes

      session : IsSession (later left).memory
      session = record {
        once = done.1;
        clock = kept.session.clock;
        times = all_left T volume.tree (λ touch. AreTimes touch.times) volume.memory.touched left state state' result writes kept.session.times;
      }

      whole : IsOpen T state' (later left)
      whole = record {
        kept = record { store = done.0.store; bytes = done.0.volume; session = session };
        few = is_open.few;
        tree = is_open.tree;
        short = is_open.short;
        root = done.0.root;
        touched = subst (λ (f : Files). All (λ (touch : Touched). f touch.number ≢ None) left) (sym done.2)
            (all_left T volume.tree (λ touch. files_in state volume touch.number ≢ None) volume.memory.touched left state state' result writes is_open.touched);
      }
