-- Edits of the blocks of an inode that has no number, one after another: it has none still, and no file changes.
use Rattle.std.proofs.Common.{◌≡◌, ◌≢◌, ◌⊎◌, ℕ, zero, suc, ◌+◌, ◌-◌, ◌/◌, ◌^◌, ◌<◌, ◌≤◌, List, [], ◌∷◌, ◌++◌, length, replicate, take, drop, Option, None, Some, Result, Ok, Err, refl, sym, ◌∙◌, ap, inl, inr, arith, subst, eq-eqb, ne_eqb, if◌then◌else◌, length-append, length-drop, length-take-le}
use Rattle.std.specs.Prelude.{All, IsTrue, MatchResult, flat_map, slice_index, ◌==◌}
use Rattle.std.specs.Int.{byte_at, bytes_low_first}
use Rattle.std.proofs.lemmas.Bool.{cases_eq}
use Rattle.std.proofs.lemmas.List.{length-replicate}
use Rattle.std.proofs.lemmas.List.Elements.{All-append, All-cons, All-drop, All-nil, All-replicate, All-take}
use Rattle.std.proofs.Common.{mod-lt}
use Rattle.store_types.specs.declared.refusal.Refusal.{Refusal}
use Rattle.store_types.specs.declared.refusal.Refusal.TheVariants as refusal
use Rattle.xn_model.specs.Types.{Types}
use Rattle.xn_model.specs.Calls.{Patch, patched, propose_of}
use Rattle.xn_model.specs.Lists.{put}
use Rattle.xn_model.specs.Lives.{StoreState}
use Rattle.xn_model.specs.Root.{word_at}
use Rattle.xn_model.proofs.ForCallers.{not_root}
use Rattle.ffs_model.proofs.ForCallers.{proposed}
use Rattle.treefs_format.specs.Fields.{change_bytes, changes_patch, first_offset}
use Rattle.treefs_format.specs.declared.fields.Change.{Change}
use Rattle.treefs_format.specs.declared.fields.Change.TheVariants.{Ctime, Gid, Links, Mode, Mtime, Parent, Size, Uid}
use Rattle.treefs_format.specs.Inodes.{content_patch, pointers_of}
use Rattle.treefs_format.specs.Paths.{leaf_count}
use Rattle.treefs_format.specs.Templates.{IsTree}
use Rattle.treefs_format.proofs.ForCallers.{content_others, fields_others}
use Rattle.treefs_lookup.specs.Readable.{readable}
use Rattle.treefs_model.specs.Acts.{Act, Made, Ran, bytes_act, changes_act, edit_in, patch_act, wait_act}
use Rattle.treefs_model.specs.Reading.{files_of, leaf_block, pointed}
use Rattle.treefs_model.specs.Trees.{has_pointer}
use Rattle.treefs_model.specs.declared.fault.Fault.{Fault}
use Rattle.treefs_model.proofs.Edited.{gives_ok}
use Rattle.treefs_model.proofs.Trees.{inode_same}
use Rattle.treefs_edits.specs.Plans.{Begins, Does, Plan}
use Rattle.treefs_edits.specs.Written.{written}
use Rattle.treefs_edits.specs.declared.times.Times.{Times}
use Rattle.treefs_byte_plans.specs.Fields.{size_acts, size_changes}
use Rattle.treefs_byte_plans.specs.Sizes.{zero_parts}
use Rattle.treefs_values.specs.Kinds.{kinds}
use Rattle.treefs_values.specs.Parts.{IsChangedAt}
use Rattle.treefs_values.specs.Values.{KeepsBlocks}
use Rattle.treefs_values.specs.Volumes.{IsWholeBlock}
use Rattle.treefs_values.specs.Ways.{SamePointers}
use Rattle.treefs_values.proofs.ForCallers.{IsFineStart, edit_is}
use Rattle.treefs_laws.proofs.AsideBegun.{IsAsideAt, KeepsTree, Stays, all_begun, all_forgotten, none_begun, stays_then}
use Rattle.treefs_laws.proofs.AsideTree.{IsAside, placed_aside, placed_files}
use Rattle.treefs_laws.proofs.BlockAside.{no_pointer}
use Rattle.treefs_laws.proofs.Planned.{waits_write}
use Rattle.treefs_laws.proofs.ReadBlocks.{IsIn}
use Rattle.treefs_laws.proofs.TimesWritten.{gives_none}
use Rattle.treefs_laws.proofs.WaysApart.{steps_way}

-- Bytes of a block

pub whole_put : (m bytes : List ℕ) (at : ℕ) → IsWholeBlock m → All (λ b. b < 256) bytes → at + length bytes ≤ 512 → IsWholeBlock (put m at bytes)
whole_put m bytes at is range fits =
    let long : length m ≡ 512 = is.0 in
    let front = length-take-le at m (omega arith) in
    let back = length-drop (at + length bytes) m in (
      length-append (take at m ++ bytes) (drop (at + length bytes) m)
          ∙ (ap (λ l. l + length (drop (at + length bytes) m)) (length-append (take at m) bytes) ∙ omega arith),
      All-append (λ b. b < 256) (take at m ++ bytes) (drop (at + length bytes) m)
          (All-append (λ b. b < 256) (take at m) bytes (All-take (λ b. b < 256) at m is.1) range)
          (All-drop (λ b. b < 256) (at + length bytes) m is.1),
    )

byte_below : (i n : ℕ) → byte_at i n < 256
byte_below zero n = omega arith
byte_below (suc i) n = mod-lt (n / 256 ^ suc i) (omega arith)

bytes_below : (i k n : ℕ) → All (λ b. b < 256) (bytes_low_first i k n)
bytes_below i zero n = All-nil (λ b. b < 256)
bytes_below i (suc k) n = All-cons (λ b. b < 256) (byte_at i n) (bytes_low_first (suc i) k n) (byte_below i n) (bytes_below (suc i) k n)

change_below : (c : Change) → All (λ b. b < 256) (change_bytes c)
change_below (Mode mode) = bytes_below 0 2 mode
change_below (Links links) = bytes_below 0 4 links
change_below (Uid uid) = bytes_below 0 4 uid
change_below (Gid gid) = bytes_below 0 4 gid
change_below (Size size) = bytes_below 0 8 size
change_below (Mtime time) = bytes_below 0 8 _
change_below (Ctime time) = bytes_below 0 8 _
change_below (Parent parent) = bytes_below 0 4 parent

changes_below : (cs : List Change) → All (λ b. b < 256) (flat_map change_bytes cs)
changes_below [] = All-nil (λ b. b < 256)
changes_below (c ∷ cs) = All-append (λ b. b < 256) (change_bytes c) (flat_map change_bytes cs) (change_below c) (changes_below cs)

pub sizes_whole : (m : List ℕ) (o : Option ℕ) (times : Times) → IsWholeBlock m → IsWholeBlock (patched m (changes_patch (size_changes o times) ∷ []))
sizes_whole m None times is =
    let long : length (flat_map change_bytes (size_changes None times)) ≡ 16 = refl in
    whole_put m (flat_map change_bytes (size_changes None times)) (first_offset (size_changes None times)) is (changes_below (size_changes None times))
    (omega arith)
sizes_whole m (Some size) times is =
    let long : length (flat_map change_bytes (size_changes (Some size) times)) ≡ 24 = refl in
    whole_put m (flat_map change_bytes (size_changes (Some size) times)) (first_offset (size_changes (Some size) times)) is
    (changes_below (size_changes (Some size) times)) (omega arith)

-- Edits that leave pointers as they are

module _ (node inode : ℕ) (type : ℕ → ℕ) (b : ℕ) (old new : ℕ → List ℕ) (changed : IsChangedAt b old new) where
  pub data_keeps : 2 ≢ node → 2 ≢ inode → type b ≡ 2 → SamePointers node inode type old new
  data_keeps ne ne' of_data p o has = elim (cases_eq p b) [
    | inl same ↦ absurd (no_pointer node inode (type b) o ne ne' of_data (subst (λ x. IsTrue (has_pointer node inode (type x) o)) same has))
    | inr other ↦ ap (λ m. if p == 0 then 0 else word_at m o) (changed p other)
  ]

  pub inode_keeps : node ≢ inode → type b ≡ inode → pointers_of (new b) ≡ pointers_of (old b) → SamePointers node inode type old new
  inode_keeps apart of_inode stay p o has = elim (cases_eq p b) [
    | inl same ↦
        let there : IsTrue (has_pointer node inode inode o) = sym (ap (λ t. has_pointer node inode t o) (ap type same ∙ of_inode)) ∙ has in
        ap (λ x. pointed new x o) same
        ∙ (ap (λ w. if b == 0 then 0 else w)
        (sym (ap (λ t. if t then word_at (new b) o else 0) there)
        ∙ (inode_same node inode o (old b) (new b) apart stay ∙ ap (λ t. if t then word_at (old b) o else 0) there))
        ∙ sym (ap (λ x. pointed old x o) same))
    | inr other ↦ ap (λ m. if p == 0 then 0 else word_at m o) (changed p other)
  ]

pub written_here : (act : Act) (content : ℕ → List ℕ) → written act content act.block ≡ patched (content act.block) act.edit.patches
written_here act content = ap (λ t. if t then patched (content act.block) act.edit.patches else content act.block) (eq-eqb act.block act.block refl)

pub written_beside : (act : Act) (content : ℕ → List ℕ) → IsChangedAt act.block content (written act content)
written_beside act content b ne = ap (λ t. if t then patched (content b) act.edit.patches else content b) (ne_eqb b act.block ne)

-- an edit of the inode's block
module _ (node inode top c : ℕ) (type : ℕ → ℕ) (m : ℕ → List ℕ) (a : IsAside node inode top c type m) where
  pub own_placed : (patches : List Patch) (behind : Option ℕ) → pointers_of (patched (m c) patches) ≡ pointers_of (m c) → IsWholeBlock (patched (m c) patches) →
      IsAside node inode top c type (written (patch_act c patches behind) m) × (files_of (written (patch_act c patches behind) m) top ≡ files_of m top)
  own_placed patches behind stay whole =
      let act : Act = patch_act c patches behind in
      let here : written act m c ≡ patched (m c) patches = written_here act m in
      let keeps = inode_keeps node inode type c m (written act m) (written_beside act m) a.volume.types.0 a.is_block.typed (ap pointers_of here ∙ stay) in
      let whole_there = subst IsWholeBlock (sym here) whole in (
        placed_aside node inode top c type m (written act m) a c (inl refl) (written_beside act m) keeps whole_there,
        placed_files node inode top c type m (written act m) a c (inl refl) (written_beside act m) keeps whole_there,
      )

  pub whole_own : IsWholeBlock (m c)
  whole_own = a.volume.blocks c (λ z. a.volume.some_types.1 (sym a.is_block.typed ∙ z))

pub sizes_adjoin : (m : List ℕ) → IsWholeBlock m → (o : Option ℕ) (times : Times) →
    pointers_of (patched m (changes_patch (size_changes o times) ∷ [])) ≡ pointers_of m
sizes_adjoin m whole None times = (fields_others m (size_changes None times) whole.0 refl).0
sizes_adjoin m whole (Some size) times = (fields_others m (size_changes (Some size) times) whole.0 refl).0

-- the first of some edits is refused, or made
pub ran_first : (T : Types) (fs : ℕ) (act : Act) (acts : List Act) (s new : StoreState) (result : Result (Unit {0}) Refusal) →
    Ran T fs (act ∷ acts) s new result →
    (new ≡ s) ⊎ ((entry : ℕ) × (middle : StoreState) × Made T fs act s middle (Ok entry) × Ran T fs acts middle new result)
ran_first T fs act acts s new result (inr made) = inr made
ran_first T fs act acts s new result (inl refused) = by result refused
  where
    by : (r : Result (Unit {0}) Refusal) → MatchResult r (λ x. ⊥) (λ refusal. Made T fs act s new (Err refusal)) →
        (new ≡ s) ⊎ ((entry : ℕ) × (middle : StoreState) × Made T fs act s middle (Ok entry) × Ran T fs acts middle new result)
    by (Ok done) none = absurd none
    by (Err reason) made = inl (gives_none (propose_of T s fs act.block (edit_in act s)) s new reason made)

module _ (T : Types) (fs node inode top c : ℕ) (few : fs < 32) (tree : IsTree T node inode) where
  abbrev At : StoreState → Type 0
  At = IsAsideAt T fs node inode top c few tree

  abbrev Stay : StoreState → StoreState → Type 0
  Stay = Stays T fs node inode top c few tree

  -- a plan is carried out, or refused
  pub does_stays : (plan : Plan) (old new : StoreState) (result : Result (Unit {0}) Fault) → All (IsFineStart T fs node inode top few tree) plan.starts →
      At old →
      ((begun : List ℕ) (middle left : StoreState) (ran : Result (Unit {0}) Refusal) → Begins T fs plan.starts [] old middle (Ok begun) → At middle →
      KeepsTree T fs node inode top c few tree old middle → Ran T fs (plan.acts begun) middle left ran → Stay middle left) → Does T fs plan old new result → Stay old new
  does_stays plan old new (Ok done) fine at walk (inl none) = absurd none
  does_stays plan old new (Err fault) fine at walk (inl (inl lacks)) = subst (Stay old) (sym lacks.1) (at, refl)
  does_stays plan old new (Err fault) fine at walk (inl (inr begins)) =
      none_begun T fs node inode top c few tree plan.starts [] old new fault fine at (All-nil (λ b. b ≢ c)) begins
  does_stays plan old new (Ok done) fine at walk (inr (begun, middle, begins, ran)) =
      let first = all_begun T fs node inode top c few tree plan.starts [] begun old middle fine at (All-nil (λ b. b ≢ c)) begins in
      stays_then T fs node inode top c few tree old middle new first.0 (walk begun middle new (Ok done) begins first.0.0 first.2 ran)
  does_stays plan old new (Err fault) fine at walk (inr (begun, middle, begins, (left, reason, is, ran, then_is))) =
      let first = all_begun T fs node inode top c few tree plan.starts [] begun old middle fine at (All-nil (λ b. b ≢ c)) begins in
      let next = left_so first.0 first.2 ran in
      let last = all_forgotten T fs node inode top c few tree begun left next.0 first.1 in
      subst (Stay old) (sym then_is) (last.0, last.1 ∙ next.1)
    where
      left_so : Stay old middle → KeepsTree T fs node inode top c few tree old middle → Ran T fs (plan.acts begun) middle left (Err reason) ⊎ ((reason ≡ refusal.NoMemory) × (left ≡ middle)) → Stay old left
      left_so first keeps (inl ran) =
          stays_then T fs node inode top c few tree old middle left first (walk begun middle left (Err reason) begins first.0 keeps ran)
      left_so first keeps (inr none) = subst (Stay old) (sym none.1) first

  -- One edit

  module _ (s : StoreState) (at : IsAsideAt T fs node inode top c few tree s) where
    abbrev content : ℕ → List ℕ
    content = readable s fs

    abbrev type : ℕ → ℕ
    type = kinds s fs

    abbrev pub IsDone : Act → StoreState → Type 0
    IsDone act new = Stay s new × (readable new fs ≡ written act content) × (kinds new fs ≡ type)

    -- what is read then is aside still
    pub made_aside : (act : Act) (new : StoreState) (entry : ℕ) → KeepsBlocks act → Made T fs act s new (Ok entry) →
        IsAside node inode top c type (written act content) → files_of (written act content) top ≡ files_of content top → IsDone act new
    made_aside act new entry plain made aside files =
        let e = edit_is T fs act s new entry at.here.store plain made in
        let now : IsAside node inode top c (kinds new fs) (readable new fs) =
        subst (λ t. IsAside node inode top c t (readable new fs)) (sym e.types) (subst (IsAside node inode top c type) (sym e.reads) aside) in (
          (
            record { here = record { store = e.store; root = e.root ∙ at.here.root; volume = now.volume }; aside = now },
            ap (λ m. files_of m top) e.reads ∙ files,
          ),
          e.reads,
          e.types,
        )

    -- block 0 is no file system's
    edited_there : (act : Act) (new : StoreState) (entry : ℕ) → Made T fs act s new (Ok entry) → act.block ≢ 0
    edited_there act new entry made =
        let p = proposed T s new fs act.block (edit_in act s) entry (gives_ok (propose_of T s fs act.block (edit_in act s)) s new entry made) in
        not_root T s at.here.store fs act.block p.life p.own.alive p.own.mine

    made_placed : (act : Act) (new : StoreState) (entry : ℕ) → KeepsBlocks act → Made T fs act s new (Ok entry) → IsIn content c act.block →
        SamePointers node inode type content (written act content) → IsWholeBlock (written act content act.block) → IsDone act new
    made_placed act new entry plain made is_in keeps whole =
        made_aside act new entry plain made
        (placed_aside node inode top c type content (written act content) at.aside act.block is_in (written_beside act content) keeps whole)
        (placed_files node inode top c type content (written act content) at.aside act.block is_in (written_beside act content) keeps whole)

    pub own_whole : IsWholeBlock (content c)
    own_whole = at.aside.volume.blocks c (λ z. at.aside.volume.some_types.1 (sym at.aside.is_block.typed ∙ z))

    -- of its own block
    pub own_made : (patches : List Patch) (behind : Option ℕ) (new : StoreState) (entry : ℕ) → Made T fs (patch_act c patches behind) s new (Ok entry) →
        pointers_of (patched (content c) patches) ≡ pointers_of (content c) → IsWholeBlock (patched (content c) patches) →
        IsDone (patch_act c patches behind) new
    own_made patches behind new entry made stay whole =
        let placed = own_placed node inode top c type content at.aside patches behind stay whole in
        made_aside (patch_act c patches behind) new entry refl made placed.0 placed.1

    adjoin : (o : Option ℕ) (times : Times) → pointers_of (patched (content c) (changes_patch (size_changes o times) ∷ [])) ≡ pointers_of (content c)
    adjoin = sizes_adjoin (content c) own_whole

    -- of its size and its times
    pub size_made : (o : Option ℕ) (times : Times) (behind : Option ℕ) (new : StoreState) (entry : ℕ) →
        Made T fs (changes_act c (size_changes o times ∷ []) behind) s new (Ok entry) → IsDone (changes_act c (size_changes o times ∷ []) behind) new
    size_made o times behind new entry made =
        own_made (changes_patch (size_changes o times) ∷ []) behind new entry made (adjoin o times) (sizes_whole (content c) o times own_whole)

    -- of its content, and of them
    pub content_made : (at_byte : ℕ) (bytes : List ℕ) (o : Option ℕ) (times : Times) (new : StoreState) (entry : ℕ) → at_byte + length bytes ≤ 384 →
        All (λ b. b < 256) bytes →
        Made T fs (patch_act c (content_patch at_byte bytes ∷ changes_patch (size_changes o times) ∷ []) None) s new (Ok entry) →
        IsDone (patch_act c (content_patch at_byte bytes ∷ changes_patch (size_changes o times) ∷ []) None) new
    content_made at_byte bytes o times new entry fits range made =
        own_made (content_patch at_byte bytes ∷ changes_patch (size_changes o times) ∷ []) None new entry made
        (sizes_adjoin m m_whole o times ∙ (content_others (content c) bytes at_byte own_whole.0 fits).1) (sizes_whole m o times m_whole)
      where
        m : List ℕ
        m = patched (content c) (content_patch at_byte bytes ∷ [])

        m_whole : IsWholeBlock m
        m_whole = whole_put (content c) bytes (128 + at_byte) own_whole range (omega arith)

    -- the bytes of its content from one on become 0
    pub own_blanked : (at_byte : ℕ) → at_byte < 384 → (new : StoreState) (entry : ℕ) →
        Made T fs (patch_act c (zero_parts (Some (128 + at_byte))) None) s new (Ok entry) → IsDone (patch_act c (zero_parts (Some (128 + at_byte))) None) new
    own_blanked at_byte low new entry made =
        own_made (zero_parts (Some (128 + at_byte))) None new entry made
        (content_others (content c) (replicate (512 - (128 + at_byte)) 0) at_byte own_whole.0 (let l = long in omega arith)).1
        (whole_put (content c) (replicate (512 - (128 + at_byte)) 0) (128 + at_byte) own_whole
        (All-replicate (λ b. b < 256) (512 - (128 + at_byte)) 0 (omega arith)) (let l = long in omega arith))
      where
        long : length (replicate {A = ℕ} (512 - (128 + at_byte)) 0) ≡ 512 - (128 + at_byte)
        long = length-replicate (512 - (128 + at_byte)) 0

    -- of a leaf
    pub leaf_made : (i : ℕ) → i < leaf_count → (place : ℕ) (bytes : List ℕ) (behind : Option ℕ) (new : StoreState)
        (entry : ℕ) → place + length bytes ≤ 512 → All (λ b. b < 256) bytes →
        Made T fs (bytes_act (leaf_block content c i) place bytes behind) s new (Ok entry) → IsDone (bytes_act (leaf_block content c i) place bytes behind) new
    leaf_made i low place bytes behind new entry fits range made =
        let leaf : ℕ = leaf_block content c i in
        let act : Act = bytes_act leaf place bytes behind in
        let there : leaf ≢ 0 = edited_there act new entry made in
        let of_data = at.aside.leaves i low there in
        let here : written act content leaf ≡ put (content leaf) place bytes = written_here act content in
        let whole = at.aside.volume.blocks leaf (λ z. absurd (cc (sym of_data ∙ z))) in
        made_placed act new entry refl made (inr (0, _, steps_way i, refl))
        (data_keeps node inode type leaf content (written act content) (written_beside act content) at.aside.volume.types.1 at.aside.volume.types.2 of_data)
        (subst IsWholeBlock (sym here) (whole_put (content leaf) bytes place whole range fits))

    -- a wait writes nothing
    pub wait_made : (block first other : ℕ) (new : StoreState) (entry : ℕ) → first ≡ slice_index (content block) 0 → 0 < length (content block) →
        Made T fs (wait_act block (first ∷ []) other) s new (Ok entry) → Stay s new × (readable new fs ≡ content) × (kinds new fs ≡ type)
    wait_made block first other new entry is some made =
        let act : Act = wait_act block (first ∷ []) other in
        let same : written act content ≡ content = waits_write content block first is some (other ∷ []) [] in
        let done = made_aside act new entry refl made (subst (IsAside node inode top c type) (sym same) at.aside) (ap (λ m. files_of m top) same) in
        (done.0, done.1 ∙ same, done.2)

  -- the size rises behind another block, if it does
  pub size_ran : (o : Option ℕ) (times : Times) (other : ℕ) (s new : StoreState) (result : Result (Unit {0}) Refusal) → At s →
      Ran T fs (size_acts c other o times) s new result → Stay s new
  size_ran None times other s new result at ran = subst (Stay s) (sym ran.1) (at, refl)
  size_ran (Some size) times other s new result at ran =
      elim (ran_first T fs (changes_act c (size_changes (Some size) times ∷ []) (Some other)) [] s new result ran) [
        | inl same ↦ subst (Stay s) (sym same) (at, refl)
        | inr (entry, middle, made, rest) ↦
            subst (Stay s) (sym rest.1) (size_made s at (Some size) times (Some other) middle entry made).0
      ]
