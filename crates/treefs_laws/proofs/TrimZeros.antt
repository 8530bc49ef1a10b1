-- Once a trim is done, all bytes past the size of a file are 0.
use Rattle.std.proofs.Common.{◌≡◌, ◌≢◌, ◌⊎◌, ℕ, zero, suc, ◌+◌, ◌-◌, ◌/◌, ◌%◌, ◌<◌, ◌≤◌, Bool, true, false, ◌||◌, List, [], ◌∷◌, ◌++◌, Option, None, Some, Result, Ok, Err, refl, sym, ◌∙◌, ap, inl, inr, subst, arith, if◌then◌else◌}
use Rattle.std.specs.Prelude.{MatchBool, MatchOption, flat_map, length, min, option_map, slice_index, ◌==◌}
use Rattle.std.specs.List.{range_with_len}
use Rattle.std.proofs.lemmas.Bool.{cases_eq, cases_lt, eq-eqb, eqb-true, le-ltb, le-leb, lt-leb, lt-ltb}
use Rattle.xn_model.specs.Types.{Types}
use Rattle.xn_model.specs.Lists.{has_number}
use Rattle.xn_model.specs.Lives.{StoreState}
use Rattle.treefs_format.specs.Leaves.{greatest_size, leaves_kept}
use Rattle.treefs_format.specs.Paths.{height_of, leaf_count, leaf_offset, place_in_tree, tree_steps}
use Rattle.treefs_format.specs.declared.kind.Kind.{Kind}
use Rattle.treefs_format.specs.declared.kind.Kind.TheVariants as kind
use Rattle.treefs_model.specs.Reading.{block_at, byte_of, leaf_block, leaf_byte, pointed}
use Rattle.treefs_model.specs.declared.fault.Fault.{Fault}
use Rattle.treefs_model.specs.declared.fault.Fault.TheVariants.{Full}
use Rattle.treefs_lookup.specs.Bytes.{file_end, part_left}
use Rattle.treefs_lookup.specs.Readable.{readable}
use Rattle.treefs_lookup.specs.Trimmed.{IsCut}
use Rattle.treefs_edits.specs.Memories.{Memory}
use Rattle.treefs_edits.specs.Rooms.{has_room}
use Rattle.treefs_edits.specs.declared.tree.Tree.{Tree}
use Rattle.treefs_byte_plans.specs.Cuts.{next_cut}
use Rattle.treefs_byte_plans.specs.Drops.{IsCutPlanned, IsDropPlanned}
use Rattle.treefs_byte_plans.specs.Kept.{kept_up_to}
use Rattle.treefs_byte_plans.specs.Roots.{HasNoRoots, IsRootsPlanned, blocks_of, leaf_pointers, pointer_if, pointers_act, roots_plan}
use Rattle.treefs_byte_plans.specs.declared.cuts.Cut.{Cut}
use Rattle.treefs_byte_plans.specs.declared.drop_plan.DropPlan.{DropPlan}
use Rattle.treefs_byte_plans.specs.declared.kept.Kept.{Kept}
use Rattle.treefs_byte_plans.specs.declared.roots_plan.Pointer.{Pointer}
use Rattle.treefs_byte_plans.specs.declared.roots_plan.RootsPlan.{RootsPlan}
use Rattle.treefs.specs.Trimming.{Blanks, DoesIfAny, Drops, EndsDrops, HasRoom, Roots, Then, TrimDoes, Waits, most_drops}
use Rattle.treefs_values.specs.Kinds.{kinds}
use Rattle.treefs_values.proofs.ForCallers.{IsDrop, drop_is}
use Rattle.treefs_laws.proofs.CutWays.{byte_kept}
use Rattle.treefs_laws.proofs.Fading.{Fades}
use Rattle.treefs_laws.proofs.NoCut.{none_from}
use Rattle.treefs_laws.proofs.Planned.{ran_acts}
use Rattle.treefs_laws.proofs.TrimBlanks.{blank_at, blanks_clear, blanks_stay}
use Rattle.treefs_laws.proofs.TrimParts.{IsFileAt, Stays, drops_stay, stays_same}
use Rattle.treefs_laws.proofs.TrimRoots.{roots_stay}
use Rattle.treefs_laws.proofs.TrimWaits.{waits_stay}

-- Where a byte past a size stands: together with the first one, in the inode or in a leaf that is kept, or in a leaf that is not kept

abbrev HasPlace : ℕ → Type 0
HasPlace size = (size < 384) ⊎ ((384 < size) × (size < greatest_size) × (size % 512 ≢ 0))

place_past : (size p : ℕ) → size ≤ greatest_size → size ≤ p → p < greatest_size →
    (HasPlace size × (p < size + part_left size)) ⊎ ((384 ≤ p) × (leaves_kept size ≤ p / 512))
place_past size p small past low = elim (cases_lt size 384) [
  | inl few ↦
      let left : part_left size ≡ 384 - size = ap (λ t. if t then 384 - size else 512 - size % 512) (lt-ltb size 384 few) in
      let none : leaves_kept size ≡ 0 = ap (λ t. if t then 0 else size / 512 + min 1 (size % 512)) (le-leb size 384 (omega arith)) in
      elim (cases_lt p 384) [ inl here ↦ inl (inl few, omega arith) | inr beyond ↦ inr (beyond, omega arith) ]
  | inr many ↦ elim (cases_lt 384 size) [
    | inr equal ↦
        let none : leaves_kept size ≡ 0 = ap (λ t. if t then 0 else size / 512 + min 1 (size % 512)) (le-leb size 384 equal) in inr (omega arith, omega arith)
    | inl more ↦
        let left : part_left size ≡ 512 - size % 512 = ap (λ t. if t then 384 - size else 512 - size % 512) (le-ltb size 384 many) in
        let keep : leaves_kept size ≡ size / 512 + min 1 (size % 512) = ap (λ t. if t then 0 else size / 512 + min 1 (size % 512)) (lt-leb size 384 more) in
        elim (cases_eq (size % 512) 0) [
          | inl whole ↦ inr (omega arith, omega arith)
          | inr part ↦
              let some : 0 < size % 512 = positive (size % 512) part in
              elim (cases_lt p (size + part_left size)) [ inl here ↦ inl (inr (more, omega arith, part), here) | inr beyond ↦ inr (omega arith, omega arith) ]
        ]
  ]
]
  where
    positive : (x : ℕ) → x ≢ 0 → 0 < x
    positive zero ne = absurd (ne refl)
    positive (suc x) ne = omega arith

-- no byte stands in a leaf that is not there
no_byte : (content : ℕ → List ℕ) (c p : ℕ) → 384 ≤ p → leaf_block content c (p / 512) ≡ 0 → byte_of content c p ≡ 0
no_byte content c p high none =
    ap (λ t. if t then slice_index (content c) (128 + p) else leaf_byte content (leaf_block content c (p / 512)) (p % 512)) (le-ltb p 384 high)
    ∙ ap (λ x. leaf_byte content x (p % 512)) none

-- A file that is trimmed

pub cut_clears : (content : ℕ → List ℕ) (c size : ℕ) → IsCut content c (file_end size) → (p : ℕ) → size ≤ p → p < greatest_size → byte_of content c p ≡ 0
cut_clears content c size cut p past low =
    let small : size ≤ greatest_size = omega arith in
    let whole : file_end size ≡ size = omega arith in
    let is : IsCut content c size = subst (IsCut content c) whole cut in
    elim (place_past size p small past low) [
      | inl (place, here) ↦ blank_at (byte_of content c) (part_left size) size (is.bytes (omega arith)) p past here
      | inr (high, beyond) ↦ elim (cases_eq (leaf_block content c (p / 512)) 0) [
        | inl none ↦ no_byte content c p high none
        | inr some ↦ absurd (is.blocks (p / 512) 0 beyond (omega arith) (record { high = omega arith; first = refl; there = some }))
      ]
    ]

-- Pointers that a trim takes from an inode

has_or : (s t : Bool) → t ≡ true → (s || t) ≡ true
has_or true t is = refl
has_or false t is = is

has_behind : (xs ys : List ℕ) (x : ℕ) → has_number ys x ≡ true → has_number (xs ++ ys) x ≡ true
has_behind [] ys x has = has
has_behind (y ∷ xs) ys x has = has_or (y == x) (has_number (xs ++ ys) x) (has_behind xs ys x has)

module _ (content : ℕ → List ℕ) (c : ℕ) where
  abbrev run : ℕ → ℕ → List Pointer
  run from count = flat_map (λ leaf. pointer_if content c (leaf_offset leaf)) (range_with_len from count)

  run_has : (count from i : ℕ) → from ≤ i → i < from + count → pointed content c (leaf_offset i) ≢ 0 →
      has_number (blocks_of (run from count)) (pointed content c (leaf_offset i)) ≡ true
  run_has zero from i low high some = absurd (omega arith)
  run_has (suc count) from i low high some =
      by (λ ne. run_has count (from + 1) i (past ne (cases_lt from i)) (omega arith) some) (pointed content c (leaf_offset from) == 0) refl (cases_eq i from)
    where
      past : i ≢ from → (from < i) ⊎ (i ≤ from) → from + 1 ≤ i
      past ne (inl lt) = omega arith
      past ne (inr le) = absurd (ne (omega arith))

      by : (i ≢ from → has_number (blocks_of (run (from + 1) count)) (pointed content c (leaf_offset i)) ≡ true) → (t : Bool) →
          (pointed content c (leaf_offset from) == 0) ≡ t → (i ≡ from) ⊎ (i ≢ from) →
          has_number (blocks_of ((if t then [] else record { offset = leaf_offset from; block = pointed content c (leaf_offset from) } ∷ []) ++ run
          (from + 1) count)) (pointed content c (leaf_offset i)) ≡ true
      by rest true e (inl same) = absurd (some (ap (λ x. pointed content c (leaf_offset x)) same ∙ eqb-true (pointed content c (leaf_offset from)) 0 e))
      by rest true e (inr ne) = rest ne
      by rest false e (inl same) =
          ap (λ t. t || has_number (blocks_of (run (from + 1) count)) (pointed content c (leaf_offset i)))
          (eq-eqb (pointed content c (leaf_offset from)) (pointed content c (leaf_offset i)) (ap (λ x. pointed content c (leaf_offset x)) (sym same)))
      by rest false e (inr ne) =
          has_or (pointed content c (leaf_offset from) == pointed content c (leaf_offset i))
          (has_number (blocks_of (run (from + 1) count)) (pointed content c (leaf_offset i))) (rest ne)

  pub leaf_listed : (keep i : ℕ) → keep ≤ i → i < 16 → leaf_block content c i ≢ 0 → has_number (blocks_of (leaf_pointers content c keep))
      (leaf_block content c i) ≡ true
  leaf_listed keep i low high some =
      let own : leaf_block content c i ≡ pointed content c (leaf_offset i) =
      ap (λ t. block_at content c (if t then leaf_offset i ∷ [] else tree_steps (height_of i) (place_in_tree i))) (lt-ltb i 16 high) in
      ap (has_number (blocks_of (leaf_pointers content c keep))) own ∙ run_has (16 - keep) keep i low (omega arith) (λ z. some (own ∙ z))

-- A whole trim

module _ (T : Types) (tree : Tree) (n : ℕ) (number : n ≢ 0) (c size : ℕ) (k : Kind) (no_directory : k ≢ kind.Directory) (memory : Memory)
  where
    abbrev own : ℕ
    own = tree.fs.number

    abbrev all_kept : Kept
    all_kept = kept_up_to c size

    abbrev keep : ℕ
    keep = all_kept.keep

    abbrev At : StoreState → Type 0
    At s = IsFileAt T tree n number c size k no_directory s

    abbrev Stay : StoreState → StoreState → Type 0
    Stay old new = Stays T tree n number c size k no_directory old new

    -- the parts that are done
    done_then : (First Next : StoreState → StoreState → Result (Unit {0}) Fault → Type 0) (old new : StoreState) → Then First Next old new (Ok tt) →
        (middle : StoreState) × First old middle (Ok tt) × Next middle new (Ok tt)
    done_then First Next old new (inl none) = absurd none
    done_then First Next old new (inr done) = done

    -- no drop is left
    no_cut : (old : StoreState) → IsDropPlanned old own memory c keep (Ok None) → next_cut (readable old own) c keep ≡ None
    no_cut old planned = by (next_cut (readable old own) c keep) refl planned
      where
        cut_planned : (cut : Cut) (t : Bool) → has_room old own (length memory.touched) 10 ((cut.block, 1) ∷ []) ≡ t → IsCutPlanned old own memory c cut
            (Ok None) → ⊥
        cut_planned cut true e planned = subst (λ t. MatchBool t ⊥ (◌≡◌ {A = Result (Option DropPlan) Fault} (Ok None) (Err Full))) e planned
        cut_planned cut false e planned =
            absurd (cc (subst (λ t. MatchBool t ⊥ (◌≡◌ {A = Result (Option DropPlan) Fault} (Ok None) (Err Full))) e planned))

        by : (o : Option Cut) → next_cut (readable old own) c keep ≡ o →
            MatchOption o (◌≡◌ {A = Result (Option DropPlan) Fault} (Ok None) (Ok None)) (λ cut. IsCutPlanned old own memory c cut (Ok None)) →
            next_cut (readable old own) c keep ≡ None
        by None is none = is
        by (Some cut) is planned = absurd (cut_planned cut (has_room old own (length memory.touched) 10 ((cut.block, 1) ∷ [])) refl planned)

    drops_end : (left : ℕ) (old new : StoreState) → Drops T own memory all_kept left old new (Ok tt) → next_cut (readable new own) c keep ≡ None
    drops_end zero old new does = absurd (cc does.0)
    drops_end (suc left) old new (inl r) = by r.0 r.1 r.2
      where
        by : (planned : Result (Option DropPlan) Fault) → IsDropPlanned old own memory c keep planned → EndsDrops T own planned old new (Ok tt) →
            next_cut (readable new own) c keep ≡ None
        by (Ok None) planned does = subst (λ s. next_cut (readable s own) c keep ≡ None) (sym does.1) (no_cut old planned)
        by (Ok (Some plan)) planned does = absurd does
        by (Err fault) planned does = absurd (cc does.0)
    drops_end (suc left) old new (inr r) = drops_end left r.1 new r.4

    -- the leaves to which the inode points itself
    module _ (old new : StoreState) (at : At new) (faded : (i : ℕ) → Fades (leaf_block (readable old own) c i) (leaf_block (readable new own) c i)) where
      none_unlisted : HasNoRoots (readable old own) c keep → (i : ℕ) → keep ≤ i → i < 16 → leaf_block (readable old own) c i ≡ 0
      none_unlisted none i low high = elim (cases_eq (leaf_block (readable old own) c i) 0) [
        | inl z ↦ z
        | inr some ↦ absurd (cc (sym (leaf_listed (readable old own) c keep i low high some) ∙
            ap (λ xs. has_number (blocks_of xs) (leaf_block (readable old own) c i)) none.leaves))
      ]

      of_data : (i : ℕ) → i < leaf_count → leaf_block (readable new own) c i ≢ 0 → kinds new own (leaf_block (readable new own) c i) ≡ 2
      of_data i few = subst (λ b. leaf_block (readable new own) b i ≢ 0 → kinds new own (leaf_block (readable new own) b i) ≡ 2) at.block
          (at.here.volume.typed.leaves n i number few)

      none_listed : (plan : RootsPlan) → IsRootsPlanned (readable old own) c keep plan → IsDrop T own
          (pointers_act plan.inode plan.trees.items plan.leaves.items) old new →
          (i : ℕ) → keep ≤ i → i < 16 → leaf_block (readable new own) c i ≡ 0
      none_listed plan planned d i low high = elim (faded i) [
        | inr none ↦ none
        | inl same ↦ elim (cases_eq (leaf_block (readable new own) c i) 0) [
          | inl z ↦ z
          | inr some ↦
              let was : leaf_block (readable old own) c i ≢ 0 = λ z. some (same ∙ z) in
              let listed = has_behind (blocks_of plan.trees.items) (blocks_of plan.leaves.items) (leaf_block (readable old own) c i)
              (ap (λ xs. has_number (blocks_of xs) (leaf_block (readable old own) c i)) planned.leaves_are ∙ leaf_listed (readable old own) c keep i low high
              was) in
              let gone : kinds new own (leaf_block (readable new own) c i) ≡ 0 =
              ap (kinds new own) same ∙ (ap (λ f. f (leaf_block (readable old own) c i)) d.types
              ∙ ap (λ t. if t then 0 else kinds old own (leaf_block (readable old own) c i)) listed) in
              apart (kinds new own (leaf_block (readable new own) c i)) gone (of_data i (omega arith) some)
        ]
      ]
        where
          apart : {A : Type 0} (t : ℕ) → t ≡ 0 → t ≡ 2 → A
          apart t z is = absurd (omega (arith, z, is))

    roots_end : (old new : StoreState) → At old → Roots T own all_kept old new (Ok tt) → (i : ℕ) → keep ≤ i → i < 16 → leaf_block (readable new own) c i ≡ 0
    roots_end old new at (planned, are, does) = by planned are does
      where
        stay : Stay old new
        stay = roots_stay T tree n number c size k no_directory keep (byte_kept size) all_kept refl refl old new (Ok tt) at (planned, are, does)

        by : (planned : Option RootsPlan) → MatchOption planned (HasNoRoots (readable old own) c keep) (IsRootsPlanned (readable old own) c keep) →
            DoesIfAny T own (Ok (option_map roots_plan planned)) old new (Ok tt) → (i : ℕ) → keep ≤ i → i < 16 → leaf_block (readable new own) c i ≡ 0
        by None none does i low high =
            subst (λ s. leaf_block (readable s own) c i ≡ 0) (sym does.1) (none_unlisted old new stay.0 stay.2.leaves none i low high)
        by (Some plan) planned does i low high =
            none_listed old new stay.0 stay.2.leaves plan planned
            (drop_is T own (pointers_act plan.inode plan.trees.items plan.leaves.items) old new at.here.store refl
            (ran_acts T own (pointers_act plan.inode plan.trees.items plan.leaves.items ∷ []) old new does)) i low high

    stays_none : (was now : ℕ) → Fades was now → was ≡ 0 → now ≡ 0
    stays_none was now (inl same) z = same ∙ z
    stays_none was now (inr none) z = none

    pub trim_clears : (old new : StoreState) → At old → TrimDoes T own memory all_kept old new (Ok tt) → (p : ℕ) → size ≤ p → p < greatest_size → byte_of
        (readable new own) c p ≡ 0
    trim_clears old new at does p past low =
        let a = done_then (HasRoom own memory all_kept) (Then (Blanks T own memory all_kept)
        (Then (Drops T own memory all_kept most_drops) (Then (Roots T own all_kept) (Waits T own all_kept)))) old new does in
        let at_a : At a.0 = (stays_same T tree n number c size k no_directory old a.0 at a.1.1).0 in
        let b = done_then (Blanks T own memory all_kept) (Then (Drops T own memory all_kept most_drops) (Then (Roots T own all_kept) (Waits T own all_kept)))
        a.0 new a.2 in
        let stay_b = blanks_stay T tree n number c size k no_directory memory a.0 b.0 (Ok tt) at_a b.1 in
        let clear_b = blanks_clear T tree n number c size k no_directory memory a.0 b.0 at_a b.1 in
        let d = done_then (Drops T own memory all_kept most_drops) (Then (Roots T own all_kept) (Waits T own all_kept)) b.0 new b.2 in
        let stay_d = drops_stay T tree n number c size k no_directory keep (byte_kept size) memory all_kept refl refl most_drops b.0 d.0 (Ok tt)
        stay_b.0 d.1 in
        let none_d = drops_end most_drops b.0 d.0 d.1 in
        let r = done_then (Roots T own all_kept) (Waits T own all_kept) d.0 new d.2 in
        let stay_r = roots_stay T tree n number c size k no_directory keep (byte_kept size) all_kept refl refl d.0 r.0 (Ok tt) stay_d.0 r.1 in
        let none_r = roots_end d.0 r.0 stay_d.0 r.1 in
        let stay_w = waits_stay T tree n number c size k no_directory all_kept refl r.0 new (Ok tt) stay_r.0 r.2 in
        let small : size ≤ greatest_size = omega arith in
        let whole : file_end size ≡ size = omega arith in
        elim (place_past size p small past low) [
          | inl (place, here) ↦
              let one = clear_b (subst HasPlace (sym whole) place) p (subst (λ e. e ≤ p) (sym whole) past) (subst (λ e. p < e + part_left e) (sym whole) here) in
              let two = stays_none (byte_of (readable b.0 own) c p) (byte_of (readable d.0 own) c p) (stay_d.2.bytes p low) one in
              let three = stays_none (byte_of (readable d.0 own) c p) (byte_of (readable r.0 own) c p) (stay_r.2.bytes p low) two in
              stays_none (byte_of (readable r.0 own) c p) (byte_of (readable new own) c p) (stay_w.2.bytes p low) three
          | inr (high, beyond) ↦
              let kept : keep ≤ p / 512 = subst (λ e. leaves_kept e ≤ p / 512) (sym whole) beyond in
              let three : leaf_block (readable r.0 own) c (p / 512) ≡ 0 = elim (cases_lt (p / 512) 16) [
                | inl few ↦ none_r (p / 512) kept few
                | inr many ↦ stays_none (leaf_block (readable d.0 own) c (p / 512)) (leaf_block (readable r.0 own) c (p / 512)) (stay_r.2.leaves (p / 512))
                    (none_from (readable d.0 own) c keep none_d (p / 512) many (omega arith) kept)
              ] in
              no_byte (readable new own) c p high
              (stays_none (leaf_block (readable r.0 own) c (p / 512)) (leaf_block (readable new own) c (p / 512)) (stay_w.2.leaves (p / 512)) three)
        ]
