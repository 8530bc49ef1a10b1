-- What stands past the size of an inode that has no number goes: it has none still, and no file changes.
use mathlib.Core.Path.{fun_ext}
use Rattle.std.proofs.Common.{◌≡◌, ◌≢◌, ℕ, suc, ◌+◌, ◌*◌, ◌-◌, ◌/◌, ◌%◌, ◌<◌, Bool, true, false, not, ◌&&◌, List, [], ◌∷◌, ◌++◌, length, replicate, Option, None, Some, Result, Ok, Err, refl, sym, ◌∙◌, ap, inl, inr, arith, subst, if◌then◌else◌}
use Rattle.std.specs.Prelude.{All, IsTrue, MatchOption, map, nat_lt, option_map, slice_index, ◌==◌}
use Rattle.std.proofs.lemmas.Bool.{and_parts, ltb-true}
use Rattle.std.proofs.lemmas.List.{length-replicate}
use Rattle.std.proofs.lemmas.List.Elements.{All-replicate, All-weaker}
use Rattle.store_types.specs.declared.refusal.Refusal.{Refusal}
use Rattle.xn_model.specs.Lists.{blank}
use Rattle.xn_model.specs.Types.{Types}
use Rattle.xn_model.specs.Lives.{StoreState}
use Rattle.treefs_format.specs.Leaves.{greatest_size}
use Rattle.treefs_format.specs.Paths.{node_offset}
use Rattle.treefs_format.specs.Templates.{IsTree}
use Rattle.treefs_model.specs.Acts.{Act, Ran, drop_act, wait_act}
use Rattle.treefs_model.specs.Reading.{block_at, leaf_block}
use Rattle.treefs_model.specs.Trees.{has_pointer}
use Rattle.treefs_model.specs.declared.fault.Fault.{Fault}
use Rattle.treefs_model.specs.declared.fault.Fault.TheVariants.{Full}
use Rattle.treefs_lookup.specs.Bytes.{file_end}
use Rattle.treefs_lookup.specs.Readable.{readable}
use Rattle.treefs_lookup.specs.Trimmed.{bytes_past}
use Rattle.treefs_edits.specs.Memories.{Memory}
use Rattle.treefs_edits.specs.Plans.{Does}
use Rattle.treefs_edits.specs.Rooms.{has_room}
use Rattle.treefs_edits.specs.Written.{written}
use Rattle.treefs_edits.specs.declared.tree.Tree.{Tree}
use Rattle.treefs_byte_plans.specs.Blanks.{blank_act, has_tail}
use Rattle.treefs_byte_plans.specs.Drops.{dropped, planned_drop}
use Rattle.treefs_byte_plans.specs.Kept.{kept_up_to}
use Rattle.treefs_byte_plans.specs.Roots.{HasNoRoots, IsRootsPlanned, blocks_of, leaf_pointers, pointers_act, roots_plan, tree_pointers}
use Rattle.treefs_byte_plans.specs.Sizes.{has_bytes_behind}
use Rattle.treefs_byte_plans.specs.declared.blank.BlankPlan.{BlankPlan}
use Rattle.treefs_byte_plans.specs.declared.cuts.Cut.{Cut}
use Rattle.treefs_byte_plans.specs.declared.kept.Kept.{Kept}
use Rattle.treefs_byte_plans.specs.declared.roots_plan.RootsPlan.{RootsPlan}
use Rattle.treefs.specs.Trimming.{Blanks, DoesIfAny, Drops, HasRoom, Roots, Then, TrimDoes, Waits, most_drops, plan_of_blank}
use Rattle.treefs_values.specs.Dropped.{AreOverPointers, IsHolderWay, IsLedTo, clear_act}
use Rattle.treefs_values.specs.Kinds.{kinds}
use Rattle.treefs_values.specs.Ways.{IsFirst, IsWay, block_numbered}
use Rattle.treefs_values.proofs.ForCallers.{IsAt, inode_pointer}
use Rattle.treefs_laws.proofs.AsideBegun.{IsAsideAt, Stays, stays_same, stays_then}
use Rattle.treefs_laws.proofs.AsideEdits.{does_stays, leaf_made, own_blanked, own_whole, ran_first, wait_made}
use Rattle.treefs_laws.proofs.ClearedPointers.{at_still, still_inode_block, still_leaves, still_numbered, still_others, still_root}
use Rattle.treefs_laws.proofs.CutWays.{IsNextCut}
use Rattle.treefs_laws.proofs.NodePointers.{blocks_led, covered_at, node_places, places_over}
use Rattle.treefs_laws.proofs.PointersGone.{IsGone, IsOf, IsRoot, IsUnled}
use Rattle.treefs_laws.proofs.TrimRoots.{IsRootPatch, IsRootPlace, all_led_to, all_patched, covered_place, root_places, roots_act}
use Rattle.treefs_laws.proofs.TrimSteps.{act_keeps, both_keep, drops_keep, unchanged}
use Rattle.treefs_laws.proofs.WaysApart.{numbered_led}

led_on : (q : List ℕ) (l o p : ℕ) → IsWay q (suc l) → p < 127 → o ≡ node_offset p → IsWay (o ∷ q) l
led_on [] l o p way lt is = absurd way
led_on (r ∷ rs) l o p way lt is = (p, lt, is, way)

pub first_of_root : (content : ℕ → List ℕ) (c keep o : ℕ) → IsRootPlace content c keep o → (l : ℕ) × IsFirst o l
first_of_root content c keep o (inl (h, low, high, past, is)) = (h, inr (low, high, is))
first_of_root content c keep o (inr (i, low, high, is)) = (0, inl (i, high, is, refl))

module _ (T : Types) (tree : Tree) (c : ℕ) (few : tree.fs.number < 32) (is_tree : IsTree T tree.node_type tree.inode_type) where
  abbrev fs : ℕ
  fs = tree.fs.number

  abbrev top : ℕ
  top = tree.top

  abbrev node : ℕ
  node = tree.node_type

  abbrev inode : ℕ
  inode = tree.inode_type

  abbrev At : StoreState → Type 0
  At = IsAsideAt T fs node inode top c few is_tree

  abbrev Stay : StoreState → StoreState → Type 0
  Stay = Stays T fs node inode top c few is_tree

  same : (s : StoreState) → At s → Stay s s
  same = stays_same T fs node inode top c few is_tree

  after : (old new : StoreState) → Stay old new → At new
  after old new stay = stay.0

  chain : (old middle new : StoreState) → Stay old middle → Stay middle new → Stay old new
  chain = stays_then T fs node inode top c few is_tree

  as_it_was : (old new : StoreState) → At old → new ≡ old → Stay old new
  as_it_was = unchanged At Stay same after chain

  abbrev Parts : (StoreState → StoreState → Result (Unit {0}) Fault → Type 0) → Type 0
  Parts Part = (old new : StoreState) (result : Result (Unit {0}) Fault) → At old → Part old new result → Stay old new

  -- Pointers become 0

  module _ (old new : StoreState) (at : At old) where
    abbrev content : ℕ → List ℕ
    content = readable old fs

    other : (m : ℕ) → block_numbered content top m ≢ c
    other = numbered_led node inode top (kinds old fs) content at.here.volume c at.aside.there at.aside.no_root at.aside.unled

    stands : IsRoot node inode (kinds old fs) content top c
    stands = inr (at.aside.no_root, at.aside.unled)

    cleared_stays : (q : List ℕ) (way : IsHolderWay q) (there : block_at content c q ≢ 0) (places : List (ℕ × ℕ)) (blocks : List ℕ) (behind : Option ℕ)
        (over : All (AreOverPointers node inode (kinds old fs (block_at content c q))) places)
        (led : All (IsLedTo content (block_at content c q) places) blocks)
        (act : Act) (no_adds : act.edit.adds ≡ []) (at_block : act.block ≡ block_at content c q) (drops : act.edit.drops ≡ blocks)
        (writes : written act content ≡ written (clear_act (block_at content c q) places blocks behind) content)
        (ran : Ran T fs (act ∷ []) old new (Ok tt))
        (of : (b : ℕ) → IsGone content (block_at content c q) places b → IsOf content top c b) → Stay old new
    cleared_stays q way there places blocks behind over led act no_adds at_block drops writes ran of = (
      record {
        here = now;
        aside = record {
          volume = now.volume;
          there = at.aside.there;
          no_root = at.aside.no_root;
          is_block = still_inode_block T tree old new at.here c at.aside.is_block q way there places blocks behind over led act no_adds at_block drops
              writes ran at.aside.there stands of at.aside.no_root;
          leaves = λ i low some.
              let s = still_leaves T tree old new at.here c at.aside.is_block q way there places blocks behind over led act no_adds at_block drops writes
              ran at.aside.there stands of at.aside.no_root i some in
              ap (kinds new fs) s.0 ∙ (s.1 ∙ at.aside.leaves i low (λ z. some (s.0 ∙ z)));
          unled = by (still_root T tree old new at.here c at.aside.is_block q way there places blocks behind over led act no_adds at_block drops writes ran
              at.aside.there stands of at.aside.no_root);
        };
      },
      fun_ext (λ m. still_others T tree old new at.here c at.aside.is_block q way there places blocks behind over led act no_adds at_block drops writes
          ran at.aside.there stands of at.aside.no_root m (other m)),
    )
      where
        now : IsAt T fs node inode top new
        now = at_still T tree old new at.here c at.aside.is_block q way there places blocks behind over led act no_adds at_block drops writes ran
            at.aside.there stands of

        by : IsRoot node inode (kinds new fs) (readable new fs) top c → IsUnled node inode (kinds new fs) (readable new fs) c
        by (inl (n, is)) =
            absurd (other n (sym (is ∙ still_numbered T tree old new at.here c at.aside.is_block q way there places blocks behind over led act no_adds
            at_block drops writes ran at.aside.there stands of at.aside.no_root n)))
        by (inr (no_root, unled)) = unled

    module _ (keep : ℕ) where
      pub cut_stays : (cut : Cut) → IsNextCut content c keep cut → Ran T fs (planned_drop content c cut) old new (Ok tt) → Stay old new
      cut_stays cut is ran = cleared_stays is.above (inr (is.level, is.way)) there places blocks behind over led act refl (sym is.leads) refl writes ran of
        where
          holder : ℕ
          holder = block_at content c is.above

          places : List (ℕ × ℕ)
          places = node_places cut.place is.place

          blocks : List ℕ
          blocks = dropped content cut.block cut.place

          behind : Option ℕ
          behind = Some c

          act : Act
          act = drop_act cut.block (node_offset cut.place) (127 - cut.place) blocks behind

          there : holder ≢ 0
          there z = is.there (sym is.leads ∙ z)

          over : All (AreOverPointers node inode (kinds old fs holder)) places
          over = places_over cut.place is.place node inode (kinds old fs holder) (at.aside.is_block.nodes is.level is.above is.way there)

          led : All (IsLedTo content holder places) blocks
          led = subst (λ x. All (IsLedTo content x places) blocks) (sym is.leads) (blocks_led cut.place is.place content cut.block)

          writes : written act content ≡ written (clear_act holder places blocks behind) content
          writes = ap (λ x. written (clear_act x places blocks behind) content) (sym is.leads)

          of : (b : ℕ) → IsGone content holder places b → IsOf content top c b
          of b (some, o, cover, led_is) =
              let p = covered_at cut.place is.place o cover in
              inl (at.aside.no_root, is.level, o ∷ is.above, led_on is.above is.level o p.0 is.way p.2 p.3, sym led_is)

      pub roots_ran : Ran T fs (pointers_act c (tree_pointers content c keep) (leaf_pointers content c keep) ∷ []) old new (Ok tt) → Stay old new
      roots_ran ran = cleared_stays [] (inl refl) at.aside.there places blocks None over (all_led_to content c keep) act refl refl refl writes ran of
        where
          places : List (ℕ × ℕ)
          places = root_places content c keep

          blocks : List ℕ
          blocks = blocks_of (tree_pointers content c keep) ++ blocks_of (leaf_pointers content c keep)

          act : Act
          act = pointers_act c (tree_pointers content c keep) (leaf_pointers content c keep)

          root_pointer : (o : ℕ) → IsRootPlace content c keep o → IsTrue (has_pointer node inode (kinds old fs c) o)
          root_pointer o is = let w = first_of_root content c keep o is in inode_pointer node inode (kinds old fs c) o w.0 at.aside.is_block.typed w.1

          over : All (AreOverPointers node inode (kinds old fs c)) places
          over = All-weaker (IsRootPatch content c keep) (AreOverPointers node inode (kinds old fs c))
              (λ p is. (is.some, λ i lt. root_pointer (p.0 + 4 * i) (is.places i lt))) places (all_patched content c keep)

          writes : written act content ≡ written (clear_act c places blocks None) content
          writes = ap (λ (a : Act). written a content) (roots_act content c keep c)

          of : (b : ℕ) → IsGone content c places b → IsOf content top c b
          of b (some, o, cover, led_is) =
              let w = first_of_root content c keep o (covered_place content c keep o cover) in inl (at.aside.no_root, w.0, o ∷ [], w.1, sym led_is)

      roots_by : (result : Result (Unit {0}) Fault) (planned : Option RootsPlan) →
          MatchOption planned (HasNoRoots content c keep) (IsRootsPlanned content c keep) → DoesIfAny T fs (Ok (option_map roots_plan planned)) old new result →
          Stay old new
      roots_by result None none does = as_it_was old new at does.1
      roots_by result (Some plan) planned does = act_keeps At Stay same after chain T fs
          (pointers_act plan.inode plan.trees.items plan.leaves.items) old new result at
          (λ ran. roots_ran (subst (λ (a : Act). Ran T fs (a ∷ []) old new (Ok tt))
          (λ j. pointers_act (planned.inode_is j) (planned.trees_are j) (planned.leaves_are j)) ran)) does

  -- Waits

  waits_ran : (others : List ℕ) (first : ℕ) (old new : StoreState) (result : Result (Unit {0}) Refusal) → At old → first ≡ slice_index (readable old fs c) 0 →
      Ran T fs (map (wait_act c (first ∷ [])) others) old new result → Stay old new
  waits_ran [] first old new result at is ran = as_it_was old new at ran.1
  waits_ran (other ∷ others) first old new result at is ran =
      elim (ran_first T fs (wait_act c (first ∷ []) other) (map (wait_act c (first ∷ [])) others) old new result ran) [
        | inl same ↦ as_it_was old new at same
        | inr (entry, middle, made, rest) ↦
            let whole = own_whole T fs node inode top c few is_tree old at in
            let long = whole.0 in
            let one = wait_made T fs node inode top c few is_tree old at c first other middle entry is (omega arith) made in
            chain old middle new one.0 (waits_ran others first middle new result one.0.0 (is ∙ sym (ap (λ m. slice_index (m c) 0) one.1)) rest)
      ]

  waits_stay : (keep : ℕ) (kept : Kept) → kept.inode ≡ c → Parts (Waits T fs kept)
  waits_stay keep kept of_inode old new result at (plan, planned, does) =
      let first_is : plan.first ≡ slice_index (readable old fs c) 0 = planned.first_is ∙ ap (λ x. slice_index (readable old fs x) 0) of_inode in
      does_stays T fs node inode top c few is_tree
      (record { starts = []; acts = λ begun. map (wait_act c (plan.first ∷ [])) plan.others.items }) old new result
      (λ i d lt. absurd (omega arith)) at
      (λ begun middle left ran begins there keeps is. waits_ran plan.others.items plan.first middle left ran there
      (first_is ∙ sym (ap (λ s. slice_index (readable s fs c) 0) begins.1)) is)
      (subst (λ x. Does T fs (record { starts = []; acts = λ begun. map (wait_act x (plan.first ∷ [])) plan.others.items }) old new result)
      (planned.inode_is ∙ of_inode) does)

  -- Bytes past the size

  module _ (size : ℕ) where
    abbrev kept : Kept
    kept = kept_up_to c size

    abbrev end : ℕ
    end = file_end size

    abbrev own_plan : BlankPlan
    own_plan = record { block = c; offset = 128 + end; behind = None }

    abbrev leaf_plan : StoreState → BlankPlan
    leaf_plan old = record { block = leaf_block (readable old fs) c (end / 512); offset = end % 512; behind = Some c }

    pub own_blank : (old new : StoreState) → At old → end < 384 → Ran T fs (blank_act own_plan ∷ []) old new (Ok tt) → Stay old new
    own_blank old new at low ran =
        elim (ran_first T fs (blank_act own_plan) [] old new (Ok tt) ran) [
          | inl same ↦ as_it_was old new at same
          | inr (entry, middle, made, rest) ↦
              subst (Stay old) (sym rest.1) (own_blanked T fs node inode top c few is_tree old at end low middle entry made).0
        ]

    pub leaf_blank : (old new : StoreState) → At old → end < greatest_size → Ran T fs (blank_act (leaf_plan old) ∷ []) old new (Ok tt) → Stay old new
    leaf_blank old new at low ran =
        elim (ran_first T fs (blank_act (leaf_plan old)) [] old new (Ok tt) ran) [
          | inl same ↦ as_it_was old new at same
          | inr (entry, middle, made, rest) ↦
              let zeros : List ℕ = replicate (512 - end % 512) 0 in
              let long : length (replicate {A = ℕ} (512 - end % 512) 0) ≡ 512 - end % 512 = length-replicate (512 - end % 512) 0 in
              subst (Stay old) (sym rest.1) (leaf_made T fs node inode top c few is_tree old at (end / 512) (omega arith) (end % 512) zeros (Some c) middle
              entry (omega arith) (All-replicate (λ b. b < 256) (512 - end % 512) 0 (omega arith)) made).0
        ]

    blanks_stay : (memory : Memory) → Parts (Blanks T fs memory kept)
    blanks_stay memory old new result at does = by (has_bytes_behind (readable old fs) c end) refl does
      where
        in_room : (t : Bool) → has_tail (readable old fs) c end ≡ true →
            DoesIfAny T fs (plan_of_blank (if t then Ok (Some (leaf_plan old)) else Err Full)) old new result → Stay old new
        in_room true is does =
            let one = and_parts (nat_lt 384 end) (nat_lt end greatest_size && (not (end % 512 == 0) && not (blank (bytes_past (readable old fs) c end)))) is in
            let two = and_parts (nat_lt end greatest_size) (not (end % 512 == 0) && not (blank (bytes_past (readable old fs) c end))) one.1 in
            act_keeps At Stay same after chain T fs (blank_act (leaf_plan old)) old new result at
            (leaf_blank old new at (ltb-true end greatest_size two.0)) does
        in_room false is does = as_it_was old new at does.1

        tail : (t : Bool) → has_tail (readable old fs) c end ≡ t →
            DoesIfAny T fs (plan_of_blank (if t then (if has_room old fs (length memory.touched) 10 (((leaf_plan old).block, 1) ∷ []) then
            Ok (Some (leaf_plan old)) else Err Full) else Ok None)) old new result → Stay old new
        tail true is does = in_room (has_room old fs (length memory.touched) 10 (((leaf_plan old).block, 1) ∷ [])) is does
        tail false is does = as_it_was old new at does.1

        by : (t : Bool) → has_bytes_behind (readable old fs) c end ≡ t →
            DoesIfAny T fs (plan_of_blank (if t then Ok (Some own_plan) else if has_tail (readable old fs) c end then
            (if has_room old fs (length memory.touched) 10 (((leaf_plan old).block, 1) ∷ []) then Ok (Some (leaf_plan old)) else Err Full) else Ok None)) old new
            result → Stay old new
        by true is does =
            let low = ltb-true end 384 (and_parts (nat_lt end 384) (not (blank (bytes_past (readable old fs) c end))) is).0 in
            act_keeps At Stay same after chain T fs (blank_act own_plan) old new result at (own_blank old new at low) does
        by false is does = tail (has_tail (readable old fs) c end) refl does

    -- The whole

    two : (First Next : StoreState → StoreState → Result (Unit {0}) Fault → Type 0) → Parts First → Parts Next → Parts (Then First Next)
    two = both_keep At Stay same after chain

    pub trim_aside : (memory : Memory) → Parts (TrimDoes T fs memory kept)
    trim_aside memory =
        two (HasRoom fs memory kept) (Then (Blanks T fs memory kept) (Then (Drops T fs memory kept most_drops) (Then (Roots T fs kept) (Waits T fs kept))))
        (λ old new result at does. as_it_was old new at does.1)
        (two (Blanks T fs memory kept) (Then (Drops T fs memory kept most_drops) (Then (Roots T fs kept) (Waits T fs kept)))
        (blanks_stay memory)
        (two (Drops T fs memory kept most_drops) (Then (Roots T fs kept) (Waits T fs kept))
        (drops_keep At Stay same after chain T fs memory c kept.keep (λ old new cut at is ran. cut_stays old new at kept.keep cut is ran) kept refl refl
        most_drops)
        (two (Roots T fs kept) (Waits T fs kept)
        (λ old new result at does. roots_by old new at kept.keep result does.0 does.1 does.2)
        (waits_stay kept.keep kept refl))))
