-- A trim of an inode that was begun, part by part: it says what it said.
use Rattle.std.proofs.Common.{◌≡◌, ◌≢◌, ℕ, ◌+◌, ◌*◌, ◌-◌, ◌/◌, ◌%◌, ◌<◌, ◌≤◌, Bool, true, false, not, ◌&&◌, List, [], ◌∷◌, ◌++◌, ◌⊎◌, length, Option, None, Some, Result, Ok, Err, refl, sym, ◌∙◌, ap, inl, inr, arith, subst, if◌then◌else◌}
use Rattle.std.specs.Prelude.{All, IsTrue, MatchOption, map, nat_lt, option_map, slice_index, ◌==◌}
use Rattle.std.proofs.lemmas.Bool.{and_parts, le-ltb, lt-ltb, ltb-true, ne_eqb}
use Rattle.std.proofs.lemmas.List.Elements.{All-weaker}
use Rattle.store_types.specs.declared.refusal.Refusal.{Refusal}
use Rattle.store_types.specs.declared.refusal.Refusal.TheVariants as refusal
use Rattle.xn_model.specs.Lists.{blank}
use Rattle.xn_model.specs.Types.{Types}
use Rattle.xn_model.specs.Lives.{StoreState}
use Rattle.treefs_format.specs.Leaves.{greatest_size}
use Rattle.treefs_format.specs.Paths.{node_offset, steps}
use Rattle.treefs_format.specs.Templates.{IsTree}
use Rattle.treefs_model.specs.Acts.{Act, Ran, drop_act, wait_act}
use Rattle.treefs_model.specs.Files.{Inode, bytes_in}
use Rattle.treefs_model.specs.Reading.{block_at, leaf_block}
use Rattle.treefs_model.specs.Trees.{has_pointer}
use Rattle.treefs_model.specs.declared.fault.Fault.{Fault}
use Rattle.treefs_model.specs.declared.fault.Fault.TheVariants.{Full}
use Rattle.treefs_lookup.specs.Buckets.{bucket_start}
use Rattle.treefs_lookup.specs.Bytes.{file_end, part_left}
use Rattle.treefs_lookup.specs.Readable.{readable}
use Rattle.treefs_lookup.specs.Trimmed.{bytes_past}
use Rattle.treefs_edits.specs.Memories.{Memory}
use Rattle.treefs_edits.specs.Plans.{Does, forgotten}
use Rattle.treefs_edits.specs.Rooms.{has_room}
use Rattle.treefs_edits.specs.Written.{written}
use Rattle.treefs_byte_plans.specs.Blanks.{blank_act, has_tail}
use Rattle.treefs_byte_plans.specs.Drops.{dropped, planned_drop}
use Rattle.treefs_byte_plans.specs.Kept.{kept_up_to}
use Rattle.treefs_byte_plans.specs.Roots.{HasNoRoots, IsRootsPlanned, blocks_of, leaf_pointers, pointers_act, roots_plan, tree_pointers}
use Rattle.treefs_byte_plans.specs.Sizes.{has_bytes_behind}
use Rattle.treefs_byte_plans.specs.declared.blank.BlankPlan.{BlankPlan}
use Rattle.treefs_byte_plans.specs.declared.cuts.Cut.{Cut}
use Rattle.treefs_byte_plans.specs.declared.kept.Kept.{Kept}
use Rattle.treefs_byte_plans.specs.declared.roots_plan.RootsPlan.{RootsPlan}
use Rattle.treefs.specs.Trimming.{Blanks, DoesIfAny, Drops, HasRoom, Roots, Then, TrimDoes, Waits, most_drops, plan_of_blank}
use Rattle.treefs.specs.declared.volume.Volume.{Volume}
use Rattle.treefs_values.specs.Bytes.{bucket_at, place_in_bucket}
use Rattle.treefs_values.specs.Dropped.{AreOverPointers, IsLedTo, LeadsOn, clear_act}
use Rattle.treefs_values.specs.Kinds.{kinds}
use Rattle.treefs_values.proofs.ForCallers.{inode_pointer}
use Rattle.treefs_laws.specs.Begun.{IsBegun}
use Rattle.treefs_laws.specs.Open.{IsOpen}
use Rattle.treefs_laws.proofs.AsideEdits.{own_whole, ran_first, wait_made}
use Rattle.treefs_laws.proofs.AsideTrims.{cut_stays as aside_cut, first_of_root, leaf_blank as aside_leaf, own_blank as aside_own, roots_ran as aside_roots}
use Rattle.treefs_laws.proofs.CutWays.{IsKeptLeaf, IsNextCut, byte_kept}
use Rattle.treefs_laws.proofs.NodePointers.{blocks_led, covered_at, node_places, places_over}
use Rattle.treefs_laws.proofs.Planned.{same_done}
use Rattle.treefs_laws.proofs.TrimBlanks.{leaf_past}
use Rattle.treefs_laws.proofs.TrimRoots.{IsRootPatch, IsRootPlace, all_led_to, all_patched, covered_place, root_not_past, root_places, roots_act}
use Rattle.treefs_laws.proofs.TrimSteps.{act_keeps, both_keep, drops_keep, unchanged}
use Rattle.treefs_laws.proofs.OwnTrims.{blank_next, cleared_next, read_same, size_few, stands}

module _ (T : Types) (volume : Volume) (c : ℕ) (inode_now : Inode) (few : volume.tree.fs.number < 32)
    (is_tree : IsTree T volume.tree.node_type volume.tree.inode_type) (size : ℕ)
    (size_is : (bytes : List ℕ) → bytes_in inode_now.content ≡ Ok bytes → size ≡ length bytes) where
  abbrev fs : ℕ
  fs = volume.tree.fs.number

  abbrev top : ℕ
  top = volume.tree.top

  abbrev node : ℕ
  node = volume.tree.node_type

  abbrev inode : ℕ
  inode = volume.tree.inode_type

  abbrev At : StoreState → Type 0
  At s = IsOpen T s volume × IsBegun s volume c inode_now

  abbrev Stay : StoreState → StoreState → Type 0
  Stay old new = At new

  same : (s : StoreState) → At s → Stay s s
  same s at = at

  after : (old new : StoreState) → Stay old new → At new
  after old new at = at

  chain : (old middle new : StoreState) → Stay old middle → Stay middle new → Stay old new
  chain old middle new first second = second

  as_it_was : (old new : StoreState) → At old → new ≡ old → Stay old new
  as_it_was = unchanged At Stay same after chain

  abbrev Parts : (StoreState → StoreState → Result (Unit {0}) Fault → Type 0) → Type 0
  Parts Part = (old new : StoreState) (result : Result (Unit {0}) Fault) → At old → Part old new result → Stay old new

  -- The parts

  module _ (old new : StoreState) (at : At old) (keep : ℕ) (kept : (b : ℕ) → 384 ≤ b → b < size → IsKeptLeaf keep (b / 512)) where
    abbrev m : ℕ → List ℕ
    m = readable old fs

    cut_stays : (cut : Cut) → IsNextCut m c keep cut → Ran T fs (planned_drop m c cut) old new (Ok tt) → At new
    cut_stays cut is ran =
        let holder = block_at m c is.above in
        let there : holder ≢ 0 = λ z. is.there (sym is.leads ∙ z) in
        let places = node_places cut.place is.place in
        let blocks = dropped m cut.block cut.place in
        let act = drop_act cut.block (node_offset cut.place) (127 - cut.place) blocks (Some c) in
        cleared_next T volume c inode_now few is_tree size size_is old new at is.above (inr (is.level, is.way)) there places blocks (Some c)
        (places_over cut.place is.place node inode (kinds old fs holder) ((stands T volume c inode_now few is_tree size size_is old at).aside.is_block.nodes is.level is.above is.way there))
        (subst (λ x. All (IsLedTo m x places) blocks) (sym is.leads) (blocks_led cut.place is.place m cut.block)) act refl (sym is.leads) refl
        (ap (λ x. written (clear_act x places blocks (Some c)) m) (sym is.leads)) ran
        (λ o cover b low lt leads.
        let p = covered_at cut.place is.place o cover in
        is.past p.0 (b / 512) p.1 (kept b low lt) (subst (λ x. LeadsOn (steps (b / 512)) (x ∷ is.above)) p.3 leads))
        (aside_cut T volume.tree c few is_tree old new (stands T volume c inode_now few is_tree size size_is old at) keep cut is ran)

    roots_ran : Ran T fs (pointers_act c (tree_pointers m c keep) (leaf_pointers m c keep) ∷ []) old new (Ok tt) → At new
    roots_ran ran =
        let places = root_places m c keep in
        let blocks = blocks_of (tree_pointers m c keep) ++ blocks_of (leaf_pointers m c keep) in
        let act = pointers_act c (tree_pointers m c keep) (leaf_pointers m c keep) in
        cleared_next T volume c inode_now few is_tree size size_is old new at [] (inl refl) (stands T volume c inode_now few is_tree size size_is old at).aside.there places blocks None
        (All-weaker (IsRootPatch m c keep) (AreOverPointers node inode (kinds old fs c))
        (λ p is. (is.some, λ i lt. root_pointer (p.0 + 4 * i) (is.places i lt))) places (all_patched m c keep))
        (all_led_to m c keep) act refl refl refl (ap (λ (a : Act). written a m) (roots_act m c keep c)) ran
        (λ o cover b low lt leads. root_not_past keep (b / 512) o (kept b low lt) leads m c (covered_place m c keep o cover))
        (aside_roots T volume.tree c few is_tree old new (stands T volume c inode_now few is_tree size size_is old at) keep ran)
      where
        root_pointer : (o : ℕ) → IsRootPlace m c keep o → IsTrue (has_pointer node inode (kinds old fs c) o)
        root_pointer o is = let w = first_of_root m c keep o is in inode_pointer node inode (kinds old fs c) o w.0 (stands T volume c inode_now few is_tree size size_is old at).aside.is_block.typed w.1

    roots_by : (result : Result (Unit {0}) Fault) (planned : Option RootsPlan) →
        MatchOption planned (HasNoRoots m c keep) (IsRootsPlanned m c keep) → DoesIfAny T fs (Ok (option_map roots_plan planned)) old new result → At new
    roots_by result None none does = as_it_was old new at does.1
    roots_by result (Some plan) planned does = act_keeps At Stay same after chain T fs
        (pointers_act plan.inode plan.trees.items plan.leaves.items) old new result at
        (λ ran. roots_ran (subst (λ (a : Act). Ran T fs (a ∷ []) old new (Ok tt))
        (λ j. pointers_act (planned.inode_is j) (planned.trees_are j) (planned.leaves_are j)) ran)) does

  -- Waits

  waits_ran : (others : List ℕ) (first : ℕ) (old new : StoreState) (result : Result (Unit {0}) Refusal) → At old → first ≡ slice_index (readable old fs c) 0 →
      Ran T fs (map (wait_act c (first ∷ [])) others) old new result → At new
  waits_ran [] first old new result at is ran = as_it_was old new at ran.1
  waits_ran (other ∷ others) first old new result at is ran =
      elim (ran_first T fs (wait_act c (first ∷ []) other) (map (wait_act c (first ∷ [])) others) old new result ran) [
        | inl unmade ↦ as_it_was old new at unmade
        | inr (entry, middle, made, rest) ↦
            let whole = own_whole T fs node inode top c few is_tree old (stands T volume c inode_now few is_tree size size_is old at) in
            let long = whole.0 in
            let one = wait_made T fs node inode top c few is_tree old (stands T volume c inode_now few is_tree size size_is old at) c first other middle entry is (omega arith) made in
            waits_ran others first middle new result (read_same T volume c inode_now few is_tree size size_is old middle at one.0 one.1) (is ∙ sym (ap (λ m. slice_index (m c) 0) one.1)) rest
      ]

  -- no block was begun
  forgets_none : (begun : List ℕ) (left new : StoreState) → ◌≡◌ {A = Result (List ℕ) Fault} (Ok begun) (Ok []) → new ≡ forgotten T fs begun left → new ≡ left
  forgets_none [] left new none is = is
  forgets_none (b ∷ begun) left new none is = absurd (cc (same_done (b ∷ begun) [] none))

  waits_done : (others : List ℕ) (first : ℕ) (old new : StoreState) (result : Result (Unit {0}) Fault) → At old → first ≡ slice_index (readable old fs c) 0 →
      Does T fs (record { starts = []; acts = λ begun. map (wait_act c (first ∷ [])) others }) old new result → At new
  waits_done others first old new (Ok done) at is (inl none) = absurd none
  waits_done others first old new (Err fault) at is (inl (inl lacks)) = as_it_was old new at lacks.1
  waits_done others first old new (Err fault) at is (inl (inr begins)) = absurd (cc begins.0)
  waits_done others first old new (Ok done) at is (inr (begun, middle, begins, ran)) =
      waits_ran others first old new (Ok done) at is (subst (λ s. Ran T fs (map (wait_act c (first ∷ [])) others) s new (Ok done)) begins.1 ran)
  waits_done others first old new (Err fault) at is (inr (begun, middle, begins, keeps)) =
      subst At (sym (forgets_none begun keeps.0 new begins.0 keeps.4)) (left_so keeps.0 keeps.1 keeps.3)
    where
      left_so : (left : StoreState) (reason : Refusal) →
          Ran T fs (map (wait_act c (first ∷ [])) others) middle left (Err reason) ⊎ ((reason ≡ refusal.NoMemory) × (left ≡ middle)) → At left
      left_so left reason (inl ran) =
          waits_ran others first old left (Err reason) at is (subst (λ s. Ran T fs (map (wait_act c (first ∷ [])) others) s left (Err reason)) begins.1 ran)
      left_so left reason (inr none) = as_it_was old left at (none.1 ∙ begins.1)

  waits_stay : (kept : Kept) → kept.inode ≡ c → Parts (Waits T fs kept)
  waits_stay kept of_inode old new result at (plan, planned, does) =
      let first_is : plan.first ≡ slice_index (readable old fs c) 0 = planned.first_is ∙ ap (λ x. slice_index (readable old fs x) 0) of_inode in
      waits_done plan.others.items plan.first old new result at first_is
      (subst (λ x. Does T fs (record { starts = []; acts = λ begun. map (wait_act x (plan.first ∷ [])) plan.others.items }) old new result)
      (planned.inode_is ∙ of_inode) does)

  -- Bytes past the size

  abbrev kept_all : Kept
  kept_all = kept_up_to c size

  abbrev end : ℕ
  end = file_end size

  abbrev own_plan : BlankPlan
  own_plan = record { block = c; offset = 128 + end; behind = None }

  abbrev leaf_plan : StoreState → BlankPlan
  leaf_plan old = record { block = leaf_block (readable old fs) c (end / 512); offset = end % 512; behind = Some c }

  own_blank : (old new : StoreState) → At old → end < 384 → Ran T fs (blank_act own_plan ∷ []) old new (Ok tt) → At new
  own_blank old new at low ran =
      let few_size = size_few T volume c inode_now few is_tree size size_is old new at in
      let bucket : bucket_at end ≡ 0 = ap (λ t. if t then 0 else end / 512 + 1) (lt-ltb end 384 low) in
      let at_place : place_in_bucket end ≡ end = ap (λ t. if t then end else end % 512) (lt-ltb end 384 low) in
      let left : part_left end ≡ 384 - end = ap (λ t. if t then 384 - end else 512 - end % 512) (lt-ltb end 384 low) in
      blank_next T volume c inode_now few is_tree size size_is old new at end (512 - (128 + end)) (omega arith) (omega arith) (omega arith) c (128 + end)
      (ap (λ b. if b == 0 then c else leaf_block (readable old fs) c (b - 1)) bucket) (stands T volume c inode_now few is_tree size size_is old at).aside.there
      (λ j. bucket_start (bucket j) + at_place j) (omega arith) None ran
      (aside_own T volume.tree c few is_tree size old new (stands T volume c inode_now few is_tree size size_is old at) low ran)

  leaf_blank : (old new : StoreState) → At old → 384 ≤ end → end < greatest_size → blank (bytes_past (readable old fs) c end) ≡ false →
      Ran T fs (blank_act (leaf_plan old) ∷ []) old new (Ok tt) → At new
  leaf_blank old new at high low some ran =
      let few_size = size_few T volume c inode_now few is_tree size size_is old new at in
      let bucket : bucket_at end ≡ end / 512 + 1 = ap (λ t. if t then 0 else end / 512 + 1) (le-ltb end 384 high) in
      let at_place : place_in_bucket end ≡ end % 512 = ap (λ t. if t then end else end % 512) (le-ltb end 384 high) in
      let left : part_left end ≡ 512 - end % 512 = ap (λ t. if t then 384 - end else 512 - end % 512) (le-ltb end 384 high) in
      let bucket_some : bucket_at end ≢ 0 = λ z. absurd (omega (arith, z, bucket)) in
      let less : bucket_at end - 1 ≡ end / 512 = omega arith in
      let start : bucket_start (bucket_at end) ≡ 0 = ap (λ t. if t then 128 else 0) (ne_eqb (bucket_at end) 0 bucket_some) in
      blank_next T volume c inode_now few is_tree size size_is old new at end (512 - end % 512) (omega arith) (omega arith) (omega arith) (leaf_block (readable old fs) c (end / 512)) (end % 512)
      (ap (λ t. if t then c else leaf_block (readable old fs) c (bucket_at end - 1)) (ne_eqb (bucket_at end) 0 bucket_some) ∙
      ap (leaf_block (readable old fs) c) less)
      (leaf_past (readable old fs) c end high some) (omega arith) (omega arith) (Some c) ran
      (aside_leaf T volume.tree c few is_tree size old new (stands T volume c inode_now few is_tree size size_is old at) low ran)

  not_true : (t : Bool) → not t ≡ true → t ≡ false
  not_true true e = absurd (cc e)
  not_true false e = refl

  blanks_stay : (memory : Memory) → Parts (Blanks T fs memory kept_all)
  blanks_stay memory old new result at does = by (has_bytes_behind (readable old fs) c end) refl does
    where
      in_room : (t : Bool) → has_tail (readable old fs) c end ≡ true →
          DoesIfAny T fs (plan_of_blank (if t then Ok (Some (leaf_plan old)) else Err Full)) old new result → At new
      in_room true is does =
          let one = and_parts (nat_lt 384 end) (nat_lt end greatest_size && (not (end % 512 == 0) && not (blank (bytes_past (readable old fs) c end)))) is in
          let two = and_parts (nat_lt end greatest_size) (not (end % 512 == 0) && not (blank (bytes_past (readable old fs) c end))) one.1 in
          let three = and_parts (not (end % 512 == 0)) (not (blank (bytes_past (readable old fs) c end))) two.1 in
          let high : 384 < end = ltb-true 384 end one.0 in
          act_keeps At Stay same after chain T fs (blank_act (leaf_plan old)) old new result at
          (leaf_blank old new at (omega arith) (ltb-true end greatest_size two.0) (not_true (blank (bytes_past (readable old fs) c end)) three.1)) does
      in_room false is does = as_it_was old new at does.1

      tail : (t : Bool) → has_tail (readable old fs) c end ≡ t →
          DoesIfAny T fs (plan_of_blank (if t then (if has_room old fs (length memory.touched) 10 (((leaf_plan old).block, 1) ∷ []) then
          Ok (Some (leaf_plan old)) else Err Full) else Ok None)) old new result → At new
      tail true is does = in_room (has_room old fs (length memory.touched) 10 (((leaf_plan old).block, 1) ∷ [])) is does
      tail false is does = as_it_was old new at does.1

      by : (t : Bool) → has_bytes_behind (readable old fs) c end ≡ t →
          DoesIfAny T fs (plan_of_blank (if t then Ok (Some own_plan) else if has_tail (readable old fs) c end then
          (if has_room old fs (length memory.touched) 10 (((leaf_plan old).block, 1) ∷ []) then Ok (Some (leaf_plan old)) else Err Full) else Ok None)) old new
          result → At new
      by true is does =
          let low = ltb-true end 384 (and_parts (nat_lt end 384) (not (blank (bytes_past (readable old fs) c end))) is).0 in
          act_keeps At Stay same after chain T fs (blank_act own_plan) old new result at (own_blank old new at low) does
      by false is does = tail (has_tail (readable old fs) c end) refl does

  -- The whole

  two : (First Next : StoreState → StoreState → Result (Unit {0}) Fault → Type 0) → Parts First → Parts Next → Parts (Then First Next)
  two = both_keep At Stay same after chain

  pub trim_says : (memory : Memory) → Parts (TrimDoes T fs memory (kept_up_to c size))
  trim_says memory =
      two (HasRoom fs memory kept_all)
      (Then (Blanks T fs memory kept_all) (Then (Drops T fs memory kept_all most_drops) (Then (Roots T fs kept_all) (Waits T fs kept_all))))
      (λ old new result at does. as_it_was old new at does.1)
      (two (Blanks T fs memory kept_all) (Then (Drops T fs memory kept_all most_drops) (Then (Roots T fs kept_all) (Waits T fs kept_all)))
      (blanks_stay memory)
      (two (Drops T fs memory kept_all most_drops) (Then (Roots T fs kept_all) (Waits T fs kept_all))
      (drops_keep At Stay same after chain T fs memory c kept_all.keep (λ old new cut at is ran. cut_stays old new at kept_all.keep (byte_kept size) cut is ran)
      kept_all refl refl most_drops)
      (two (Roots T fs kept_all) (Waits T fs kept_all)
      (λ old new result at does. roots_by old new at kept_all.keep (byte_kept size) result does.0 does.1 does.2)
      (waits_stay kept_all refl))))
