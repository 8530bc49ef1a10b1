-- An inode is trimmed to nothing, whatever it is: all other files are as before, and it says what it said, but for its bytes or its names.
use Rattle.std.proofs.Common.{◌≡◌, ◌≢◌, ◌⊎◌, ℕ, suc, ◌+◌, ◌*◌, ◌-◌, ◌<◌, List, [], ◌∷◌, ◌++◌, Option, None, Some, Result, Ok, Err, refl, sym, ◌∙◌, ap, inl, inr}
use Rattle.std.proofs.Common.{subst}
use Rattle.std.specs.Prelude.{All, IsTrue, MatchOption, map, option_map}
use Rattle.std.proofs.lemmas.List.Elements.{All-weaker}
use Rattle.xn_model.specs.Types.{Types}
use Rattle.xn_model.specs.Lives.{StoreState}
use Rattle.treefs_format.specs.Fields.{fields_of}
use Rattle.treefs_format.specs.Inodes.{kind_of}
use Rattle.treefs_format.specs.Paths.{node_offset}
use Rattle.treefs_format.specs.declared.fields.Fields.{Fields}
use Rattle.treefs_format.specs.declared.kind.Kind.{Kind}
use Rattle.treefs_model.specs.Acts.{Act, Ran, drop_act, wait_act}
use Rattle.treefs_model.specs.Reading.{block_at, bucket_of, byte_of, content_at, files_of, inode_with, key_in}
use Rattle.treefs_model.specs.Trees.{has_pointer}
use Rattle.treefs_model.specs.declared.fault.Fault.{Fault}
use Rattle.treefs_lookup.specs.Readable.{readable}
use Rattle.treefs_edits.specs.Memories.{Memory}
use Rattle.treefs_edits.specs.Plans.{Does, forgotten}
use Rattle.treefs_edits.specs.Written.{written}
use Rattle.treefs_edits.specs.declared.tree.Tree.{Tree}
use Rattle.treefs_byte_plans.specs.Drops.{dropped, planned_drop}
use Rattle.treefs_byte_plans.specs.Roots.{HasNoRoots, IsRootsPlanned, blocks_of, leaf_pointers, pointers_act, roots_plan, tree_pointers}
use Rattle.treefs_byte_plans.specs.declared.cuts.Cut.{Cut}
use Rattle.treefs_byte_plans.specs.declared.kept.Kept.{Kept}
use Rattle.treefs_byte_plans.specs.declared.roots_plan.RootsPlan.{RootsPlan}
use Rattle.treefs.specs.Trimming.{Blanks, DoesIfAny, Drops, HasRoom, Roots, Then, TrimDoes, Waits, kept_nothing, most_drops}
use Rattle.treefs_values.specs.Dropped.{AreOverPointers, IsHolderWay, IsLedTo, clear_act}
use Rattle.treefs_values.specs.Kinds.{kinds}
use Rattle.treefs_values.specs.Ways.{IsFirst, IsWay, block_numbered}
use Rattle.treefs_values.proofs.ForCallers.{IsAt, file_read, inode_numbered, inode_pointer}
use Rattle.treefs_laws.specs.Unnamed.{IsReadAlike}
use Rattle.treefs_laws.proofs.AsideCleared.{cleared_alike, cleared_aside}
use Rattle.treefs_laws.proofs.AsideVolume.{IsAsideIn, StaysAside, alike_same, alike_then}
use Rattle.treefs_laws.proofs.ClearedPointers.{at_still, still_buckets, still_bytes, still_fields, still_inode_block, still_key, still_numbered, still_others}
use Rattle.treefs_laws.proofs.ClearedPointers.{still_root}
use Rattle.treefs_laws.proofs.CutWays.{IsNextCut}
use Rattle.treefs_laws.proofs.NodePointers.{blocks_led, covered_at, node_places, places_over}
use Rattle.treefs_laws.proofs.Planned.{same_done}
use Rattle.treefs_laws.proofs.PointersGone.{IsGone, IsOf, IsRoot}
use Rattle.treefs_laws.proofs.ReapedFiles.{same_or}
use Rattle.treefs_laws.proofs.TrimRoots.{IsRootPatch, IsRootPlace, all_led_to, all_patched, covered_place, root_places, roots_act}
use Rattle.treefs_laws.proofs.TrimSteps.{act_keeps, both_keep, drops_keep, unchanged}
use Rattle.treefs_laws.proofs.WaysApart.{IsInodeBlock}

node_way : (q : List ℕ) (l o p : ℕ) → IsWay q (suc l) → p < 127 → o ≡ node_offset p → IsWay (o ∷ q) l
node_way [] l o p way lt is = absurd way
node_way (r ∷ rs) l o p way lt is = (p, lt, is, way)

root_way : (content : ℕ → List ℕ) (c o : ℕ) → IsRootPlace content c 0 o → (l : ℕ) × IsFirst o l
root_way content c o (inl (h, low, high, past, is)) = (h, inr (low, high, is))
root_way content c o (inr (i, low, high, is)) = (0, inl (i, high, is, refl))

-- A plan without acts

forgets_none : (T : Types) (fs : ℕ) (begun : List ℕ) (left new : StoreState) → ◌≡◌ {A = Result (List ℕ) Fault} (Ok begun) (Ok []) →
    new ≡ forgotten T fs begun left → new ≡ left
forgets_none T fs [] left new none is = is
forgets_none T fs (b ∷ begun) left new none is = absurd (cc (same_done (b ∷ begun) [] none))

no_acts : (T : Types) (fs : ℕ) (acts : List Act) (old new : StoreState) (result : Result (Unit {0}) Fault) → acts ≡ [] →
    Does T fs (record { starts = []; acts = λ begun. acts }) old new result → new ≡ old
no_acts T fs acts old new result none does = by result (subst (λ acts. Does T fs (record { starts = []; acts = λ begun. acts }) old new result) none does)
  where
    by : (result : Result (Unit {0}) Fault) → Does T fs (record { starts = []; acts = λ begun. [] }) old new result → new ≡ old
    by (Ok done) (inl none) = absurd none
    by (Err fault) (inl (inl lacks)) = lacks.1
    by (Err fault) (inl (inr begins)) = absurd (cc begins.0)
    by (Ok done) (inr (begun, middle, begins, ran)) = ran.1 ∙ begins.1
    by (Err fault) (inr (begun, middle, begins, (left, reason, is, ran, then_is))) = forgets_none T fs begun left new begins.0 then_is
        ∙ (left_is ran ∙ begins.1)
      where
        left_is : {P : Type 0} → Ran T fs [] middle left (Err reason) ⊎ (P × (left ≡ middle)) → left ≡ middle
        left_is (inl ran) = ran.1
        left_is (inr none) = none.1

-- Its parts

module _ (T : Types) (tree : Tree) (c : ℕ) (fields : Fields) where
  abbrev fs : ℕ
  fs = tree.fs.number

  abbrev top : ℕ
  top = tree.top

  -- an inode in a state of the store, with a number, or one to which nothing points
  pub record IsInodeAt (s : StoreState) : Type 0 where
    pub here : IsAt T fs tree.node_type tree.inode_type top s
    pub there : c ≢ 0
    pub no_table : c ≢ top
    pub is_block : IsInodeBlock tree.node_type tree.inode_type (kinds s fs) (readable s fs) c
    pub stands : IsRoot tree.node_type tree.inode_type (kinds s fs) (readable s fs) top c
    pub fields_are : fields_of (readable s fs c) ≡ fields

  pub record Leaves (old new : StoreState) : Type 0 where
    pub at : IsInodeAt new
    pub numbers : (m : ℕ) → block_numbered (readable new fs) top m ≡ block_numbered (readable old fs) top m
    pub key : key_in (readable new fs) top ≡ key_in (readable old fs) top
    pub bytes : (p : ℕ) → (byte_of (readable new fs) c p ≡ byte_of (readable old fs) c p) ⊎ (byte_of (readable new fs) c p ≡ 0)
    pub buckets : (k : ℕ) → (bucket_of (readable new fs) c k ≡ bucket_of (readable old fs) c k) ⊎ (bucket_of (readable new fs) c k ≡ [])
    pub others : (m : ℕ) → block_numbered (readable old fs) top m ≢ c → files_of (readable new fs) top m ≡ files_of (readable old fs) top m
    pub beside : StaysAside tree old new
    pub alike_beside : (a : ℕ) → a ≢ c → IsAsideIn old tree a → IsReadAlike (readable old fs) (readable new fs) a

  same_state : (s : StoreState) → IsInodeAt s → Leaves s s
  same_state s at = record {
    at = at;
    numbers = λ m. refl;
    key = refl;
    bytes = λ p. inl refl;
    buckets = λ k. inl refl;
    others = λ m ne. refl;
    beside = λ a is. is;
    alike_beside = λ a ne is. alike_same (readable s fs) a;
  }

  after : (old new : StoreState) → Leaves old new → IsInodeAt new
  after old new leaves = leaves.at

  chain : (old middle new : StoreState) → Leaves old middle → Leaves middle new → Leaves old new
  chain old middle new first second = record {
    at = second.at;
    numbers = λ m. second.numbers m ∙ first.numbers m;
    key = second.key ∙ first.key;
    bytes = λ p. same_or (byte_of (readable old fs) c p) (byte_of (readable middle fs) c p) (byte_of (readable new fs) c p) 0 (first.bytes p) (second.bytes p);
    buckets = λ k. same_or (bucket_of (readable old fs) c k) (bucket_of (readable middle fs) c k) (bucket_of (readable new fs) c k) [] (first.buckets k)
        (second.buckets k);
    others = λ m ne. second.others m (λ is. ne (sym (first.numbers m) ∙ is)) ∙ first.others m ne;
    beside = λ a is. second.beside a (first.beside a is);
    alike_beside = λ a ne is.
        alike_then (readable old fs) (readable middle fs) (readable new fs) a (first.alike_beside a ne is) (second.alike_beside a ne (first.beside a is));
  }

  abbrev Parts : (StoreState → StoreState → Result (Unit {0}) Fault → Type 0) → Type 0
  Parts Part = (old new : StoreState) (result : Result (Unit {0}) Fault) → IsInodeAt old → Part old new result → Leaves old new

  same_as : (old new : StoreState) → IsInodeAt old → new ≡ old → Leaves old new
  same_as = unchanged IsInodeAt Leaves same_state after chain

  -- pointers of the inode, or of a node, become 0
  module _ (old new : StoreState) (at : IsInodeAt old) where
    abbrev content : ℕ → List ℕ
    content = readable old fs

    clear_leaves : (q : List ℕ) (way : IsHolderWay q) (there : block_at (readable old fs) c q ≢ 0) (places : List (ℕ × ℕ)) (blocks : List ℕ) (behind : Option ℕ)
        (over : All (AreOverPointers tree.node_type tree.inode_type (kinds old fs (block_at (readable old fs) c q))) places)
        (led : All (IsLedTo (readable old fs) (block_at (readable old fs) c q) places) blocks)
        (act : Act) (no_adds : act.edit.adds ≡ []) (at_block : act.block ≡ block_at (readable old fs) c q) (drops : act.edit.drops ≡ blocks)
        (writes : written act (readable old fs) ≡ written (clear_act (block_at (readable old fs) c q) places blocks behind) (readable old fs))
        (ran : Ran T fs (act ∷ []) old new (Ok tt))
        (of : (b : ℕ) → IsGone (readable old fs) (block_at (readable old fs) c q) places b → IsOf (readable old fs) top c b) → Leaves old new
    clear_leaves q way there places blocks behind over led act no_adds at_block drops writes ran of = record {
      at = record {
        here = at_still T tree old new at.here c at.is_block q way there places blocks behind over led act no_adds at_block drops writes ran at.there
            at.stands of;
        there = at.there;
        no_table = at.no_table;
        is_block = still_inode_block T tree old new at.here c at.is_block q way there places blocks behind over led act no_adds at_block drops writes ran
            at.there at.stands of at.no_table;
        stands = still_root T tree old new at.here c at.is_block q way there places blocks behind over led act no_adds at_block drops writes ran at.there
            at.stands of at.no_table;
        fields_are =
            still_fields T tree old new at.here c at.is_block q way there places blocks behind over led act no_adds at_block drops writes ran at.there
            at.stands of at.no_table
            ∙ at.fields_are;
      };
      numbers = still_numbered T tree old new at.here c at.is_block q way there places blocks behind over led act no_adds at_block drops writes ran
          at.there at.stands of at.no_table;
      key = still_key T tree old new at.here c at.is_block q way there places blocks behind over led act no_adds at_block drops writes ran at.there
          at.stands of;
      bytes = still_bytes T tree old new at.here c at.is_block q way there places blocks behind over led act no_adds at_block drops writes ran at.there
          at.stands of at.no_table;
      buckets = still_buckets T tree old new at.here c at.is_block q way there places blocks behind over led act no_adds at_block drops writes ran
          at.there
          at.stands of at.no_table;
      others = still_others T tree old new at.here c at.is_block q way there places blocks behind over led act no_adds at_block drops writes ran at.there
          at.stands of at.no_table;
      beside = cleared_aside T tree old new at.here c at.is_block q way there places blocks behind over led act no_adds at_block drops writes ran at.there
          at.stands of;
      alike_beside = λ a ne is.
          cleared_alike T tree old new at.here c at.is_block q way there places blocks behind over led act no_adds at_block drops writes ran at.there
          at.stands of a is ne;
    }

    cut_leaves : (cut : Cut) → IsNextCut (readable old fs) c 0 cut → Ran T fs (planned_drop (readable old fs) c cut) old new (Ok tt) → Leaves old new
    cut_leaves cut is ran = clear_leaves is.above (inr (is.level, is.way)) there places blocks behind over led act refl (sym is.leads) refl writes ran of
      where
        holder : ℕ
        holder = block_at content c is.above

        places : List (ℕ × ℕ)
        places = node_places cut.place is.place

        blocks : List ℕ
        blocks = dropped content cut.block cut.place

        behind : Option ℕ
        behind = Some c

        act : Act
        act = drop_act cut.block (node_offset cut.place) (127 - cut.place) blocks behind

        there : holder ≢ 0
        there z = is.there (sym is.leads ∙ z)

        over : All (AreOverPointers tree.node_type tree.inode_type (kinds old fs holder)) places
        over = places_over cut.place is.place tree.node_type tree.inode_type (kinds old fs holder) (at.is_block.nodes is.level is.above is.way there)

        led : All (IsLedTo content holder places) blocks
        led = subst (λ x. All (IsLedTo content x places) blocks) (sym is.leads) (blocks_led cut.place is.place content cut.block)

        writes : written act content ≡ written (clear_act holder places blocks behind) content
        writes = ap (λ x. written (clear_act x places blocks behind) content) (sym is.leads)

        of : (b : ℕ) → IsGone content holder places b → IsOf content top c b
        of b (some, o, cover, led_is) =
            let p = covered_at cut.place is.place o cover in
            inl (at.no_table, is.level, o ∷ is.above, node_way is.above is.level o p.0 is.way p.2 p.3, sym led_is)

    roots_leave : Ran T fs (pointers_act c (tree_pointers (readable old fs) c 0) (leaf_pointers (readable old fs) c 0) ∷ []) old new (Ok tt) → Leaves old new
    roots_leave ran = clear_leaves [] (inl refl) at.there places blocks None over (all_led_to content c 0) act refl refl refl writes ran of
      where
        places : List (ℕ × ℕ)
        places = root_places content c 0

        blocks : List ℕ
        blocks = blocks_of (tree_pointers content c 0) ++ blocks_of (leaf_pointers content c 0)

        act : Act
        act = pointers_act c (tree_pointers content c 0) (leaf_pointers content c 0)

        root_pointer : (o : ℕ) → IsRootPlace content c 0 o → IsTrue (has_pointer tree.node_type tree.inode_type (kinds old fs c) o)
        root_pointer o is = let w = root_way content c o is in inode_pointer tree.node_type tree.inode_type (kinds old fs c) o w.0 at.is_block.typed w.1

        over : All (AreOverPointers tree.node_type tree.inode_type (kinds old fs c)) places
        over = All-weaker (IsRootPatch content c 0) (AreOverPointers tree.node_type tree.inode_type (kinds old fs c))
            (λ p is. (is.some, λ i lt. root_pointer (p.0 + 4 * i) (is.places i lt))) places (all_patched content c 0)

        writes : written act content ≡ written (clear_act c places blocks None) content
        writes = ap (λ (a : Act). written a content) (roots_act content c 0 c)

        of : (b : ℕ) → IsGone content c places b → IsOf content top c b
        of b (some, o, cover, led_is) = let w = root_way content c o (covered_place content c 0 o cover) in inl (at.no_table, w.0, o ∷ [], w.1, sym led_is)

    roots_by : (result : Result (Unit {0}) Fault) (planned : Option RootsPlan) →
        MatchOption planned (HasNoRoots (readable old fs) c 0) (IsRootsPlanned (readable old fs) c 0) →
        DoesIfAny T fs (Ok (option_map roots_plan planned)) old new result → Leaves old new
    roots_by result None none does = same_as old new at does.1
    roots_by result (Some plan) planned does = act_keeps IsInodeAt Leaves same_state after chain T fs
        (pointers_act plan.inode plan.trees.items plan.leaves.items) old new result at
        (λ ran. roots_leave (subst (λ (a : Act). Ran T fs (a ∷ []) old new (Ok tt))
        (λ j. pointers_act (planned.inode_is j) (planned.trees_are j) (planned.leaves_are j)) ran)) does

  -- The whole

  module _ (memory : Memory) where
    abbrev nothing : Kept
    nothing = kept_nothing c

    two : (First Next : StoreState → StoreState → Result (Unit {0}) Fault → Type 0) → Parts First → Parts Next → Parts (Then First Next)
    two = both_keep IsInodeAt Leaves same_state after chain

    waits : Parts (Waits T fs nothing)
    waits old new result at (plan, planned, does) = same_as old new at
        (no_acts T fs (map (wait_act plan.inode (plan.first ∷ [])) plan.others.items) old new result
        (ap (map (wait_act plan.inode (plan.first ∷ []))) planned.others_are) does)

    pub empties : Parts (TrimDoes T fs memory (kept_nothing c))
    empties =
        two (HasRoom fs memory nothing) (Then (Blanks T fs memory nothing)
        (Then (Drops T fs memory nothing most_drops) (Then (Roots T fs nothing) (Waits T fs nothing))))
        (λ old new result at does. same_as old new at does.1)
        (two (Blanks T fs memory nothing) (Then (Drops T fs memory nothing most_drops) (Then (Roots T fs nothing) (Waits T fs nothing)))
        (λ old new result at does. same_as old new at does.1)
        (two (Drops T fs memory nothing most_drops) (Then (Roots T fs nothing) (Waits T fs nothing))
        (drops_keep IsInodeAt Leaves same_state after chain T fs memory c 0 (λ old new cut at is ran. cut_leaves old new at cut is ran) nothing refl refl
        most_drops)
        (two (Roots T fs nothing) (Waits T fs nothing)
        (λ old new result at does. roots_by old new at result does.0 does.1 does.2)
        waits)))

  -- What it says, where it has a number

  pub says : (s : StoreState) (n : ℕ) (k : Kind) → n ≢ 0 → IsInodeAt s → block_numbered (readable s fs) top n ≡ c → kind_of fields.mode ≡ Some k →
      files_of (readable s fs) top n ≡ Some (inode_with fields (content_at (readable s fs) (key_in (readable s fs) top) c fields.parent k))
  says s n k number at block is_kind =
      let content : ℕ → List ℕ = readable s fs in
      file_read content top n c (sym (inode_numbered content top n number) ∙ block) at.there
      ∙ (ap (λ (g : Fields). option_map (λ k. inode_with g (content_at content (key_in content top) c g.parent k)) (kind_of g.mode)) at.fields_are
      ∙ ap (option_map (λ k. inode_with fields (content_at content (key_in content top) c fields.parent k))) is_kind)
