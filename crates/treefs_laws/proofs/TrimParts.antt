-- The parts of a trim: each leaves the volume one, and the files as they were.
use Rattle.std.proofs.Common.{◌≡◌, ◌≢◌, ◌⊎◌, ℕ, ◌-◌, ◌/◌, ◌<◌, ◌≤◌, List, [], ◌∷◌, Option, Some, Result, Ok, refl, sym, ◌∙◌, ap, inr, subst}
use Rattle.std.specs.Prelude.{All}
use Rattle.xn_model.specs.Types.{Types}
use Rattle.xn_model.specs.Lives.{StoreState}
use Rattle.treefs_format.specs.Fields.{fields_of}
use Rattle.treefs_format.specs.Inodes.{kind_of}
use Rattle.treefs_format.specs.Paths.{node_offset, steps}
use Rattle.treefs_format.specs.declared.kind.Kind.{Kind}
use Rattle.treefs_format.specs.declared.kind.Kind.TheVariants as kind
use Rattle.treefs_model.specs.Acts.{Act, Ran, drop_act}
use Rattle.treefs_model.specs.Reading.{block_at, files_of}
use Rattle.treefs_model.specs.declared.fault.Fault.{Fault}
use Rattle.treefs_lookup.specs.Readable.{readable}
use Rattle.treefs_edits.specs.Memories.{Memory}
use Rattle.treefs_edits.specs.Written.{written}
use Rattle.treefs_edits.specs.declared.tree.Tree.{Tree}
use Rattle.treefs_byte_plans.specs.Drops.{dropped}
use Rattle.treefs_byte_plans.specs.declared.cuts.Cut.{Cut}
use Rattle.treefs_byte_plans.specs.declared.kept.Kept.{Kept}
use Rattle.treefs.specs.Trimming.{Drops, Then}
use Rattle.treefs_values.specs.Dropped.{AreDropped, AreOverPointers, IsCovered, IsHolderWay, IsLedTo, IsPast, LeadsOn, clear_act, with_blocks}
use Rattle.treefs_values.specs.Kinds.{kinds}
use Rattle.treefs_values.specs.Volumes.{IsVolume, IsWholeBlock}
use Rattle.treefs_values.specs.Ways.{block_numbered}
use Rattle.treefs_values.proofs.ForCallers.{IsAt, dropped_fields, dropped_files, dropped_numbered, dropped_volume}
use Rattle.treefs_laws.proofs.ClearedPointers.{are_cleared, at_then, clears, holder_typed, still_whole}
use Rattle.treefs_laws.proofs.CutWays.{IsKeptLeaf, IsNextCut}
use Rattle.treefs_laws.proofs.Fading.{IsFaded, dropped_fade, faded_same, faded_then}
use Rattle.treefs_laws.proofs.NodePointers.{blocks_led, covered_at, node_places, places_over}
use Rattle.treefs_laws.proofs.TrimSteps.{both_keep, drops_keep}
use Rattle.treefs_laws.proofs.WaysApart.{IsInodeBlock, numbered_block}

module _ (T : Types) (tree : Tree) (n : ℕ) (number : n ≢ 0) (c size : ℕ) (k : Kind) (no_directory : k ≢ kind.Directory) where
  abbrev fs : ℕ
  fs = tree.fs.number

  abbrev top : ℕ
  top = tree.top

  abbrev node : ℕ
  node = tree.node_type

  abbrev inode : ℕ
  inode = tree.inode_type

  -- a file or a symbolic link, in a state of the store
  pub record IsFileAt (s : StoreState) : Type 0 where
    pub here : IsAt T fs node inode top s
    pub block : block_numbered (readable s fs) top n ≡ c
    pub there : c ≢ 0
    pub size_is : (fields_of (readable s fs (block_numbered (readable s fs) top n))).size ≡ size
    pub kind_is : kind_of (fields_of (readable s fs (block_numbered (readable s fs) top n))).mode ≡ Some k

  -- the files stay, and past its size nothing comes to be there
  abbrev pub Stays : StoreState → StoreState → Type 0
  Stays old new = IsFileAt new × (files_of (readable new fs) top ≡ files_of (readable old fs) top) × IsFaded (readable old fs) (readable new fs) c

  same_state : (s : StoreState) → IsFileAt s → Stays s s
  same_state s at = (at, refl, faded_same (readable s fs) (readable s fs) c refl)

  two_states : (old middle new : StoreState) → Stays old middle → Stays middle new → Stays old new
  two_states old middle new first second =
      (second.0, second.1 ∙ first.1, faded_then (readable old fs) (readable middle fs) (readable new fs) c first.2 second.2)

  pub stays_same : (old new : StoreState) → IsFileAt old → new ≡ old → Stays old new
  stays_same old new at same = subst (Stays old) (sym same) (same_state old at)

  pub stays_then : (old middle new : StoreState) → Stays old middle → (IsFileAt middle → Stays middle new) → Stays old new
  stays_then old middle new first next = two_states old middle new first (next first.0)

  -- one part, and then another
  pub both_stay : (First Next : StoreState → StoreState → Result (Unit {0}) Fault → Type 0) →
      ((old new : StoreState) (result : Result (Unit {0}) Fault) → IsFileAt old → First old new result → Stays old new) →
      ((old new : StoreState) (result : Result (Unit {0}) Fault) → IsFileAt old → Next old new result → Stays old new) →
      (old new : StoreState) (result : Result (Unit {0}) Fault) → IsFileAt old → Then First Next old new result → Stays old new
  both_stay = both_keep IsFileAt Stays same_state (λ old new stays. stays.0) two_states

  -- Pointers that become 0

  module _ (old new : StoreState) (at : IsFileAt old) (q : List ℕ) (way : IsHolderWay q)
      (there : block_at (readable old fs) (block_numbered (readable old fs) top n) q ≢ 0)
      (places : List (ℕ × ℕ)) (blocks : List ℕ) (behind : Option ℕ)
      (over : All (AreOverPointers node inode (kinds old fs (block_at (readable old fs) (block_numbered (readable old fs) top n) q))) places)
      (led : All (IsLedTo (readable old fs) (block_at (readable old fs) (block_numbered (readable old fs) top n) q) places) blocks)
      (past : (o : ℕ) → IsCovered places o → IsPast size (o ∷ q))
      (ran : Ran T fs (clear_act (block_at (readable old fs) (block_numbered (readable old fs) top n) q) places blocks behind ∷ []) old new (Ok tt)) where
    abbrev content : ℕ → List ℕ
    content = readable old fs

    abbrev type : ℕ → ℕ
    type = kinds old fs

    abbrev holder : ℕ
    holder = block_at content (block_numbered content top n) q

    abbrev act : Act
    act = clear_act holder places blocks behind

    abbrev later : ℕ → List ℕ
    later = with_blocks (written act content) blocks []

    abbrev type' : ℕ → ℕ
    type' = with_blocks type blocks 0

    v : IsVolume node inode type content top
    v = at.here.volume

    starts_at : IsInodeBlock node inode type content (block_numbered content top n)
    starts_at = numbered_block node inode top type content v n (λ z. at.there (sym at.block ∙ z))

    gone : AreDropped node inode type type' content later holder places
    gone = are_cleared T tree old new at.here (block_numbered content top n) starts_at q way there places blocks behind over led act refl refl refl refl
        ran

    whole' : IsWholeBlock (later holder)
    whole' = still_whole T tree old new at.here (block_numbered content top n) starts_at q way there places blocks behind over led act refl refl refl
        refl ran

    reads : readable new fs ≡ later
    reads = clears T tree old new at.here (block_numbered content top n) starts_at q way there places blocks behind over led act refl refl refl refl ran

    past' : (o : ℕ) → IsCovered places o → IsPast (fields_of (content (block_numbered content top n))).size (o ∷ q)
    past' o cover = subst (λ s. IsPast s (o ∷ q)) (sym at.size_is) (past o cover)

    numbered : block_numbered later top n ≡ block_numbered content top n
    numbered = dropped_numbered node inode top type type' content later v n number q way there places gone n

    fields : fields_of (later (block_numbered later top n)) ≡ fields_of (content (block_numbered content top n))
    fields = ap (λ x. fields_of (later x)) numbered ∙ dropped_fields node inode top type type' content later v n number q way there places gone

    volume' : IsVolume node inode type' later top
    volume' = dropped_volume node inode top type type' content later v n number q way there places gone k at.kind_is no_directory past' whole'

    typed : (type holder ≡ inode) ⊎ (type holder ≡ node)
    typed = holder_typed T tree old new at.here (block_numbered content top n) starts_at q way there places blocks behind over led act refl refl refl
        refl ran way

    faded : IsFaded content later c
    faded = subst (IsFaded content later) (numbered ∙ at.block)
        (dropped_fade node inode top type type' content later volume' n number (λ z. at.there (sym (numbered ∙ at.block) ∙ z)) holder places typed gone)

    pub clear_stays : Stays old new
    clear_stays = (
      record {
        here = at_then T tree old new at.here (block_numbered content top n) starts_at q way there places blocks behind over led act refl refl refl refl
            ran volume';
        block = ap (λ m. block_numbered m top n) reads ∙ (numbered ∙ at.block);
        there = at.there;
        size_is = ap (λ m. (fields_of (m (block_numbered m top n))).size) reads ∙ (ap (λ f. f.size) fields ∙ at.size_is);
        kind_is = ap (λ m. kind_of (fields_of (m (block_numbered m top n))).mode) reads ∙ (ap (λ f. kind_of f.mode) fields ∙ at.kind_is);
      },
      ap (λ m. files_of m top) reads ∙ dropped_files node inode top type type' content later v n number q way there places gone k at.kind_is no_directory
          past',
      subst (λ m. IsFaded content m c) (sym reads) faded,
    )

  -- Pointers of nodes

  module _ (keep : ℕ) (kept : (b : ℕ) → 384 ≤ b → b < size → IsKeptLeaf keep (b / 512)) where
    module _ (old new : StoreState) (at : IsFileAt old) (cut : Cut) (is : IsNextCut (readable old fs) (block_numbered (readable old fs) top n) keep cut)
        (behind : Option ℕ)
        (ran : Ran T fs (drop_act cut.block (node_offset cut.place) (127 - cut.place) (dropped (readable old fs) cut.block cut.place) behind ∷ []) old new
        (Ok tt)) where
      abbrev cut_holder : ℕ
      cut_holder = block_at (readable old fs) (block_numbered (readable old fs) top n) is.above

      cut_there : cut_holder ≢ 0
      cut_there z = is.there (sym is.leads ∙ z)

      is_node : kinds old fs cut_holder ≡ node
      is_node = at.here.volume.typed.nodes n is.level is.above is.way cut_there

      pub cut_stays : Stays old new
      cut_stays = clear_stays old new at is.above (inr (is.level, is.way)) cut_there (node_places cut.place is.place)
          (dropped (readable old fs) cut.block cut.place) behind
          (places_over cut.place is.place node inode (kinds old fs cut_holder) is_node)
          (subst (λ x. All (IsLedTo (readable old fs) x (node_places cut.place is.place)) (dropped (readable old fs) cut.block cut.place)) (sym is.leads)
          (blocks_led cut.place is.place (readable old fs) cut.block))
          (λ o cover b low lt leads.
          let p = covered_at cut.place is.place o cover in
          is.past p.0 (b / 512) p.1 (kept b low lt) (subst (λ x. LeadsOn (steps (b / 512)) (x ∷ is.above)) p.3 leads))
          (subst (λ x. Ran T fs (drop_act x (node_offset cut.place) (127 - cut.place) (dropped (readable old fs) cut.block cut.place) behind ∷ []) old new
          (Ok tt)) (sym is.leads) ran)

    -- one node after another
    pub drops_stay : (memory : Memory) (kept_is : Kept) → kept_is.inode ≡ c → kept_is.keep ≡ keep →
        (left : ℕ) (old new : StoreState) (result : Result (Unit {0}) Fault) →
        IsFileAt old → Drops T fs memory kept_is left old new result → Stays old new
    drops_stay memory kept_is of_inode of_keep =
        drops_keep IsFileAt Stays same_state (λ old new stays. stays.0) two_states T fs memory c keep
        (λ old new cut at is ran. cut_stays old new at cut (subst (λ x. IsNextCut (readable old fs) x keep cut) (sym at.block) is) (Some c) ran) kept_is
        of_inode of_keep
