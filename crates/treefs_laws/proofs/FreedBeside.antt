-- The inodes without links whose pointers stand in one block, and that block.
use Rattle.std.proofs.Common.{◌≡◌, ◌≢◌, ◌⊎◌, ℕ, zero, suc, ◌+◌, ◌-◌, ◌*◌, ◌<◌, ◌≤◌, Bool, true, false, List, [], ◌∷◌, ◌++◌, refl, sym, ◌∙◌, ap, inl, inr, subst}
use Rattle.std.proofs.Common.{arith, if◌then◌else◌}
use Rattle.std.specs.Prelude.{All, flat_map, ◌==◌}
use Rattle.std.specs.List.{range_with_len}
use Rattle.std.proofs.lemmas.Bool.{cases_eq, eq-eqb, eqb-false, eqb-true, ne_eqb, or_left, or_right}
use Rattle.std.proofs.lemmas.List.Elements.{All-cons, All-nil}
use Rattle.xn_model.specs.Lists.{has_number}
use Rattle.treefs_format.specs.Paths.{last_beside, leaf_count, steps}
use Rattle.treefs_lookup.specs.Walks.{further, holder_steps, pointer_offset, reach, reached}
use Rattle.treefs_model.specs.Reading.{block_at, leaf_block, pointed}
use Rattle.treefs.specs.Reaping.{first_beside, freed_at, freed_beside, freed_with, is_freed, orphan_block}
use Rattle.treefs.specs.declared.reap_plan.Freed.{Freed}
use Rattle.treefs_values.specs.Dropped.{IsHolderWay}
use Rattle.treefs_values.specs.Volumes.{IsVolume}
use Rattle.treefs_values.specs.Ways.{IsWay, block_numbered}
use Rattle.treefs_laws.proofs.ClearedBytes.{AreRising}
use Rattle.treefs_laws.proofs.OrphansFound.{orphan_is}
use Rattle.treefs_laws.proofs.PointersBeside.{offset_beside, one_block, start, steps_beside}
use Rattle.treefs_laws.proofs.WaysApart.{numbered_leaf, steps_way}

-- The last block of a path that is there

pub reach_there : (content : ℕ → List ℕ) (top : ℕ) (os : List ℕ) → block_at content top os ≢ 0 → reach content top os ≡ reached (block_at content top os) 0
reach_there content top [] there = refl
reach_there content top (o ∷ os) there =
    ap (further content o) (reach_there content top os (λ z. there (ap (λ b. pointed content b o) z)))
    ∙ ap (λ t. if t then reached (block_at content top os) 1 else reached (pointed content (block_at content top os) o) 0)
    (ne_eqb (pointed content (block_at content top os) o) 0 there)

module _ (node inode top : ℕ) (type : ℕ → ℕ) (content : ℕ → List ℕ) (v : IsVolume node inode type content top)
    (numbers : List ℕ) (leaf : ℕ) where
  -- one of those that are freed
  pub record IsFreedAt (x : Freed) : Type 0 where
    pub place : ℕ
    pub low : first_beside leaf ≤ place
    pub high : place ≤ last_beside leaf
    pub few : place < leaf_count
    pub among : has_number numbers (place + 1) ≡ true
    pub number : x.number ≡ place + 1
    pub orphan : orphan_block content top (place + 1) ≢ 0
    pub block : x.block ≡ block_numbered content top (place + 1)
    pub offset : x.offset ≡ pointer_offset place

  few_of : (l : ℕ) → orphan_block content top (l + 1) ≢ 0 → l < leaf_count
  few_of l some =
      let o = orphan_is content top (l + 1) some in
      let few = (numbered_leaf node inode top type content v (l + 1) o.is.number o.is.there).few in
      omega arith

  abbrev run : ℕ → ℕ → List Freed
  run from count = flat_map (freed_at content top numbers) (range_with_len from count)

  pub record IsFreedRun (from count : ℕ) (xs : List Freed) : Type 0 where
    pub all : All IsFreedAt xs
    pub rising : (low : ℕ) → low ≤ start leaf + 4 * (from - first_beside leaf) → AreRising low xs
    pub has : (l : ℕ) → from ≤ l → l < from + count → has_number numbers (l + 1) ≡ true → orphan_block content top (l + 1) ≢ 0 → is_freed xs (l + 1) ≡ true

  module _ (count from : ℕ) (low : first_beside leaf ≤ from) (high : from ≤ last_beside leaf) (later : IsFreedRun (from + 1) count (run (from + 1) count)) where
    abbrev others : List Freed
    others = run (from + 1) count

    skipped : ((has_number numbers (from + 1) ≡ true) → orphan_block content top (from + 1) ≢ 0 → ⊥) → IsFreedRun from (suc count) others
    skipped none = record {
      all = later.all;
      rising = λ o le. later.rising o (omega arith);
      has = λ l ge lt among some. elim (cases_first l ge) [
        | inl same ↦ absurd (none (ap (λ k. has_number numbers (k + 1)) same ∙ among) (λ z. some (ap (λ k. orphan_block content top (k + 1)) (sym same) ∙ z)))
        | inr more ↦ later.has l more (omega arith) among some
      ];
    }
      where
        cases_first : (l : ℕ) → from ≤ l → (from ≡ l) ⊎ (from + 1 ≤ l)
        cases_first l ge = elim (cases_eq from l) [ inl same ↦ inl same | inr ne ↦ inr (omega arith) ]

    taken : has_number numbers (from + 1) ≡ true → (some : orphan_block content top (from + 1) ≢ 0) →
        IsFreedRun from (suc count) (record { number = from + 1; offset = pointer_offset from; block = orphan_block content top (from + 1) } ∷ others)
    taken among some =
        let x : Freed = record { number = from + 1; offset = pointer_offset from; block = orphan_block content top (from + 1) } in
        let few = few_of from some in
        let at = offset_beside leaf from few low high in
        record {
          all = All-cons IsFreedAt x others
              (record {
                place = from;
                low = low;
                high = high;
                few = few;
                among = among;
                number = refl;
                orphan = some;
                block = (orphan_is content top (from + 1) some).block;
                offset = refl;
              }) later.all;
          rising = λ o le. (subst (λ y. o ≤ y) (sym at) le, later.rising (pointer_offset from) (omega arith));
          has = λ l ge lt among' some'. elim (cases_eq from l) [
            | inl same ↦ or_left (from + 1 == l + 1) (is_freed others (l + 1)) (eq-eqb (from + 1) (l + 1) (ap (λ k. k + 1) same))
            | inr ne ↦ or_right (from + 1 == l + 1) (is_freed others (l + 1)) (later.has l (omega arith) (omega arith) among' some')
          ];
        }

    one_more : IsFreedRun from (suc count) (freed_at content top numbers from ++ others)
    one_more = by (has_number numbers (from + 1)) refl
      where
        with_block : has_number numbers (from + 1) ≡ true → (t : Bool) → (orphan_block content top (from + 1) == 0) ≡ t →
            IsFreedRun from (suc count) ((if t then [] else record
            { number = from + 1; offset = pointer_offset from; block = orphan_block content top (from + 1) } ∷ []) ++ others)
        with_block among true e = skipped (λ a some. some (eqb-true (orphan_block content top (from + 1)) 0 e))
        with_block among false e = taken among (eqb-false (orphan_block content top (from + 1)) 0 e)

        by : (t : Bool) → has_number numbers (from + 1) ≡ t →
            IsFreedRun from (suc count) ((if t then freed_with from (orphan_block content top (from + 1)) else []) ++ others)
        by true e = with_block e (orphan_block content top (from + 1) == 0) refl
        by false e = skipped (λ among some. absurd (cc (sym e ∙ among)))

  run_is : (count from : ℕ) → first_beside leaf ≤ from → from + count ≤ last_beside leaf + 1 → IsFreedRun from count (run from count)
  run_is zero from low high = record { all = All-nil IsFreedAt; rising = λ o le. tt; has = λ l ge lt. absurd (omega (arith, ge, lt)) }
  run_is (suc count) from low high = one_more count from low (omega arith) (run_is count (from + 1) (omega arith) (omega arith))

  pub freed_known : IsFreedRun (first_beside leaf) (last_beside leaf + 1 - first_beside leaf) (freed_beside content top numbers leaf)
  freed_known =
      let one = one_block leaf in
      let a = one.0 in
      let b = one.1 in
      run_is (last_beside leaf + 1 - first_beside leaf) (first_beside leaf) (omega arith) (omega arith)

  -- The block of the pointers

  module _ (own : orphan_block content top (leaf + 1) ≢ 0) where
    abbrev pub holder : ℕ
    holder = block_at content top (holder_steps leaf)

    -- of a leaf beside it, the pointer leads to its inode
    pub leads : (l : ℕ) → l < leaf_count → first_beside leaf ≤ l → l ≤ last_beside leaf → orphan_block content top (l + 1) ≢ 0 →
        (pointed content holder (pointer_offset l) ≡ block_numbered content top (l + 1)) × IsWay (pointer_offset l ∷ holder_steps leaf) 0
    leads l few low high some =
        let o = orphan_is content top (l + 1) some in
        let same : l + 1 - 1 ≡ l = omega arith in
        let at = (numbered_leaf node inode top type content v (l + 1) o.is.number o.is.there).leaf ∙ ap (leaf_block content top) same in
        let path : steps l ≡ pointer_offset l ∷ holder_steps leaf =
        steps_beside leaf l (few_of leaf own) few low high ∙ ap (λ x. x ∷ holder_steps leaf) (sym (offset_beside leaf l few low high)) in
        (ap (block_at content top) (sym path) ∙ sym at, subst (λ os. IsWay os 0) path (steps_way l))

    own_leads : (pointed content holder (pointer_offset leaf) ≡ block_numbered content top (leaf + 1)) × IsWay (pointer_offset leaf ∷ holder_steps leaf) 0
    own_leads = leads leaf (few_of leaf own) (one_block leaf).0 (one_block leaf).1 own

    pub holder_there : holder ≢ 0
    holder_there z = (orphan_is content top (leaf + 1) own).is.there (sym own_leads.0 ∙ ap (λ b. pointed content b (pointer_offset leaf)) z)

    pub holder_way : IsHolderWay (holder_steps leaf)
    holder_way = by (holder_steps leaf) own_leads.1
      where
        by : (q : List ℕ) → IsWay (pointer_offset leaf ∷ q) 0 → IsHolderWay q
        by [] way = inl refl
        by (r ∷ rs) way = inr (0, way.3)
