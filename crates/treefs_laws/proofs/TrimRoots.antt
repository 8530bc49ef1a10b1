-- Pointers in the inode of a file that are dropped, past all leaves that are kept.
use Rattle.std.proofs.Common.{◌≡◌, ◌≢◌, ◌⊎◌, ℕ, zero, suc, ◌+◌, ◌-◌, ◌*◌, ◌/◌, ◌<◌, ◌≤◌, Bool, true, false, List, [], ◌∷◌, ◌++◌, replicate, Option, None, Some, Result, Ok, Err, refl, sym, ◌∙◌, ap, inl, inr, subst, arith, if◌then◌else◌}
use Rattle.std.specs.Prelude.{All, Contains, IsTrue, MatchOption, flat_map, map, nat_le, nat_lt, option_map, ◌==◌}
use Rattle.std.specs.List.{range_with_len}
use Rattle.std.proofs.lemmas.Bool.{eqb-false, leb-true, ltb-false, ltb-true}
use Rattle.std.proofs.lemmas.List.Elements.{All-append, All-cons, All-head, All-nil, All-tail, All-weaker, Contains-append_left, Contains-append_right}
use Rattle.xn_model.specs.Types.{Types}
use Rattle.xn_model.specs.Calls.{Patch}
use Rattle.xn_model.specs.Lives.{StoreState}
use Rattle.xn_model.proofs.ForCallers.{Contains-cons, Contains-head, Contains-none, Contains-tail}
use Rattle.treefs_format.specs.Paths.{first_leaf, height_of, leaf_offset, node_offset, place_in_tree, places, steps, tree_offset, tree_steps}
use Rattle.treefs_format.specs.declared.kind.Kind.{Kind}
use Rattle.treefs_format.specs.declared.kind.Kind.TheVariants as kind
use Rattle.treefs_model.specs.Acts.{Act, Ran}
use Rattle.treefs_model.specs.Reading.{pointed}
use Rattle.treefs_model.specs.Trees.{has_pointer}
use Rattle.treefs_model.specs.declared.fault.Fault.{Fault}
use Rattle.treefs_lookup.specs.Readable.{readable}
use Rattle.treefs_edits.specs.declared.tree.Tree.{Tree}
use Rattle.treefs_byte_plans.specs.Roots.{HasNoRoots, IsRootsPlanned, blocks_of, last_offset, leaf_patches, leaf_pointers, pointer_if, pointers_act, roots_plan, tree_patch, tree_pointer, tree_pointers}
use Rattle.treefs_byte_plans.specs.declared.kept.Kept.{Kept}
use Rattle.treefs_byte_plans.specs.declared.roots_plan.Pointer.{Pointer}
use Rattle.treefs_byte_plans.specs.declared.roots_plan.RootsPlan.{RootsPlan}
use Rattle.treefs.specs.Trimming.{DoesIfAny, Roots}
use Rattle.treefs_values.specs.Dropped.{AreOverPointers, IsCovered, IsLedTo, LeadsOn, clear_act, zero_patch}
use Rattle.treefs_values.specs.Kinds.{kinds}
use Rattle.treefs_values.specs.Ways.{block_numbered}
use Rattle.treefs_values.proofs.ForCallers.{inode_pointer}
use Rattle.treefs_laws.proofs.CutWays.{InTree, IsKeptLeaf, end_same, in_tree}
use Rattle.treefs_laws.proofs.Planned.{ran_acts}
use Rattle.treefs_laws.proofs.TimesWritten.{refused_whole}
use Rattle.treefs_laws.proofs.TrimParts.{IsFileAt, Stays, clear_stays, stays_same}

all_in : {A : Type 0} (P : A → Type 0) (xs : List A) (x : A) → All P xs → Contains xs x → P x
all_in P xs x all has = subst P has.2 (all has.0 x has.1)

-- The pointers that go

module _ (content : ℕ → List ℕ) (c keep : ℕ) where
  pub record IsTreePointer (x : Pointer) : Type 0 where
    pub height : ℕ
    pub low : 1 ≤ height
    pub high : height ≤ 4
    pub past : keep ≤ first_leaf height
    pub offset : x.offset ≡ tree_offset height
    pub block : x.block ≡ pointed content c x.offset
    pub there : x.block ≢ 0

  -- of the leaves from one on
  pub record IsLeafPointer (from : ℕ) (x : Pointer) : Type 0 where
    pub leaf : ℕ
    pub low : from ≤ leaf
    pub high : leaf < 16
    pub offset : x.offset ≡ leaf_offset leaf
    pub block : x.block ≡ pointed content c x.offset
    pub there : x.block ≢ 0

  one_pointer : (P : Pointer → Type 0) (o : ℕ) → (pointed content c o ≢ 0 → P (record { offset = o; block = pointed content c o })) → All P (pointer_if content c o)
  one_pointer P o of = by (pointed content c o == 0) refl
    where
      by : (t : Bool) → (pointed content c o == 0) ≡ t → All P (if t then [] else record { offset = o; block = pointed content c o } ∷ [])
      by true e = All-nil P
      by false e = All-cons P (record { offset = o; block = pointed content c o }) [] (of (eqb-false (pointed content c o) 0 e)) (All-nil P)

  tree_one : (h : ℕ) → 1 ≤ h → h ≤ 4 → All IsTreePointer (tree_pointer content c keep h)
  tree_one h low high = by (nat_le keep (first_leaf h)) refl
    where
      by : (t : Bool) → nat_le keep (first_leaf h) ≡ t → All IsTreePointer (if t then pointer_if content c (tree_offset h) else [])
      by true e = one_pointer IsTreePointer (tree_offset h)
          (λ some. record { height = h; low = low; high = high; past = leb-true keep (first_leaf h) e; offset = refl; block = refl; there = some })
      by false e = All-nil IsTreePointer

  pub trees_are : All IsTreePointer (tree_pointers content c keep)
  trees_are =
      All-append IsTreePointer (tree_pointer content c keep 4) (tree_pointer content c keep 3 ++ (tree_pointer content c keep 2 ++ tree_pointer content c keep 1)) (tree_one 4 (omega arith) (omega arith))
      (All-append IsTreePointer (tree_pointer content c keep 3) (tree_pointer content c keep 2 ++ tree_pointer content c keep 1) (tree_one 3 (omega arith) (omega arith))
      (All-append IsTreePointer (tree_pointer content c keep 2) (tree_pointer content c keep 1) (tree_one 2 (omega arith) (omega arith)) (tree_one 1 (omega arith) (omega arith))))

  abbrev run : ℕ → ℕ → List Pointer
  run from count = flat_map (λ leaf. pointer_if content c (leaf_offset leaf)) (range_with_len from count)

  -- what is known of a run, read behind an offset
  pub record IsRun (from : ℕ) (xs : List Pointer) : Type 0 where
    pub all : All (IsLeafPointer from) xs
    pub rising : (o : ℕ) → o ≤ leaf_offset from → (o ≤ last_offset o xs) × All (λ (x : Pointer). x.offset ≤ last_offset o xs) xs
    pub last : (o : ℕ) → (last_offset o xs ≡ o) ⊎ ((i : ℕ) × (from ≤ i) × (i < 16) × (last_offset o xs ≡ leaf_offset i))
    pub first : (x : Pointer) (rest : List Pointer) → xs ≡ x ∷ rest → All (λ (y : Pointer). x.offset ≤ y.offset) xs

  lower_leaf : (from : ℕ) (x : Pointer) → IsLeafPointer (from + 1) x → IsLeafPointer from x
  lower_leaf from x is = record {
    leaf = is.leaf;
    low = let l = is.low in omega arith;
    high = is.high;
    offset = is.offset;
    block = is.block;
    there = is.there;
  }

  abbrev pub first_offset : List Pointer → ℕ
  first_offset [] = 0
  first_offset (p ∷ ps) = p.offset

  module _ (count from : ℕ) (few : from + suc count ≤ 16) (later : IsRun (from + 1) (run (from + 1) count)) where
    abbrev others : List Pointer
    others = run (from + 1) count

    abbrev here : Pointer
    here = record { offset = leaf_offset from; block = pointed content c (leaf_offset from) }

    run_later : IsRun from others
    run_later = record {
      all = All-weaker (IsLeafPointer (from + 1)) (IsLeafPointer from) (lower_leaf from) others later.all;
      rising = λ o low. later.rising o (omega arith);
      last = λ o. elim (later.last o) [ inl same ↦ inl same | inr r ↦ let l = r.1 in inr (r.0, omega arith, r.2, r.3) ];
      first = λ x rest is. later.first x rest is;
    }

    module _ (some : pointed content c (leaf_offset from) ≢ 0) where
      run_all : All (IsLeafPointer from) (here ∷ others)
      run_all = All-cons (IsLeafPointer from) here others
          (record { leaf = from; low = omega arith; high = omega arith; offset = refl; block = refl; there = some }) run_later.all

      rises : (leaf_offset from ≤ last_offset (leaf_offset from) others) × All (λ (x : Pointer). x.offset ≤ last_offset (leaf_offset from) others) others
      rises = later.rising (leaf_offset from) (omega arith)

      run_here : IsRun from (here ∷ others)
      run_here = record {
        all = run_all;
        rising = λ o low.
            let one : leaf_offset from ≤ last_offset (leaf_offset from) others = rises.0 in
            (omega arith, All-cons (λ (x : Pointer). x.offset ≤ last_offset (leaf_offset from) others) here others rises.0 rises.1);
        last = λ o. elim (later.last (leaf_offset from)) [
          | inl same ↦ inr (from, omega arith, omega arith, same)
          | inr r ↦ let l = r.1 in inr (r.0, omega arith, r.2, r.3)
        ];
        first = λ x rest is.
            let same : leaf_offset from ≡ x.offset = ap first_offset is in
            All-weaker (IsLeafPointer from) (λ (y : Pointer). x.offset ≤ y.offset) (λ y at. let l = at.low in let o = at.offset in omega arith) (here ∷ others) run_all;
      }

    run_more : (t : Bool) → (pointed content c (leaf_offset from) == 0) ≡ t → IsRun from ((if t then [] else here ∷ []) ++ others)
    run_more true e = run_later
    run_more false e = run_here (eqb-false (pointed content c (leaf_offset from)) 0 e)

  run_is : (count from : ℕ) → from + count ≤ 16 → IsRun from (run from count)
  run_is zero from few = record {
    all = All-nil (IsLeafPointer from);
    rising = λ o low. (omega arith, All-nil (λ (x : Pointer). x.offset ≤ o));
    last = λ o. inl refl;
    first = λ x rest is. absurd (cc is);
  }
  run_is (suc count) from few = run_more count from few (run_is count (from + 1) (omega arith)) (pointed content c (leaf_offset from) == 0) refl

  pub run_known : IsRun keep (leaf_pointers content c keep)
  run_known = by (16 - keep) refl
    where
      by : (count : ℕ) → 16 - keep ≡ count → IsRun keep (run keep count)
      by zero e = record {
        all = All-nil (IsLeafPointer keep);
        rising = λ o low. (omega arith, All-nil (λ (x : Pointer). x.offset ≤ o));
        last = λ o. inl refl;
        first = λ x rest is. absurd (cc is);
      }
      by (suc count) e = run_is (suc count) keep (omega arith)

  -- The act

  abbrev pub leaf_places : List Pointer → List (ℕ × ℕ)
  leaf_places [] = []
  leaf_places (p ∷ ps) = (p.offset, (last_offset p.offset ps + 4 - p.offset) / 4) ∷ []

  abbrev pub tree_places : List Pointer → List (ℕ × ℕ)
  tree_places [] = []
  tree_places (p ∷ ps) = (p.offset, 1) ∷ tree_places ps

  tree_patches_are : (ts : List Pointer) (rest : List Patch) (places : List (ℕ × ℕ)) → rest ≡ map zero_patch places → map tree_patch ts ++ rest ≡ map zero_patch (tree_places ts ++ places)
  tree_patches_are [] rest places is = is
  tree_patches_are (t ∷ ts) rest places is = ap (λ l. tree_patch t ∷ l) (tree_patches_are ts rest places is)

  leaf_patches_are : (ls : List Pointer) → ((p : Pointer) (ps : List Pointer) → ls ≡ p ∷ ps → 4 * ((last_offset p.offset ps + 4 - p.offset) / 4) ≡ last_offset p.offset ps + 4 - p.offset) →
      leaf_patches ls ≡ map zero_patch (leaf_places ls)
  leaf_patches_are [] whole = refl
  leaf_patches_are (p ∷ ps) whole = (λ j. record { offset = p.offset; bytes = replicate {A = ℕ} (sym (whole p ps refl) j) 0 } ∷ [])

  -- of a run, the first and the last one
  pub record AreEnds (p : Pointer) (ps : List Pointer) : Type 0 where
    pub low : ℕ
    pub high : ℕ
    pub from : keep ≤ low
    pub order : low ≤ high
    pub few : high < 16
    pub first : p.offset ≡ leaf_offset low
    pub last : last_offset p.offset ps ≡ leaf_offset high

  ends_of : (p : Pointer) (ps : List Pointer) → IsRun keep (p ∷ ps) → AreEnds p ps
  ends_of p ps r =
      let f = All-head (IsLeafPointer keep) p ps r.all in
      let rise = All-head (λ (x : Pointer). x.offset ≤ last_offset 0 (p ∷ ps)) p ps (r.rising 0 (omega arith)).1 in
      let o = f.offset in
      elim (r.last 0) [
        | inl none ↦ absurd (omega (arith, none, o, rise))
        | inr l ↦ let i = l.3 in record { low = f.leaf; high = l.0; from = f.low; order = omega arith; few = l.2; first = f.offset; last = l.3 }
      ]

  whole_words : (ls : List Pointer) → IsRun keep ls → (p : Pointer) (ps : List Pointer) → ls ≡ p ∷ ps →
      4 * ((last_offset p.offset ps + 4 - p.offset) / 4) ≡ last_offset p.offset ps + 4 - p.offset
  whole_words ls r p ps is = let e = ends_of p ps (subst (IsRun keep) is r) in let a = e.first in let b = e.last in let c = e.order in omega arith

  abbrev pub root_places : List (ℕ × ℕ)
  root_places = tree_places (tree_pointers content c keep) ++ leaf_places (leaf_pointers content c keep)

  pub roots_act : (inode : ℕ) → pointers_act inode (tree_pointers content c keep) (leaf_pointers content c keep)
      ≡ clear_act inode root_places (blocks_of (tree_pointers content c keep) ++ blocks_of (leaf_pointers content c keep)) None
  roots_act inode = (λ j. record {
    block = inode;
    edit = record {
      patches = tree_patches_are (tree_pointers content c keep) (leaf_patches (leaf_pointers content c keep)) (leaf_places (leaf_pointers content c keep))
          (leaf_patches_are (leaf_pointers content c keep) (whole_words (leaf_pointers content c keep) run_known)) j;
      adds = [];
      drops = blocks_of (tree_pointers content c keep) ++ blocks_of (leaf_pointers content c keep);
      after = None;
    };
    behind = None;
  })

  -- what is covered
  abbrev pub IsRootPlace : ℕ → Type 0
  IsRootPlace o = ((h : ℕ) × (1 ≤ h) × (h ≤ 4) × (keep ≤ first_leaf h) × (o ≡ tree_offset h)) ⊎ ((i : ℕ) × (keep ≤ i) × (i < 16) × (o ≡ leaf_offset i))

  pub record IsRootPatch (p : ℕ × ℕ) : Type 0 where
    pub some : 0 < p.1
    pub places : (i : ℕ) → i < p.1 → IsRootPlace (p.0 + 4 * i)

  tree_patched : (ts : List Pointer) → All IsTreePointer ts → All IsRootPatch (tree_places ts)
  tree_patched [] all = All-nil IsRootPatch
  tree_patched (t ∷ ts) all =
      let x = All-head IsTreePointer t ts all in
      All-cons IsRootPatch (t.offset, 1) (tree_places ts)
      (record { some = omega arith; places = λ i lt. let o = x.offset in inl (x.height, x.low, x.high, x.past, omega arith) })
      (tree_patched ts (All-tail IsTreePointer t ts all))

  leaf_patched : (ls : List Pointer) → IsRun keep ls → All IsRootPatch (leaf_places ls)
  leaf_patched [] r = All-nil IsRootPatch
  leaf_patched (p ∷ ps) r =
      let e = ends_of p ps r in
      let a = e.first in
      let b = e.last in
      let d = e.order in
      let f = e.from in
      let g = e.few in
      let count : (last_offset p.offset ps + 4 - p.offset) / 4 ≡ e.high - e.low + 1 = omega arith in
      All-cons IsRootPatch (p.offset, (last_offset p.offset ps + 4 - p.offset) / 4) []
      (record { some = omega arith; places = λ i lt. inr (e.low + i, omega arith, omega arith, omega arith) }) (All-nil IsRootPatch)

  pub all_patched : All IsRootPatch root_places
  all_patched = All-append IsRootPatch (tree_places (tree_pointers content c keep)) (leaf_places (leaf_pointers content c keep))
      (tree_patched (tree_pointers content c keep) trees_are) (leaf_patched (leaf_pointers content c keep) run_known)

  pub covered_place : (o : ℕ) → IsCovered root_places o → IsRootPlace o
  covered_place o cover =
      let p = all_in IsRootPatch root_places cover.0 all_patched cover.1 in
      subst IsRootPlace (sym cover.4) (p.places cover.2 cover.3)

  -- what is led to
  in_front : (xs ys : List (ℕ × ℕ)) (o : ℕ) → IsCovered xs o → IsCovered (xs ++ ys) o
  in_front xs ys o cover = (cover.0, Contains-append_left xs ys cover.0 cover.1, cover.2, cover.3, cover.4)

  in_back : (xs ys : List (ℕ × ℕ)) (o : ℕ) → IsCovered ys o → IsCovered (xs ++ ys) o
  in_back xs ys o cover = (cover.0, Contains-append_right xs ys cover.0 cover.1, cover.2, cover.3, cover.4)

  tree_covered : (ts : List Pointer) (t : Pointer) → Contains ts t → IsCovered (tree_places ts) t.offset
  tree_covered [] t has = absurd (Contains-none t has)
  tree_covered (x ∷ ts) t has = elim (Contains-cons x ts t has) [
    | inl same ↦ ((x.offset, 1), Contains-head (x.offset, 1) (tree_places ts), 0, omega arith, let e : x.offset ≡ t.offset = ap (λ (y : Pointer). y.offset) same in omega arith)
    | inr rest ↦
        let cover = tree_covered ts t rest in
        (cover.0, Contains-tail (x.offset, 1) (tree_places ts) cover.0 cover.1, cover.2, cover.3, cover.4)
  ]

  leaf_covered : (ls : List Pointer) → IsRun keep ls → (l : Pointer) → Contains ls l → IsCovered (leaf_places ls) l.offset
  leaf_covered [] r l has = absurd (Contains-none l has)
  leaf_covered (p ∷ ps) r l has =
      let e = ends_of p ps r in
      let a = e.first in
      let b = e.last in
      let x = all_in (IsLeafPointer keep) (p ∷ ps) l r.all has in
      let o = x.offset in
      let low : p.offset ≤ l.offset = all_in (λ (y : Pointer). p.offset ≤ y.offset) (p ∷ ps) l (r.first p ps refl) has in
      let high : l.offset ≤ last_offset p.offset ps = all_in (λ (y : Pointer). y.offset ≤ last_offset 0 (p ∷ ps)) (p ∷ ps) l (r.rising 0 (omega arith)).1 has in
      ((p.offset, (last_offset p.offset ps + 4 - p.offset) / 4), Contains-head (p.offset, (last_offset p.offset ps + 4 - p.offset) / 4) [], x.leaf - e.low, omega arith, omega arith)

  all_blocks : (holder : ℕ) (places : List (ℕ × ℕ)) (xs : List Pointer) → ((x : Pointer) → Contains xs x → IsLedTo content holder places x.block) →
      All (IsLedTo content holder places) (blocks_of xs)
  all_blocks holder places [] of = All-nil (IsLedTo content holder places)
  all_blocks holder places (x ∷ xs) of = All-cons (IsLedTo content holder places) x.block (blocks_of xs) (of x (Contains-head x xs))
      (all_blocks holder places xs (λ y has. of y (Contains-tail x xs y has)))

  pub all_led_to : All (IsLedTo content c root_places) (blocks_of (tree_pointers content c keep) ++ blocks_of (leaf_pointers content c keep))
  all_led_to =
      All-append (IsLedTo content c root_places) (blocks_of (tree_pointers content c keep)) (blocks_of (leaf_pointers content c keep))
      (all_blocks c root_places (tree_pointers content c keep) (λ x has.
      let t = all_in IsTreePointer (tree_pointers content c keep) x trees_are has in
      (t.there, x.offset, in_front (tree_places (tree_pointers content c keep)) (leaf_places (leaf_pointers content c keep)) x.offset (tree_covered (tree_pointers content c keep) x has), sym t.block)))
      (all_blocks c root_places (leaf_pointers content c keep) (λ x has.
      let l = all_in (IsLeafPointer keep) (leaf_pointers content c keep) x run_known.all has in
      (l.there, x.offset, in_back (tree_places (tree_pointers content c keep)) (leaf_places (leaf_pointers content c keep)) x.offset (leaf_covered (leaf_pointers content c keep) run_known x has), sym l.block)))

-- No leaf that is kept is reached through such a pointer

module _ (keep i o : ℕ) (kept : IsKeptLeaf keep i) (leads : LeadsOn (steps i) (o ∷ [])) where
  last_step : ((i < 16) × (leaf_offset i ≡ o)) ⊎ ((16 ≤ i) × (tree_offset (height_of i) ≡ o))
  last_step = by (nat_lt i 16) refl
    where
      by : (t : Bool) → nat_lt i 16 ≡ t → ((i < 16) × (leaf_offset i ≡ o)) ⊎ ((16 ≤ i) × (tree_offset (height_of i) ≡ o))
      by true e = inl (
        ltb-true i 16 e,
        (end_same [] leads.0 (leaf_offset i) o
            (sym (ap (λ t. if t then leaf_offset i ∷ [] else tree_steps (height_of i) (place_in_tree i)) e) ∙ leads.1)).1,
      )
      by false e = inr (
        ltb-false i 16 e,
        (end_same (map node_offset (places (height_of i) (place_in_tree i))) leads.0 (tree_offset (height_of i)) o
            (sym (ap (λ t. if t then leaf_offset i ∷ [] else tree_steps (height_of i) (place_in_tree i)) e) ∙ leads.1)).1,
      )

  not_leaf : (l : ℕ) → keep ≤ l → l < 16 → o ≡ leaf_offset l → ((i < 16) × (leaf_offset i ≡ o)) ⊎ ((16 ≤ i) × (tree_offset (height_of i) ≡ o)) → ⊥
  not_leaf l low high is (inl at) = let a : 48 + 4 * i ≡ o = at.1 in let b : o ≡ 48 + 4 * l = is in elim kept.1 [ inl x ↦ omega arith | inr x ↦ omega arith ]
  not_leaf l low high is (inr at) = let a : 108 + 4 * height_of i ≡ o = at.1 in let b : o ≡ 48 + 4 * l = is in let t = tall (height_of i) (in_tree i) at.0 in omega arith
    where
      tall : (h : ℕ) → InTree i h → 16 ≤ i → 1 ≤ h
      tall h (inl a) low = let b = a.1 in omega arith
      tall h (inr (inl a)) low = let b = a.0 in omega arith
      tall h (inr (inr (inl a))) low = let b = a.0 in omega arith
      tall h (inr (inr (inr (inl a)))) low = let b = a.0 in omega arith
      tall h (inr (inr (inr (inr a)))) low = let b = a.0 in omega arith

  begins_at : (h : ℕ) → InTree i h → (1 ≤ h) → first_leaf h ≤ i
  begins_at h (inl a) low = let b = a.0 in omega arith
  begins_at h (inr (inl a)) low = subst (λ x. first_leaf x ≤ i) (sym a.0) a.1
  begins_at h (inr (inr (inl a))) low = subst (λ x. first_leaf x ≤ i) (sym a.0) a.1
  begins_at h (inr (inr (inr (inl a)))) low = subst (λ x. first_leaf x ≤ i) (sym a.0) a.1
  begins_at h (inr (inr (inr (inr a)))) low = subst (λ x. first_leaf x ≤ i) (sym a.0) a.1

  few_before : (h : ℕ) → 1 ≤ h → h ≤ 4 → first_leaf h ≤ 2064655
  few_before zero low high = omega arith
  few_before (suc zero) low high = omega arith
  few_before (suc (suc zero)) low high = omega arith
  few_before (suc (suc (suc zero))) low high = omega arith
  few_before (suc (suc (suc (suc h)))) low high = omega arith

  not_tree : (h : ℕ) → 1 ≤ h → h ≤ 4 → keep ≤ first_leaf h → o ≡ tree_offset h → ((i < 16) × (leaf_offset i ≡ o)) ⊎ ((16 ≤ i) × (tree_offset (height_of i) ≡ o)) → ⊥
  not_tree h low high past is (inl at) = let a : 48 + 4 * i ≡ o = at.1 in let b : o ≡ 108 + 4 * h = is in let d = at.0 in omega arith
  not_tree h low high past is (inr at) =
      let a : 108 + 4 * height_of i ≡ o = at.1 in
      let b : o ≡ 108 + 4 * h = is in
      let same : height_of i ≡ h = omega arith in
      let begins = begins_at h (subst (InTree i) same (in_tree i)) low in
      let few = few_before h low high in
      elim kept.1 [ inl x ↦ omega arith | inr x ↦ omega arith ]

  pub root_not_past : (content : ℕ → List ℕ) (c : ℕ) → IsRootPlace content c keep o → ⊥
  root_not_past content c (inl (h, low, high, past, is)) = not_tree h low high past is last_step
  root_not_past content c (inr (l, low, high, is)) = not_leaf l low high is last_step

module _ (T : Types) (tree : Tree) (n : ℕ) (number : n ≢ 0) (c size : ℕ) (k : Kind) (no_directory : k ≢ kind.Directory) (keep : ℕ)
    (kept : (b : ℕ) → 384 ≤ b → b < size → IsKeptLeaf keep (b / 512)) where
  abbrev fs : ℕ
  fs = tree.fs.number

  abbrev At : StoreState → Type 0
  At s = IsFileAt T tree n number c size k no_directory s

  abbrev Stay : StoreState → StoreState → Type 0
  Stay old new = Stays T tree n number c size k no_directory old new

  module _ (old new : StoreState) (at : At old) where
    abbrev m : ℕ → List ℕ
    m = readable old fs

    abbrev b : ℕ
    b = block_numbered m tree.top n

    b_there : b ≢ 0
    b_there z = at.there (sym at.block ∙ z)

    is_inode : kinds old fs b ≡ tree.inode_type
    is_inode = at.here.volume.typed.inodes n b_there

    root_pointer : (o : ℕ) → IsRootPlace m b keep o → IsTrue (has_pointer tree.node_type tree.inode_type (kinds old fs b) o)
    root_pointer o (inl (h, low, high, past, is)) = inode_pointer tree.node_type tree.inode_type (kinds old fs b) o h is_inode (inr (low, high, is))
    root_pointer o (inr (i, low, high, is)) = inode_pointer tree.node_type tree.inode_type (kinds old fs b) o 0 is_inode (inl (i, high, is, refl))

    ran_stays : Ran T fs (pointers_act b (tree_pointers m b keep) (leaf_pointers m b keep) ∷ []) old new (Ok tt) → Stay old new
    ran_stays ran = clear_stays T tree n number c size k no_directory old new at [] (inl refl) b_there (root_places m b keep)
        (blocks_of (tree_pointers m b keep) ++ blocks_of (leaf_pointers m b keep)) None
        (All-weaker (IsRootPatch m b keep) (AreOverPointers tree.node_type tree.inode_type (kinds old fs b)) (λ p is. (is.some, λ i lt. root_pointer (p.0 + 4 * i) (is.places i lt)))
        (root_places m b keep) (all_patched m b keep))
        (all_led_to m b keep)
        (λ o cover x low lt leads. root_not_past keep (x / 512) o (kept x low lt) leads m b (covered_place m b keep o cover))
        (subst (λ (a : Act). Ran T fs (a ∷ []) old new (Ok tt)) (roots_act m b keep b) ran)

    module _ (result : Result (Unit {0}) Fault) where
      one_act : (plan : RootsPlan) → IsRootsPlanned m b keep plan → DoesIfAny T fs (Ok (Some (roots_plan plan))) old new result → Stay old new
      one_act plan planned does = by result does
        where
          acts : pointers_act plan.inode plan.trees.items plan.leaves.items ≡ pointers_act b (tree_pointers m b keep) (leaf_pointers m b keep)
          acts = (λ j. pointers_act (planned.inode_is j) (planned.trees_are j) (planned.leaves_are j))

          by : (r : Result (Unit {0}) Fault) → DoesIfAny T fs (Ok (Some (roots_plan plan))) old new r → Stay old new
          by (Ok tt) does = ran_stays (subst (λ (a : Act). Ran T fs (a ∷ []) old new (Ok tt)) acts
              (ran_acts T fs (pointers_act plan.inode plan.trees.items plan.leaves.items ∷ []) old new does))
          by (Err fault) does = stays_same T tree n number c size k no_directory old new at
              (refused_whole T fs (pointers_act plan.inode plan.trees.items plan.leaves.items) old new fault does)

      roots_by : (planned : Option RootsPlan) → MatchOption planned (HasNoRoots m b keep) (IsRootsPlanned m b keep) → DoesIfAny T fs (Ok (option_map roots_plan planned)) old new result → Stay old new
      roots_by None none does = stays_same T tree n number c size k no_directory old new at does.1
      roots_by (Some plan) planned does = one_act plan planned does

  pub roots_stay : (kept_is : Kept) → kept_is.inode ≡ c → kept_is.keep ≡ keep → (old new : StoreState) (result : Result (Unit {0}) Fault) → At old → Roots T fs kept_is old new result → Stay old new
  roots_stay kept_is of_inode of_keep old new result at (planned, are, does) =
      let here : block_numbered (readable old fs) tree.top n ≡ kept_is.inode = at.block ∙ sym of_inode in
      roots_by old new at result planned
      (subst (λ x. MatchOption planned (HasNoRoots (readable old fs) x keep) (IsRootsPlanned (readable old fs) x keep)) (sym here)
      (subst (λ x. MatchOption planned (HasNoRoots (readable old fs) kept_is.inode x) (IsRootsPlanned (readable old fs) kept_is.inode x)) of_keep are)) does
