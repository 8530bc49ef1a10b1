-- Each directory is found once, so a walk is over before as many are visited as there are numbers.
use Rattle.std.proofs.Common.{◌≡◌, ℕ, zero, suc, ◌+◌, ◌-◌, ◌<◌, ◌≤◌, ◌⊎◌, Bool, true, false, eqb, List, [], ◌∷◌, ◌++◌, length, map, Option, None, Some, Result, Ok, Err, inl, inr, refl, sym, subst, ap, ◌∙◌, arith}
use Rattle.std.specs.Prelude.{◌==◌, ◌||◌, fold, nat_lt, slice_get}
use Rattle.std.specs.List.{IsDistinct, list_any}
use Rattle.std.proofs.lemmas.Bool.{both_ways, cases_Bool, cases_eq, cases_lt, eq-eqb, eqb-true, false≢true, lt-ltb, or_cases}
use Rattle.std.proofs.lemmas.Cmp.{nat_eq_equiv}
use Rattle.std.proofs.lemmas.List.{length-map, map-append}
use Rattle.std.proofs.lemmas.List.Folds.{list_any-append}
use Rattle.std.proofs.lemmas.Map.Keys.{IsDistinct-push}
use Rattle.std.proofs.lemmas.Map.Steps.{length-le_from_distinct_below}
use Rattle.std.proofs.lemmas.Option.{slice_get_past}
use Rattle.treefs_format.specs.Paths.{leaf_count}
use Rattle.treefs_format.specs.Roots.{leaf_of_inode}
use Rattle.treefs_format.specs.declared.kind.Kind.{Kind}
use Rattle.treefs_format.specs.declared.kind.Kind.TheVariants as kind
use Rattle.treefs_model.specs.declared.fault.Fault.{Fault}
use Rattle.treefs_lookup.specs.Inodes.{inode_found}
use Rattle.treefs_lookup.specs.declared.inodes.Found.{Found}
use Rattle.treefs_mending.specs.Names.{Name, live_names}
use Rattle.treefs_mending.specs.Surveys.{Directory, Survey, first_directories, first_survey, inode_count, lead_at, lead_by, lead_of, met, met_as, visited, walked}
use Rattle.treefs_mending.specs.Tallies.{Tally, is_found, with_name}
use Rattle.treefs_mending.specs.declared.lead.Lead.{Lead}
use Rattle.treefs_mending.specs.declared.lead.Lead.TheVariants.{Surplus, NewDirectory, File}
use Rattle.treefs_mending.proofs.Counted.{found_after, found_here}
use Rattle.treefs_mending.proofs.InTable.{no_inode}
use Rattle.treefs_mending.proofs.Walks.{inode_count_is, walk_ends, walk_goes}

abbrev leaf : Directory → ℕ
leaf d = leaf_of_inode d.number

abbrev leaves : List Directory → List ℕ
leaves ds = map leaf ds

-- the directories have different numbers, each in range, and they are found
record IsTidy (s : Survey) : Type 0 where
  distinct : IsDistinct eqb (leaves s.directories)
  within : (q : ℕ) → list_any (eqb q) (leaves s.directories) ≡ true → q < leaf_count
  found : (q : ℕ) → list_any (eqb q) (leaves s.directories) ≡ true → is_found s.tallies (q + 1) ≡ true

few : (s : Survey) → IsTidy s → length s.directories ≤ leaf_count
few s tidy =
    let le = length-le_from_distinct_below (leaves s.directories) leaf_count tidy.distinct tidy.within in
    omega (arith, le, length-map s.directories leaf)

-- one number more
member : (q : ℕ) (xs : List ℕ) (y : ℕ) → list_any (eqb q) (xs ++ y ∷ []) ≡ true → (list_any (eqb q) xs ≡ true) ⊎ (q ≡ y)
member q xs y is = elim (or_cases (list_any (eqb q) xs) (eqb q y || false) (sym (list_any-append (eqb q) xs (y ∷ [])) ∙ is)) [
  | inl old ↦ inl old
  | inr new ↦ elim (or_cases (eqb q y) false new) [ inl same ↦ inr (eqb-true q y same) | inr never ↦ absurd (false≢true never) ]
]

-- Names that are met

lead_by_new : (inode : Found) (k : Kind) (f : Bool) (block : ℕ) → lead_by inode k f ≡ NewDirectory block → f ≡ false
lead_by_new inode kind.Directory true block is = cc
lead_by_new inode kind.Directory false block is = refl
lead_by_new inode kind.File f block is = cc
lead_by_new inode kind.SymbolicLink f block is = cc

pub lead_new : (r : Result Found Fault) (f : Bool) (block : ℕ) → lead_of r f ≡ NewDirectory block → f ≡ false
lead_new (Ok inode) f block is = lead_by_new inode inode.kind f block is
lead_new (Err fault) f block is = cc

module _ (content : ℕ → List ℕ) (top : ℕ) where
  in_range : (tallies : List Tally) (n block : ℕ) → lead_at content top tallies n ≡ NewDirectory block → ((n == 0) || nat_lt leaf_count n) ≡ true → ⊥
  in_range tallies n block is out =
      let none : lead_at content top tallies n ≡ Surplus = ap (λ r. lead_of r (is_found tallies n)) (no_inode content top n out) in
      let differ : Surplus ≡ NewDirectory block = sym none ∙ is in
      cc

  or_left : (a b : Bool) → a ≡ true → (a || b) ≡ true
  or_left true b left = refl
  or_left false b left = absurd (false≢true left)

  or_right : (a b : Bool) → b ≡ true → (a || b) ≡ true
  or_right true b right = refl
  or_right false b right = right

  at_least : (tallies : List Tally) (n block : ℕ) → lead_at content top tallies n ≡ NewDirectory block → 1 ≤ n
  at_least tallies n block is = elim (cases_eq n 0) [
    | inl none ↦ absurd (in_range tallies n block is (or_left (n == 0) (nat_lt leaf_count n) (eq-eqb n 0 none)))
    | inr some ↦ omega arith
  ]

  at_most : (tallies : List Tally) (n block : ℕ) → lead_at content top tallies n ≡ NewDirectory block → n ≤ leaf_count
  at_most tallies n block is = elim (cases_lt leaf_count n) [
    | inl past ↦ absurd (in_range tallies n block is (or_right (n == 0) (nat_lt leaf_count n) (lt-ltb leaf_count n past)))
    | inr le ↦ le
  ]

  -- a directory more, which was not found before
  tidy_new : (d block : ℕ) (s : Survey) (name : Name) → IsTidy s → is_found s.tallies name.number ≡ false → 1 ≤ name.number → name.number ≤ leaf_count →
      IsTidy (met_as (NewDirectory block) d s name)
  tidy_new d block s name tidy new low high =
      let n = name.number in
      let ds = s.directories in
      let back : n - 1 + 1 ≡ n = omega arith in
      let same : leaves (ds ++ record { number = n; block = block } ∷ []) ≡ leaves ds ++ (n - 1) ∷ [] = map-append leaf ds (record { number = n; block = block } ∷ []) in
      let not_there : list_any (eqb (n - 1)) (leaves ds) ≡ false = elim (cases_Bool (list_any (eqb (n - 1)) (leaves ds))) [
        | inl there ↦ absurd (both_ways (is_found s.tallies n) new (ap (is_found s.tallies) (sym back) ∙ tidy.found (n - 1) there))
        | inr absent ↦ absent
      ] in
      record {
        distinct = let P : List ℕ → Type 0 = IsDistinct eqb in subst P (sym same) (IsDistinct-push nat_eq_equiv (leaves ds) (n - 1) tidy.distinct not_there);
        within = λ q is. elim (member q (leaves ds) (n - 1) (ap (list_any (eqb q)) (sym same) ∙ is)) [
          | inl old ↦ tidy.within q old
          | inr here ↦ omega arith
        ];
        found = λ q is. elim (member q (leaves ds) (n - 1) (ap (list_any (eqb q)) (sym same) ∙ is)) [
          | inl old ↦ found_after s.tallies n d (q + 1) (tidy.found q old)
          | inr here ↦
              let named : q + 1 ≡ n = omega arith in
              ap (is_found (with_name s.tallies n d)) named ∙ found_here s.tallies n d
        ];
      }

  tidy_file : (d : ℕ) (s : Survey) (name : Name) → IsTidy s → IsTidy (met_as File d s name)
  tidy_file d s name tidy = record {
    distinct = tidy.distinct;
    within = tidy.within;
    found = λ q is. found_after s.tallies name.number d (q + 1) (tidy.found q is);
  }

  tidy_surplus : (d : ℕ) (s : Survey) (name : Name) → IsTidy s → IsTidy (met_as Surplus d s name)
  tidy_surplus d s name tidy = record { distinct = tidy.distinct; within = tidy.within; found = tidy.found }

  tidy_as : (d : ℕ) (s : Survey) (name : Name) → IsTidy s → (lead : Lead) → lead_at content top s.tallies name.number ≡ lead → IsTidy (met_as lead d s name)
  tidy_as d s name tidy Surplus is = tidy_surplus d s name tidy
  tidy_as d s name tidy (NewDirectory block) is =
      tidy_new d block s name tidy (lead_new (inode_found content top name.number) (is_found s.tallies name.number) block is)
      (at_least s.tallies name.number block is) (at_most s.tallies name.number block is)
  tidy_as d s name tidy File is = tidy_file d s name tidy

  tidy_names : (d : ℕ) (names : List Name) (s : Survey) → IsTidy s → IsTidy (fold (met content top d) s names)
  tidy_names d [] s tidy = tidy
  tidy_names d (name ∷ names) s tidy =
      tidy_names d names (met content top d s name) (tidy_as d s name tidy (lead_at content top s.tallies name.number) refl)

  tidy_visited : (s : Survey) (directory : Directory) → IsTidy s → IsTidy (visited content top s directory)
  tidy_visited s directory tidy = tidy_names directory.number (live_names content directory.block) s tidy

  -- The walk

  whole : (left count place : ℕ) (s : Survey) → IsTidy s → leaf_count ≤ place + left → left ≤ count →
      walked content top count place s ≡ walked content top left place s
  whole zero count place s tidy all more =
      let short = few s tidy in
      walk_ends content top count place s (slice_get_past s.directories place (omega (arith, short)))
  whole (suc left) count place s tidy all more =
      by (slice_get s.directories place) refl (λ next good. whole left (count - 1) (place + 1) next good (omega arith) (omega arith))
    where
      by : (o : Option Directory) → slice_get s.directories place ≡ o →
          ((next : Survey) → IsTidy next → walked content top (count - 1) (place + 1) next ≡ walked content top left (place + 1) next) →
          walked content top count place s ≡ walked content top (suc left) place s
      by None none rest = walk_ends content top count place s none ∙ sym (walk_ends content top (suc left) place s none)
      by (Some directory) is rest =
          let next = visited content top s directory in
          let same : suc left - 1 ≡ left = omega arith in
          walk_goes content top count place s directory (omega arith) is
          ∙ (rest next (tidy_visited s directory tidy)
          ∙ sym (walk_goes content top (suc left) place s directory (omega arith) is ∙ ap (λ (k : ℕ). walked content top k (place + 1) next) same))

  tidy_first : (lead : Lead) → IsTidy (record { surplus = []; directories = first_directories lead; tallies = [] })
  unfolding IsDistinct
  tidy_first Surplus = record { distinct = tt; within = λ q is. absurd (false≢true is); found = λ q is. absurd (false≢true is) }
  tidy_first File = record { distinct = tt; within = λ q is. absurd (false≢true is); found = λ q is. absurd (false≢true is) }
  tidy_first (NewDirectory block) = record {
    distinct = (tt, tt);
    within = λ q is. elim (member q [] 0 is) [ inl never ↦ absurd (false≢true never) | inr here ↦ omega arith ];
    found = λ q is. elim (member q [] 0 is) [
      | inl never ↦ absurd (false≢true never)
      | inr here ↦ ap (λ (x : ℕ). is_found [] (x + 1)) here
    ];
  }

  pub walk_is_whole : (more : ℕ) → walked content top (inode_count + more) 0 (first_survey content top) ≡ walked content top inode_count 0 (first_survey content top)
  walk_is_whole more =
      whole inode_count (inode_count + more) 0 (first_survey content top) (tidy_first (lead_of (inode_found content top 1) false))
      (omega (arith, inode_count_is)) (omega arith)
