-- The names of a folder, bucket by bucket, and in their order.
use Rattle.std.proofs.Common.{◌≡◌, ◌∙◌, ℕ, ◌+◌, ◌<◌, ◌≤◌, List, [], ◌∷◌, ◌++◌, Option, None, Some, Result, Ok, Err, length, map, get_or}
use Rattle.std.proofs.Common.{append_assoc, ap, arith, refl, subst, sym}
use Rattle.std.specs.Prelude.{IsPermutation, MatchResult}
use Rattle.std.specs.List.Sorted.{IsSorted}
use Rattle.std.specs.declared.cmp.Ordering.{Ordering}
use Rattle.std.specs.Ordering.{is_lt}
use Rattle.std.proofs.lemmas.List.{append-nil, get_or-map, length-map}
use Rattle.std.proofs.lemmas.List.Sorted.{IsPermutation-map}
use Rattle.xn_model.specs.Lives.{StoreState}
use Rattle.treefs_format.specs.Paths.{leaf_count}
use Rattle.treefs_model.specs.declared.fault.Fault.{Fault}
use Rattle.treefs_lookup.specs.Inodes.{directory_found}
use Rattle.treefs_lookup.specs.Readable.{readable}
use Rattle.treefs_lookup.specs.Sought.{AreWithout, IsNextBucket}
use Rattle.treefs_lookup.specs.declared.bucket.Bucket.{Bucket}
use Rattle.treefs_lookup.specs.declared.inodes.Found.{Found}
use Rattle.treefs_lookup.specs.declared.sought.Sought.TheVariants.{Live}
use Rattle.treefs_session.specs.Reads.{IsBucketFound, IsReadDirectory}
use Rattle.treefs_session.specs.Values.{Volume}
use Rattle.tree_lines.specs.Listing.{AreNamesFrom, ListsFolder, ReadsFolder, entry_cmp, live_names}
use Rattle.tree_lines.specs.Listing.AreNamesFrom.{no_more, one_more}
use Rattle.tree_lines.specs.Walks.{entry_of}
use Rattle.tree_lines.specs.declared.node.Named.{Named}

-- what was read of a directory

pub read_so : (state state' : StoreState) (volume volume' : Volume) (folder from : ℕ) (result : Result (Option Bucket) Fault) → state' ≡ state →
    volume' ≡ volume → IsReadDirectory state' volume'.tree folder from result → IsReadDirectory state volume.tree folder from result
read_so state state' volume volume' folder from result state_is volume_is read =
    subst (λ (s : StoreState). IsReadDirectory s volume.tree folder from result) state_is
    (subst (λ (v : Volume). IsReadDirectory state' v.tree folder from result) volume_is read)

pub found_so : (state state' : StoreState) (volume volume' : Volume) (folder from : ℕ) (found found' : Option Bucket) → state' ≡ state → volume' ≡ volume →
    found' ≡ found → IsReadDirectory state' volume'.tree folder from (Ok found') → IsReadDirectory state volume.tree folder from (Ok found)
found_so state state' volume volume' folder from found found' state_is volume_is found_is read =
    subst (λ (o : Option Bucket). IsReadDirectory state volume.tree folder from (Ok o)) found_is
    (read_so state state' volume volume' folder from (Ok found') state_is volume_is read)

abbrev pub directory_of : StoreState → Volume → ℕ → Result Found Fault
directory_of state volume folder = directory_found (readable state volume.tree.fs.number) volume.tree.top folder

some_found : (state : StoreState) (fs from : ℕ) (bucket : Bucket) (directory : Result Found Fault) →
    MatchResult directory (λ d. IsBucketFound state fs d.block from (Ok (Some bucket)))
    (λ fault. ◌≡◌ {A = Result (Option Bucket) Fault} (Ok (Some bucket)) (Err fault)) →
    (d : Found) × (directory ≡ Ok d) × IsNextBucket state fs d.block Live from bucket
some_found state fs from bucket (Ok d) read = (d, refl, read)
some_found state fs from bucket (Err fault) read = cc

none_found : (state : StoreState) (fs from : ℕ) (directory : Result Found Fault) →
    MatchResult directory (λ d. IsBucketFound state fs d.block from (Ok None)) (λ fault. ◌≡◌ {A = Result (Option Bucket) Fault} (Ok None) (Err fault)) →
    (d : Found) × (directory ≡ Ok d) × AreWithout state fs d.block Live from (leaf_count + 1)
none_found state fs from (Ok d) read = (d, refl, read)
none_found state fs from (Err fault) read = cc

not_found : (state : StoreState) (fs from : ℕ) (wrong : Fault) (directory : Result Found Fault) →
    MatchResult directory (λ d. IsBucketFound state fs d.block from (Err wrong))
    (λ fault. ◌≡◌ {A = Result (Option Bucket) Fault} (Err wrong) (Err fault)) → directory ≡ Err wrong
not_found state fs from wrong (Ok d) read = absurd read
not_found state fs from wrong (Err fault) read = let same : wrong ≡ fault = cc in ap (λ (f : Fault). Err f) (sym same)

module _ (state : StoreState) (volume : Volume) (folder from : ℕ) where
  pub fails : (fault : Fault) → IsReadDirectory state volume.tree folder from (Err fault) → directory_of state volume folder ≡ Err fault
  fails fault read = not_found state volume.tree.fs.number from fault (directory_of state volume folder) read

  pub reads_some : (bucket : Bucket) → IsReadDirectory state volume.tree folder from (Ok (Some bucket)) →
      (d : Found) × (directory_of state volume folder ≡ Ok d) × IsNextBucket state volume.tree.fs.number d.block Live from bucket
  reads_some bucket read = some_found state volume.tree.fs.number from bucket (directory_of state volume folder) read

  pub reads_none : IsReadDirectory state volume.tree folder from (Ok None) →
      (d : Found) × (directory_of state volume folder ≡ Ok d) × AreWithout state volume.tree.fs.number d.block Live from (leaf_count + 1)
  reads_none read = none_found state volume.tree.fs.number from (directory_of state volume folder) read

-- names that were read, with all from some bucket on behind them, are those of the directory
abbrev pub GoOn : StoreState → Volume → ℕ → ℕ → List Named → Type 0
GoOn state volume folder from names = (d : Found) (rest : List (List ℕ × ℕ)) → directory_of state volume folder ≡ Ok d →
    AreNamesFrom state volume.tree.fs.number d.block from rest → AreNamesFrom state volume.tree.fs.number d.block 0 (map entry_of names ++ rest)

module _ (state : StoreState) (volume : Volume) (folder : ℕ) where
  pub none_yet : (names : List Named) → names ≡ [] → GoOn state volume folder 0 names
  none_yet names none d rest found all =
      subst (λ (ns : List Named). AreNamesFrom state volume.tree.fs.number d.block 0 (map entry_of ns ++ rest)) (sym none) all

  same_found : (d e : Found) → directory_of state volume folder ≡ Ok d → directory_of state volume folder ≡ Ok e → d ≡ e
  same_found d e found found_too = let same : Ok d ≡ Ok e = sym found ∙ found_too in cc

  pub few_read : (from : ℕ) (bucket : Bucket) → IsReadDirectory state volume.tree folder from (Ok (Some bucket)) →
      (from ≤ bucket.number) × (bucket.number ≤ leaf_count)
  few_read from bucket read = let some = reads_some state volume folder from bucket read in (some.2.past, some.2.few)

  pub one_read : (from : ℕ) (names names' : List Named) (bucket : Bucket) → GoOn state volume folder from names →
      IsReadDirectory state volume.tree folder from (Ok (Some bucket)) → map entry_of names' ≡ map entry_of names ++ live_names bucket.bytes.now →
      GoOn state volume folder (bucket.number + 1) names'
  one_read from names names' bucket before read pushed d rest found all =
      let some = reads_some state volume folder from bucket read in
      let fs = volume.tree.fs.number in
      let next = subst (λ (e : Found). IsNextBucket state fs e.block Live from bucket) (same_found some.0 d some.1 found) some.2 in
      let so = before d (live_names bucket.bytes.now ++ rest) found (one_more bucket next all) in
      let names_are = sym (append_assoc (map entry_of names) (live_names bucket.bytes.now) rest)
      ∙ ap (λ (ns : List (List ℕ × ℕ)). ns ++ rest) (sym pushed) in
      subst (λ (ns : List (List ℕ × ℕ)). AreNamesFrom state fs d.block 0 ns) names_are so

  all_read : (from : ℕ) (names : List Named) (d : Found) → GoOn state volume folder from names → directory_of state volume folder ≡ Ok d →
      AreWithout state volume.tree.fs.number d.block Live from (leaf_count + 1) → ReadsFolder state volume folder (Ok (map entry_of names))
  all_read from names d before found without = (
    d,
    found,
    subst (λ (ns : List (List ℕ × ℕ)). AreNamesFrom state volume.tree.fs.number d.block 0 ns) (append-nil (map entry_of names))
        (before d [] found (no_more without)),
  )

  pub no_more_read : (from : ℕ) (names : List Named) → GoOn state volume folder from names → IsReadDirectory state volume.tree folder from (Ok None) →
      ReadsFolder state volume folder (Ok (map entry_of names))
  no_more_read from names before read =
      let last = reads_none state volume folder from read in all_read from names last.0 before last.1 last.2

  -- there is no bucket any more
  pub all_passed : (from : ℕ) (names : List Named) → leaf_count + 1 ≤ from → (d : Found) × (directory_of state volume folder ≡ Ok d) →
      GoOn state volume folder from names → ReadsFolder state volume folder (Ok (map entry_of names))
  all_passed from names past there before = all_read from names there.0 before there.1 (λ n low high. absurd (omega (arith, past, low, high)))

-- in their order

pub sorted_names : (R : Named → Named → Ordering) → ((a b : Named) → R a b ≡ entry_cmp (entry_of a) (entry_of b)) → (names : List Named) → IsSorted R names →
    IsSorted entry_cmp (map entry_of names)
sorted_names R same [] sorted k d low high = absurd (omega (arith, high))
sorted_names R same (first ∷ names) sorted k d low high =
    let all = first ∷ names in
    let within : k + 1 < length all = omega (arith, high, length-map all entry_of) in
    let here : k < length all = omega arith in
    let next_is = get_or-map entry_of all (k + 1) first d within in
    let this_is = get_or-map entry_of all k first d here in
    let lower = sorted k first low within in
    ap (λ (e : List ℕ × ℕ). is_lt (entry_cmp e (get_or (map entry_of all) k d))) next_is
    ∙ (ap (λ (e : List ℕ × ℕ). is_lt (entry_cmp (entry_of (get_or all (k + 1) first)) e)) this_is
    ∙ (ap is_lt (sym (same (get_or all (k + 1) first) (get_or all k first))) ∙ lower))

pub listed : (state : StoreState) (volume : Volume) (folder : ℕ) (read names : List Named) (R : Named → Named → Ordering) →
    ((a b : Named) → R a b ≡ entry_cmp (entry_of a) (entry_of b)) → ReadsFolder state volume folder (Ok (map entry_of read)) → IsPermutation read names →
    IsSorted R names → ListsFolder state volume folder (Ok (map entry_of names))
listed state volume folder read names R same reads permuted sorted =
    (map entry_of read, reads, IsPermutation-map entry_of read names permuted, sorted_names R same names sorted)
