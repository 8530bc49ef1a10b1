-- The buckets of a directory that are answered one after another list its names, each once.
use Rattle.std.proofs.Common.{◌≡◌, ◌≢◌, ℕ, zero, suc, ◌+◌, ◌-◌, ◌<◌, ◌≤◌, Bool, true, false, cond, not, List, [], ◌∷◌, ◌++◌, length, get_or, Option, None, Some, Result, Ok, Err, refl, sym, ◌∙◌, ap, inl, inr, arith, subst, if◌then◌else◌}
use Rattle.std.specs.Prelude.{⊤, Contains, IsTrue, MatchResult, filter, map, ◌==◌}
use Rattle.std.specs.List.{list_any}
use Rattle.std.proofs.lemmas.Bool.{and_from, and_parts, cases_eq, cases_lt, eq-eqb, ne_eqb, not-true, or_left, or_right, true≢false}
use Rattle.std.proofs.lemmas.List.Elements.{Contains-append_cases, Contains-append_left, Contains-append_right}
use Rattle.std.proofs.lemmas.Option.{get_or_from_slice_get, slice_get_within}
use Rattle.xn_model.proofs.ForCallers.{Contains-cons, Contains-head, Contains-none, Contains-tail}
use Rattle.xn_model.specs.Types.{Types}
use Rattle.xn_model.specs.Lives.{StoreState}
use Rattle.treefs_format.proofs.ForCallers.{no_length}
use Rattle.treefs_format.specs.Candidates.{candidates, name_hash}
use Rattle.treefs_format.specs.Paths.{leaf_count}
use Rattle.treefs_format.specs.Records.{Entry, Record, entries_of, entry_length, is_live, placed}
use Rattle.treefs_format.specs.declared.kind.Kind.{Kind}
use Rattle.treefs_format.specs.declared.kind.Kind.TheVariants as kind
use Rattle.treefs_model.specs.Changes.{IsListing}
use Rattle.treefs_model.specs.Files.{Content, Directory, File, Inode, Names, SymbolicLink}
use Rattle.treefs_model.specs.Reading.{bucket_of, content_at, key_in, leaf_block, number_of}
use Rattle.treefs_model.specs.Trees.{has_name, names_once}
use Rattle.std.specs.Option.{ok_or}
use Rattle.treefs_model.specs.declared.fault.Fault.{Fault}
use Rattle.treefs_model.specs.declared.fault.Fault.TheVariants.{NoEntry}
use Rattle.treefs_lookup.specs.Buckets.{bucket_block}
use Rattle.treefs_lookup.specs.Inodes.{directory_found, if_directory, inode_found}
use Rattle.treefs_lookup.specs.Readable.{readable}
use Rattle.treefs_lookup.specs.Sought.{AreWithout, IsNextBucket, has_live, is_hit}
use Rattle.treefs_lookup.specs.declared.bucket.Bucket.{Bucket}
use Rattle.treefs_lookup.specs.declared.inodes.Found.{Found}
use Rattle.treefs_lookup.specs.declared.sought.Sought.TheVariants.{Live}
use Rattle.treefs.specs.Reads.{IsBucketFound}
use Rattle.treefs.specs.declared.volume.Volume.{Volume}
use Rattle.treefs_values.specs.Names.{bucket_entries}
use Rattle.treefs_values.specs.Volumes.{IsDirectory}
use Rattle.treefs_values.proofs.ForCallers.{among_numbers, candidates_few, directory_is, has_of, in_leaf, live_leads, number_stands}
use Rattle.treefs_laws.specs.Kept.{IsKept, files_in}
use Rattle.treefs_laws.specs.Reading.{AreAnswered, listed_by, listed_in, named_number}
use Rattle.treefs_laws.proofs.Planned.{same_done, then_ok}
use Rattle.treefs_laws.proofs.ReadBack.{found_by, value_of}

-- Lists without repetition

abbrev Pair : Type 0
Pair = List ℕ × ℕ

abbrev AreApart : List Pair → Type 0
AreApart [] = ⊤
AreApart (p ∷ ps) = (Contains ps p → ⊥) × AreApart ps

once_get : (ps : List Pair) → AreApart ps → (i j : ℕ) (p : Pair) → i < length ps → j < length ps → get_or ps i p ≡ p → get_or ps j p ≡ p → i ≡ j
once_get [] apart i j p lt lt' is is' = absurd (omega arith)
once_get (x ∷ ps) apart zero zero p lt lt' is is' = refl
once_get (x ∷ ps) apart zero (suc j) p lt lt' is is' = absurd (apart.0 (subst (Contains ps) (sym is) (j, omega arith, is')))
once_get (x ∷ ps) apart (suc i) zero p lt lt' is is' = absurd (apart.0 (subst (Contains ps) (sym is') (i, omega arith, is)))
once_get (x ∷ ps) apart (suc i) (suc j) p lt lt' is is' = ap suc (once_get ps apart.1 i j p (omega arith) (omega arith) is is')

apart_append : (ps qs : List Pair) → AreApart ps → AreApart qs → ((p : Pair) → Contains ps p → Contains qs p → ⊥) → AreApart (ps ++ qs)
apart_append [] qs apart apart' none = apart'
apart_append (p ∷ ps) qs apart apart' none = (
  λ has. elim (Contains-append_cases ps qs p has) [ inl own ↦ apart.0 own | inr other ↦ none p (Contains-head p ps) other ],
  apart_append ps qs apart.1 apart' (λ x own other. none x (Contains-tail p ps x own) other),
)

-- Live entries as pairs

abbrev pairs : List Entry → List Pair
pairs es = map (λ (e : Entry). named_number e) (filter (λ e. is_live e) es)

pair_stands : (es : List Entry) (p : Pair) → Contains (pairs es) p → (e : Entry) × Contains es e × (is_live e ≡ true) × (named_number e ≡ p)
pair_stands [] p has = absurd (Contains-none p has)
pair_stands (e ∷ es) p has = by (is_live e) refl has (pair_stands es p)
  where
    by : (b : Bool) → is_live e ≡ b → Contains (map (λ (e : Entry). named_number e) (cond (is_live e) (e ∷ filter (λ e. is_live e) es) (filter (λ e. is_live e) es))) p →
        (Contains (pairs es) p → (x : Entry) × Contains es x × (is_live x ≡ true) × (named_number x ≡ p)) →
        (x : Entry) × Contains (e ∷ es) x × (is_live x ≡ true) × (named_number x ≡ p)
    by true h has' rest =
        elim (Contains-cons (named_number e) (pairs es) p
        (subst (λ b. Contains (map (λ (e : Entry). named_number e) (cond b (e ∷ filter (λ e. is_live e) es) (filter (λ e. is_live e) es))) p) h has')) [
          | inl same ↦ (e, Contains-head e es, h, same)
          | inr later ↦ let r = rest later in (r.0, Contains-tail e es r.0 r.1, r.2, r.3)
        ]
    by false h has' rest =
        let r = rest (subst (λ b. Contains (map (λ (e : Entry). named_number e) (cond b (e ∷ filter (λ e. is_live e) es) (filter (λ e. is_live e) es))) p) h has') in
        (r.0, Contains-tail e es r.0 r.1, r.2, r.3)

stands_pair : (es : List Entry) (e : Entry) → Contains es e → is_live e ≡ true → Contains (pairs es) (named_number e)
stands_pair [] e has live = absurd (Contains-none e has)
stands_pair (x ∷ es) e has live = elim (Contains-cons x es e has) [
  | inl same ↦ subst (λ (y : Entry). Contains (pairs (y ∷ es)) (named_number e)) (sym same)
      (subst (λ b. Contains (map (λ (e : Entry). named_number e) (cond b (e ∷ filter (λ e. is_live e) es) (filter (λ e. is_live e) es))) (named_number e)) (sym live)
      (Contains-head (named_number e) (pairs es)))
  | inr later ↦ by (is_live x) refl (stands_pair es e later live)
]
  where
    by : (b : Bool) → is_live x ≡ b → Contains (pairs es) (named_number e) →
        Contains (map (λ (e : Entry). named_number e) (cond (is_live x) (x ∷ filter (λ e. is_live e) es) (filter (λ e. is_live e) es))) (named_number e)
    by true h rest = subst (λ b. Contains (map (λ (e : Entry). named_number e) (cond b (x ∷ filter (λ e. is_live e) es) (filter (λ e. is_live e) es))) (named_number e)) (sym h)
        (Contains-tail (named_number x) (pairs es) (named_number e) rest)
    by false h rest = subst (λ b. Contains (map (λ (e : Entry). named_number e) (cond b (x ∷ filter (λ e. is_live e) es) (filter (λ e. is_live e) es))) (named_number e)) (sym h) rest

pairs_apart : (es : List Entry) → IsTrue (names_once es) → AreApart (pairs es)
pairs_apart [] once = tt
pairs_apart (e ∷ es) once = by (is_live e) refl (pairs_apart es (and_parts (not (has_name es e.name)) (names_once es) once).1)
  where
    lacks : has_name es e.name ≡ false
    lacks = not-true (has_name es e.name) (and_parts (not (has_name es e.name)) (names_once es) once).0

    by : (b : Bool) → is_live e ≡ b → AreApart (pairs es) → AreApart (map (λ (e : Entry). named_number e) (cond (is_live e) (e ∷ filter (λ e. is_live e) es) (filter (λ e. is_live e) es)))
    by true h rest =
        subst (λ b. AreApart (map (λ (e : Entry). named_number e) (cond b (e ∷ filter (λ e. is_live e) es) (filter (λ e. is_live e) es)))) (sym h) (
          (λ has. let r = pair_stands es (named_number e) has in
              true≢false (sym (ap (has_name es) (ap (λ (p : Pair). p.0) (sym r.3)) ∙ has_of es r.0 r.1) ∙ lacks)),
          rest,
        )
    by false h rest = subst (λ b. AreApart (map (λ (e : Entry). named_number e) (cond b (e ∷ filter (λ e. is_live e) es) (filter (λ e. is_live e) es)))) (sym h) rest

-- a bucket with a live entry has a live record
any_live : (at : ℕ) (es : List Entry) (e : Entry) → Contains es e → is_live e ≡ true → list_any (λ (r : Record). is_live r.entry) (placed at es) ≡ true
any_live at [] e has live = absurd (Contains-none e has)
any_live at (x ∷ es) e has live = elim (Contains-cons x es e has) [
  | inl same ↦ or_left (is_live x) (list_any (λ (r : Record). is_live r.entry) (placed (at + entry_length x) es)) (ap is_live same ∙ live)
  | inr later ↦ or_right (is_live x) (list_any (λ (r : Record). is_live r.entry) (placed (at + entry_length x) es)) (any_live (at + entry_length x) es e later live)
]

abbrev some_names : Names → Content → Names
some_names other (Directory parent names) = names
some_names other (File bytes) = other
some_names other (SymbolicLink bytes) = other

module _ (state : StoreState) (fs c : ℕ) (key : List ℕ) (c_some : c ≢ 0) (d : IsDirectory (readable state fs) key c) where
  abbrev content : ℕ → List ℕ
  content = readable state fs

  -- from one bucket on, those that are answered
  abbrev pub AreBuckets : ℕ → List Bucket → Type 0
  AreBuckets from [] = AreWithout state fs c Live from (leaf_count + 1)
  AreBuckets from (b ∷ bs) = IsNextBucket state fs c Live from b × AreBuckets (b.number + 1) bs

  -- a pair that is listed stands in a bucket at or past the first
  listed_stands : (from : ℕ) (bs : List Bucket) → AreBuckets from bs → (p : Pair) → Contains (listed_by bs) p →
      (k : ℕ) × (from ≤ k) × (k ≤ leaf_count) × Contains (pairs (bucket_entries content c k)) p
  listed_stands from [] are p has = absurd (Contains-none p has)
  listed_stands from (b ∷ bs) are p has = elim (Contains-append_cases (listed_in b.bytes.now) (listed_by bs) p has) [
    | inl own ↦ (b.number, are.0.past, are.0.few, subst (λ m. Contains (listed_in m) p) are.0.is.bytes own)
    | inr later ↦ let r = listed_stands (b.number + 1) bs are.1 p later in let low = r.1 in let past = are.0.past in (r.0, omega arith, r.2, r.3)
  ]

  -- a bucket with a live entry is one that is sought
  hit : (k : ℕ) (e : Entry) → Contains (bucket_entries content c k) e → is_live e ≡ true → is_hit state fs c Live k ≡ true
  hit k e has live =
      and_from (not (bucket_block content c k == 0)) (has_live (bucket_of content c k)) (ap not (ne_eqb (bucket_block content c k) 0 there))
      (any_live 0 (entries_of (bucket_of content c k)) e has live)
    where
      there : bucket_block content c k ≢ 0
      there z = elim (cases_eq k 0) [
        | inl first ↦ c_some (sym (ap (λ t. if t then c else leaf_block content c (k - 1)) (eq-eqb k 0 first)) ∙ z)
        | inr other ↦
            let leaf : leaf_block content c (k - 1) ≡ 0 = sym (ap (λ t. if t then c else leaf_block content c (k - 1)) (ne_eqb k 0 other)) ∙ z in
            let empty : bucket_of content c k ≡ [] = in_leaf content c k other ∙ ap (λ x. if x == 0 then [] else content x) leaf in
            Contains-none e (subst (λ es. Contains es e) (ap entries_of empty ∙ no_length [] refl) has)
      ]

  -- a bucket at or past it with a live entry is among them
  stands_listed : (from : ℕ) (bs : List Bucket) → AreBuckets from bs → (k : ℕ) → from ≤ k → k ≤ leaf_count → (e : Entry) → Contains (bucket_entries content c k) e →
      is_live e ≡ true → Contains (listed_by bs) (named_number e)
  stands_listed from [] are k low high e has live = absurd (true≢false (sym (hit k e has live) ∙ are k low (omega arith)))
  stands_listed from (b ∷ bs) are k low high e has live = elim (cases_eq k b.number) [
    | inl same ↦
        Contains-append_left (listed_in b.bytes.now) (listed_by bs) (named_number e)
        (subst (λ m. Contains (listed_in m) (named_number e)) (sym are.0.is.bytes)
        (subst (λ j. Contains (pairs (bucket_entries content c j)) (named_number e)) same (stands_pair (bucket_entries content c k) e has live)))
    | inr ne ↦ elim (cases_lt k b.number) [
      | inl before ↦ absurd (true≢false (sym (hit k e has live) ∙ are.0.first k low before))
      | inr past ↦
          Contains-append_right (listed_in b.bytes.now) (listed_by bs) (named_number e) (stands_listed (b.number + 1) bs are.1 k (omega arith) high e has live)
    ]
  ]

  apart_listed : (from : ℕ) (bs : List Bucket) → AreBuckets from bs → AreApart (listed_by bs)
  apart_listed from [] are = tt
  apart_listed from (b ∷ bs) are =
      apart_append (listed_in b.bytes.now) (listed_by bs)
      (subst (λ m. AreApart (listed_in m)) (sym are.0.is.bytes) (pairs_apart (bucket_entries content c b.number) (d.names.once b.number are.0.few)))
      (apart_listed (b.number + 1) bs are.1)
      (λ p own other.
      let a = pair_stands (bucket_entries content c b.number) p (subst (λ m. Contains (listed_in m) p) are.0.is.bytes own) in
      let r = listed_stands (b.number + 1) bs are.1 p other in
      let z = pair_stands (bucket_entries content c r.0) p r.3 in
      let same_name : a.0.name ≡ z.0.name = ap (λ (q : Pair). q.0) (a.3 ∙ sym z.3) in
      let same : b.number ≡ r.0 =
      d.names.apart b.number r.0 z.0.name are.0.few r.2 (subst (λ x. IsTrue (has_name (bucket_entries content c b.number) x)) same_name (has_of (bucket_entries content c b.number) a.0 a.1))
      (has_of (bucket_entries content c r.0) z.0 z.1) in
      let low = r.1 in absurd (omega (arith, same, low)))

  pub listing_so : (bs : List Bucket) → AreBuckets 0 bs → IsListing (number_of content key c) (listed_by bs)
  listing_so bs are = record {
    all = λ name n. (leads name n, back name n);
    once = λ i j p at at'.
        once_get (listed_by bs) (apart_listed 0 bs are) i j p (slice_get_within (listed_by bs) i p at) (slice_get_within (listed_by bs) j p at')
        (get_or_from_slice_get (listed_by bs) i p p at) (get_or_from_slice_get (listed_by bs) j p p at');
  }
    where
      within : (name : List ℕ) (j : ℕ) → Contains (candidates (name_hash key name)) j → j ≤ leaf_count
      within name j has = candidates_few (name_hash key name) j has

      leads : (name : List ℕ) (n : ℕ) → number_of content key c name ≡ Some n → Contains (listed_by bs) (name, n)
      leads name n is =
          let r = number_stands content c name (candidates (name_hash key name)) n (sym (among_numbers content c name (candidates (name_hash key name))) ∙ is) in
          let e = r.2 in
          subst (Contains (listed_by bs)) (λ j. (e.named j, e.numbered j)) (stands_listed 0 bs are r.0 (omega arith) (within name r.0 r.1) e.entry e.there e.live)

      back : (name : List ℕ) (n : ℕ) → Contains (listed_by bs) (name, n) → number_of content key c name ≡ Some n
      back name n has =
          let r = listed_stands 0 bs are (name, n) has in
          let e = pair_stands (bucket_entries content c r.0) (name, n) r.3 in
          let named : e.0.name ≡ name = ap (λ (q : Pair). q.0) e.3 in
          let numbered : e.0.number ≡ n = ap (λ (q : Pair). q.1) e.3 in
          let there : Contains (candidates (name_hash key e.0.name)) r.0 = d.placed r.0 e.0.name r.2 (has_of (bucket_entries content c r.0) e.0 e.1) in
          subst (λ x. number_of content key c x ≡ Some n) named
          (among_numbers content c e.0.name (candidates (name_hash key e.0.name))
          ∙ (live_leads content c d.names r.0 r.2 e.0 e.1 e.2 (candidates (name_hash key e.0.name)) (within e.0.name) there ∙ ap Some numbered))

-- The call

module _ (T : Types) (state : StoreState) (volume : Volume) (kept : IsKept T state volume) (n : ℕ) where
  abbrev fs : ℕ
  fs = volume.tree.fs.number

  abbrev top : ℕ
  top = volume.tree.top

  abbrev bytes_in : ℕ → List ℕ
  bytes_in = readable state fs

  abbrev key_of_top : List ℕ
  key_of_top = key_in bytes_in top

  answered_from : (x : Found) → directory_found bytes_in top n ≡ Ok x → (from : ℕ) (bs : List Bucket) → AreAnswered state volume.tree n from bs →
      (c_some : x.block ≢ 0) (d : IsDirectory bytes_in key_of_top x.block) → AreBuckets state fs x.block key_of_top c_some d from bs
  answered_from x is from [] are c_some d = subst (λ r. MatchResult r (λ directory. IsBucketFound state fs directory.block from (Ok None)) (λ fault. ◌≡◌ {A = Result (Option Bucket) Fault} (Ok None) (Err fault))) is are
  answered_from x is from (b ∷ bs) are c_some d = (
    subst (λ r. MatchResult r (λ directory. IsBucketFound state fs directory.block from (Ok (Some b))) (λ fault. ◌≡◌ {A = Result (Option Bucket) Fault} (Ok (Some b)) (Err fault))) is are.0,
    answered_from x is (b.number + 1) bs are.1 c_some d,
  )

  -- answers are of a directory
  directory_so : (bs : List Bucket) → AreAnswered state volume.tree n 0 bs → (x : Found) × (directory_found bytes_in top n ≡ Ok x)
  directory_so bs are = by bs are (directory_found bytes_in top n) refl
    where
      by : (bs : List Bucket) → AreAnswered state volume.tree n 0 bs → (r : Result Found Fault) → directory_found bytes_in top n ≡ r → (x : Found) × (directory_found bytes_in top n ≡ Ok x)
      by bs are (Ok x) is = (x, is)
      by [] are (Err fault) is =
          absurd (cc (subst (λ r. MatchResult r (λ directory. IsBucketFound state fs directory.block 0 (Ok None)) (λ fault. ◌≡◌ {A = Result (Option Bucket) Fault} (Ok None) (Err fault))) is are))
      by (b ∷ bs) are (Err fault) is =
          absurd (cc (subst (λ r. MatchResult r (λ directory. IsBucketFound state fs directory.block 0 (Ok (Some b))) (λ fault. ◌≡◌ {A = Result (Option Bucket) Fault} (Ok (Some b)) (Err fault))) is are.0))

  is_names : (c parent : ℕ) (k : Kind) → k ≡ kind.Directory → content_at bytes_in key_of_top c parent k ≡ Directory parent (number_of bytes_in key_of_top c)
  is_names c parent kind.Directory is = refl
  is_names c parent kind.File is = absurd (cc is)
  is_names c parent kind.SymbolicLink is = absurd (cc is)

  linked_in : (x y : Found) (k : Kind) → if_directory x k ≡ Ok y → x ≡ y
  linked_in x y kind.Directory e = by (x.fields.links == 0) e
    where
      by : (t : Bool) → ◌≡◌ {A = Result Found Fault} (if t then Err NoEntry else Ok x) (Ok y) → x ≡ y
      by true e = absurd (cc e)
      by false e = same_done x y e
  linked_in x y kind.File e = absurd (cc e)
  linked_in x y kind.SymbolicLink e = absurd (cc e)

  pub listed_so : (inode : Inode) (parent : ℕ) (names : Names) (bs : List Bucket) → files_in state volume n ≡ Some inode → inode.content ≡ Directory parent names →
      AreAnswered state volume.tree n 0 bs → IsListing names (listed_by bs)
  listed_so inode parent names bs there content_is are =
      let one = directory_so bs are in
      let x : Found = one.0 in
      let found = directory_is bytes_in top n x one.1 in
      let c_some : x.block ≢ 0 = λ z. found.0.there (sym found.0.block ∙ z) in
      let d : IsDirectory bytes_in key_of_top x.block = subst (IsDirectory bytes_in key_of_top) (sym found.0.block)
      (kept.bytes.directories n found.0.number found.0.there (found.0.kind ∙ ap Some found.1)) in
      let listing = listing_so state fs x.block key_of_top c_some d bs (answered_from x one.1 0 bs are c_some d) in
      let two = then_ok (inode_found bytes_in top n) (λ (y : Found). if_directory y y.kind) x one.1 in
      let same_x : two.0 ≡ x = linked_in two.0 x two.0.kind two.2 in
      let value = found_by state volume n 0 [] (Ok two.0) two.1 in
      let same : inode ≡ value_of state volume n 0 [] two.0 =
      same_done inode (value_of state volume n 0 [] two.0) (sym (ap (λ o. ok_or o NoEntry) there) ∙ value) in
      let says : Directory parent names ≡ Directory two.0.fields.parent (number_of bytes_in key_of_top two.0.block) =
      sym content_is ∙ (ap (λ (i : Inode). i.content) same ∙ is_names two.0.block two.0.fields.parent two.0.kind (ap (λ (y : Found). y.kind) same_x ∙ found.1)) in
      let same_names : number_of bytes_in key_of_top x.block ≡ names =
      sym (ap (some_names names) says ∙ ap (λ (y : Found). number_of bytes_in key_of_top y.block) same_x) in
      subst (λ f. IsListing f (listed_by bs)) same_names listing
