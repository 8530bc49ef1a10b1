-- Live records, bucket by bucket.
use Rattle.std.proofs.Common.{◌≡◌, ℕ, ◌+◌, ◌-◌, ◌<◌, ◌≤◌, Bool, true, false, cond, List, [], ◌∷◌, ◌++◌, refl, sym, ap, ◌∙◌, arith}
use Rattle.std.specs.Prelude.{◌==◌, ◌&&◌, ◌||◌, not, filter, map}
use Rattle.std.specs.List.{list_any}
use Rattle.xn_model.specs.Lives.{StoreState}
use Rattle.treefs_format.specs.Paths.{leaf_count}
use Rattle.treefs_format.specs.Records.{Entry, Record, is_live, placed, records_of}
use Rattle.treefs_model.specs.Reading.{bucket_of}
use Rattle.treefs_lookup.specs.Buckets.{bucket_block, bucket_start}
use Rattle.treefs_lookup.specs.Readable.{readable}
use Rattle.treefs_lookup.specs.Sought.{AreWithout, IsNextBucket, has_live}
use Rattle.treefs_lookup.specs.declared.bucket.Bucket.{Bucket}
use Rattle.treefs_lookup.specs.declared.sought.Sought.TheVariants.{Live}
use Rattle.treefs_mending.specs.Names.{bucket_count, bucket_names, name_of, names_from, names_in}
use Rattle.treefs_mending.proofs.Gathered.{gathered_next, gathered_none}

pub bucket_count_is : bucket_count ≡ leaf_count + 1
unfolding bucket_count
bucket_count_is = refl

-- the first of some records begins where they do
pub first_offset : (at : ℕ) (es : List Entry) (r : Record) (rest : List Record) → placed at es ≡ r ∷ rest → at ≡ r.offset
first_offset at [] r rest is = cc
first_offset at (e ∷ es) r rest is = cc

-- what passes no test is left out
filtered_none : {X : Type 0} (p : X → Bool) (x : X) (xs : List X) (b : Bool) → (list_any p xs ≡ false → filter p xs ≡ []) → (b || list_any p xs) ≡ false →
    cond b (x ∷ filter p xs) (filter p xs) ≡ []
filtered_none p x xs true rest none = cc
filtered_none p x xs false rest none = rest none

filter_none : {X : Type 0} (p : X → Bool) (xs : List X) → list_any p xs ≡ false → filter p xs ≡ []
filter_none p [] none = refl
filter_none p (x ∷ xs) none = filtered_none p x xs (p x) (filter_none p xs) none

some_names_in : (block start : ℕ) (bytes : List ℕ) (b : Bool) → (not b && has_live bytes) ≡ true → cond b [] (names_in block start bytes) ≡ names_in block start bytes
some_names_in block start bytes true hit = cc
some_names_in block start bytes false hit = refl

no_names_in : (block start : ℕ) (bytes : List ℕ) (b : Bool) → (not b && has_live bytes) ≡ false → cond b [] (names_in block start bytes) ≡ []
no_names_in block start bytes true miss = refl
no_names_in block start bytes false miss = ap (map (name_of block start)) (filter_none (λ r. is_live r.entry) (records_of bytes) miss)

module _ (state : StoreState) (fs inode : ℕ) where
  -- buckets without a live record
  passed : (from to : ℕ) → AreWithout state fs inode Live from to → (n : ℕ) → from ≤ n → n < to → bucket_names (readable state fs) inode n ≡ []
  passed from to without n ge lt =
      let content = readable state fs in
      no_names_in (bucket_block content inode n) (bucket_start n) (bucket_of content inode n) (bucket_block content inode n == 0) (without n ge lt)

  -- the next bucket with one
  here : (from : ℕ) (bucket : Bucket) → IsNextBucket state fs inode Live from bucket →
      bucket_names (readable state fs) inode bucket.number ≡ names_in bucket.block bucket.start bucket.bytes.now
  here from bucket is =
      let content = readable state fs in
      let n = bucket.number in
      some_names_in (bucket_block content inode n) (bucket_start n) (bucket_of content inode n) (bucket_block content inode n == 0) is.hit
      ∙ sym (ap (λ b. names_in b bucket.start bucket.bytes.now) is.is.block
      ∙ (ap (λ s. names_in (bucket_block content inode n) s bucket.bytes.now) is.is.start
      ∙ ap (λ m. names_in (bucket_block content inode n) (bucket_start n) m) is.is.bytes))

  pub next_names : (from : ℕ) (bucket : Bucket) → IsNextBucket state fs inode Live from bucket →
      names_from (readable state fs) inode from (bucket_count - from)
      ≡ names_in bucket.block bucket.start bucket.bytes.now ++ names_from (readable state fs) inode (bucket.number + 1) (bucket_count - (bucket.number + 1))
  next_names from bucket is =
      let content = readable state fs in
      let n = bucket.number in
      let past = is.past in
      let few = is.few in
      gathered_next (bucket_names content inode) from n (bucket_count - from) (bucket_count - (n + 1)) past (omega (arith, bucket_count_is))
      (omega (arith, bucket_count_is)) (passed from n is.first)
      ∙ ap (λ l. l ++ names_from content inode (n + 1) (bucket_count - (n + 1))) (here from bucket is)

  pub last_names : (from : ℕ) → from ≤ bucket_count → AreWithout state fs inode Live from (leaf_count + 1) →
      names_from (readable state fs) inode from (bucket_count - from) ≡ []
  last_names from few without =
      gathered_none (bucket_names (readable state fs) inode) from (bucket_count - from)
      (λ n ge lt. passed from (leaf_count + 1) without n ge (omega (arith, bucket_count_is)))
