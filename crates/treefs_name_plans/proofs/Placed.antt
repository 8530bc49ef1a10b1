-- The place of a new name begins within its block, or is a leaf that is to be made.
use Rattle.std.proofs.Common.{◌≡◌, ◌==◌, ℕ, ◌+◌, ◌-◌, ◌≤◌, List, [], ◌∷◌, drop, length, Bool, true, false, Option, None, Some, Ok, refl, sym, subst, arith, if◌then◌else◌}
use Rattle.std.specs.Prelude.{◌&&◌, is_none, not, option_map}
use Rattle.std.specs.Option.{ok_or, option_or}
use Rattle.xn_model.specs.Lives.{StoreState}
use Rattle.xn_model.specs.PendingIn.{newest_entry_of}
use Rattle.std.proofs.lemmas.Bool.{leb-true}
use Rattle.std.proofs.lemmas.List.{length-drop}
use Rattle.treefs_format.proofs.Loops.{ends_within}
use Rattle.treefs_format.specs.Buckets.{dead_record, has_name, room_without}
use Rattle.treefs_format.specs.Candidates.{candidates, name_hash}
use Rattle.treefs_format.specs.Paths.{leaf_count}
use Rattle.treefs_format.specs.Records.{Record, end_of, is_live}
use Rattle.treefs_model.specs.declared.fault.Fault.{Fault}
use Rattle.treefs_model.specs.Reading.{bucket_of, leaf_block}
use Rattle.treefs_lookup.specs.Buckets.{bucket_block, bucket_start}
use Rattle.treefs_lookup.specs.Names.{dead_in, dead_of, dead_place, first_some, fits_behind, fits_without, free_place, no_place, place_of, place_or, room_at, room_in}
use Rattle.treefs_lookup.specs.Readable.{readable}
use Rattle.treefs_lookup.specs.declared.places.NamePlace.{NamePlace}
use Rattle.treefs_lookup.specs.declared.places.NamePlace.TheVariants.{Behind, DeadRecord, NewBucket, Rewritten}
use Rattle.treefs_lookup.proofs.FoundRecords.{found_within}
use Rattle.treefs_name_plans.specs.NewNames.{IsWithinBlocks}
use Rattle.treefs_name_plans.proofs.Within.{fits}

-- each of some buckets
abbrev EachOf : (ℕ → Type 0) → List ℕ → Type 0
EachOf Q [] = Unit {0}
EachOf Q (n ∷ ns) = Q n × EachOf Q ns

first_is : {A : Type 0} (has : ℕ → Option A) (Q : ℕ → Type 0) (P : A → Type 0) → ((n : ℕ) → Q n → (x : A) → has n ≡ Some x → P x) →
    (ns : List ℕ) → EachOf Q ns → (x : A) → first_some has ns ≡ Some x → P x
first_is has Q P step [] each x is = absurd (cc is)
first_is {A} has Q P step (n ∷ ns) each x is = by (has n) refl is (λ h. first_is has Q P step ns each.1 x h)
  where
    by : (o : Option A) → has n ≡ o → option_or o (first_some has ns) ≡ Some x → (first_some has ns ≡ Some x → P x) → P x
    by None e h rest = rest h
    by (Some y) e h rest = let same : y ≡ x = cc in subst P same (step n each.0 y e)

few : (hash : ℕ) → EachOf (λ n. n ≤ leaf_count) (candidates hash)
few hash = (omega arith, (omega arith, (omega arith, (omega arith, (omega arith, (omega arith, (omega arith, (omega arith, (omega arith, tt)))))))))

module _ (content : ℕ → List ℕ) (name : List ℕ) where
  dead_within : (bytes : List ℕ) (block start : ℕ) (x : NamePlace) → start + length bytes ≤ 128 + length (content block) →
      (o : Option Record) → dead_record bytes name ≡ o → option_map (dead_of block start) o ≡ Some x → IsWithinBlocks content x
  dead_within bytes block start x room None e is = absurd (cc is)
  dead_within bytes block start x room (Some r) e is =
      let le : r.offset ≤ length bytes = found_within (λ r. not (is_live r.entry) && has_name name r) bytes r (ends_within bytes) (sym e) in
      let same : DeadRecord block (start + r.offset) ≡ x = cc in
      subst (IsWithinBlocks content) same (omega (arith, le, room))

  dead_at : (inode n : ℕ) → n ≤ leaf_count → (x : NamePlace) → dead_in content inode name n ≡ Some x → IsWithinBlocks content x
  dead_at inode n low x is =
      let leaf = leaf_block content inode (n - 1) in
      dead_within (bucket_of content inode n) (bucket_block content inode n) (bucket_start n) x (fits content inode leaf (n == 0) (leaf == 0))
      (dead_record (bucket_of content inode n) name) refl is

  behind_within : (bytes : List ℕ) (block start : ℕ) → start + length bytes ≤ 128 + length (content block) → length bytes ≤ length (content block) →
      (t u : Bool) → fits_without bytes name ≡ u → (v : Bool) (x : NamePlace) →
      (if t then Some (Behind block (start + end_of bytes)) else if u && v then Some (Rewritten block start (start + (length bytes - room_without bytes))) else None) ≡ Some x →
      IsWithinBlocks content x
  behind_within bytes block start room short true u e v x is =
      let le = ends_within bytes in
      let same : Behind block (start + end_of bytes) ≡ x = cc in
      subst (IsWithinBlocks content) same (omega (arith, le, room))
  behind_within bytes block start room short false false e v x is = absurd (cc is)
  behind_within bytes block start room short false true e false x is = absurd (cc is)
  behind_within bytes block start room short false true e true x is =
      let some : 5 + length name ≤ room_without bytes = leb-true (5 + length name) (room_without bytes) e in
      let same : Rewritten block start (start + (length bytes - room_without bytes)) ≡ x = cc in
      subst (IsWithinBlocks content) same (omega (arith, some, short), omega (arith, room))

  new_within : (bytes : List ℕ) (block start : ℕ) → start + length bytes ≤ 128 + length (content block) → length bytes ≤ length (content block) →
      (n : ℕ) → n ≤ leaf_count → (entry : Option ℕ) (t : Bool) (x : NamePlace) →
      (if t then Some (NewBucket n) else room_in bytes block start entry name) ≡ Some x → IsWithinBlocks content x
  new_within bytes block start room short n low entry true x is = let same : NewBucket n ≡ x = cc in subst (IsWithinBlocks content) same low
  new_within bytes block start room short n low entry false x is =
      behind_within bytes block start room short (fits_behind bytes name) (fits_without bytes name) refl (is_none entry) x is

short_bucket : (content : ℕ → List ℕ) (x y : ℕ) (a b : Bool) → length (if a then drop 128 (content x) else (if b then [] else content y)) ≤ length (content (if a then x else y))
short_bucket content x y true b = let e = length-drop 128 (content x) in omega (arith, e)
short_bucket content x y false true = omega arith
short_bucket content x y false false = omega arith

room_within : (state : StoreState) (fs inode : ℕ) (name : List ℕ) (n : ℕ) → n ≤ leaf_count → (x : NamePlace) → room_at state fs inode name n ≡ Some x → IsWithinBlocks (readable state fs) x
room_within state fs inode name n low x is =
    let content = readable state fs in
    let leaf = leaf_block content inode (n - 1) in
    let block = bucket_block content inode n in
    new_within content name (bucket_of content inode n) block (bucket_start n) (fits content inode leaf (n == 0) (leaf == 0)) (short_bucket content inode leaf (n == 0) (leaf == 0))
    n low (newest_entry_of state block) (block == 0) x is

some_of : (o : Option NamePlace) (fault : Fault) (x : NamePlace) → ok_or o fault ≡ Ok x → o ≡ Some x
some_of None fault x e = absurd (cc e)
some_of (Some y) fault x e = cc

free_within : (state : StoreState) (fs hash inode : ℕ) (name : List ℕ) (x : NamePlace) → free_place state fs hash inode name ≡ Ok x → IsWithinBlocks (readable state fs) x
unfolding free_place
free_within state fs hash inode name x is =
    first_is (room_at state fs inode name) (λ n. n ≤ leaf_count) (IsWithinBlocks (readable state fs)) (room_within state fs inode name) (candidates hash) (few hash) x
    (some_of (first_some (room_at state fs inode name) (candidates hash)) (no_place (readable state fs) inode name (candidates hash)) x is)

dead_first : (content : ℕ → List ℕ) (hash inode : ℕ) (name : List ℕ) (x : NamePlace) → dead_place content hash inode name ≡ Some x → IsWithinBlocks content x
unfolding dead_place
dead_first content hash inode name x is =
    first_is (dead_in content inode name) (λ n. n ≤ leaf_count) (IsWithinBlocks content) (dead_at content name inode) (candidates hash) (few hash) x is

pub placed_within : (state : StoreState) (fs : ℕ) (key : List ℕ) (inode : ℕ) (name : List ℕ) (x : NamePlace) → place_of state fs key inode name ≡ Ok x → IsWithinBlocks (readable state fs) x
placed_within state fs key inode name x is = by (dead_place (readable state fs) (name_hash key name) inode name) refl is
  where
    by : (o : Option NamePlace) → dead_place (readable state fs) (name_hash key name) inode name ≡ o → place_or o (free_place state fs (name_hash key name) inode name) ≡ Ok x →
        IsWithinBlocks (readable state fs) x
    by None e h = free_within state fs (name_hash key name) inode name x h
    by (Some y) e h = let same : y ≡ x = cc in subst (IsWithinBlocks (readable state fs)) same (dead_first (readable state fs) (name_hash key name) inode name y e)
