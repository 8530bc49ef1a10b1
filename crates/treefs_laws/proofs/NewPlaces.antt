-- Where planners put the record of a new name.
use Rattle.std.proofs.Common.{◌≡◌, ◌≢◌, ℕ, ◌+◌, ◌-◌, ◌<◌, ◌≤◌, Bool, true, false, cond, not, ◌&&◌, ◌||◌, List, [], ◌∷◌, length, Option, None, Some, Ok, refl, sym, ◌∙◌, ap, inl, inr, arith, subst, if◌then◌else◌}
use Rattle.std.specs.Prelude.{Contains, bytes_eq, find, is_none, option_map}
use Rattle.std.specs.Option.{ok_or, option_or}
use Rattle.std.proofs.lemmas.Bool.{and_parts, cases_eq, eq-eqb, leb-false, leb-true, ne_eqb}
use Rattle.std.proofs.lemmas.Option.{same_Some}
use Rattle.xn_model.proofs.ForCallers.{Contains-cons, Contains-head, Contains-none, Contains-tail}
use Rattle.xn_model.specs.Lives.{StoreState}
use Rattle.xn_model.specs.PendingIn.{newest_entry_of}
use Rattle.treefs_format.specs.Buckets.{dead_record, has_name as record_has_name, live_record, room_behind, room_without}
use Rattle.treefs_format.specs.Candidates.{candidates, name_hash}
use Rattle.treefs_format.specs.Records.{Entry, Record, end_of, entries_of, entry_length, is_live, placed, records_of}
use Rattle.treefs_model.specs.Reading.{bucket_of, leaf_block}
use Rattle.treefs_model.specs.Trees.{has_name}
use Rattle.treefs_lookup.specs.Buckets.{bucket_block, bucket_start}
use Rattle.treefs_lookup.specs.Names.{dead_in, dead_of, dead_place, first_some, fits_behind, fits_without, free_place, no_place, place_of, place_or, room_at, room_in, slot_in, slot_named}
use Rattle.treefs_lookup.specs.Readable.{readable}
use Rattle.treefs_lookup.specs.declared.places.NamePlace.{NamePlace}
use Rattle.treefs_lookup.specs.declared.places.NamePlace.TheVariants as place
use Rattle.treefs_values.proofs.ForCallers.{AreFree, IsPlace, same_bytes}
use Rattle.treefs_laws.proofs.Planned.{same_done}

-- The first bucket that has something

module _ {A : Type 0} (f : ℕ → Option A) where
  first_none : (ks : List ℕ) → first_some f ks ≡ None → (k : ℕ) → Contains ks k → f k ≡ None
  first_none [] none k has = absurd (Contains-none k has)
  first_none (j ∷ ks) none k has = by (f j) refl none (first_none ks)
    where
      by : (o : Option A) → f j ≡ o → option_or o (first_some f ks) ≡ None → (first_some f ks ≡ None → (k : ℕ) → Contains ks k → f k ≡ None) → f k ≡ None
      by (Some x) is none' rest = absurd (cc none')
      by None is none' rest = elim (Contains-cons j ks k has) [ inl e ↦ ap f (sym e) ∙ is | inr later ↦ rest none' k later ]

  first_found : (ks : List ℕ) (x : A) → first_some f ks ≡ Some x → (k : ℕ) × Contains ks k × (f k ≡ Some x)
  first_found [] x found = absurd (cc found)
  first_found (j ∷ ks) x found = by (f j) refl found (first_found ks x)
    where
      by : (o : Option A) → f j ≡ o → option_or o (first_some f ks) ≡ Some x → (first_some f ks ≡ Some x → (k : ℕ) × Contains ks k × (f k ≡ Some x)) →
          (k : ℕ) × Contains (j ∷ ks) k × (f k ≡ Some x)
      by (Some y) is found' rest = (j, Contains-head j ks, is ∙ found')
      by None is found' rest = let r = rest found' in (r.0, Contains-tail j ks r.0 r.1, r.2)

none_mapped : {A B : Type 0} (f : A → B) (o : Option A) → option_map f o ≡ None → o ≡ None
none_mapped f None e = refl
none_mapped f (Some x) e = absurd (cc e)

some_mapped : {A B : Type 0} (f : A → B) (o : Option A) (y : B) → option_map f o ≡ Some y → (x : A) × (o ≡ Some x) × (f x ≡ y)
some_mapped f None y e = absurd (cc e)
some_mapped f (Some x) y e = (x, refl, same_Some (f x) y e)

-- A bucket without a live record of a name, and without a dead one

neither : (name : List ℕ) (at : ℕ) (es : List Entry) → find (λ r. is_live r.entry && record_has_name name r) (placed at es) ≡ None →
    find (λ r. not (is_live r.entry) && record_has_name name r) (placed at es) ≡ None → has_name es name ≡ false
neither name at [] live dead = refl
neither name at (e ∷ es) live dead = by (is_live e) refl (bytes_eq e.name name) refl (neither name (at + entry_length e) es)
  where
    r : Record
    r = record { offset = at; entry = e }

    rest : List Record
    rest = placed (at + entry_length e) es

    by : (a : Bool) → is_live e ≡ a → (b : Bool) → bytes_eq e.name name ≡ b →
        (find (λ r. is_live r.entry && record_has_name name r) (placed (at + entry_length e) es) ≡ None →
        find (λ r. not (is_live r.entry) && record_has_name name r) (placed (at + entry_length e) es) ≡ None → has_name es name ≡ false) →
        (bytes_eq e.name name || has_name es name) ≡ false
    by true is true named later =
        absurd (cc (sym (λ j. cond (is j && named j) (Some (record { offset = at; entry = e })) (find (λ r. is_live r.entry && record_has_name name r) (placed (at + entry_length e) es))) ∙ live))
    by false is true named later =
        absurd (cc (sym (λ j. cond (not (is j) && named j) (Some (record { offset = at; entry = e }))
        (find (λ r. not (is_live r.entry) && record_has_name name r) (placed (at + entry_length e) es))) ∙ dead))
    by true is false named later =
        ap (λ b. b || has_name es name) named
        ∙ later (sym (λ j. cond (is j && named j) (Some (record { offset = at; entry = e })) (find (λ r. is_live r.entry && record_has_name name r) (placed (at + entry_length e) es))) ∙ live)
        (sym (λ j. cond (not (is j) && named j) (Some (record { offset = at; entry = e }))
        (find (λ r. not (is_live r.entry) && record_has_name name r) (placed (at + entry_length e) es))) ∙ dead)
    by false is false named later =
        ap (λ b. b || has_name es name) named
        ∙ later (sym (λ j. cond (is j && named j) (Some (record { offset = at; entry = e })) (find (λ r. is_live r.entry && record_has_name name r) (placed (at + entry_length e) es))) ∙ live)
        (sym (λ j. cond (not (is j) && named j) (Some (record { offset = at; entry = e }))
        (find (λ r. not (is_live r.entry) && record_has_name name r) (placed (at + entry_length e) es))) ∙ dead)

dead_found : (name : List ℕ) (rs : List Record) (r : Record) → find (λ r. not (is_live r.entry) && record_has_name name r) rs ≡ Some r →
    Contains rs r × (r.entry.name ≡ name)
dead_found name [] r found = absurd (cc found)
dead_found name (x ∷ rs) r found = by (not (is_live x.entry) && record_has_name name x) refl (dead_found name rs r) found
  where
    by : (b : Bool) → (not (is_live x.entry) && record_has_name name x) ≡ b →
        (find (λ r. not (is_live r.entry) && record_has_name name r) rs ≡ Some r → Contains rs r × (r.entry.name ≡ name)) →
        cond (not (is_live x.entry) && record_has_name name x) (Some x) (find (λ r. not (is_live r.entry) && record_has_name name r) rs) ≡ Some r →
        Contains (x ∷ rs) r × (r.entry.name ≡ name)
    by true h later e =
        let same : x ≡ r = same_Some x r (sym (ap (λ b. cond b (Some x) (find (λ r. not (is_live r.entry) && record_has_name name r) rs)) h) ∙ e) in
        let parts = and_parts (not (is_live x.entry)) (record_has_name name x) h in
        (subst (Contains (x ∷ rs)) same (Contains-head x rs), ap (λ (q : Record). q.entry.name) (sym same) ∙ same_bytes x.entry.name name parts.1)
    by false h later e =
        let r' = later (sym (ap (λ b. cond b (Some x) (find (λ r. not (is_live r.entry) && record_has_name name r) rs)) h) ∙ e) in
        (Contains-tail x rs r r'.0, r'.1)

-- Places

module _ (state : StoreState) (fs : ℕ) (key : List ℕ) (c : ℕ) (name : List ℕ) (c_some : c ≢ 0) where
  abbrev content : ℕ → List ℕ
  content = readable state fs

  abbrev ks : List ℕ
  ks = candidates (name_hash key name)

  -- behind the live records of a bucket, once it is rewritten
  pub record IsRewritten (block start offset : ℕ) : Type 0 where
    pub bucket : ℕ
    pub candidate : Contains (candidates (name_hash key name)) bucket
    pub block_is : block ≡ bucket_block content c bucket
    pub start_is : start ≡ bucket_start bucket
    pub offset_is : offset ≡ bucket_start bucket + (length (bucket_of content c bucket) - room_without (bucket_of content c bucket))
    pub there : bucket_block content c bucket ≢ 0
    pub full : 0 < end_of (bucket_of content c bucket)
    pub fits : 5 + length name ≤ room_without (bucket_of content c bucket)
    pub none : AreFree content key c name

  -- a bucket that is to be made
  pub record IsMissing (bucket : ℕ) : Type 0 where
    pub candidate : Contains (candidates (name_hash key name)) bucket
    pub some : bucket ≢ 0
    pub missing : leaf_block content c (bucket - 1) ≡ 0
    pub none : AreFree content key c name

  abbrev pub IsPlaceFor : NamePlace → Type 0
  IsPlaceFor (place.DeadRecord block offset) = IsPlace content key c name block offset
  IsPlaceFor (place.Behind block offset) = IsPlace content key c name block offset
  IsPlaceFor (place.Rewritten block start offset) = IsRewritten block start offset
  IsPlaceFor (place.NewBucket bucket) = IsMissing bucket

  own_place : (p : NamePlace) → first_some (dead_in content c name) (candidates (name_hash key name)) ≡ Some p → IsPlaceFor p
  own_place p is =
      let f = first_found (dead_in content c name) (candidates (name_hash key name)) p is in
      let k : ℕ = f.0 in
      let m = some_mapped (dead_of (bucket_block content c k) (bucket_start k)) (dead_record (bucket_of content c k) name) p f.2 in
      let r : Record = m.0 in
      let found = dead_found name (records_of (bucket_of content c k)) r m.1 in
      subst IsPlaceFor m.2 (inr (record {
        bucket = k;
        candidate = f.1;
        record_of = r;
        there = found.0;
        named = found.1;
        block_is = refl;
        offset_is = refl;
      }))

  module _ (free : AreFree content key c name) where
    block_zero : (k : ℕ) → bucket_block content c k ≡ 0 → (k ≢ 0) × (leaf_block content c (k - 1) ≡ 0)
    block_zero k z = elim (cases_eq k 0) [
      | inl first ↦ absurd (c_some (sym (ap (λ t. if t then c else leaf_block content c (k - 1)) (eq-eqb k 0 first)) ∙ z))
      | inr other ↦ (other, sym (ap (λ t. if t then c else leaf_block content c (k - 1)) (ne_eqb k 0 other)) ∙ z)
    ]

    abbrev room_by : ℕ → Bool → Bool → Option NamePlace
    room_by k x y = if x then Some (place.Behind (bucket_block content c k) (bucket_start k + end_of (bucket_of content c k)))
        else if y then Some (place.Rewritten (bucket_block content c k) (bucket_start k)
        (bucket_start k + (length (bucket_of content c k) - room_without (bucket_of content c k))))
        else None

    in_bucket : (k : ℕ) → Contains (candidates (name_hash key name)) k → bucket_block content c k ≢ 0 → (entry : Option ℕ) (p : NamePlace) →
        room_in (bucket_of content c k) (bucket_block content c k) (bucket_start k) entry name ≡ Some p → IsPlaceFor p
    in_bucket k has there entry p is =
        by (fits_behind (bucket_of content c k) name) refl (fits_without (bucket_of content c k) name && is_none entry) refl is
      where
        by : (x : Bool) → fits_behind (bucket_of content c k) name ≡ x → (y : Bool) → (fits_without (bucket_of content c k) name && is_none entry) ≡ y →
            room_by k (fits_behind (bucket_of content c k) name) (fits_without (bucket_of content c k) name && is_none entry) ≡ Some p → IsPlaceFor p
        by true h y g e =
            let same : place.Behind (bucket_block content c k) (bucket_start k + end_of (bucket_of content c k)) ≡ p =
            same_Some (place.Behind (bucket_block content c k) (bucket_start k + end_of (bucket_of content c k))) p
            (sym (ap (λ x. room_by k x (fits_without (bucket_of content c k) name && is_none entry)) h) ∙ e) in
            subst IsPlaceFor same (inl (record {
              bucket = k;
              candidate = has;
              block_is = refl;
              offset_is = refl;
              room = leb-true (5 + length name) (room_behind (bucket_of content c k)) h;
              none = free;
            }))
        by false h true g e =
            let p' : NamePlace = place.Rewritten (bucket_block content c k) (bucket_start k) (bucket_start k + (length (bucket_of content c k) - room_without (bucket_of content c k))) in
            let same : p' ≡ p = same_Some p' p (sym (λ j. room_by k (h j) (g j)) ∙ e) in
            let low : room_behind (bucket_of content c k) < 5 + length name = leb-false (5 + length name) (room_behind (bucket_of content c k)) h in
            let fits : 5 + length name ≤ room_without (bucket_of content c k) =
            leb-true (5 + length name) (room_without (bucket_of content c k)) (and_parts (fits_without (bucket_of content c k) name) (is_none entry) g).0 in
            subst IsPlaceFor same (record {
              bucket = k;
              candidate = has;
              block_is = refl;
              start_is = refl;
              offset_is = refl;
              there = there;
              full = omega arith;
              fits = fits;
              none = free;
            })
        by false h false g e = absurd (cc (sym (λ j. room_by k (h j) (g j)) ∙ e))

    free_at : (k : ℕ) → Contains (candidates (name_hash key name)) k → (p : NamePlace) → room_at state fs c name k ≡ Some p → IsPlaceFor p
    free_at k has p is = elim (cases_eq (bucket_block content c k) 0) [
      | inl z ↦
          let same : place.NewBucket k ≡ p = same_Some (place.NewBucket k) p
          (sym (ap (λ t. if t then Some (place.NewBucket k) else room_in (bucket_of content c k) (bucket_block content c k) (bucket_start k)
          (newest_entry_of state (bucket_block content c k)) name) (eq-eqb (bucket_block content c k) 0 z)) ∙ is) in
          let zero = block_zero k z in
          subst IsPlaceFor same (record { candidate = has; some = zero.0; missing = zero.1; none = free })
      | inr there ↦
          in_bucket k has there (newest_entry_of state (bucket_block content c k)) p
          (sym (ap (λ t. if t then Some (place.NewBucket k) else room_in (bucket_of content c k) (bucket_block content c k) (bucket_start k)
          (newest_entry_of state (bucket_block content c k)) name) (ne_eqb (bucket_block content c k) 0 there)) ∙ is)
    ]

  -- none of the name is live
  pub place_for : slot_named content key c name ≡ None → (p : NamePlace) → place_of state fs key c name ≡ Ok p → IsPlaceFor p
  unfolding slot_named dead_place free_place
  place_for no_slot p is = by (first_some (dead_in content c name) (candidates (name_hash key name))) refl is
    where
      by : (o : Option NamePlace) → first_some (dead_in content c name) (candidates (name_hash key name)) ≡ o → place_or o (free_place state fs (name_hash key name) c name) ≡ Ok p →
          IsPlaceFor p
      by (Some q) found is' = own_place p (found ∙ ap Some (same_done q p is'))
      by None none is' = behind (first_some (room_at state fs c name) (candidates (name_hash key name))) refl is'
        where
          free : AreFree content key c name
          free k has = neither name 0 (entries_of (bucket_of content c k))
              (none_mapped _ (live_record (bucket_of content c k) name) (first_none (slot_in content c name) (candidates (name_hash key name)) no_slot k has))
              (none_mapped _ (dead_record (bucket_of content c k) name) (first_none (dead_in content c name) (candidates (name_hash key name)) none k has))

          behind : (o : Option NamePlace) → first_some (room_at state fs c name) (candidates (name_hash key name)) ≡ o →
              ok_or o (no_place (readable state fs) c name (candidates (name_hash key name))) ≡ Ok p → IsPlaceFor p
          behind None g e = absurd (cc e)
          behind (Some q) g e =
              let f = first_found (room_at state fs c name) (candidates (name_hash key name)) q g in
              free_at free f.0 f.1 p (f.2 ∙ ap Some (same_done q p e))
