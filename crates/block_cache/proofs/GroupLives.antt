-- The lives of a group, and those of all groups.
use Rattle.std.proofs.Common.{◌≡◌, ◌≢◌, ℕ, ◌+◌, ◌-◌, ◌*◌, ◌^◌, ◌/◌, ◌%◌, ◌<◌, ◌≤◌, List, [], ◌∷◌, length, get_or, map, replicate, set, Option, None, refl, sym, ◌∙◌, ap, arith, inl, inr}
use Rattle.std.specs.Prelude.{IsTrue, is_some, option_map, slice_set, slice_index_or, sum_by}
use Rattle.std.specs.List.{range_with_len}
use Rattle.std.proofs.lemmas.Bool.{cases_eq, cases_lt, false≢true}
use Rattle.std.proofs.lemmas.List.{same_lists, get_or-set_same, get_or-set_other, get_or-replicate, get_or_default, set-get_or, get_or_past, length-set, length-replicate}
use Rattle.std.proofs.lemmas.List.FromFn.{length-map-range_with_len, get_or-map-range_with_len}
use Rattle.std.proofs.lemmas.Option.{unwrap_or-slice_get}
use Rattle.block_cache.specs.Cached.{CachedLife}
use Rattle.block_cache.specs.Groups.{AreGroups, group_of, place_in, places_of}
use Rattle.block_cache.specs.Kept.{place_at, change_place, resting_at, resting_in}
use Rattle.block_cache.specs.declared.life.FoundLife.{FoundLife}
use Rattle.block_cache.specs.Totals.{exchange_of, pending_count}
use Rattle.block_cache.specs.declared.totals.Totals.{Totals}
use Rattle.block_cache.specs.declared.totals.Exchange.{Exchange}
use Rattle.block_cache.proofs.Counting.{IsExchange, exchange}

abbrev Places : Type 0
Places = List (Option CachedLife)

-- One group

-- a group that has places has these
pub group_some : (os : Places) → 0 < length os → group_of os ≡ os
group_some [] some = absurd (omega arith)
group_some (o ∷ os) some = refl

-- all of its places are free
pub group_free : (os : Places) → os ≡ replicate (length os) None → length (group_of os) ≡ 64 → 0 < length os → group_of [] ≡ group_of os
group_free os free long some = ap (λ n. replicate n None) (sym long ∙ ap (λ xs. length xs) (group_some os some)) ∙ (sym free ∙ sym (group_some os some))

pub place_at-get_or : (os : Places) (b : ℕ) → place_at os b ≡ get_or os b None
place_at-get_or os b = unwrap_or-slice_get os b None

-- no place is used where there is none
blank_place : (at : ℕ) → place_at (replicate 64 None) at ≡ None
blank_place at =
    let none : Option CachedLife = None in
    place_at-get_or (replicate 64 none) at ∙ elim (cases_lt at 64) [
      | inl within ↦ get_or-replicate 64 at none none within
      | inr past ↦ get_or_past (replicate 64 none) at none (omega (arith, past, length-replicate 64 none))
    ]

pub free_past : (items self : Places) (at : ℕ) → group_of items ≡ self → length items ≤ at → place_at self at ≡ None
free_past items self at view past = ap (λ os. place_at os at) (sym view) ∙ go items past
  where
    go : (items : Places) → length items ≤ at → place_at (group_of items) at ≡ None
    go [] past = blank_place at
    go (o ∷ os) past = place_at-get_or (o ∷ os) at ∙ get_or_past (o ∷ os) at None past

pub alive_within : (items self : Places) (at : ℕ) → group_of items ≡ self → IsTrue (is_some (place_at self at)) → at < length items
alive_within items self at view alive = elim (cases_lt at (length items)) [
  | inl within ↦ within
  | inr past ↦ absurd (false≢true (sym (ap (λ o. is_some o) (free_past items self at view past)) ∙ alive))
]

-- a place that is there, read and written
pub place_read : (items self : Places) (at : ℕ) (o : Option CachedLife) → group_of items ≡ self → at < length items → o ≡ get_or items at o → o ≡ place_at self at
place_read items self at o view within is =
    is ∙ (get_or_default items at o None within
    ∙ (sym (place_at-get_or items at) ∙ ap (λ os. place_at os at) (sym (group_some items (omega arith)) ∙ view)))

pub place_written : (items self : Places) (at : ℕ) (x : Option CachedLife) → group_of items ≡ self → at < length items → group_of (slice_set items at x) ≡ slice_set self at x
place_written items self at x view within =
    group_some (slice_set items at x) (omega (arith, length-set items at x))
    ∙ ap (λ os. slice_set os at x) (sym (group_some items (omega arith)) ∙ view)

pub place_exchanged : (items self : Places) (at : ℕ) (was now : Option CachedLife) → group_of items ≡ self → at < length items → was ≡ get_or items at was →
    exchange_of was now ≡ exchange_of (place_at self at) (place_at (group_of (slice_set items at now)) at)
place_exchanged items self at was now view within is =
    let read = place_read items self at was view within is in
    let long = length-set items at now in
    let there = place_at-get_or (slice_set items at now) at ∙ get_or-set_same items at now None within in
    let written = ap (λ os. place_at os at) (group_some (slice_set items at now) (omega (arith, long))) ∙ there in
    λ i. exchange_of (read i) (sym written i)

-- where all places are free they may be given back
pub given_back : (items self : Places) (at : ℕ) (now : Option CachedLife) (seen left : Places) → group_of items ≡ self → length (group_of items) ≡ 64 → at < length items → now ≡ None →
    seen ≡ slice_set items at now → seen ≡ replicate (length seen) None → left ≡ [] → group_of left ≡ slice_set self at None
given_back items self at now seen left view long within end same free gone =
    let more = length-set items at now in
    let size = ap (λ xs. length xs) same in
    let whole = ap (λ xs. length xs) (group_some items (omega arith)) in
    ap group_of gone
    ∙ (group_free seen free (ap (λ xs. length xs) (group_some seen (omega arith)) ∙ omega (arith, long)) (omega arith)
    ∙ (ap group_of same ∙ (place_written items self at now view within ∙ ap (slice_set self at) end)))

pub free_exchanged : (o p : Option CachedLife) → o ≡ None → p ≡ None → exchange_of None None ≡ exchange_of o p
free_exchanged o p was now = λ i. exchange_of (sym was i) (sym now i)

-- a free place has no life that changes
pub change_free : (self : Places) (at : ℕ) (f : CachedLife → CachedLife) → place_at self at ≡ None → self ≡ change_place self at f
change_free self at f free =
    sym (ap (λ o. slice_set self at (option_map f o)) free
    ∙ (ap (λ o. slice_set self at o) (sym free ∙ place_at-get_or self at) ∙ set-get_or self at None))

pub end_free : (self : Places) (at : ℕ) → place_at self at ≡ None → self ≡ slice_set self at None
end_free self at free = sym (ap (λ o. slice_set self at o) (sym free ∙ place_at-get_or self at) ∙ set-get_or self at None)

-- All groups

pub length-places_of : (n : ℕ) (groups : List Places) → length (places_of n groups) ≡ n
length-places_of n groups = length-map-range_with_len (place_in groups) 0 n

get_or-places_of : (n : ℕ) (groups : List Places) (k : ℕ) (d : Option CachedLife) → k < n → get_or (places_of n groups) k d ≡ place_in groups k
get_or-places_of n groups k d within = get_or-map-range_with_len (place_in groups) 0 n k k d within (omega arith)

pub place_at-places_of : (n : ℕ) (groups : List Places) (b : ℕ) → b < n → place_at (places_of n groups) b ≡ place_in groups b
place_at-places_of n groups b within = place_at-get_or (places_of n groups) b ∙ get_or-places_of n groups b None within

pub no_place : (n : ℕ) (groups : List Places) (b : ℕ) → n ≤ b → place_at (places_of n groups) b ≡ None
no_place n groups b past = place_at-get_or (places_of n groups) b ∙ get_or_past (places_of n groups) b None (omega (arith, past, length-places_of n groups))

-- one life of one group written
pub places_of-set : (n : ℕ) (groups new : List Places) (b : ℕ) (x : Option CachedLife) → b < n → b / 64 < length groups → length (slice_index_or groups (b / 64) []) ≡ 64 →
    new ≡ slice_set groups (b / 64) (slice_set (slice_index_or groups (b / 64) []) (b % 64) x) → places_of n new ≡ slice_set (places_of n groups) b x
places_of-set n groups new b x within there long is =
    let group = slice_index_or groups (b / 64) [] in
    let written = slice_set group (b % 64) x in
    let long_new = length-places_of n new in
    let long_old = length-places_of n groups in
    let long_set = length-set (places_of n groups) b x in
    same_lists _ _ (long_new ∙ (sym long_old ∙ sym long_set))
    (λ k d h.
    let lt : k < n = omega (arith, h, long_new) in
    get_or-places_of n new k d lt
    ∙ (ap (λ gs. place_in gs k) is
    ∙ elim (cases_eq k b) [
      | inl e ↦
          ap (place_in (slice_set groups (b / 64) written)) e
          ∙ (ap (λ g. place_at g (b % 64)) (get_or-set_same groups (b / 64) written [] there)
          ∙ (place_at-get_or written (b % 64)
          ∙ (get_or-set_same group (b % 64) x None (omega (arith, long))
          ∙ (sym (get_or-set_same (places_of n groups) b x d (omega (arith, within, long_old)))
          ∙ ap (λ j. get_or (set (places_of n groups) b x) j d) (sym e)))))
      | inr ne ↦
          other k ne ∙ (sym (get_or-places_of n groups k d lt) ∙ sym (get_or-set_other (places_of n groups) b k x d ne))
    ]))
  where
    other : (k : ℕ) → k ≢ b → place_in (slice_set groups (b / 64) (slice_set (slice_index_or groups (b / 64) []) (b % 64) x)) k ≡ place_in groups k
    other k ne = elim (cases_eq (k / 64) (b / 64)) [
      | inl same ↦
          let group = slice_index_or groups (b / 64) [] in
          let apart : k % 64 ≢ b % 64 = λ e. ne (omega (arith, same, e)) in
          ap (λ g. place_at (slice_index_or (slice_set groups (b / 64) (slice_set group (b % 64) x)) g []) (k % 64)) same
          ∙ (ap (λ g. place_at g (k % 64)) (get_or-set_same groups (b / 64) (slice_set group (b % 64) x) [] there)
          ∙ (place_at-get_or (slice_set group (b % 64) x) (k % 64)
          ∙ (get_or-set_other group (b % 64) (k % 64) x None apart
          ∙ (sym (place_at-get_or group (k % 64))
          ∙ ap (λ g. place_at (slice_index_or groups g []) (k % 64)) (sym same)))))
      | inr apart ↦
          ap (λ g. place_at g (k % 64)) (get_or-set_other groups (b / 64) (k / 64) (slice_set (slice_index_or groups (b / 64) []) (b % 64) x) [] apart)
    ]

-- what a change of one life leaves: the counts are exchanged, and each other life stays
pub record IsWritten (n : ℕ) (new : List Places) (totals : Totals) (self : Places) (b : ℕ) (x : Option CachedLife) (e : Exchange) : Type 0 where
  pub exchange : IsExchange totals e (places_of n new)
  pub view : places_of n new ≡ slice_set self b x
  pub room : n ≤ 64 * length new

pub written : (n : ℕ) (groups : List Places) (totals : Totals) (self : Places) (b : ℕ) (was now : Places) (x : Option CachedLife) (e : Exchange) → AreGroups n groups totals →
    places_of n groups ≡ self → b < n → was ≡ get_or groups (b / 64) was → length was ≡ 64 → now ≡ slice_set was (b % 64) x →
    e ≡ exchange_of (place_at was (b % 64)) (place_at now (b % 64)) → sum_by pending_count self + pending_count x < 2 ^ 64 + pending_count (place_at self b) →
    IsWritten n (slice_set groups (b / 64) now) totals self b x e
written n groups totals self b was now x e are view within read long is exchanged few =
    let there : b / 64 < length groups = omega (arith, within, are.room) in
    let group = read ∙ get_or_default groups (b / 64) was [] there in
    let old_place = place_at-places_of n groups b within in
    let new_groups = slice_set groups (b / 64) now in
    let new_place = place_at-places_of n new_groups b within ∙ ap (λ g. place_at g (b % 64)) (get_or-set_same groups (b / 64) now [] there) in
    let set = places_of-set n groups new_groups b x within there (ap (λ g. length g) (sym group) ∙ long)
    (ap (λ g. slice_set groups (b / 64) g) (is ∙ ap (λ g. slice_set g (b % 64) x) group)) in
    let was_place = ap (λ g. place_at g (b % 64)) group ∙ sym old_place in
    let same = ap (λ os. sum_by pending_count os) view in
    let here = ap (λ os. pending_count (place_at os b)) view in
    record {
      exchange = exchange (places_of n groups) (places_of n new_groups) b x totals e are.counted (omega (arith, length-places_of n groups, are.few)) (omega (arith, few, same, here)) set
          (exchanged ∙ (λ i. exchange_of (was_place i) (sym new_place i)));
      view = set ∙ ap (λ os. slice_set os b x) view;
      room = omega (arith, are.room, length-set groups (b / 64) now);
    }

-- the place of a block in its group
pub group_place : (n : ℕ) (groups : List Places) (self : Places) (b : ℕ) (was : Places) → places_of n groups ≡ self → b < n → b / 64 < length groups → was ≡ get_or groups (b / 64) was →
    place_at was (b % 64) ≡ place_at self b
group_place n groups self b was view within there read =
    ap (λ g. place_at g (b % 64)) (read ∙ get_or_default groups (b / 64) was [] there)
    ∙ (sym (place_at-places_of n groups b within) ∙ ap (λ os. place_at os b) view)

-- the same where the life is changed
pub changed : (n : ℕ) (groups : List Places) (totals : Totals) (self : Places) (b : ℕ) (was now : Places) (f : CachedLife → CachedLife) (e : Exchange) → AreGroups n groups totals →
    places_of n groups ≡ self → b < n → was ≡ get_or groups (b / 64) was → length was ≡ 64 → now ≡ change_place was (b % 64) f →
    e ≡ exchange_of (place_at was (b % 64)) (place_at now (b % 64)) → sum_by pending_count self + pending_count (option_map f (place_at self b)) < 2 ^ 64 + pending_count (place_at self b) →
    IsWritten n (slice_set groups (b / 64) now) totals self b (option_map f (place_at self b)) e
changed n groups totals self b was now f e are view within read long is exchanged few =
    written n groups totals self b was now (option_map f (place_at self b)) e are view within read long
    (is ∙ ap (λ o. slice_set was (b % 64) (option_map f o)) (group_place n groups self b was view within (omega (arith, within, are.room)) read)) exchanged few

pub groups_again : (n : ℕ) (new : List Places) (totals after : Totals) (self : Places) (b : ℕ) (x : Option CachedLife) (e : Exchange) → n < 2 ^ 32 → IsWritten n new totals self b x e →
    after ≡ record { pending = totals.pending - e.before.pending + e.after.pending; in_flight = totals.in_flight - e.before.in_flight + e.after.in_flight } → AreGroups n new after
groups_again n new totals after self b x e few is now = record { room = is.room; few = few; counted = now ∙ is.exchange.counted }

-- past the end there is none
pub no_place_in : (n : ℕ) (groups : List Places) (self : Places) (b : ℕ) → places_of n groups ≡ self → n ≤ b → place_at self b ≡ None
no_place_in n groups self b view past = ap (λ os. place_at os b) (sym view) ∙ no_place n groups b past

pub within_below : (n : ℕ) (groups : List Places) (self : Places) (b : ℕ) → places_of n groups ≡ self → b < length self → b < n
within_below n groups self b view within = omega (arith, within, ap (λ os. length os) view, length-places_of n groups)

pub alive_below : (n : ℕ) (groups : List Places) (self : Places) (b : ℕ) → places_of n groups ≡ self → IsTrue (is_some (place_at self b)) → b < n
alive_below n groups self b view alive = elim (cases_lt b n) [
  | inl within ↦ within
  | inr past ↦ absurd (false≢true (sym (ap (λ o. is_some o) (no_place_in n groups self b view past)) ∙ alive))
]

-- The lives that are found in an image

pub found_groups_are : (found : List (Option FoundLife)) (blocks : List (List ℕ)) (groups : List Places) → length found ≤ 64 * length groups →
    ((g : ℕ) → g < length groups → get_or groups g [] ≡ map (resting_at found blocks) (range_with_len (64 * g) 64)) →
    places_of (length found) groups ≡ map (resting_at found blocks) (range_with_len 0 (length found))
found_groups_are found blocks groups room each =
    let n = length found in
    let rest = resting_at found blocks in
    let long_new = length-places_of n groups in
    let long_old = length-map-range_with_len rest 0 n in
    same_lists _ _ (long_new ∙ sym long_old)
    (λ k d h.
    let lt : k < n = omega (arith, h, long_new) in
    get_or-places_of n groups k d lt
    ∙ (ap (λ g. place_at g (k % 64)) (each (k / 64) (omega (arith, lt, room)))
    ∙ (place_at-get_or (map rest (range_with_len (64 * (k / 64)) 64)) (k % 64)
    ∙ (get_or-map-range_with_len rest (64 * (k / 64)) 64 (k % 64) k None (omega arith) (omega arith)
    ∙ sym (get_or-map-range_with_len rest 0 n k k d lt (omega arith))))))

pub none_found_are : (found : List (Option FoundLife)) (blocks : List (List ℕ)) (first : ℕ) → ((k : ℕ) → k < 64 → get_or found (first + k) None ≡ None) →
    replicate 64 None ≡ map (resting_at found blocks) (range_with_len first 64)
none_found_are found blocks first none =
    let rest = resting_at found blocks in
    let free : Option CachedLife = None in
    let long_new = length-replicate 64 free in
    let long_old = length-map-range_with_len rest first 64 in
    same_lists _ _ (long_new ∙ sym long_old)
    (λ k d h.
    let lt : k < 64 = omega (arith, h, long_new) in
    get_or-replicate 64 k free d lt
    ∙ (sym (ap (resting_in blocks (first + k)) (none k lt))
    ∙ sym (get_or-map-range_with_len rest first 64 k (first + k) d lt (omega arith))))
