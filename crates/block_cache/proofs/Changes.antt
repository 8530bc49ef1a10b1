-- What a life is once it has changed.
use Rattle.std.proofs.Common.{◌≡◌, ℕ, zero, suc, ◌<◌, ◌≤◌, Bool, true, false, List, [], ◌∷◌, ◌++◌, length, take, drop, Option, Some, None, refl, sym, ◌∙◌, ap, arith, slice_get, length-drop}
use Rattle.std.specs.Prelude.{Contains, IsTrue, is_some, nat_lt, ◌||◌, option_map, slice_set}
use Rattle.std.specs.List.{last_or}
use Rattle.std.proofs.Common.{subst}
use Rattle.std.specs.Prelude.{unwrap_or}
use Rattle.std.proofs.lemmas.Bool.{lt-ltb}
use Rattle.std.proofs.lemmas.Option.{none-some, same_Some}
use Rattle.std.proofs.lemmas.List.{length_push, take_all, drop_all}
use Rattle.slab.specs.Slab.{Slab, get, Updates}
use Rattle.xn_model.specs.Lives.{BlockState, Life, change_at, on_disk, bytes_of, durable_after, with_state, settle, current}
use Rattle.xn_model.specs.Calls.{patched}
use Rattle.xn_model.specs.Rules.{IsCount}
use Rattle.block_cache.specs.declared.entry.Entry.{Entry}
use Rattle.block_cache.specs.Claims.{claimed_state}
use Rattle.block_cache.specs.Cached.{CachedLife}
use Rattle.block_cache.specs.Undone.{before, states_from, entries_under, durable_in, life_with, life_of, lives_of}
use Rattle.block_cache.specs.Kept.{AreOf, IsKept, AreKept, AreUsed, place_at, change_place, appended, settled}
use Rattle.block_cache.specs.Views.{image_at, HasImage}
use Rattle.block_cache.proofs.Undoing.{before-append, states_from-append, length-states_from, drop-states_from, image_from, last_image}
use Rattle.block_cache.proofs.Keys.{AreSame, same_entries, same_keys, length-entries_of, drop-entries_of, entries_of-append, vacant_apart, updated_same, keys_push, front_apart, drop_keys, others_apart}
use Rattle.block_cache.proofs.WrittenPlaces.{KeepsOthers, lives_of-set, kept-set, life-life_at}

-- Reads

pub length-pending : (slab : Slab Entry) (b : ℕ) (l : CachedLife) → IsKept slab b l → length (life_of slab l).pending ≡ length l.keys
length-pending slab b l kept = length-states_from (entries_under slab l.keys) l.current ∙ length-entries_of slab b l.keys kept.keys

durable-some : (d : Bool) (m : List ℕ) → is_some (durable_in d m) ≡ d
durable-some true m = refl
durable-some false m = refl

pub is_durable_life : (slab : Slab Entry) (l : CachedLife) → is_some (life_of slab l).durable ≡ l.is_durable
is_durable_life slab l = durable-some l.is_durable (before (entries_under slab l.keys) l.current)

-- the bytes with only the first k entries done
pub image_of_life : (slab : Slab Entry) (b : ℕ) (l : CachedLife) (k : ℕ) → IsKept slab b l → HasImage k (life_of slab l) →
    before (entries_under slab (drop k l.keys)) l.current ≡ image_at k (life_of slab l)
image_of_life slab b l k kept has =
    let es = entries_under slab l.keys in
    let long = length-entries_of slab b l.keys kept.keys in
    let within : k ≤ length es = omega (arith, has.within, length-states_from es l.current) in
    let some : IsTrue (l.is_durable || nat_lt 0 k) = ap (λ d. d || nat_lt 0 k) (sym (is_durable_life slab l)) ∙ has.some in
    ap (λ zs. before zs l.current) (sym (drop-entries_of slab b k l.keys kept.keys)) ∙ sym (image_from l.is_durable es l.current k within some)

-- the newest bytes are those that are kept
pub current_of_life : (slab : Slab Entry) (b : ℕ) (l : CachedLife) → IsKept slab b l → current (life_of slab l) ≡ l.current
current_of_life slab b l kept =
    let es = entries_under slab l.keys in
    let long = length-entries_of slab b l.keys kept.keys in
    let states = length-states_from es l.current in
    let some : IsTrue (l.is_durable || nat_lt 0 (length es)) = ap (λ n. l.is_durable || nat_lt 0 n) long ∙ kept.has_state in
    ap (λ xs. bytes_of (last_or (durable_in l.is_durable (before es l.current)) xs)) (sym (take_all (length es) (states_from es l.current) (omega (arith, states))))
    ∙ (image_from l.is_durable es l.current (length es) (omega arith) some
    ∙ ap (λ zs. before zs l.current) (drop_all (length es) es (omega arith)))

-- A slab that has what it had, but for one key

pub updates_along : (old mid new : Slab Entry) (k : ℕ) (o : Option Entry) → ((q : ℕ) → get mid q ≡ get old q) → Updates mid new k o → Updates old new k o
updates_along old mid new k o same updates = record { changed = updates.changed; others = λ q ne. updates.others q ne ∙ same q }

pub inserted_keeps : (old new : Slab Entry) (places : List (Option CachedLife)) (b k : ℕ) (o : Option Entry) → AreKept old places → get old k ≡ None →
    Updates old new k o → KeepsOthers old new b places
inserted_keeps old new places b k o kept vacant updates c l ne at =
    updated_same old new k o l.keys updates (vacant_apart old c k l.keys vacant (kept.each c l at).keys)

pub removed_keeps : (old new : Slab Entry) (places : List (Option CachedLife)) (b : ℕ) (ks : List ℕ) → AreKept old places → AreOf old b ks →
    ((q : ℕ) → (Contains ks q → ⊥) → get new q ≡ get old q) → KeepsOthers old new b places
removed_keeps old new places b ks kept own others c l ne at =
    λ q i. others q (others_apart old b c ks l.keys ne own (kept.each c l at).keys q i)

-- One entry more

pub appended_life : (old new : Slab Entry) (b : ℕ) (l : CachedLife) (k : ℕ) (e : Entry) (bytes : List ℕ) → IsKept old b l → get old k ≡ None →
    Updates old new k (Some e) → patched bytes e.undo ≡ l.current → life_of new (appended k bytes l) ≡ with_state (claimed_state e.claim bytes) (life_of old l)
appended_life old new b l k e bytes kept vacant updates back =
    let same = updated_same old new k (Some e) l.keys updates (vacant_apart old b k l.keys vacant kept.keys) in
    let es = entries_under old l.keys in
    let more = entries_of-append new l.keys k e updates.changed ∙ ap (λ zs. zs ++ e ∷ []) (same_entries old new l.keys same) in
    ap (λ zs. life_with zs (appended k bytes l)) more
    ∙ (λ i. record {
      fs = l.fs;
      ty = l.ty;
      status = l.status;
      durable = durable_in l.is_durable (before-append es e l.current bytes back i);
      pending = states_from-append es e l.current bytes back i;
      begun = l.begun;
    })

count_more : (o : Option ℕ) (n m : ℕ) → n ≤ m → IsCount o n → IsCount o m
count_more None n m le count = tt
count_more (Some k) n m le count = (count.0, omega (arith, count.1))

or-true : (d : Bool) → (d || true) ≡ true
or-true true = refl
or-true false = refl

some_state : (d : Bool) (n : ℕ) → 0 < n → IsTrue (d || nat_lt 0 n)
some_state d n more = ap (λ t. d || t) (lt-ltb 0 n more) ∙ or-true d

pub appended_kept : (old new : Slab Entry) (b : ℕ) (l : CachedLife) (k : ℕ) (e : Entry) (bytes : List ℕ) → IsKept old b l → get old k ≡ None →
    Updates old new k (Some e) → e.block ≡ b → length l.keys < 64 → IsKept new b (appended k bytes l)
appended_kept old new b l k e bytes kept vacant updates own room =
    let apart = vacant_apart old b k l.keys vacant kept.keys in
    let same = updated_same old new k (Some e) l.keys updates apart in
    let longer = length_push l.keys k in
    record {
      keys = keys_push new b l.keys k (same_keys old new b l.keys same kept.keys) (record { entry = e; there = updates.changed; own = own }) apart;
      few = omega (arith, longer, room);
      begun = count_more l.begun (length l.keys) (length (l.keys ++ k ∷ [])) (omega (arith, longer)) kept.begun;
      has_state = some_state l.is_durable (length (l.keys ++ k ∷ [])) (omega (arith, longer));
    }

-- The first entries made durable

last_durable : (s : BlockState) (xs : List BlockState) → durable_after (last_or (Some s) xs) ≡ Some (on_disk (bytes_of (last_or (Some s) xs)))
last_durable s [] = refl
last_durable s (x ∷ xs) = last_durable x xs

durable_then : (d : Option BlockState) (es : List Entry) (m : List ℕ) (k : ℕ) → 1 ≤ k → k ≤ length es →
    durable_after (last_or d (take k (states_from es m))) ≡ Some (on_disk (before (drop k es) m))
durable_then d es m zero some within = absurd (omega arith)
durable_then d [] m (suc k) some within = absurd (omega arith)
durable_then d (e ∷ es) m (suc k) some within =
    let s = claimed_state e.claim (before es m) in
    last_durable s (take k (states_from es m))
    ∙ ap (λ z. Some (on_disk z)) (last_image s es m k (omega arith) refl)

pub settled_same : (old new : Slab Entry) (b : ℕ) (l : CachedLife) (k : ℕ) → IsKept old b l →
    ((q : ℕ) → (Contains (take k l.keys) q → ⊥) → get new q ≡ get old q) → AreSame old new (drop k l.keys)
settled_same old new b l k kept others = λ q i. others q (front_apart old b k l.keys kept.keys q i)

pub settled_life : (old new : Slab Entry) (b : ℕ) (l : CachedLife) (k : ℕ) → IsKept old b l → 1 ≤ k → k ≤ length l.keys →
    ((q : ℕ) → (Contains (take k l.keys) q → ⊥) → get new q ≡ get old q) → life_of new (settled k l) ≡ settle k (life_of old l)
settled_life old new b l k kept some within others =
    let es = entries_under old l.keys in
    let m = l.current in
    let long = length-entries_of old b l.keys kept.keys in
    let left = same_entries old new (drop k l.keys) (settled_same old new b l k kept others) ∙ sym (drop-entries_of old b k l.keys kept.keys) in
    let durable = durable_then (durable_in l.is_durable (before es m)) es m k some (omega (arith, long, within)) in
    let pending = drop-states_from k es m in
    ap (λ zs. life_with zs (settled k l)) left
    ∙ (λ i. record {
      fs = l.fs;
      ty = l.ty;
      status = l.status;
      durable = sym durable i;
      pending = sym pending i;
      begun = None;
    })

pub settled_kept : (old new : Slab Entry) (b : ℕ) (l : CachedLife) (k : ℕ) → IsKept old b l →
    ((q : ℕ) → (Contains (take k l.keys) q → ⊥) → get new q ≡ get old q) → IsKept new b (settled k l)
settled_kept old new b l k kept others = record {
  keys = same_keys old new b (drop k l.keys) (settled_same old new b l k kept others) (drop_keys old b k l.keys kept.keys);
  few = omega (arith, length-drop k l.keys, kept.few);
  begun = tt;
  has_state = refl;
}

-- a write given up
durable_same : (d : Bool) (m : List ℕ) → durable_in d m ≡ durable_after (durable_in d m)
durable_same true m = refl
durable_same false m = refl

pub given_up_life : (slab : Slab Entry) (l : CachedLife) → life_of slab (record l { begun = None }) ≡ settle 0 (life_of slab l)
given_up_life slab l =
    λ i. record {
      fs = l.fs;
      ty = l.ty;
      status = l.status;
      durable = durable_same l.is_durable (before (entries_under slab l.keys) l.current) i;
      pending = states_from (entries_under slab l.keys) l.current;
      begun = None;
    }

-- One place changed

changed_life : (old new : Slab Entry) (o : Option CachedLife) (f : CachedLife → CachedLife) (g : Life → Life) →
    ((l : CachedLife) → o ≡ Some l → life_of new (f l) ≡ g (life_of old l)) → option_map (life_of new) (option_map f o) ≡ option_map g (option_map (life_of old) o)
changed_life old new None f g same = refl
changed_life old new (Some l) f g same = ap (λ x. Some x) (same l refl)

pub lives_of-change : (old new : Slab Entry) (places : List (Option CachedLife)) (b : ℕ) (f : CachedLife → CachedLife) (g : Life → Life) → KeepsOthers old new b places →
    ((l : CachedLife) → place_at places b ≡ Some l → life_of new (f l) ≡ g (life_of old l)) → lives_of new (change_place places b f) ≡ change_at (lives_of old places) b g
lives_of-change old new places b f g keeps same =
    lives_of-set old new places b (option_map f (place_at places b)) keeps
    ∙ ap (slice_set (lives_of old places) b) (changed_life old new (place_at places b) f g same ∙ ap (option_map g) (sym (life-life_at old places b)))

changed_some : (o : Option CachedLife) (f : CachedLife → CachedLife) (x : CachedLife) (P : CachedLife → Type 0) → ((l : CachedLife) → o ≡ Some l → P (f l)) →
    option_map f o ≡ Some x → P x
changed_some None f x P keeps e = absurd (none-some x e)
changed_some (Some l) f x P keeps e = subst P (same_Some (f l) x e) (keeps l refl)

pub kept-change : (old new : Slab Entry) (places : List (Option CachedLife)) (b : ℕ) (f : CachedLife → CachedLife) → AreKept old places → KeepsOthers old new b places →
    ((l : CachedLife) → place_at places b ≡ Some l → IsKept new b (f l)) → AreUsed new (change_place places b f) → AreKept new (change_place places b f)
kept-change old new places b f kept keeps here used =
    kept-set old new places b (option_map f (place_at places b)) kept keeps
    (λ l e. let P : CachedLife → Type 0 = λ x. IsKept new b x in changed_some (place_at places b) f l P here e) used

-- Places and lives

pub place_kept : (slab : Slab Entry) (places : List (Option CachedLife)) (b : ℕ) (l : CachedLife) → AreKept slab places → place_at places b ≡ Some l → IsKept slab b l
place_kept slab places b l kept e = kept.each b l (at_place (slice_get places b) l e)
  where
    at_place : (o : Option (Option CachedLife)) (x : CachedLife) → unwrap_or o None ≡ Some x → o ≡ Some (Some x)
    at_place None x e = absurd (none-some x e)
    at_place (Some y) x e = ap (λ z. Some z) e

pub same_slab_keeps : (slab : Slab Entry) (places : List (Option CachedLife)) (b : ℕ) → KeepsOthers slab slab b places
same_slab_keeps slab places b c l ne at = λ k i. refl
