-- What is counted of lives, where one place is written.
use Rattle.std.proofs.Common.{◌≡◌, ℕ, zero, suc, ◌+◌, ◌-◌, ◌*◌, ◌^◌, ◌<◌, ◌≤◌, Bool, true, false, cond, List, [], ◌∷◌, length, Option, Some, None, refl, sym, ◌∙◌, ap, arith, slice_get, length-drop}
use Rattle.std.specs.Prelude.{is_some, option_map, slice_set, sum_by, nat_lt, ◌||◌}
use Rattle.std.specs.List.{list_any}
use Rattle.std.proofs.lemmas.Bool.{lt-ltb}
use Rattle.std.proofs.lemmas.List.{length-set, length_push}
use Rattle.std.proofs.lemmas.List.Sums.{sum_by-cons}
use Rattle.slab.specs.Slab.{Slab}
use Rattle.xn_model.specs.Lives.{alive_and}
use Rattle.xn_model.specs.Calls.{life_pending}
use Rattle.xn_model.specs.Worlds.{all_pending}
use Rattle.block_cache.specs.declared.entry.Entry.{Entry}
use Rattle.block_cache.specs.declared.life.Change.{Change}
use Rattle.block_cache.specs.declared.life.Change.TheVariants.{Settle, SetStatus, SetBegun}
use Rattle.block_cache.specs.declared.totals.Exchange.{Exchange}
use Rattle.block_cache.specs.declared.totals.Totals.{Totals}
use Rattle.block_cache.specs.Cached.{CachedLife}
use Rattle.block_cache.specs.Undone.{life_of, lives_of}
use Rattle.block_cache.specs.declared.new_bytes.NewBytes.{NewBytes}
use Rattle.block_cache.specs.NewBytes.{appended_by}
use Rattle.block_cache.specs.Kept.{AreKept, place_at}
use Rattle.block_cache.specs.Changed.{changed_by}
use Rattle.block_cache.specs.Totals.{pending_count, in_flight_of, totals_of, exchange_of}
use Rattle.block_cache.proofs.Changes.{length-pending}

-- A sum in which one summand changes

module _ (f : Option CachedLife → ℕ) (free : f None ≡ 0) where
  pub sum-set : (places : List (Option CachedLife)) (b : ℕ) (x : Option CachedLife) →
      sum_by f (slice_set places b x) + f (place_at places b) ≡ sum_by f places + f (place_at (slice_set places b x) b)
  sum-set [] b x = refl
  sum-set (o ∷ os) zero x = omega (arith, sum_by-cons f x os, sum_by-cons f o os)
  sum-set (o ∷ os) (suc b) x = omega (arith, sum_by-cons f o os, sum_by-cons f o (slice_set os b x), sum-set os b x)

  pub sum-at : (places : List (Option CachedLife)) (b : ℕ) → f (place_at places b) ≤ sum_by f places
  sum-at [] b = omega (arith, free)
  sum-at (o ∷ os) zero = omega (arith, sum_by-cons f o os)
  sum-at (o ∷ os) (suc b) = omega (arith, sum_by-cons f o os, sum-at os b)

  pub sum-new : (places : List (Option CachedLife)) (b : ℕ) (x : Option CachedLife) → f (place_at (slice_set places b x) b) ≤ f x
  sum-new [] b x = omega (arith, free)
  sum-new (o ∷ os) zero x = omega arith
  sum-new (o ∷ os) (suc b) x = sum-new os b x

-- at most one of each life is in flight
few_in_flight : (places : List (Option CachedLife)) → sum_by in_flight_of places ≤ length places
few_in_flight [] = omega arith
few_in_flight (o ∷ os) = omega (arith, sum_by-cons in_flight_of o os, one o, few_in_flight os)
  where
    small : (t : Bool) → cond t 1 0 ≤ 1
    small true = omega arith
    small false = omega arith

    one : (o : Option CachedLife) → in_flight_of o ≤ 1
    one None = omega arith
    one (Some l) = small (is_some l.begun)

-- what an exchange of the counts needs, and what it leaves
pub record IsExchange (totals : Totals) (e : Exchange) (new : List (Option CachedLife)) : Type 0 where
  pub pending : e.before.pending ≤ totals.pending
  pub in_flight : e.before.in_flight ≤ totals.in_flight
  pub few_pending : totals.pending - e.before.pending + e.after.pending < 2 ^ 64
  pub few_in_flight : totals.in_flight - e.before.in_flight + e.after.in_flight < 2 ^ 64
  pub counted : record { pending = totals.pending - e.before.pending + e.after.pending; in_flight = totals.in_flight - e.before.in_flight + e.after.in_flight } ≡ totals_of new

-- a place is written, and what was counted of its life is exchanged for what is counted of it now
pub exchange : (places new : List (Option CachedLife)) (b : ℕ) (x : Option CachedLife) (totals : Totals) (e : Exchange) →
    totals ≡ totals_of places → length places < 2 ^ 64 → sum_by pending_count places + pending_count x < 2 ^ 64 + pending_count (place_at places b) →
    new ≡ slice_set places b x → e ≡ exchange_of (place_at places b) (place_at new b) → IsExchange totals e new
exchange places new b x totals e kept long few written is = record {
  pending = omega (arith, pending_kept, pending_was, sum-at pending_count refl places b);
  in_flight = omega (arith, in_flight_kept, in_flight_was, sum-at in_flight_of refl places b);
  few_pending = omega (arith, pending_now, sum-set pending_count refl places b x, sum-new pending_count refl places b x, few);
  few_in_flight = omega (arith, in_flight_now, few_in_flight (slice_set places b x), length-set places b x, long);
  counted = (λ i. record { pending = pending_now i; in_flight = in_flight_now i }) ∙ ap totals_of (sym written);
}
  where
    now : e ≡ exchange_of (place_at places b) (place_at (slice_set places b x) b)
    now = is ∙ ap (λ xs. exchange_of (place_at places b) (place_at xs b)) written

    pending_kept : totals.pending ≡ sum_by pending_count places
    pending_kept = ap (λ (t : Totals). t.pending) kept

    in_flight_kept : totals.in_flight ≡ sum_by in_flight_of places
    in_flight_kept = ap (λ (t : Totals). t.in_flight) kept

    pending_was : e.before.pending ≡ pending_count (place_at places b)
    pending_was = ap (λ (x : Exchange). x.before.pending) is

    in_flight_was : e.before.in_flight ≡ in_flight_of (place_at places b)
    in_flight_was = ap (λ (x : Exchange). x.before.in_flight) is

    pending_now : totals.pending - e.before.pending + e.after.pending ≡ sum_by pending_count (slice_set places b x)
    pending_now =
        omega (arith, pending_kept, pending_was, ap (λ (x : Exchange). x.after.pending) now, sum-at pending_count refl places b, sum-set pending_count refl places b x)

    in_flight_now : totals.in_flight - e.before.in_flight + e.after.in_flight ≡ sum_by in_flight_of (slice_set places b x)
    in_flight_now =
        omega (arith, in_flight_kept, in_flight_was, ap (λ (x : Exchange). x.after.in_flight) now, sum-at in_flight_of refl places b, sum-set in_flight_of refl places b x)

-- How many are pending after a change

pub pending_appended : (k : ℕ) (bytes : NewBytes) (o : Option CachedLife) → pending_count (option_map (appended_by k bytes) o) ≤ pending_count o + 1
pending_appended k bytes None = omega arith
pending_appended k bytes (Some l) = omega (arith, length_push l.keys k)

pub pending_changed : (change : Change) (o : Option CachedLife) → pending_count (option_map (changed_by change) o) ≤ pending_count o
pending_changed change None = omega arith
pending_changed (Settle count) (Some l) = omega (arith, length-drop count l.keys)
pending_changed (SetStatus status) (Some l) = omega arith
pending_changed (SetBegun begun) (Some l) = omega arith

-- What is counted of the lives of the view

module _ (slab : Slab Entry) where
  all_sum : (places : List (Option CachedLife)) → ((b : ℕ) (l : CachedLife) → slice_get places b ≡ Some (Some l) → length (life_of slab l).pending ≡ length l.keys) →
      sum_by pending_count places ≡ all_pending (lives_of slab places)
  all_sum [] h = refl
  all_sum (o ∷ os) h = omega (arith, sum_by-cons pending_count o os, here o (λ l e. h 0 l (ap (λ x. Some x) e)), all_sum os (λ b. h (suc b)))
    where
      here : (o : Option CachedLife) → ((l : CachedLife) → o ≡ Some l → length (life_of slab l).pending ≡ length l.keys) → life_pending (option_map (life_of slab) o) ≡ pending_count o
      here None h = refl
      here (Some l) h = h l refl

  few_sum : (places : List (Option CachedLife)) → ((b : ℕ) (l : CachedLife) → slice_get places b ≡ Some (Some l) → length l.keys ≤ 64) → sum_by pending_count places ≤ 64 * length places
  few_sum [] h = omega arith
  few_sum (o ∷ os) h = omega (arith, sum_by-cons pending_count o os, here o (λ l e. h 0 l (ap (λ x. Some x) e)), few_sum os (λ b. h (suc b)))
    where
      here : (o : Option CachedLife) → ((l : CachedLife) → o ≡ Some l → length l.keys ≤ 64) → pending_count o ≤ 64
      here None h = omega arith
      here (Some l) h = h l refl

  pub all_pending_is : (places : List (Option CachedLife)) → AreKept slab places → sum_by pending_count places ≡ all_pending (lives_of slab places)
  all_pending_is places kept = all_sum places (λ b l there. length-pending slab b l (kept.each b l there))

  pub few_of_all : (places : List (Option CachedLife)) → AreKept slab places → sum_by pending_count places ≤ 64 * length places
  few_of_all places kept = few_sum places (λ b l there. (kept.each b l there).few)

  pub any_in_flight_is : (places : List (Option CachedLife)) → nat_lt 0 (sum_by in_flight_of places) ≡ list_any (alive_and (λ l. is_some l.begun)) (lives_of slab places)
  any_in_flight_is [] = refl
  any_in_flight_is (o ∷ os) = ap (nat_lt 0) (sum_by-cons in_flight_of o os) ∙ here o (sum_by in_flight_of os) (list_any (alive_and (λ l. is_some l.begun)) (lives_of slab os)) (any_in_flight_is os)
    where
      either : (t : Bool) (n : ℕ) (u : Bool) → nat_lt 0 n ≡ u → nat_lt 0 (cond t 1 0 + n) ≡ (t || u)
      either true n u e = lt-ltb 0 (1 + n) (omega arith)
      either false n u e = let none : 0 + n ≡ n = omega arith in ap (nat_lt 0) none ∙ e

      here : (o : Option CachedLife) (n : ℕ) (u : Bool) → nat_lt 0 n ≡ u → nat_lt 0 (in_flight_of o + n) ≡ (alive_and (λ l. is_some l.begun) (option_map (life_of slab) o) || u)
      here None n u e = let none : 0 + n ≡ n = omega arith in ap (nat_lt 0) none ∙ e
      here (Some l) n u e = either (is_some l.begun) n u e
