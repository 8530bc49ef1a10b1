-- The lives that are found in an image: nothing is pending, and no write is under way.
use Rattle.std.proofs.Common.{◌≡◌, ℕ, ◌^◌, ◌<◌, List, [], ◌∷◌, map, Option, Some, None, refl, sym, ◌∙◌, ap, arith, subst}
use Rattle.std.specs.Prelude.{option_map, slice_index_or, sum_by}
use Rattle.std.specs.List.{range_with_len}
use Rattle.std.proofs.lemmas.Option.{none-some, same_Some, slice_get_within, get_or_from_slice_get}
use Rattle.std.proofs.lemmas.List.FromFn.{length-map-range_with_len, get_or-map-range_with_len}
use Rattle.std.proofs.lemmas.List.Sums.{sum_by-cons}
use Rattle.slab.specs.Slab.{Slab}
use Rattle.block_cache.specs.declared.entry.Entry.{Entry}
use Rattle.block_cache.specs.declared.life.FoundLife.{FoundLife}
use Rattle.block_cache.specs.Cached.{CachedLife}
use Rattle.block_cache.specs.Undone.{life_of, lives_of}
use Rattle.block_cache.specs.Kept.{AreKept, IsKept, resting_at, resting_in}
use Rattle.block_cache.specs.Totals.{pending_count, in_flight_of, totals_of}
use Rattle.block_cache.specs.Views.{rest_at, rest_in}

module _ (found : List (Option FoundLife)) (blocks : List (List ℕ)) where
  none_pending : (b : ℕ) (o : Option FoundLife) → pending_count (resting_in blocks b o) ≡ 0
  none_pending b None = refl
  none_pending b (Some f) = refl

  none_in_flight : (b : ℕ) (o : Option FoundLife) → in_flight_of (resting_in blocks b o) ≡ 0
  none_in_flight b None = refl
  none_in_flight b (Some f) = refl

  pending_in_none : (bs : List ℕ) → sum_by pending_count (map (resting_at found blocks) bs) ≡ 0
  pending_in_none [] = refl
  pending_in_none (b ∷ bs) =
      let first = sum_by-cons pending_count (resting_at found blocks b) (map (resting_at found blocks) bs) in
      omega (arith, first, none_pending b (slice_index_or found b None), pending_in_none bs)

  in_flight_in_none : (bs : List ℕ) → sum_by in_flight_of (map (resting_at found blocks) bs) ≡ 0
  in_flight_in_none [] = refl
  in_flight_in_none (b ∷ bs) =
      let first = sum_by-cons in_flight_of (resting_at found blocks b) (map (resting_at found blocks) bs) in
      omega (arith, first, none_in_flight b (slice_index_or found b None), in_flight_in_none bs)

  pub nothing_counted : (bs : List ℕ) → record { pending = 0; in_flight = 0 } ≡ totals_of (map (resting_at found blocks) bs)
  nothing_counted bs = λ i. record { pending = sym (pending_in_none bs) i; in_flight = sym (in_flight_in_none bs) i }

  same_rest : (slab : Slab Entry) (b : ℕ) (o : Option FoundLife) → option_map (life_of slab) (resting_in blocks b o) ≡ rest_in blocks b o
  same_rest slab b None = refl
  same_rest slab b (Some f) = refl

  pub resting_view : (slab : Slab Entry) (bs : List ℕ) → lives_of slab (map (resting_at found blocks) bs) ≡ map (rest_at found blocks) bs
  resting_view slab [] = refl
  resting_view slab (b ∷ bs) = λ i. same_rest slab b (slice_index_or found b None) i ∷ resting_view slab bs i

  rest_kept : (slab : Slab Entry) (b : ℕ) (o : Option FoundLife) (l : CachedLife) → resting_in blocks b o ≡ Some l → IsKept slab b l
  rest_kept slab b None l e = absurd (none-some l e)
  rest_kept slab b (Some f) l e = subst (IsKept slab b) (same_Some _ l e) (record { keys = tt; few = omega arith; begun = tt; has_state = refl })

  pub resting_kept : (slab : Slab Entry) (n : ℕ) → n < 2 ^ 32 → slab.slots ≡ [] → AreKept slab (map (resting_at found blocks) (range_with_len 0 n))
  resting_kept slab n few empty =
      let places = map (resting_at found blocks) (range_with_len 0 n) in
      let long = length-map-range_with_len (resting_at found blocks) 0 n in
      record {
        each = λ b l e.
            let within = slice_get_within places b (Some l) e in
            rest_kept slab b (slice_index_or found b None) l
            (sym (get_or-map-range_with_len (resting_at found blocks) 0 n b b None (omega (arith, within, long)) (omega arith)) ∙ get_or_from_slice_get places b (Some l) None e);
        used = λ k e at. absurd (none-some e (sym (ap (λ (ss : List (Option Entry)). slice_index_or ss k None) empty) ∙ at));
        few = omega (arith, few, long);
      }
