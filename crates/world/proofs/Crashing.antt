-- The lanes of a disk crash, one after another.
use Rattle.std.proofs.Common.{◌≡◌, ℕ, zero, suc, ◌+◌, ◌<◌, ◌≤◌, Bool, List, [], ◌∷◌, length, Option, Some, None, refl, sym, ◌∙◌, ap, inl, inr, arith, subst, slice_get, slice_set}
use Rattle.std.specs.Prelude.{option_map, unwrap_or, cond, All}
use Rattle.std.specs.List.{AllByRecursion}
use Rattle.std.proofs.lemmas.Bool.{cases_eq, cases_lt}
use Rattle.std.proofs.lemmas.List.{ext_get_or, length-set}
use Rattle.std.proofs.lemmas.List.Elements.{All-from_get_or}
use Rattle.std.proofs.lemmas.List.FromFn.{get_or-map-range_with_len, length-map-range_with_len}
use Rattle.disk.specs.Mem.{MemoryLane, crashed_lane, bytes_left}
use Rattle.xn_model.specs.Lists.{has_number}
use Rattle.xn_model.specs.Images.{block_of}
use Rattle.xn_model.specs.Worlds.{World, given_at, left_at, left}
use Rattle.world.specs.Disks.{image_of, settled_image, given_to, lane_at, AreLong, HaveCrashed, IsCalm, IsLaneHome, IsLong, IsResting}
use Rattle.world.specs.Worlds.{Tickets}
use Rattle.world.proofs.Images.{block_of-home, known_of-here, length-image_of}
use Rattle.world.proofs.Places.{place_at-same, place_at-other, full_get}

abbrev Lanes : Type 0
Lanes = List (Option MemoryLane)

-- The first lanes have crashed

pub record CrashedTo (kept : List ℕ) (old new : Lanes) (n : ℕ) : Type 0 where
  pub count : length new ≡ length old
  pub before : (c : ℕ) → c < n → lane_at new c ≡ option_map (λ lane. crashed_lane lane (has_number kept c)) (lane_at old c)
  pub behind : (c : ℕ) → n ≤ c → lane_at new c ≡ lane_at old c

pub one_crashed : (kept : List ℕ) (old mid new : Lanes) (b : ℕ) (test : Bool) → b < length mid → test ≡ has_number kept b → CrashedTo kept old mid b →
    new ≡ slice_set mid b (option_map (λ lane. crashed_lane lane test) (lane_at mid b)) → CrashedTo kept old new (b + 1)
one_crashed kept old mid new b test within is so next =
    let lane : Option MemoryLane = option_map (λ lane. crashed_lane lane test) (lane_at mid b) in
    record {
      count = ap length next ∙ (length-set mid b lane ∙ so.count);
      before = λ c lt. elim (cases_eq c b) [
        | inl same ↦ subst (λ n. lane_at new n ≡ option_map (λ lane. crashed_lane lane (has_number kept n)) (lane_at old n)) (sym same)
            (ap (λ ls. lane_at ls b) next ∙ (place_at-same mid b lane within ∙ ((λ i. option_map (λ lane. crashed_lane lane (is i)) (lane_at mid b)) ∙ ap (option_map (λ lane. crashed_lane lane (has_number kept b))) (so.behind b (omega arith)))))
        | inr other ↦ ap (λ ls. lane_at ls c) next ∙ (place_at-other mid b c lane other ∙ so.before c (omega arith))
      ];
      behind = λ c le. ap (λ ls. lane_at ls c) next ∙ (place_at-other mid b c lane (λ e. absurd (omega arith)) ∙ so.behind c (omega arith));
    }

past_none : (lanes : Lanes) (c : ℕ) → length lanes ≤ c → lane_at lanes c ≡ None
past_none [] c le = refl
past_none (l ∷ lanes) zero le = absurd (omega arith)
past_none (l ∷ lanes) (suc c) le = past_none lanes c (omega arith)

pub all_crashed : (kept : List ℕ) (old new : Lanes) (n : ℕ) → length old ≤ n → CrashedTo kept old new n → HaveCrashed kept old new
all_crashed kept old new n le so = record {
  count = so.count;
  each = λ c. elim (cases_lt c n) [
    | inl lt ↦ so.before c lt
    | inr past ↦
        let count = so.count in
        past_none new c (omega arith) ∙ sym (ap (option_map (λ lane. crashed_lane lane (has_number kept c))) (past_none old c (omega arith)))
  ];
}

-- What they hold then

home_at : (lanes : Lanes) → AllByRecursion IsLaneHome lanes → (b : ℕ) → b < length lanes → (lane : MemoryLane) × (lane_at lanes b ≡ Some lane) × IsCalm lane
home_at [] home b lt = absurd (omega arith)
home_at (None ∷ lanes) home b lt = absurd home.0
home_at (Some lane ∷ lanes) home zero lt = (lane, refl, home.0)
home_at (Some lane ∷ lanes) home (suc b) lt = home_at lanes home.1 b (omega arith)

each_resting : (lanes : Lanes) → ((b : ℕ) → b < length lanes → IsResting (lane_at lanes b)) → AllByRecursion IsResting lanes
each_resting [] h = tt
each_resting (l ∷ lanes) h = (h 0 (omega arith), each_resting lanes (λ b lt. h (suc b) (omega arith)))

module _ (kept : List ℕ) (old new : Lanes) (home : AllByRecursion IsLaneHome old) (crash : HaveCrashed kept old new) where
  here : (b : ℕ) → b < length new → (lane : MemoryLane) × (lane_at old b ≡ Some lane) × IsCalm lane × (lane_at new b ≡ Some (crashed_lane lane (has_number kept b)))
  here b lt =
      let h = home_at old home b (let count = crash.count in omega arith) in
      (h.0, h.1, h.2, crash.each b ∙ ap (option_map (λ lane. crashed_lane lane (has_number kept b))) h.1)

  pub crashed_rest : AllByRecursion IsResting new
  crashed_rest = each_resting new (λ b lt. let h = here b lt in subst IsResting (sym h.3) (h.2, (refl, refl)))

  pub crashed_image : (w : World) (tickets : Tickets) → settled_image old tickets ≡ w.settled → given_to old tickets ≡ w.given → length w.image ≡ length old → image_of new tickets ≡ left w kept
  crashed_image w tickets settled given count =
      let long = length-image_of new tickets in
      let left_long = length-map-range_with_len (left_at w kept) 0 (length w.image) in
      let same = crash.count in
      ext_get_or [] (image_of new tickets) (left w kept) (omega arith) (λ b lt.
      let h = here b (omega arith) in
      let old_at : slice_get old b ≡ Some (Some h.0) = full_get old b h.0 h.1 in
      let bytes_at : block_of (image_of new tickets) b ≡ bytes_left h.0 (has_number kept b) = known_of-here (λ l. l.bytes) [] new tickets b (crashed_lane h.0 (has_number kept b)) (full_get new b (crashed_lane h.0 (has_number kept b)) h.3) in
      let settled_is : block_of w.settled b ≡ h.0.settled = ap (λ bs. block_of bs b) (sym settled) ∙ known_of-here (λ l. l.settled) [] old tickets b h.0 old_at in
      let given_is : given_at w.given b ≡ h.0.given = ap (λ gs. given_at gs b) (sym given) ∙ known_of-here (λ l. l.given) None old tickets b h.0 old_at in
      bytes_at ∙ sym (get_or-map-range_with_len (left_at w kept) 0 (length w.image) b b [] (omega arith) (omega arith)
      ∙ (λ i. cond (has_number kept b) (unwrap_or (given_is i) (settled_is i)) (settled_is i))))

-- They are long

pub more_long : (mid new : Lanes) (b : ℕ) (o : Option MemoryLane) → new ≡ slice_set mid b o → IsLong (lane_at new b) → ((c : ℕ) → c < b → IsLong (lane_at mid c)) → (c : ℕ) → c < b + 1 → IsLong (lane_at new c)
more_long mid new b o next here before c lt = elim (cases_eq c b) [
  | inl same ↦ subst (λ n. IsLong (lane_at new n)) (sym same) here
  | inr other ↦ subst IsLong (sym (ap (λ ls. lane_at ls c) next ∙ place_at-other mid b c o other)) (before c (omega arith))
]

resting_at : (lanes : Lanes) → AllByRecursion IsResting lanes → (b : ℕ) → b < length lanes → (lane : MemoryLane) × (lane_at lanes b ≡ Some lane)
resting_at [] rest b lt = absurd (omega arith)
resting_at (None ∷ lanes) rest b lt = absurd rest.0
resting_at (Some lane ∷ lanes) rest zero lt = (lane, refl)
resting_at (Some lane ∷ lanes) rest (suc b) lt = resting_at lanes rest.1 b (omega arith)

pub long_image : (lanes : Lanes) (tickets : Tickets) → AllByRecursion IsResting lanes → AreLong lanes → All (λ block. length block ≡ 512) (image_of lanes tickets)
long_image lanes tickets rest long = All-from_get_or (λ block. length block ≡ 512) (image_of lanes tickets) [] (λ b lt.
    let within : b < length lanes = let count = length-image_of lanes tickets in omega arith in
    let h = resting_at lanes rest b within in
    subst (λ bytes. length bytes ≡ 512) (sym (block_of-home lanes tickets b h.0 (full_get lanes b h.0 h.1))) (subst IsLong h.1 (long b within)))
