-- The lanes of tickets come back to their places.
use Rattle.std.proofs.Common.{◌≡◌, ℕ, zero, suc, ◌+◌, ◌<◌, List, [], ◌∷◌, length, replicate, Option, Some, None, refl, sym, ◌∙◌, ap, inl, inr, arith, subst, slice_get, slice_set}
use Rattle.std.specs.Prelude.{option_map}
use Rattle.std.specs.List.{AllByRecursion}
use Rattle.std.proofs.lemmas.Bool.{cases_eq}
use Rattle.std.proofs.lemmas.Option.{same_Some, none-some}
use Rattle.std.proofs.lemmas.List.{length-set}
use Rattle.disk.specs.Mem.{MemoryLane}
use Rattle.xn_model.specs.Lives.{Life, Lives, life_at}
use Rattle.xn_model.specs.Lanes.{FitsLife, FitLives}
use Rattle.xn_model.specs.Flights.{flight_of}
use Rattle.xn_model.specs.Calls.{bytes_at}
use Rattle.xn_kernel.specs.Kernels.{KernelValue, TicketValue}
use Rattle.world.specs.Disks.{image_of, settled_image, given_to, ticket_at, lane_at, lanes_with, AreWhole, IsCalm, IsLaneHome, IsSomewhere}
use Rattle.world.specs.Worlds.{Tickets, ticket_flight, IsWorld}
use Rattle.world.proofs.Images.{known_of-finished}
use Rattle.world.proofs.Places.{place_at-same, place_at-other, set_still, full_get, empty_get}
use Rattle.world.proofs.Sizes.{nowhere}

abbrev pub Lanes : Type 0
Lanes = List (Option MemoryLane)

abbrev bytes : MemoryLane → List ℕ
bytes l = l.bytes

-- In a mounted disk each lane is at home or with its block's ticket

fits_at : (lanes : Lanes) (lives : Lives) (b : ℕ) (o : Option MemoryLane) → FitLives bytes lanes lives → slice_get lanes b ≡ Some o → FitsLife bytes o (life_at lives b)
fits_at [] lives b o z at = absurd (none-some _ at)
fits_at (l ∷ lanes) [] b o z at = absurd z
fits_at (l ∷ lanes) (x ∷ lives) zero o z at = subst (λ y. FitsLife bytes y x) (same_Some l o at) z.0
fits_at (l ∷ lanes) (x ∷ lives) (suc b) o z at = fits_at lanes lives b o z.1 at

home_idle : (lane : MemoryLane) (o : Option Life) → FitsLife bytes (Some lane) o → flight_of o ≡ None
home_idle lane None z = refl
home_idle lane (Some l) z = ap (option_map {U = ℕ × List ℕ} (λ k. (k, bytes_at k l))) z.0

module _ (kernel : KernelValue MemoryLane) (tickets : Tickets) (is : IsWorld kernel tickets) where
  pub none_missing : AreWhole kernel.lanes tickets
  none_missing = record {
    count = is.count;
    each = λ b within. by b within (lane_at kernel.lanes b) refl (ticket_at tickets b) refl;
  }
    where
      by : (b : ℕ) → b < length kernel.lanes → (o : Option MemoryLane) → lane_at kernel.lanes b ≡ o → (t : Option (TicketValue MemoryLane)) → ticket_at tickets b ≡ t → IsSomewhere b o t
      by b within (Some lane) e None f = (is.calm b lane (full_get kernel.lanes b lane e)).0
      by b within (Some lane) e (Some t) f =
          let idle = home_idle lane (life_at kernel.state.lives b) (fits_at kernel.lanes kernel.state.lives b (Some lane) is.fit (full_get kernel.lanes b lane e)) in
          absurd (none-some (t.count, t.bytes) (sym idle ∙ (sym (is.flights b) ∙ ap ticket_flight f)))
      by b within None e None f = absurd (nowhere kernel tickets is b (let long = is.count in omega arith) e f)
      by b within None e (Some t) f = let m = is.mine b t f in (m.block_is, m.calm)

-- One place after another

pub record IsBack (lanes : Lanes) (tickets : Tickets) (lanes' : Lanes) (tickets' : Tickets) : Type 0 where
  pub whole : AreWhole lanes' tickets'
  pub image : image_of lanes' tickets' ≡ image_of lanes tickets
  pub settled : settled_image lanes' tickets' ≡ settled_image lanes tickets
  pub given : given_to lanes' tickets' ≡ given_to lanes tickets
  pub count : length lanes' ≡ length lanes

away_at : (b : ℕ) (o : Option MemoryLane) (ticket : TicketValue MemoryLane) → IsSomewhere b o (Some ticket) → (o ≡ None) × (ticket.block ≡ b) × IsCalm ticket.lane
away_at b (Some lane) ticket s = absurd s
away_at b None ticket s = (refl, s.0, s.1)

module _ (lanes : Lanes) (tickets : Tickets) (is : AreWhole lanes tickets) (b : ℕ) (within : b < length lanes) where
  with_ticket : (ticket : TicketValue MemoryLane) → ticket_at tickets b ≡ Some ticket → (slice_get lanes b ≡ Some None) × (ticket.block ≡ b) × IsCalm ticket.lane
  with_ticket ticket at =
      let s = away_at b (lane_at lanes b) ticket (subst (λ t. IsSomewhere b (lane_at lanes b) t) at (is.each b within)) in
      (empty_get lanes b s.0 within, s.1, s.2)

  returned : (ticket : TicketValue MemoryLane) → ticket_at tickets b ≡ Some ticket → IsBack lanes tickets (slice_set lanes b (Some ticket.lane)) (slice_set tickets b None)
  returned ticket at =
      let s = with_ticket ticket at in
      record {
        whole = record {
          count = length-set tickets b None ∙ (is.count ∙ sym (length-set lanes b (Some ticket.lane)));
          each = λ c lt. elim (cases_eq c b) [
            | inl same ↦
                let behind : b < length tickets = let long = is.count in omega arith in
                subst (λ n. IsSomewhere n (lane_at (slice_set lanes b (Some ticket.lane)) n) (ticket_at (slice_set tickets b None) n)) (sym same)
                (subst (λ o. IsSomewhere b o (ticket_at (slice_set tickets b None) b)) (sym (place_at-same lanes b (Some ticket.lane) within))
                (subst (λ t. IsSomewhere b (Some ticket.lane) t) (sym (place_at-same tickets b None behind)) s.2))
            | inr other ↦
                subst (λ o. IsSomewhere c o (ticket_at (slice_set tickets b None) c)) (sym (place_at-other lanes b c (Some ticket.lane) other))
                (subst (λ t. IsSomewhere c (lane_at lanes c) t) (sym (place_at-other tickets b c None other)) (is.each c (let long = length-set lanes b (Some ticket.lane) in omega arith)))
          ];
        };
        image = known_of-finished (λ l. l.bytes) [] lanes tickets b ticket.lane ticket is.count s.0 at refl;
        settled = known_of-finished (λ l. l.settled) [] lanes tickets b ticket.lane ticket is.count s.0 at refl;
        given = known_of-finished (λ l. l.given) None lanes tickets b ticket.lane ticket is.count s.0 at refl;
        count = length-set lanes b (Some ticket.lane);
      }

  pub one_back : (o : Option (TicketValue MemoryLane)) → ticket_at tickets b ≡ o → IsBack lanes tickets (lanes_with lanes o) (slice_set tickets b None)
  one_back None at = subst (λ (ts : Tickets). IsBack lanes tickets lanes ts) (sym (set_still tickets b None at)) (record { whole = is; image = refl; settled = refl; given = refl; count = refl })
  one_back (Some ticket) at =
      let s = with_ticket ticket at in
      subst (λ n. IsBack lanes tickets (slice_set lanes n (Some ticket.lane)) (slice_set tickets b None)) (sym s.1) (returned ticket at)

pub more_back : (lanes : Lanes) (tickets : Tickets) (lanes' : Lanes) (tickets' : Tickets) (lanes'' : Lanes) (tickets'' : Tickets) → IsBack lanes tickets lanes' tickets' → IsBack lanes' tickets' lanes'' tickets'' → IsBack lanes tickets lanes'' tickets''
more_back lanes tickets lanes' tickets' lanes'' tickets'' first next = record { whole = next.whole; image = next.image ∙ first.image; settled = next.settled ∙ first.settled; given = next.given ∙ first.given; count = next.count ∙ first.count }

-- the first places have no ticket any more
pub more_empty : (tickets : Tickets) (b : ℕ) → b < length tickets → ((c : ℕ) → c < b → ticket_at tickets c ≡ None) → (c : ℕ) → c < b + 1 → ticket_at (slice_set tickets b None) c ≡ None
more_empty tickets b within before c lt = elim (cases_eq c b) [
  | inl same ↦ ap (ticket_at (slice_set tickets b None)) same ∙ place_at-same tickets b None within
  | inr other ↦ place_at-other tickets b c None other ∙ before c (omega arith)
]

-- Once no ticket is left

home_at : (b : ℕ) (o : Option MemoryLane) → IsSomewhere b o None → IsLaneHome o
home_at b None s = s
home_at b (Some lane) s = s

each_home : (lanes : Lanes) → ((b : ℕ) → b < length lanes → IsLaneHome (lane_at lanes b)) → AllByRecursion IsLaneHome lanes
each_home [] h = tt
each_home (l ∷ lanes) h = (h 0 (omega arith), each_home lanes (λ b lt. h (suc b) (omega arith)))

pub all_home : (lanes : Lanes) (tickets : Tickets) → AreWhole lanes tickets → ((c : ℕ) → c < length tickets → ticket_at tickets c ≡ None) → AllByRecursion IsLaneHome lanes
all_home lanes tickets is none = each_home lanes (λ b lt. home_at b (lane_at lanes b) (subst (λ t. IsSomewhere b (lane_at lanes b) t) (none b (let long = is.count in omega arith)) (is.each b lt)))

pub all_empty : (tickets : Tickets) (n : ℕ) → length tickets ≡ n → ((c : ℕ) → c < n → ticket_at tickets c ≡ None) → tickets ≡ replicate n None
all_empty [] zero e h = refl
all_empty [] (suc n) e h = absurd (omega arith)
all_empty (t ∷ tickets) zero e h = absurd (omega arith)
all_empty (t ∷ tickets) (suc n) e h = λ i. h 0 (omega arith) i ∷ all_empty tickets n (omega arith) (λ c lt. h (suc c) (omega arith)) i
