-- What is known of the lanes of a disk, and one place of it changed.
use Rattle.std.proofs.Common.{◌≡◌, ℕ, zero, suc, List, [], ◌∷◌, length, Option, Some, None, refl, sym, ◌∙◌, ap, arith, slice_get, slice_set}
use Rattle.std.proofs.lemmas.Option.{same_Some, none-some}
use Rattle.disk.specs.Mem.{MemoryLane}
use Rattle.xn_kernel.specs.Kernels.{TicketValue}
use Rattle.xn_model.specs.Images.{block_of}
use Rattle.std.specs.Prelude.{slice_index_or}
use Rattle.world.specs.Disks.{known_at, known_of, image_of, ticket_at}

abbrev Lanes : Type 0
Lanes = List (Option MemoryLane)

abbrev Tickets : Type 0
Tickets = List (Option (TicketValue MemoryLane))

module _ {A : Type 0} (of : MemoryLane → A) (none : A) where
  abbrev known : Lanes → Tickets → List A
  known lanes tickets = known_of of none lanes tickets

  abbrev at_place : Option MemoryLane → Option (TicketValue MemoryLane) → A
  at_place lane ticket = known_at of none lane ticket

  pub length-known_of : (lanes : Lanes) (tickets : Tickets) → length (known lanes tickets) ≡ length lanes
  length-known_of [] tickets = refl
  length-known_of (lane ∷ lanes) [] = ap suc (length-known_of lanes [])
  length-known_of (lane ∷ lanes) (ticket ∷ tickets) = ap suc (length-known_of lanes tickets)

  -- a lane goes to its ticket
  pub known_of-begun : (lanes : Lanes) (tickets : Tickets) (b : ℕ) (ticket : TicketValue MemoryLane) → length tickets ≡ length lanes → slice_get lanes b ≡ Some (Some ticket.lane) →
      known (slice_set lanes b None) (slice_set tickets b (Some ticket)) ≡ known lanes tickets
  known_of-begun [] tickets b ticket long at = absurd (none-some _ at)
  known_of-begun (lane ∷ lanes) [] b ticket long at = absurd (omega arith)
  known_of-begun (lane ∷ lanes) (t ∷ tickets) zero ticket long at = ap (λ l. at_place l t ∷ known lanes tickets) (sym (same_Some lane (Some ticket.lane) at))
  known_of-begun (lane ∷ lanes) (t ∷ tickets) (suc b) ticket long at = ap (λ bs. at_place lane t ∷ bs) (known_of-begun lanes tickets b ticket (omega arith) at)

  -- a lane with its ticket changes
  pub known_of-landed : (lanes : Lanes) (tickets : Tickets) (b : ℕ) (ticket : TicketValue MemoryLane) → length tickets ≡ length lanes → slice_get lanes b ≡ Some None →
      known lanes (slice_set tickets b (Some ticket)) ≡ slice_set (known lanes tickets) b (of ticket.lane)
  known_of-landed [] tickets b ticket long at = absurd (none-some _ at)
  known_of-landed (lane ∷ lanes) [] b ticket long at = absurd (omega arith)
  known_of-landed (lane ∷ lanes) (t ∷ tickets) zero ticket long at = ap (λ l. at_place l (Some ticket) ∷ known lanes tickets) (same_Some lane None at)
  known_of-landed (lane ∷ lanes) (t ∷ tickets) (suc b) ticket long at = ap (λ bs. at_place lane t ∷ bs) (known_of-landed lanes tickets b ticket (omega arith) at)

  -- a lane with its ticket keeps what is known of it
  pub known_of-kept : (lanes : Lanes) (tickets : Tickets) (b : ℕ) (ticket next : TicketValue MemoryLane) → length tickets ≡ length lanes → slice_get lanes b ≡ Some None →
      ticket_at tickets b ≡ Some ticket → of next.lane ≡ of ticket.lane → known lanes (slice_set tickets b (Some next)) ≡ known lanes tickets
  known_of-kept [] tickets b ticket next long at has same = absurd (none-some _ at)
  known_of-kept (l ∷ lanes) [] b ticket next long at has same = absurd (omega arith)
  known_of-kept (l ∷ lanes) (t ∷ tickets) zero ticket next long at has same =
      ap (λ bytes. bytes ∷ known lanes tickets) (ap (λ o. at_place o (Some next)) (same_Some l None at) ∙ (same ∙ sym ((λ i. at_place (same_Some l None at i) (has i)))))
  known_of-kept (l ∷ lanes) (t ∷ tickets) (suc b) ticket next long at has same = ap (λ bs. at_place l t ∷ bs) (known_of-kept lanes tickets b ticket next (omega arith) at has same)

  -- a lane at home changes
  pub known_of-home : (lanes : Lanes) (tickets : Tickets) (b : ℕ) (old new : MemoryLane) → slice_get lanes b ≡ Some (Some old) →
      known (slice_set lanes b (Some new)) tickets ≡ slice_set (known lanes tickets) b (of new)
  known_of-home [] tickets b old new at = absurd (none-some _ at)
  known_of-home (l ∷ lanes) [] zero old new at = refl
  known_of-home (l ∷ lanes) [] (suc b) old new at = ap (λ bs. at_place l None ∷ bs) (known_of-home lanes [] b old new at)
  known_of-home (l ∷ lanes) (t ∷ tickets) zero old new at = refl
  known_of-home (l ∷ lanes) (t ∷ tickets) (suc b) old new at = ap (λ bs. at_place l t ∷ bs) (known_of-home lanes tickets b old new at)

  -- a lane comes home with what was known of it
  pub known_of-finished : (lanes : Lanes) (tickets : Tickets) (b : ℕ) (lane : MemoryLane) (ticket : TicketValue MemoryLane) → length tickets ≡ length lanes → slice_get lanes b ≡ Some None →
      ticket_at tickets b ≡ Some ticket → of lane ≡ of ticket.lane → known (slice_set lanes b (Some lane)) (slice_set tickets b None) ≡ known lanes tickets
  known_of-finished [] tickets b lane ticket long at has same = absurd (none-some _ at)
  known_of-finished (l ∷ lanes) [] b lane ticket long at has same = absurd (omega arith)
  known_of-finished (l ∷ lanes) (t ∷ tickets) zero lane ticket long at has same =
      ap (λ bytes. bytes ∷ known lanes tickets) (same ∙ sym ((λ i. at_place (same_Some l None at i) (has i))))
  known_of-finished (l ∷ lanes) (t ∷ tickets) (suc b) lane ticket long at has same = ap (λ bs. at_place l t ∷ bs) (known_of-finished lanes tickets b lane ticket (omega arith) at has same)

  -- what is known of a block whose lane is away
  pub known_of-away : (lanes : Lanes) (tickets : Tickets) (b : ℕ) (ticket : TicketValue MemoryLane) → slice_get lanes b ≡ Some None → ticket_at tickets b ≡ Some ticket →
      slice_index_or (known lanes tickets) b none ≡ of ticket.lane
  known_of-away [] tickets b ticket at has = absurd (none-some _ at)
  known_of-away (l ∷ lanes) [] b ticket at has = absurd (none-some ticket has)
  known_of-away (l ∷ lanes) (t ∷ tickets) zero ticket at has = (λ i. at_place (same_Some l None at i) (has i))
  known_of-away (l ∷ lanes) (t ∷ tickets) (suc b) ticket at has = known_of-away lanes tickets b ticket at has

  -- and of one whose lane is at home
  pub known_of-here : (lanes : Lanes) (tickets : Tickets) (b : ℕ) (lane : MemoryLane) → slice_get lanes b ≡ Some (Some lane) → slice_index_or (known lanes tickets) b none ≡ of lane
  known_of-here [] tickets b lane at = absurd (none-some _ at)
  known_of-here (l ∷ lanes) [] zero lane at = ap (λ o. at_place o None) (same_Some l (Some lane) at)
  known_of-here (l ∷ lanes) [] (suc b) lane at = known_of-here lanes [] b lane at
  known_of-here (l ∷ lanes) (t ∷ tickets) zero lane at = ap (λ o. at_place o t) (same_Some l (Some lane) at)
  known_of-here (l ∷ lanes) (t ∷ tickets) (suc b) lane at = known_of-here lanes tickets b lane at

pub length-image_of : (lanes : Lanes) (tickets : Tickets) → length (image_of lanes tickets) ≡ length lanes
length-image_of lanes tickets = length-known_of (λ lane. lane.bytes) [] lanes tickets

pub block_of-away : (lanes : Lanes) (tickets : Tickets) (b : ℕ) (ticket : TicketValue MemoryLane) → slice_get lanes b ≡ Some None → ticket_at tickets b ≡ Some ticket →
    block_of (image_of lanes tickets) b ≡ ticket.lane.bytes
block_of-away lanes tickets b ticket at has = known_of-away (λ lane. lane.bytes) [] lanes tickets b ticket at has

pub block_of-home : (lanes : Lanes) (tickets : Tickets) (b : ℕ) (lane : MemoryLane) → slice_get lanes b ≡ Some (Some lane) → block_of (image_of lanes tickets) b ≡ lane.bytes
block_of-home lanes tickets b lane at = known_of-here (λ lane. lane.bytes) [] lanes tickets b lane at

-- Blocks one after another
