-- The places of tickets, of which only the first ones are made.
use Rattle.std.proofs.Common.{◌≡◌, ℕ, zero, suc, ◌+◌, ◌-◌, ◌<◌, ◌≤◌, List, [], ◌∷◌, ◌++◌, length, replicate, Option, Some, None, Result, refl, sym, ◌∙◌, ap, arith, slice_set, append_assoc, length-append}
use Rattle.std.proofs.lemmas.Option.{none-some}
use Rattle.std.proofs.lemmas.List.{length-set, length-replicate}
use Rattle.disk.specs.declared.lane.DeviceFault.{DeviceFault}
use Rattle.disk.specs.Mem.{MemoryLane}
use Rattle.xn_kernel.specs.Kernels.{TicketValue}
use Rattle.world.specs.Disks.{all_places}
use Rattle.world.specs.Worlds.{Tickets}
use Rattle.world.specs.Works.{IsWorked}
use Rattle.world.specs.declared.ticket.Work.{Work}
use Rattle.world.proofs.Places.{place_at}

module _ {A : Type 0} where
  replicate-more : (a b : ℕ) (x : A) → replicate a x ++ replicate b x ≡ replicate (a + b) x
  replicate-more zero b x = let e : b ≡ 0 + b = omega arith in ap (λ n. replicate n x) e
  replicate-more (suc a) b x = let e : suc (a + b) ≡ suc a + b = omega arith in ap (λ l. x ∷ l) (replicate-more a b x) ∙ ap (λ n. replicate n x) e

  none_at : (k b : ℕ) → place_at (replicate {A = Option A} k None) b ≡ None
  none_at zero b = refl
  none_at (suc k) zero = refl
  none_at (suc k) (suc b) = none_at k b

  padded_at : (xs : List (Option A)) (k b : ℕ) → place_at (xs ++ replicate k None) b ≡ place_at xs b
  padded_at [] k b = none_at k b
  padded_at (x ∷ xs) k zero = refl
  padded_at (x ∷ xs) k (suc b) = padded_at xs k b

  padded_set : (xs ys : List A) (b : ℕ) (x : A) → b < length xs → slice_set (xs ++ ys) b x ≡ slice_set xs b x ++ ys
  padded_set [] ys b x lt = absurd (omega arith)
  padded_set (y ∷ xs) ys zero x lt = refl
  padded_set (y ∷ xs) ys (suc b) x lt = ap (λ l. y ∷ l) (padded_set xs ys b x (omega arith))

  full_within : (xs : List (Option A)) (b : ℕ) (x : A) → place_at xs b ≡ Some x → b < length xs
  full_within [] b x e = absurd (none-some x e)
  full_within (y ∷ xs) zero x e = omega arith
  full_within (y ∷ xs) (suc b) x e = let rest = full_within xs b x e in omega arith

  pub none_behind : (xs : List (Option A)) (b : ℕ) → length xs ≤ b → place_at xs b ≡ None
  none_behind [] b le = refl
  none_behind (x ∷ xs) zero le = absurd (omega arith)
  none_behind (x ∷ xs) (suc b) le = none_behind xs b (omega arith)

  pub made_reaches : (xs : List (Option A)) (count : ℕ) → count ≤ length (xs ++ replicate {A = Option A} (count - length xs) None)
  made_reaches xs count =
      let all = length-append xs (replicate {A = Option A} (count - length xs) None) in
      let more = length-replicate {A = Option A} (count - length xs) None in
      omega arith

module _ (blocks : ℕ) (front : Tickets) where
  -- a place that isn't made is empty
  pub place_behind : (b : ℕ) → place_at (all_places blocks front) b ≡ place_at front b
  place_behind b = padded_at front (blocks - length front) b

  pub set_place : (b : ℕ) (o : Option (TicketValue MemoryLane)) → b < length front → all_places blocks (slice_set front b o) ≡ slice_set (all_places blocks front) b o
  set_place b o lt = ap (λ n. slice_set front b o ++ replicate (blocks - n) None) (length-set front b o) ∙ sym (padded_set front (replicate (blocks - length front) None) b o lt)

  -- more of them are made
  pub made_places : (count : ℕ) → count ≤ blocks → all_places blocks (front ++ replicate (count - length front) None) ≡ all_places blocks front
  made_places count le =
      let more : Tickets = replicate (count - length front) None in
      let long : length (front ++ more) ≡ length front + (count - length front) = length-append front more ∙ ap (λ n. length front + n) (length-replicate (count - length front) None) in
      let same : (count - length front) + (blocks - length (front ++ more)) ≡ blocks - length front = omega arith in
      append_assoc front more (replicate (blocks - length (front ++ more)) None)
      ∙ ap (λ l. front ++ l) (replicate-more (count - length front) (blocks - length (front ++ more)) None ∙ ap (λ n. replicate n None) same)

  pub count_places : length front ≤ blocks → length (all_places blocks front) ≡ blocks
  count_places le =
      let rest = length-replicate {A = Option (TicketValue MemoryLane)} (blocks - length front) None in
      let all = length-append front (replicate (blocks - length front) None) in
      omega arith

  pub worked_places : (work : Work) (b : ℕ) (answer : Option (Result (Unit {0}) DeviceFault)) (after : Tickets) → IsWorked work front b answer after →
      IsWorked work (all_places blocks front) b answer (all_places blocks after)
  worked_places work b None after h = (place_behind b ∙ h.0, ap (all_places blocks) h.1)
  worked_places work b (Some answer) after h =
      (h.0, h.1, place_behind b ∙ h.2, h.3, ap (all_places blocks) h.4 ∙ set_place b (Some h.1) (full_within front b h.0 h.2))
