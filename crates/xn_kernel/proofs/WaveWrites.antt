-- The writes of a wave: how many may be begun, and how they end, the last one first.
use Rattle.std.proofs.Common.{◌≡◌, ℕ, zero, suc, ◌+◌, ◌-◌, ◌<◌, ◌≤◌, Bool, true, false, cond, List, [], ◌∷◌, ◌++◌, length, Option, Some, None, Result, refl, sym, ◌∙◌, ap, inl, inr, ⊎_elim, arith, subst}
use Rattle.std.specs.Prelude.{◌⊎◌, is_some, min, option_map, slice_index_or}
use Rattle.std.specs.List.{remove}
use Rattle.std.proofs.lemmas.Bool.{cases_lt}
use Rattle.std.proofs.lemmas.Option.{none-some}
use Rattle.disk.specs.declared.lane.DeviceFault.{DeviceFault}
use Rattle.xn_model.specs.Lives.{BlockState, Life, Lives, StoreState, begun_at, life_at, safe_count}
use Rattle.xn_model.specs.Calls.{life_pending, pick_of}
use Rattle.xn_model.specs.Worlds.{all_pending}
use Rattle.xn_model.proofs.ForCallers.{picked_life}
use Rattle.xn_kernel.specs.Kernels.{KernelValue, TicketValue}
use Rattle.xn_kernel.specs.Drains.{Reads, WriteRelation}
use Rattle.xn_kernel.specs.Flushes.{IsUnderWay, HoldsOneOf, WriteEnds, Wrote, WroteAll, WroteLast, Wave, wave_room}
use Rattle.xn_kernel.proofs.Draining.{began}
use Rattle.xn_kernel.proofs.Flushing.{first_under_way, first_ends_wave}

-- How many may be begun

-- the pending entries of blocks no write of which is under way
abbrev unbegun : Option Life → ℕ
unbegun None = 0
unbegun (Some l) = cond (is_some l.begun) 0 (length l.pending)

abbrev all_unbegun : Lives → ℕ
all_unbegun [] = 0
all_unbegun (o ∷ os) = unbegun o + all_unbegun os

few_unbegun : (lives : Lives) → all_unbegun lives ≤ all_pending lives
few_unbegun [] = omega arith
few_unbegun (o ∷ os) = let few = few_unbegun os in let here = one o in omega arith
  where
    counted : (t : Bool) (n : ℕ) → cond t 0 n ≤ n
    counted true n = omega arith
    counted false n = omega arith

    one : (o : Option Life) → unbegun o ≤ life_pending o
    one None = omega arith
    one (Some l) = counted (is_some l.begun) (length l.pending)

some_pending : (lives : Lives) (t : ℕ) (states : List BlockState) → 1 ≤ safe_count lives t [] states → 1 ≤ length states
some_pending lives t [] some = absurd (omega (arith, some))
some_pending lives t (s ∷ states) some = omega arith

-- a write that begins has some of them
less_unbegun : (lives : Lives) (b : ℕ) (l : Life) (k : ℕ) → life_at lives b ≡ Some l → l.begun ≡ None → 1 ≤ length l.pending →
    all_unbegun (begun_at lives b k) + 1 ≤ all_unbegun lives
less_unbegun [] b l k at none some = absurd (none-some l at)
less_unbegun (o ∷ os) (suc b) l k at none some = let less = less_unbegun os b l k at none some in omega arith
less_unbegun (o ∷ os) zero l k at none some =
    let was : unbegun o ≡ length l.pending = ap unbegun at ∙ ap (λ (m : Option ℕ). cond (is_some m) 0 (length l.pending)) none in
    let now : unbegun (option_map {T = Life} (λ x. record x { begun = Some k }) o) ≡ 0 = ap (λ y. unbegun (option_map {T = Life} (λ x. record x { begun = Some k }) y)) at in
    omega arith

picked_less : (state begun : StoreState) (b : ℕ) (bytes : List ℕ) (count : ℕ) → pick_of state ≡ Some b → begun ≡ record state { lives = begun_at state.lives b count } →
    all_unbegun begun.lives + 1 ≤ all_unbegun state.lives
picked_less state begun b bytes count picked after =
    let p = picked_life state b picked in
    subst (λ (s : StoreState). all_unbegun s.lives + 1 ≤ all_unbegun state.lives) (sym after)
    (less_unbegun state.lives b p.0 count p.1 p.2 (some_pending state.lives p.0.ty p.0.pending p.3))

none_left : (state : StoreState) → all_unbegun state.lives ≡ 0 → (o : Option ℕ) → pick_of state ≡ o → o ≡ None
none_left state none None e = refl
none_left state none (Some b) e =
    let p = picked_life state b e in
    let less = less_unbegun state.lives b p.0 0 p.1 p.2 (some_pending state.lives p.0.ty p.0.pending p.3) in
    absurd (omega (arith, none, less))

-- the room for all that is pending at first is one for what is pending then
pub still_serves : (first pending room : ℕ) → room ≡ min wave_room first → pending ≤ first → (room ≡ wave_room) ⊎ (pending ≤ room)
still_serves first pending room is less = elim (cases_lt first wave_room) [ inl few ↦ inr (omega (arith, is, less, few)) | inr many ↦ inl (omega (arith, is, many)) ]

module _ {L : Type 0} (bytes : L → List ℕ) (crash : L → List ℕ → Type 0) (faults : L → ℕ) (writes : WriteRelation L) where
  written_less : (n : ℕ) (old new : KernelValue L) (tickets : List (TicketValue L)) → WroteAll bytes crash faults writes n old tickets new →
      all_unbegun new.state.lives + n ≤ all_unbegun old.state.lives
  written_less zero old new tickets w = let same = ap (λ (k : KernelValue L). all_unbegun k.state.lives) w.1 in omega arith
  written_less (suc n) old new tickets w =
      let before = written_less n old w.mid w.others w.before in
      let here = w.wrote.written in
      let begins = began w.mid.state new.state w.ticket.block w.ticket.bytes w.ticket.count here.begins in
      let less = picked_less w.mid.state new.state w.ticket.block w.ticket.bytes w.ticket.count here.picked begins.after in
      omega arith

  -- with room for all that is pending nothing is left out
  pub room_serves : (n room : ℕ) (old new : KernelValue L) (tickets : List (TicketValue L)) → WroteAll bytes crash faults writes n old tickets new →
      (n ≡ room) ⊎ (pick_of new.state ≡ None) → (room ≡ wave_room) ⊎ (all_pending old.state.lives ≤ room) → (wave_room - n ≡ 0) ⊎ (pick_of new.state ≡ None)
  room_serves n room old new tickets w (inr none) serves = inr none
  room_serves n room old new tickets w (inl full) (inl most) = inl (omega (arith, full, most))
  room_serves n room old new tickets w (inl full) (inr all) =
      let less = written_less n old new tickets w in
      let few = few_unbegun old.state.lives in
      inr (none_left new.state (omega (arith, full, all, less, few)) (pick_of new.state) refl)

  pub writes_more : (n : ℕ) (old mid new : KernelValue L) (others tickets : List (TicketValue L)) (answer : Result (Unit {0}) DeviceFault) (ticket : TicketValue L) →
      WroteAll bytes crash faults writes n old others mid → Wrote bytes crash faults writes mid new answer ticket → tickets ≡ others ++ ticket ∷ [] →
      WroteAll bytes crash faults writes (n + 1) old tickets new
  writes_more n old mid new others tickets answer ticket before wrote behind =
      let next : suc n ≡ n + 1 = omega arith in
      subst (λ m. WroteAll bytes crash faults writes m old tickets new) next
      (record { others = others; mid = mid; before = before; answer = answer; ticket = ticket; wrote = wrote; behind = behind })

-- How they end

last_removed : {A : Type 0} (xs : List A) (y : A) (zs : List A) → remove ((xs ++ y ∷ []) ++ zs) (length xs) ≡ xs ++ zs
last_removed [] y zs = refl
last_removed (x ∷ xs) y zs = ap (λ ys. x ∷ ys) (last_removed xs y zs)

last_read : {A : Type 0} (xs : List A) (y : A) (zs : List A) (d : A) → slice_index_or ((xs ++ y ∷ []) ++ zs) (length xs) d ≡ y
last_read [] y zs d = refl
last_read (x ∷ xs) y zs d = last_read xs y zs d

one_longer : {A : Type 0} (xs : List A) (y : A) → length (xs ++ y ∷ []) ≡ suc (length xs)
one_longer [] y = refl
one_longer (x ∷ xs) y = ap suc (one_longer xs y)

joined_thrice : {A : Type 0} (xs ys zs : List A) → (xs ++ ys) ++ zs ≡ xs ++ (ys ++ zs)
joined_thrice [] ys zs = refl
joined_thrice (x ∷ xs) ys zs = ap (λ rest. x ∷ rest) (joined_thrice xs ys zs)

module _ {L : Type 0} (bytes : L → List ℕ) (crash : L → List ℕ → Type 0) (faults : L → ℕ) (writes : WriteRelation L) (syncs reads : Reads L) where
  tickets_count : (n : ℕ) (old new : KernelValue L) (tickets : List (TicketValue L)) → WroteAll bytes crash faults writes n old tickets new → length tickets ≡ n
  tickets_count zero old new tickets w = ap length w.0
  tickets_count (suc n) old new tickets w = ap length w.behind ∙ (one_longer w.others w.ticket ∙ ap suc (tickets_count n old w.mid w.others w.before))

  -- The last writes of a wave have ended: the tickets of the others, and behind them those that are given out.
  pub record Ending (n : ℕ) (old : KernelValue L) (ended durable : ℕ) (now : KernelValue L) (tickets : List (TicketValue L)) : Type 0 where
    pub left : ℕ
    pub split : left + ended ≡ n
    pub mid : KernelValue L
    pub front : List (TicketValue L)
    pub written : WroteAll bytes crash faults writes left old front mid
    pub failed : List (TicketValue L)
    pub in_order : tickets ≡ front ++ failed
    pub inner : Wave bytes faults writes syncs reads ended (wave_room - left) durable mid [] now failed

  pub none_ended : (n : ℕ) (old new : KernelValue L) (tickets : List (TicketValue L)) → WroteAll bytes crash faults writes n old tickets new →
      (wave_room - n ≡ 0) ⊎ (pick_of new.state ≡ None) → Ending n old 0 0 new tickets
  none_ended n old new tickets w full = record {
    left = n;
    split = omega arith;
    mid = new;
    front = tickets;
    written = w;
    failed = [];
    in_order = sym (behind_none tickets);
    inner = (refl, refl, refl, full);
  }
    where
      behind_none : {A : Type 0} (xs : List A) → xs ++ [] ≡ xs
      behind_none [] = refl
      behind_none (x ∷ xs) = ap (λ ys. x ∷ ys) (behind_none xs)

  pub all_ended : (n durable : ℕ) (old now : KernelValue L) (tickets : List (TicketValue L)) → Ending n old n durable now tickets → Wave bytes faults writes syncs reads n wave_room durable old [] now tickets
  all_ended n durable old now tickets e = go e.left e.front (let split = e.split in omega arith) e.written e.in_order e.inner
    where
      go : (left : ℕ) (front : List (TicketValue L)) → left ≡ 0 → WroteAll bytes crash faults writes left old front e.mid → tickets ≡ front ++ e.failed →
          Wave bytes faults writes syncs reads n (wave_room - left) durable e.mid [] now e.failed → Wave bytes faults writes syncs reads n wave_room durable old [] now tickets
      go (suc left) front none w order inner = absurd (omega arith)
      go zero front none w order inner =
          subst (λ k. Wave bytes faults writes syncs reads n wave_room durable k [] now tickets) w.1
          (subst (λ ts. Wave bytes faults writes syncs reads n wave_room durable e.mid [] now ts) (sym (order ∙ ap (λ ts. ts ++ e.failed) w.0)) inner)

  -- The end of one write says the same behind other tickets.
  behind_others : (answer : Result (Unit {0}) DeviceFault) (home : L) (ticket : TicketValue L) (old : KernelValue L) (front failed : List (TicketValue L)) (is_durable : Bool) (new : KernelValue L)
      (after : List (TicketValue L)) → WriteEnds bytes faults syncs reads answer home ticket old (front ++ failed) is_durable new after →
      (out : List (TicketValue L)) × (after ≡ front ++ out) × WriteEnds bytes faults syncs reads answer home ticket old failed is_durable new out
  behind_others answer home ticket old front failed true new after e = (failed, e.1, (e.0, refl))
  behind_others answer home ticket old front failed false new after e = ⊎_elim
      (λ p. (failed, p.1, inl (p.0, refl)))
      (λ p. (failed ++ p.0 ∷ [], p.3 ∙ joined_thrice front failed (p.0 ∷ []), inr (p.0, p.1, p.2, refl)))
      e

  -- The write that ends next: the last one of those that are left.
  pub record Next (n : ℕ) (old : KernelValue L) (ended durable : ℕ) (now : KernelValue L) (tickets : List (TicketValue L)) : Type 0 where
    pub left : ℕ
    pub is_left : suc left + ended ≡ n
    pub mid : KernelValue L
    pub front : List (TicketValue L)
    pub last : WroteLast bytes crash faults writes (WroteAll bytes crash faults writes left old) front mid
    pub failed : List (TicketValue L)
    pub in_order : tickets ≡ front ++ failed
    pub inner : Wave bytes faults writes syncs reads ended (wave_room - suc left) durable mid [] now failed

  pub next : (n : ℕ) (old : KernelValue L) (ended durable : ℕ) (now : KernelValue L) (tickets : List (TicketValue L)) → ended < n → Ending n old ended durable now tickets →
      Next n old ended durable now tickets
  next n old ended durable now tickets more e = go e.left e.front e.split e.written e.in_order e.inner
    where
      go : (left : ℕ) (front : List (TicketValue L)) → left + ended ≡ n → WroteAll bytes crash faults writes left old front e.mid → tickets ≡ front ++ e.failed →
          Wave bytes faults writes syncs reads ended (wave_room - left) durable e.mid [] now e.failed → Next n old ended durable now tickets
      go zero front split w order inner = absurd (omega (arith, split, more))
      go (suc left) front split w order inner =
          record { left = left; is_left = split; mid = e.mid; front = front; last = w; failed = e.failed; in_order = order; inner = inner }

  module _ (n : ℕ) (old : KernelValue L) (ended durable : ℕ) (now : KernelValue L) (tickets : List (TicketValue L)) (m : Next n old ended durable now tickets) where
    in_parts : tickets ≡ (m.last.others ++ m.last.ticket ∷ []) ++ m.failed
    in_parts = m.in_order ∙ ap (λ ts. ts ++ m.failed) m.last.behind

    -- its place
    place_is : (place : ℕ) → place ≡ n - 1 - ended → place ≡ length m.last.others
    place_is place is =
        let count = tickets_count m.left old m.last.mid m.last.others m.last.before in
        let left = m.is_left in
        omega (arith, is, count, left)

    pub next_ticket : (place : ℕ) → place ≡ n - 1 - ended → (ticket : TicketValue L) → ticket ≡ slice_index_or tickets place ticket → ticket ≡ m.last.ticket
    next_ticket place is ticket read =
        read ∙ (ap (λ ts. slice_index_or ts place ticket) in_parts
        ∙ (ap (λ p. slice_index_or ((m.last.others ++ m.last.ticket ∷ []) ++ m.failed) p ticket) (place_is place is) ∙ last_read m.last.others m.last.ticket m.failed ticket))

    pub next_rest : (place : ℕ) → place ≡ n - 1 - ended → remove tickets place ≡ m.last.others ++ m.failed
    next_rest place is =
        ap (λ ts. remove ts place) in_parts
        ∙ (ap (λ p. remove ((m.last.others ++ m.last.ticket ∷ []) ++ m.failed) p) (place_is place is) ∙ last_removed m.last.others m.last.ticket m.failed)

    pub next_under_way : IsUnderWay bytes now m.last.ticket
    next_under_way = first_under_way bytes faults writes syncs reads crash m.last.mid m.mid m.last.answer m.last.ticket m.last.wrote ended (wave_room - suc m.left) durable [] now m.failed m.inner

    -- It ends.
    pub next_ended : n ≤ wave_room → (is_durable : Bool) (new : KernelValue L) (rest after : List (TicketValue L)) → rest ≡ m.last.others ++ m.failed →
        ((answer : Result (Unit {0}) DeviceFault) (home : L) → HoldsOneOf bytes answer home m.last.ticket → WriteEnds bytes faults syncs reads answer home m.last.ticket now rest is_durable new after) →
        Ending n old (ended + 1) (cond is_durable (suc durable) durable) new after
    next_ended few is_durable new rest after same ends =
        let home = m.last.wrote.written.home in
        let end = subst (λ ts. WriteEnds bytes faults syncs reads m.last.answer home m.last.ticket now ts is_durable new after) same (ends m.last.answer home m.last.wrote.holds) in
        let out = behind_others m.last.answer home m.last.ticket now m.last.others m.failed is_durable new after end in
        let wave = first_ends_wave bytes faults writes syncs reads crash m.last.mid m.mid m.last.answer m.last.ticket m.last.wrote ended (wave_room - suc m.left) durable [] now m.failed m.inner
        is_durable new out.0 out.2 in
        let left = m.is_left in
        let count : suc ended ≡ ended + 1 = omega arith in
        let room : suc (wave_room - suc m.left) ≡ wave_room - m.left = omega (arith, few, left) in
        record {
          left = m.left;
          split = omega (arith, left);
          mid = m.last.mid;
          front = m.last.others;
          written = m.last.before;
          failed = out.0;
          in_order = out.1;
          inner = subst (λ c. Wave bytes faults writes syncs reads c (wave_room - m.left) (cond is_durable (suc durable) durable) m.last.mid [] new out.0) count
              (subst (λ r. Wave bytes faults writes syncs reads (suc ended) r (cond is_durable (suc durable) durable) m.last.mid [] new out.0) room wave);
        }
