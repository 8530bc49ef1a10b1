-- Rounds of a drain.
use Rattle.std.proofs.Common.{◌≡◌, ℕ, zero, suc, ◌+◌, ◌<◌, ◌≤◌, Bool, true, false, List, [], ◌∷◌, length, Option, Some, None, Result, Ok, Err, refl, sym, ◌∙◌, ap, inl, inr, ⊎_elim, arith, subst, slice_get, slice_set}
use Rattle.std.specs.Prelude.{◌⊎◌, ◌&&◌, is_some, option_map, OnOk, OnErr, IfSome, bytes_eq, ◌==◌, if◌then◌else◌}
use Rattle.std.specs.List.{list_any}
use Rattle.std.proofs.lemmas.Bool.{false≢true, or_parts, cases_eq, eq-eqb}
use Rattle.std.proofs.lemmas.Slice.Eq.{bytes_eq-Decides}
use Rattle.std.proofs.lemmas.Option.{same_Some, none-some}
use Rattle.disk.specs.Lanes.{CountsOne}
use Rattle.disk.specs.declared.lane.DeviceFault.{DeviceFault}
use Rattle.store_types.specs.declared.refusal.Refusal.{Refusal}
use Rattle.store_types.specs.declared.refusal.Refusal.TheVariants.{NoSuchBlock, NotInUse, InFlight, NotMine, Device, NothingSafe}
use Rattle.xn_model.specs.Lives.{BlockState, Life, Lives, StoreState, life_at, alive_and, prefix_of, begun_at, drops_of}
use Rattle.xn_model.specs.Lanes.{FitsLife, FitLives}
use Rattle.xn_model.specs.Results.{GivesExactly, result_map}
use Rattle.xn_model.specs.Calls.{begun_place, begun_of, bytes_at, first_pending, is_durable, pick_of, settled_place, settled_after, settled_of}
use Rattle.xn_model.specs.Rules.{IsIdle}
use Rattle.xn_model.specs.Worlds.{all_pending}
use Rattle.xn_model.proofs.ForCallers.{unless_ok, never_ok, none_from, same_ok, map_ok, gives_exactly-ok, life_from, place_from, change_same, positive, round_leaves}
use Rattle.xn_state.specs.States.{own_types}
use Rattle.xn_kernel.specs.Kernels.{KernelValue, TicketValue, IsKernel, is_in_flight, is_mine}
use Rattle.xn_kernel.specs.Drains.{Reads, WriteRelation, with_home, Round, Rounds, Unwritten, Unsynced, Unread}
use Rattle.xn_kernel.specs.Flushes.{HoldsOneOf, Wrote, kernel_with_begun}

-- what is said of a state that was lent
pub asked : {A : Type 0} (f : StoreState → A) (lent state : StoreState) (x y : A) → lent ≡ state → x ≡ f lent → x ≡ y → f state ≡ y
asked f lent state x y same is e = ap f (sym same) ∙ (sym is ∙ e)

-- no write is under way
pub idle_from : (lives : Lives) → list_any (alive_and (λ l. is_some l.begun)) lives ≡ false → IsIdle lives
idle_from [] e b l at = absurd (none-some l at)
idle_from (None ∷ os) e zero l at = absurd (none-some l at)
idle_from (None ∷ os) e (suc b) l at = idle_from os e b l at
idle_from (Some x ∷ os) e zero l at =
    none_from l.begun (ap (λ (y : Life). is_some y.begun) (sym (same_Some x l at)) ∙ (or_parts (is_some x.begun) (list_any (alive_and (λ l. is_some l.begun)) os) e).0)
idle_from (Some x ∷ os) e (suc b) l at = idle_from os (or_parts (is_some x.begun) (list_any (alive_and (λ l. is_some l.begun)) os) e).1 b l at

-- The life of a block whose write begins

pub record Began (state : StoreState) (b : ℕ) (bytes : List ℕ) (count : ℕ) (begun : StoreState) : Type 0 where
  pub after : begun ≡ record state { lives = begun_at state.lives b count }
  pub life : Life
  pub alive : life_at state.lives b ≡ Some life
  pub some : 1 ≤ count
  pub carries : bytes ≡ bytes_at count life
  pub now : slice_get begun.lives b ≡ Some (Some (record life { begun = Some count }))

began_place : (lives : Lives) (b : ℕ) (o : Option (Option Life)) (given : List ℕ × ℕ) → slice_get lives b ≡ o → begun_place lives o ≡ Ok given →
    (l : Life) × (life_at lives b ≡ Some l) × (1 ≤ given.1) × (given.0 ≡ bytes_at given.1 l)
began_place lives b None given at e = absurd (never_ok NoSuchBlock given e)
began_place lives b (Some None) given at e = absurd (never_ok NotInUse given e)
began_place lives b (Some (Some l)) given at e =
    let k = prefix_of lives (Some l) in
    let tests = unless_ok ((is_some l.begun, InFlight) ∷ (k == 0, NothingSafe) ∷ []) (Ok (bytes_at k l, k)) given e in
    let same = same_ok (bytes_at k l, k) given tests.1 in
    let some : 1 ≤ k = elim (cases_eq k 0) [ inl none ↦ absurd (false≢true (sym tests.0.1.0 ∙ eq-eqb k 0 none)) | inr not ↦ positive k not ] in
    (l, life_from lives b l at, subst (λ (g : List ℕ × ℕ). 1 ≤ g.1) same some, subst (λ (g : List ℕ × ℕ). g.0 ≡ bytes_at g.1 l) same refl)

pub began : (state begun : StoreState) (b : ℕ) (bytes : List ℕ) (count : ℕ) → begun_of state b ≡ Ok ((bytes, count), begun) → Began state b bytes count begun
began state begun b bytes count e =
    let m = map_ok (λ (x : List ℕ × ℕ). (x, record state { lives = begun_at state.lives b x.1 })) (begun_place state.lives (slice_get state.lives b)) ((bytes, count), begun) e in
    let given : m.0 ≡ (bytes, count) = ap (λ (p : (List ℕ × ℕ) × StoreState). p.0) m.2 in
    let l = began_place state.lives b (slice_get state.lives b) (bytes, count) refl (m.1 ∙ ap (λ g. Ok g) given) in
    let after : begun ≡ record state { lives = begun_at state.lives b count } = sym (ap (λ (p : (List ℕ × ℕ) × StoreState). p.1) m.2) ∙ ap (λ (g : List ℕ × ℕ). record state { lives = begun_at state.lives b g.1 }) given in
    let here : life_at (begun_at state.lives b count) b ≡ Some (record l.0 { begun = Some count }) =
    change_same state.lives b (λ x. record x { begun = Some count }) ∙ ap (option_map {T = Life} (λ x. record x { begun = Some count })) l.1 in
    record {
      after = after;
      life = l.0;
      alive = l.1;
      some = l.2;
      carries = l.3;
      now = subst (λ (s : StoreState). slice_get s.lives b ≡ Some (Some (record l.0 { begun = Some count }))) (sym after) (place_from (begun_at state.lives b count) b (record l.0 { begun = Some count }) here);
    }

-- What is read back, and how many entries that makes durable

abbrev pub choice : Bool → Bool → ℕ → Result ℕ Refusal
choice same durable k = if same then Ok k else if durable then Ok 0 else Err NotMine

pub chosen : (same durable : Bool) (k n : ℕ) → choice same durable k ≡ Ok n → ((same ≡ true) × (k ≡ n)) ⊎ ((same ≡ false) × (0 ≡ n))
chosen true durable k n e = inl (refl, same_ok k n e)
chosen false true k n e = inr (refl, same_ok 0 n e)
chosen false false k n e = absurd (never_ok NotMine n e)

module _ (state begun : StoreState) (b : ℕ) (bytes : List ℕ) (count : ℕ) (begins : begun_of state b ≡ Ok ((bytes, count), begun)) where
  abbrev here : Began state b bytes count begun
  here = began state begun b bytes count begins

  choice_is : (read : List ℕ) → settled_place read (slice_get begun.lives b) ≡ choice (bytes_eq read (bytes_at count here.life)) (is_durable read here.life.durable) count
  choice_is read = ap (settled_place read) here.now

  pub in_flight : is_in_flight begun b ≡ true
  in_flight = ap (alive_and (λ l. is_some l.begun)) (life_from begun.lives b (record here.life { begun = Some count }) here.now)

  -- the begun bytes make all of it durable
  pub settles_all : (read : List ℕ) → read ≡ bytes → settled_of begun b read ≡ Ok (settled_after begun b count)
  settles_all read same =
      let test = (bytes_eq-Decides read (bytes_at count here.life)).1 (same ∙ here.carries) in
      ap (result_map (settled_after begun b)) (choice_is read ∙ ap (λ t. choice t (is_durable read here.life.durable) count) test)

  -- and what the block held before none of it
  pub settles_old : (read : List ℕ) → IfSome here.life.durable (λ s. read ≡ s.bytes) → (n : ℕ) × (settled_of begun b read ≡ Ok (settled_after begun b n))
  settles_old read held = go (bytes_eq read (bytes_at count here.life)) (choice_is read)
    where
      durable : (o : Option BlockState) → IfSome o (λ s. read ≡ s.bytes) → is_durable read o ≡ true
      durable None h = refl
      durable (Some s) h = (bytes_eq-Decides read s.bytes).1 h

      go : (t : Bool) → settled_place read (slice_get begun.lives b) ≡ choice t (is_durable read here.life.durable) count → (n : ℕ) × (settled_of begun b read ≡ Ok (settled_after begun b n))
      go true e = (count, ap (result_map (settled_after begun b)) e)
      go false e = (0, ap (result_map (settled_after begun b)) (e ∙ ap (λ t. choice false t count) (durable here.life.durable held)))

  -- what a count of durable entries says
  pub settles_says : (read : List ℕ) (durable freed : ℕ) (store : StoreState) → settled_of begun b read ≡ Ok ((durable, freed), store) →
      ((read ≡ bytes) × (durable ≡ count)) ⊎ ((durable ≡ 0) × (freed ≡ 0))
  settles_says read durable freed store e =
      let m = map_ok (settled_after begun b) (settled_place read (slice_get begun.lives b)) ((durable, freed), store) e in
      let k : m.0 ≡ durable = ap (λ (p : (ℕ × ℕ) × StoreState). p.0.0) m.2 in
      ⊎_elim
      (λ p. inl ((bytes_eq-Decides read (bytes_at count here.life)).0 p.0 ∙ sym here.carries, sym k ∙ sym p.1))
      (λ p. inr (sym k ∙ sym p.1, sym (ap (λ (p : (ℕ × ℕ) × StoreState). p.0.1) m.2) ∙ (ap (λ n. length (drops_of (first_pending n (life_at begun.lives b)))) (sym p.1) ∙ nothing (life_at begun.lives b))))
      (chosen (bytes_eq read (bytes_at count here.life)) (is_durable read here.life.durable) count m.0 (sym (choice_is read) ∙ m.1))
    where
      nothing : (o : Option Life) → length (drops_of (first_pending 0 o)) ≡ 0
      nothing None = refl
      nothing (Some l) = refl

-- The ends of a round

pub never_err : {A : Type 0} (r : Result (A × StoreState) Refusal) (x : A × StoreState) (old new : StoreState) (refusal : Refusal) → r ≡ Ok x → GivesExactly r old new (Err refusal) → ⊥
never_err (Ok (answer, after)) x old new refusal e h = cc
never_err (Err first) x old new refusal e h = cc

pub fits_at : {L : Type 0} (bytes : L → List ℕ) (lanes : List (Option L)) (lives : Lives) (b : ℕ) (lane : L) (l : Life) → FitLives bytes lanes lives → slice_get lanes b ≡ Some (Some lane) → life_at lives b ≡ Some l →
    IfSome l.durable (λ s. bytes lane ≡ s.bytes)
fits_at bytes [] lives b lane l z at e = absurd (none-some _ at)
fits_at bytes (a ∷ lanes) [] b lane l z at e = absurd z
fits_at bytes (a ∷ lanes) (x ∷ xs) (suc b) lane l z at e = fits_at bytes lanes xs b lane l z.1 at e
fits_at {L} bytes (a ∷ lanes) (x ∷ xs) zero lane l z at e =
    let here : FitsLife bytes (Some lane) (Some l) = subst (λ o. FitsLife bytes o (Some l)) (same_Some a (Some lane) at) (subst (λ o. FitsLife bytes a o) e z.0) in
    here.1

pub set_twice : {A : Type 0} (xs : List A) (b : ℕ) (x y : A) → slice_set (slice_set xs b x) b y ≡ slice_set xs b y
set_twice [] b x y = refl
set_twice (z ∷ zs) zero x y = refl
set_twice (z ∷ zs) (suc b) x y = ap (λ ys. z ∷ ys) (set_twice zs b x y)

-- the bytes after a write
pub landed_or_kept : {A B : Type 0} (answer : Result (Unit {0}) DeviceFault) → OnOk answer A → OnErr answer (B ⊎ A) → A ⊎ (B × ((fault : DeviceFault) × (answer ≡ Err fault)))
landed_or_kept (Ok done) new either = inl new
landed_or_kept (Err fault) new either = ⊎_elim (λ b. inr (b, (fault, refl))) (λ a. inl a) either

module _ {L : Type 0} (bytes : L → List ℕ) (crash : L → List ℕ → Type 0) (faults : L → ℕ) (writes : WriteRelation L) where
  pub wrote : (old mid : KernelValue L) (b : ℕ) (first ticket : TicketValue L) (answer : Result (Unit {0}) DeviceFault) → IsKernel bytes crash old.lanes old.state → pick_of old.state ≡ Some b →
      GivesExactly (begun_of old.state b) old.state mid.state (Ok (first.bytes, first.count)) →
      (first.kernel ≡ old.id) × (first.block ≡ b) × (slice_get old.lanes b ≡ Some (Some first.lane)) × (first.unsynced ≡ false) → mid ≡ kernel_with_begun old b mid.state →
      ticket ≡ record first { lane = ticket.lane; unsynced = true } → OnOk answer (bytes ticket.lane ≡ first.bytes) →
      OnErr answer ((bytes ticket.lane ≡ bytes first.lane) ⊎ (bytes ticket.lane ≡ first.bytes)) → OnErr answer (CountsOne (faults first.lane) (faults ticket.lane)) →
      writes first.lane first.bytes answer ticket.lane → Wrote bytes crash faults writes old mid answer ticket
  wrote old mid b first ticket answer is picked begins at away landed new either counts gives = subst (λ t. Wrote bytes crash faults writes old mid answer t) (sym landed) (record {
    is = is;
    written = record {
      picked = picked ∙ ap (λ b. Some b) (sym at.1);
      begins = ap (begun_of old.state) at.1 ∙ gives_exactly-ok (begun_of old.state b) old.state mid.state (first.bytes, first.count) begins;
      ours = at.0;
      home = first.lane;
      taken = ap (slice_get old.lanes) at.1 ∙ at.2;
      gives = gives;
      counts = counts;
      unsynced = refl;
    };
    holds = landed_or_kept answer new either;
    away = away ∙ ap (λ b. kernel_with_begun old b mid.state) (sym at.1);
  })

module _ {L : Type 0} (bytes : L → List ℕ) (crash : L → List ℕ → Type 0) (faults : L → ℕ) (writes : WriteRelation L) (syncs reads : Reads L) where
  pub rounds_more : (n : ℕ) (a b c : KernelValue L) → Rounds bytes faults writes syncs reads n a b → Round bytes faults writes syncs reads b c → Rounds bytes faults writes syncs reads (n + 1) a c
  rounds_more n a b c rounds round = let next : suc n ≡ n + 1 = omega arith in subst (λ m. Rounds bytes faults writes syncs reads m a c) next (go n a rounds)
    where
      go : (n : ℕ) (a : KernelValue L) → Rounds bytes faults writes syncs reads n a b → Rounds bytes faults writes syncs reads (suc n) a c
      go zero a e = (c, subst (λ k. Round bytes faults writes syncs reads k c) e round, refl)
      go (suc n) a rounds = (rounds.0, rounds.1, go n rounds.0 rounds.2)

  -- a round leaves no write under way, and less pending
  pub round_ends : (old new : KernelValue L) → IsKernel bytes crash old.lanes old.state → IsIdle old.state.lives → Round bytes faults writes syncs reads old new →
      IsIdle new.state.lives × (all_pending new.state.lives < all_pending old.state.lives)
  round_ends old new is idle r =
      let left = round_leaves (own_types old.state) old.state r.begun r.store r.ticket.block r.ticket.bytes r.ticket.count (r.ticket.count, r.freed) is.rules idle r.written.picked r.written.begins r.settles in
      subst (λ (k : KernelValue L). IsIdle k.state.lives × (all_pending k.state.lives < all_pending old.state.lives)) (sym r.next) left

  -- what the end of such a write says
  module _ (old mid : KernelValue L) (answer : Result (Unit {0}) DeviceFault) (ticket : TicketValue L) (w : Wrote bytes crash faults writes old mid answer ticket) where
    abbrev pub begun_life : Began old.state ticket.block ticket.bytes ticket.count mid.state
    begun_life = began old.state mid.state ticket.block ticket.bytes ticket.count w.written.begins

    -- the bytes before it are the durable ones
    pub holds_durable : bytes ticket.lane ≡ bytes w.written.home → IfSome begun_life.life.durable (λ s. bytes ticket.lane ≡ s.bytes)
    holds_durable same = go begun_life.life.durable (fits_at bytes old.lanes old.state.lives ticket.block w.written.home begun_life.life w.is.fit w.written.taken begun_life.alive)
      where
        go : (o : Option BlockState) → IfSome o (λ s. bytes w.written.home ≡ s.bytes) → IfSome o (λ s. bytes ticket.lane ≡ s.bytes)
        go None h = h
        go (Some s) h = same ∙ h

    -- what it holds settles
    settles_some : (n : ℕ) × (settled_of mid.state ticket.block (bytes ticket.lane) ≡ Ok (settled_after mid.state ticket.block n))
    settles_some = ⊎_elim
        (λ new. (ticket.count, settles_all old.state mid.state ticket.block ticket.bytes ticket.count w.written.begins (bytes ticket.lane) new))
        (λ kept. settles_old old.state mid.state ticket.block ticket.bytes ticket.count w.written.begins (bytes ticket.lane) (holds_durable kept.0))
        w.holds

    -- it cannot be synced
    pub ends_unsynced : (fault : DeviceFault) (back : TicketValue L) → syncs ticket.lane (Err fault) back.lane → CountsOne (faults ticket.lane) (faults back.lane) → bytes back.lane ≡ bytes ticket.lane →
        back ≡ record ticket { lane = back.lane } → Unsynced bytes faults writes syncs reads old back mid
    ends_unsynced fault back gave counted kept rest = record {
      answer = answer;
      ticket = ticket;
      begun = mid.state;
      written = w.written;
      fault = fault;
      gives = gave;
      counts = counted;
      kept = kept;
      rest = rest;
      next = w.away;
    }

    module _ (settled : L) (synced : syncs ticket.lane (Ok tt) settled) (same : bytes settled ≡ bytes ticket.lane) where
      abbrev synced_ticket : TicketValue L
      synced_ticket = record ticket { lane = settled; unsynced = false }

      after_sync : HoldsOneOf bytes answer w.written.home synced_ticket
      after_sync = ⊎_elim (λ new. inl (same ∙ new)) (λ kept. inr (same ∙ kept.0, kept.1)) w.holds

      settles_synced : (n : ℕ) × (settled_of mid.state ticket.block (bytes settled) ≡ Ok (settled_after mid.state ticket.block n))
      settles_synced = (settles_some.0, ap (settled_of mid.state ticket.block) same ∙ settles_some.1)

      -- it cannot be read back
      ends_unread : (fault : DeviceFault) (back : TicketValue L) → reads settled (Err fault) back.lane → CountsOne (faults settled) (faults back.lane) → bytes back.lane ≡ bytes ticket.lane →
          back ≡ record ticket { lane = back.lane; unsynced = false } → Unread bytes faults writes syncs reads old back mid
      ends_unread fault back read counted kept rest = record {
        answer = answer;
        ticket = ticket;
        begun = mid.state;
        written = w.written;
        settled = settled;
        synced = synced;
        fault = fault;
        gives = read;
        counts = counted;
        kept = kept;
        rest = rest;
        next = w.away;
      }

      module _ (home : L) (read : reads settled (Ok tt) home) (kept : bytes home ≡ bytes settled) (durable freed : ℕ) (store : StoreState)
          (settles : settled_of mid.state ticket.block (bytes settled) ≡ Ok ((durable, freed), store)) where
        abbrev left : KernelValue L
        left = with_home old ticket.block home store

        says : ((bytes settled ≡ ticket.bytes) × (durable ≡ ticket.count)) ⊎ ((durable ≡ 0) × (freed ≡ 0))
        says = settles_says old.state mid.state ticket.block ticket.bytes ticket.count w.written.begins (bytes settled) durable freed store settles

        -- the begun bytes are there
        ends_well : 0 < durable → Round bytes faults writes syncs reads old left
        ends_well some = ⊎_elim
            (λ p. record {
              answer = answer;
              ticket = ticket;
              begun = mid.state;
              written = w.written;
              settled = settled;
              synced = synced;
              there = p.0;
              lane = home;
              gives = read;
              kept = kept ∙ p.0;
              freed = freed;
              store = store;
              settles = ap (settled_of mid.state ticket.block) (sym p.0) ∙ (settles ∙ ap (λ n. Ok ((n, freed), store)) p.1);
              next = refl;
            })
            (λ p. absurd (omega (arith, some, p.0)))
            says

        -- the old bytes are
        ends_unwritten : durable ≡ 0 → Unwritten bytes faults writes syncs reads old left
        ends_unwritten none = ⊎_elim
            (λ new. absurd (never new))
            (λ old_bytes. let fault = old_bytes.1.0 in record {
              fault = fault;
              ticket = ticket;
              begun = mid.state;
              written = record {
                picked = w.written.picked;
                begins = w.written.begins;
                ours = w.written.ours;
                home = w.written.home;
                taken = w.written.taken;
                gives = subst (λ a. writes w.written.home ticket.bytes a ticket.lane) old_bytes.1.1 w.written.gives;
                counts = subst (λ a. OnErr a (CountsOne (faults w.written.home) (faults ticket.lane))) old_bytes.1.1 w.written.counts;
                unsynced = w.written.unsynced;
              };
              settled = settled;
              synced = synced;
              there = old_bytes.0;
              lane = home;
              gives = read;
              kept = kept;
              store = store;
              settles = settles ∙ (λ i. Ok ((none i, nothing i), store));
              next = refl;
            })
            after_sync
          where
            never : bytes settled ≡ ticket.bytes → ⊥
            never new =
                let all = settles_all old.state mid.state ticket.block ticket.bytes ticket.count w.written.begins (bytes settled) new in
                let same = same_ok ((durable, freed), store) (settled_after mid.state ticket.block ticket.count) (sym settles ∙ all) in
                let count : durable ≡ ticket.count = ap (λ (p : (ℕ × ℕ) × StoreState). p.0.0) same in
                absurd (omega (arith, count, none, begun_life.some))

            nothing : freed ≡ 0
            nothing = ⊎_elim (λ p. absurd (omega (arith, p.1, none, begun_life.some))) (λ p. p.1) says

      -- The ticket is finished

      mine : is_mine mid synced_ticket ≡ true
      mine = (λ i. eq-eqb ticket.kernel mid.id (w.written.ours ∙ sym (ap (λ (k : KernelValue L). k.id) w.away)) i && is_in_flight mid.state ticket.block) ∙ in_flight old.state mid.state ticket.block ticket.bytes ticket.count w.written.begins

      -- what a finish says of a refusal, and of the rest
      abbrev Refused : TicketValue L → Type 0
      Refused given = (new : KernelValue L) (back : TicketValue L) (refusal : Refusal) →
          (is_mine mid given ≡ true → given.unsynced ≡ false → GivesExactly (settled_of mid.state given.block (bytes given.lane)) mid.state new.state (Err refusal) ⊎ ((refusal ≡ Device) × CountsOne (faults given.lane) (faults back.lane))) →
          (refusal ≡ Device → (fault : DeviceFault) × reads given.lane (Err fault) back.lane) → back ≡ record given { lane = back.lane } → bytes back.lane ≡ bytes given.lane → new ≡ mid →
          Unread bytes faults writes syncs reads old back new

      pub finish_refused : (given : TicketValue L) → given ≡ synced_ticket → Refused given
      finish_refused given t = subst Refused (sym t) λ new back refusal told unread rest kept is. ⊎_elim
          (λ gives. absurd (never_err (settled_of mid.state ticket.block (bytes settled)) (settled_after mid.state ticket.block settles_synced.0) mid.state new.state refusal settles_synced.1 gives))
          (λ device. let read = unread device.0 in
          subst (λ k. Unread bytes faults writes syncs reads old back k) (sym is) (ends_unread read.0 back read.1 device.1 (kept ∙ same) rest))
          (told mine refl)

      abbrev Done : TicketValue L → Type 0
      Done given = (new : KernelValue L) (durable freed : ℕ) →
          (is_mine mid given ≡ true → given.unsynced ≡ false → GivesExactly (settled_of mid.state given.block (bytes given.lane)) mid.state new.state (Ok (durable, freed)) ⊎ ⊥) →
          (home : L) → bytes home ≡ bytes given.lane → reads given.lane (Ok tt) home →
          new ≡ record mid { lanes = slice_set mid.lanes given.block (Some home); state = new.state } →
          (0 < durable → Round bytes faults writes syncs reads old new) × (durable ≡ 0 → Unwritten bytes faults writes syncs reads old new)

      pub finish_done : (given : TicketValue L) → given ≡ synced_ticket → Done given
      finish_done given t = subst Done (sym t) λ new durable freed told home kept read next.
          let gives = ⊎_elim (λ g. g) (λ none. absurd none) (told mine refl) in
          let settles = gives_exactly-ok (settled_of mid.state ticket.block (bytes settled)) mid.state new.state (durable, freed) gives in
          let is_left : new ≡ with_home old ticket.block home new.state =
          next ∙ ap (λ (k : KernelValue L). with_home k ticket.block home new.state) w.away ∙ ap (λ lanes. record old { lanes = lanes; state = new.state }) (set_twice old.lanes ticket.block None (Some home)) in (
            λ some. subst (λ k. Round bytes faults writes syncs reads old k) (sym is_left) (ends_well home read kept durable freed new.state settles some),
            λ none. subst (λ k. Unwritten bytes faults writes syncs reads old k) (sym is_left) (ends_unwritten home read kept durable freed new.state settles none),
          )
