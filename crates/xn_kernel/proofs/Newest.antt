-- What a flush does to the state alone, and what stays over it.
use Rattle.std.proofs.Common.{◌≡◌, ℕ, zero, suc, Bool, true, false, cond, List, [], ◌∷◌, take, drop, Option, Some, None, Result, Ok, refl, sym, ◌∙◌, ap, inl, inr, subst, slice_get, arith}
use Rattle.std.specs.Prelude.{Contains, IfSome, IsTrue, option_map, ◌==◌}
use Rattle.std.specs.List.{last_or}
use Rattle.std.proofs.lemmas.Bool.{false≢true}
use Rattle.std.proofs.lemmas.List.{nil_from_length}
use Rattle.std.proofs.lemmas.Option.{same_Some, none-some}
use Rattle.disk.specs.declared.lane.DeviceFault.{DeviceFault}
use Rattle.xn_model.specs.Lists.{has_number}
use Rattle.xn_model.specs.Types.{Types}
use Rattle.store_types.specs.declared.refusal.Refusal.{Refusal}
use Rattle.store_types.specs.declared.refusal.Refusal.TheVariants.{InFlight, Device, NoMemory}
use Rattle.xn_model.specs.Lives.{BlockState, Life, Lives, StoreState, begun_at, bytes_of, current, drops_of, durable_after, freed, is_dropped, life_at, settled_at}
use Rattle.xn_model.specs.Calls.{begun_of, begun_place, first_pending, life_pending, settled_after, settled_of, settled_place}
use Rattle.xn_model.specs.Rules.{IsConsistent, IsIdle}
use Rattle.xn_model.specs.Worlds.{all_pending}
use Rattle.templates.specs.Language.{language}
use Rattle.xn_state.specs.States.{own_types}
use Rattle.xn_model.proofs.ForCallers.{Contains-take, bared, begun_is, begun_keeps, drops_at, each, each_at, free, free_at, has_number_at, map_ok, settled, settled_is, settled_keeps, settled_last, settles_place, with_begun}
use Rattle.xn_kernel.specs.Kernels.{IsKernel, KernelValue, TicketValue}
use Rattle.xn_kernel.specs.Drains.{Reads, WriteRelation}
use Rattle.xn_kernel.specs.Flushes.{FlushRefuses, Wave, Waves, WriteEnds, kernel_with_begun, wave_room}
use Rattle.xn_kernel.specs.FlushedStates.{EndsWrite, GoesOn, KeepsNewest, MayHold, StateRefuses, StateWave, StateWaves}
use Rattle.xn_kernel.proofs.Homes.{home}
use Rattle.xn_kernel.proofs.Draining.{fits_at}

-- A block goes on

goes_itself : (o : Option Life) → GoesOn o o
goes_itself None = refl
goes_itself (Some l) = (refl, refl, refl, refl)

goes_then : (a b c : Option Life) → GoesOn a b → GoesOn b c → GoesOn a c
goes_then None b c e f = subst (λ o. GoesOn o c) e f
goes_then (Some l) None c e f = subst (GoesOn (Some l)) (sym f) e
goes_then (Some l) (Some m) None e f = subst (λ s. IsTrue (is_dropped s)) e.2 f
goes_then (Some l) (Some m) (Some n) e f = (f.0 ∙ e.0, f.1 ∙ e.1, f.2 ∙ e.2, f.3 ∙ e.3)

goes_begun : (b k c : ℕ) (o : Option Life) → GoesOn o (option_map (with_begun b (Some k) c) o)
goes_begun b k c None = refl
goes_begun b k c (Some l) = (refl, refl, refl, refl)

bare_bytes : (o : Option BlockState) (xs : List BlockState) → bytes_of (last_or (durable_after o) xs) ≡ bytes_of (last_or o xs)
bare_bytes None xs = refl
bare_bytes (Some s) [] = refl
bare_bytes (Some s) (x ∷ xs) = refl

settled_bytes : (t : Bool) (k : ℕ) (d : Option BlockState) (xs : List BlockState) →
    bytes_of (last_or (cond t (durable_after (cond t (last_or d (take k xs)) d)) (cond t (last_or d (take k xs)) d)) (cond t (drop k xs) xs)) ≡ bytes_of (last_or d xs)
settled_bytes true k d xs = bare_bytes (last_or d (take k xs)) (drop k xs) ∙ ap bytes_of (settled_last d k xs)
settled_bytes false k d xs = refl

goes_settled : (b k c : ℕ) (t : Bool) (o : Option Life) → ((l : Life) → t ≡ true → o ≡ Some l → IsTrue (is_dropped l.status)) →
    GoesOn o (option_map (bared b c) (cond t None (option_map (settled b k c) o)))
goes_settled b k c true None dropped = refl
goes_settled b k c false None dropped = refl
goes_settled b k c true (Some l) dropped = dropped l refl refl
goes_settled b k c false (Some l) dropped = (refl, refl, refl, settled_bytes (c == b) k l.durable l.pending)

begun_life : (lives : Lives) (b k c : ℕ) → option_map (with_begun b (Some k) c) (life_at lives c) ≡ life_at (begun_at lives b k) c
begun_life lives b k c = sym (each_at (with_begun b (Some k)) lives c) ∙ ap (λ ls. life_at ls c) (sym (begun_is lives b k))

settled_life : (lives : Lives) (b k : ℕ) (drops : List ℕ) (c : ℕ) →
    option_map (bared b c) (cond (has_number drops c) None (option_map (settled b k c) (life_at lives c))) ≡ life_at (freed (settled_at lives b k) drops) c
settled_life lives b k drops c =
    ap (λ o. option_map (bared b c) (cond (has_number drops c) None o)) (sym (each_at (settled b k) lives c))
    ∙ (ap (option_map (bared b c)) (sym (free_at drops (each (settled b k) lives) c))
    ∙ (sym (each_at (bared b) (free drops (each (settled b k) lives)) c) ∙ ap (λ ls. life_at ls c) (sym (settled_is lives b k drops))))

-- Steps of a state keep its rules, the meaning of its types and the newest bytes

module _ (T : Types) where
  pub record Goes (old new : StoreState) : Type 0 where
    pub rules : IsConsistent T new
    pub types : own_types new ≡ own_types old
    pub newest : KeepsNewest old.lives new.lives

  stays : (state : StoreState) → IsConsistent T state → Goes state state
  stays state rules = record { rules = rules; types = refl; newest = λ b. goes_itself (life_at state.lives b) }

  then_goes : (a b c : StoreState) → Goes a b → Goes b c → Goes a c
  then_goes a b c f g = record {
    rules = g.rules;
    types = g.types ∙ f.types;
    newest = λ x. goes_then (life_at a.lives x) (life_at b.lives x) (life_at c.lives x) (f.newest x) (g.newest x);
  }

  begun_goes : (old new : StoreState) (b : ℕ) (given : List ℕ × ℕ) → IsConsistent T old → begun_of old b ≡ Ok (given, new) → Goes old new
  begun_goes old new b given rules e =
      let k = begun_keeps T old rules b given new e in
      record { rules = k.consistent; types = k.types language; newest = at }
    where
      at : KeepsNewest old.lives new.lives
      at c =
          let m = map_ok (λ (x : List ℕ × ℕ). (x, record old { lives = begun_at old.lives b x.1 })) (begun_place old.lives (slice_get old.lives b)) (given, new) e in
          let now : begun_at old.lives b m.0.1 ≡ new.lives = ap (λ (x : (List ℕ × ℕ) × StoreState). x.1.lives) m.2 in
          subst (GoesOn (life_at old.lives c)) (begun_life old.lives b m.0.1 c ∙ ap (λ ls. life_at ls c) now) (goes_begun b m.0.1 c (life_at old.lives c))

  settled_goes : (old new : StoreState) (b : ℕ) (bytes : List ℕ) (done : ℕ × ℕ) → IsConsistent T old → settled_of old b bytes ≡ Ok (done, new) → Goes old new
  settled_goes old new b bytes done rules e =
      let k = settled_keeps T old rules b bytes done new e in
      record { rules = k.0; types = k.2 language; newest = at }
    where
      at : KeepsNewest old.lives new.lives
      at c =
          let m = map_ok (settled_after old b) (settled_place bytes (slice_get old.lives b)) (done, new) e in
          let s = settles_place old.lives b bytes (slice_get old.lives b) m.0 refl m.1 in
          let drops : List ℕ = drops_of (first_pending m.0 (life_at old.lives b)) in
          let now : freed (settled_at old.lives b m.0) drops ≡ new.lives = ap (λ (x : (ℕ × ℕ) × StoreState). x.1.lives) m.2 in
          let dropped : (l : Life) → has_number drops c ≡ true → life_at old.lives c ≡ Some l → IsTrue (is_dropped l.status) = λ l t alive.
          let states : first_pending m.0 (life_at old.lives b) ≡ take m.0 s.life.pending = ap (first_pending m.0) s.alive in
          let in' : Contains (drops_of (take m.0 s.life.pending)) c = subst (λ xs. Contains (drops_of xs) c) states (has_number_at drops c t) in
          let of = drops_at (take m.0 s.life.pending) c in' in
          let d = (rules.linked b s.life s.alive).dropped of.0 c (Contains-take m.0 s.life.pending of.0 of.1) of.2 in
          ap is_dropped (ap (λ (x : Life). x.status) (same_Some l d.life (sym alive ∙ d.alive)) ∙ d.holds) in
          subst (GoesOn (life_at old.lives c)) (settled_life old.lives b m.0 drops c ∙ ap (λ ls. life_at ls c) now)
          (goes_settled b m.0 c (has_number drops c) (life_at old.lives c) dropped)

  ends_goes : (old new : StoreState) (b : ℕ) (given : List ℕ × ℕ) (is_durable : Bool) → IsConsistent T old → EndsWrite b given is_durable old new → Goes old new
  ends_goes old new b given true rules e = settled_goes old new b given.0 (given.1, e.0) rules e.1
  ends_goes old new b given false rules e = elim e [
    | inl p ↦ settled_goes old new b p.0 (0, 0) rules p.1
    | inr same ↦ subst (Goes old) (sym same) (stays old rules)
  ]

  wave_goes : (n room durable : ℕ) (old new : StoreState) → IsConsistent T old → StateWave n room durable old new → Goes old new
  wave_goes zero room durable old new rules w = subst (Goes old) (sym w.1) (stays old rules)
  wave_goes (suc n) room durable old new rules w =
      let first = begun_goes old w.begun w.block w.given rules w.begins in
      let others = wave_goes n w.left w.others w.begun w.mid first.rules w.rest in
      then_goes old w.begun new first (then_goes w.begun w.mid new others (ends_goes w.mid new w.block w.given w.is_durable others.rules w.ends))

  pub waves_go : (n : ℕ) (old new : StoreState) → IsConsistent T old → StateWaves n old new → Goes old new
  waves_go zero old new rules e = subst (Goes old) (sym e) (stays old rules)
  waves_go (suc n) old new rules w =
      let first = wave_goes w.1.0 wave_room w.1.0 old w.0 rules w.1.2 in
      then_goes old w.0 new first (waves_go n w.0 new first.rules w.2)

  pub refused_goes : (old new : StoreState) (refusal : Refusal) → IsConsistent T old → StateRefuses old refusal new → Goes old new
  refused_goes old new InFlight rules r = subst (Goes old) (sym r.1) (stays old rules)
  refused_goes old new NoMemory rules r = subst (Goes old) (sym r.1) (stays old rules)
  refused_goes old new Device rules r =
      let first = waves_go r.1.0 old r.1.1 rules r.1.2 in
      then_goes old r.1.1 new first (wave_goes r.1.3.0 wave_room r.1.3.1 r.1.1 new first.rules r.1.3.3)
  refused_goes old new _ rules r = absurd r

-- Where as much as nothing is pending of all blocks together, nothing is of each

pub nothing_left : (lives : Lives) → all_pending lives ≡ 0 → (b : ℕ) (l : Life) → life_at lives b ≡ Some l → l.pending ≡ []
nothing_left [] e b l at = absurd (none-some l at)
nothing_left (o ∷ os) e zero l at =
    let here : life_pending (Some l) ≡ 0 = ap life_pending (sym at) ∙ (omega arith) in
    nil_from_length l.pending here
nothing_left (o ∷ os) e (suc b) l at = nothing_left os (omega arith) b l at

-- A kernel's waves are waves of its state

module _ {L : Type 0} (bytes : L → List ℕ) (faults : L → ℕ) (writes : WriteRelation L) (syncs reads : Reads L) where
  ends_state : (answer : Result (Unit {0}) DeviceFault) (home : L) (ticket : TicketValue L) (old : KernelValue L) (before : List (TicketValue L)) (is_durable : Bool)
      (new : KernelValue L) (after : List (TicketValue L)) → WriteEnds bytes faults syncs reads answer home ticket old before is_durable new after →
      EndsWrite ticket.block (ticket.bytes, ticket.count) is_durable old.state new.state
  ends_state answer home ticket old before true new after e =
      subst (λ (k : KernelValue L). EndsWrite ticket.block (ticket.bytes, ticket.count) true old.state k.state) (sym e.0.next) (e.0.freed, e.0.settles)
  ends_state answer home ticket old before false new after e = elim e [
    | inl p ↦ subst (λ (k : KernelValue L). EndsWrite ticket.block (ticket.bytes, ticket.count) false old.state k.state) (sym p.0.next)
        (inl (bytes p.0.settled, p.0.settles))
    | inr p ↦ inr (ap (λ (k : KernelValue L). k.state) p.2)
  ]

  wave_state : (n room durable : ℕ) (old : KernelValue L) (before : List (TicketValue L)) (new : KernelValue L) (after : List (TicketValue L)) →
      Wave bytes faults writes syncs reads n room durable old before new after → StateWave n room durable old.state new.state
  wave_state zero room durable old before new after w = (w.0, ap (λ (k : KernelValue L). k.state) w.1, w.3)
  wave_state (suc n) room durable old before new after w = record {
    block = w.ticket.block;
    picked = w.written.picked;
    given = (w.ticket.bytes, w.ticket.count);
    begun = w.begun;
    begins = w.written.begins;
    left = w.left;
    room_is = w.room_is;
    others = w.others;
    mid = w.mid.state;
    rest = wave_state n w.left w.others (kernel_with_begun old w.ticket.block w.begun) before w.mid w.between w.rest;
    is_durable = w.is_durable;
    ends = ends_state w.answer w.written.home w.ticket w.mid w.between w.is_durable new after w.ends;
    counts = w.counts;
  }

  pub waves_of_state : (n : ℕ) (old new : KernelValue L) → Waves bytes faults writes syncs reads n old new → StateWaves n old.state new.state
  waves_of_state zero old new e = ap (λ (k : KernelValue L). k.state) e
  waves_of_state (suc n) old new w =
      (w.0.state, (w.1.blocks, w.1.some, wave_state w.1.blocks wave_room w.1.blocks old [] w.0 [] w.1.wave), waves_of_state n w.0 new w.2)

  pub refused_state : (old new : KernelValue L) (n : ℕ) (tickets : List (TicketValue L)) (refusal : Refusal) →
      FlushRefuses bytes faults writes syncs reads old n tickets refusal new → StateRefuses old.state refusal new.state
  refused_state old new n tickets refusal s = elim s [
    | inl busy ↦ subst (λ r. StateRefuses old.state r new.state) (sym busy.3) (busy.0, ap (λ (k : KernelValue L). k.state) busy.4)
    | inr idle ↦ elim idle.1 [
      | inl want ↦ subst (λ r. StateRefuses old.state r new.state) (sym want.2) (idle.0, ap (λ (k : KernelValue L). k.state) want.3)
      | inr r ↦ subst (λ x. StateRefuses old.state x new.state) (sym r.3)
          (idle.0, (n, r.0.state, waves_of_state n old r.0 r.1, (r.2.blocks, r.2.durable, r.2.fewer, wave_state r.2.blocks wave_room r.2.durable r.0 [] new tickets r.2.wave)))
    ]
  ]

  -- What a flush told durable stands in every image

  -- with nothing under way or pending each image has the newest bytes of each block in use
  stands_now : (crash : L → List ℕ → Type 0) (kernel : KernelValue L) → IsKernel bytes crash kernel.lanes kernel.state → IsIdle kernel.state.lives →
      all_pending kernel.state.lives ≡ 0 → (image : ℕ → List ℕ) → MayHold crash kernel.lanes image →
      (b : ℕ) (l : Life) → life_at kernel.state.lives b ≡ Some l → image b ≡ current l
  stands_now crash kernel is idle none image left b l alive =
      let here = home bytes kernel.lanes kernel.state.lives b l is.fit alive (idle b l alive) in
      let linked = is.rules.linked b l alive in
      let durable : l.durable ≡ Some linked.last = sym (ap (last_or l.durable) (nothing_left kernel.state.lives none b l alive)) ∙ linked.is_last in
      let fits : IfSome l.durable (λ s. bytes here.0 ≡ s.bytes) = fits_at bytes kernel.lanes kernel.state.lives b here.0 l is.fit here.1 alive in
      is.synced b here.0 here.1 (image b) (left b here.0 here.1)
      ∙ (subst (λ o. IfSome o (λ s. bytes here.0 ≡ s.bytes)) durable fits ∙ sym (ap bytes_of linked.is_last))

  pub stands : (crash : L → List ℕ → Type 0) (T : Types) (waves : ℕ) (old new : KernelValue L) → IsConsistent T old.state →
      Waves bytes faults writes syncs reads waves old new → IsKernel bytes crash new.lanes new.state → IsIdle new.state.lives → all_pending new.state.lives ≡ 0 →
      (image : ℕ → List ℕ) → MayHold crash new.lanes image → (b : ℕ) (l : Life) → life_at old.state.lives b ≡ Some l → is_dropped l.status ≡ false → image b ≡ current l
  stands crash T waves old new rules w is idle none image left b l alive not_dropped =
      go (life_at new.state.lives b) refl (subst (λ o. GoesOn o (life_at new.state.lives b)) alive ((waves_go T waves old.state new.state rules (waves_of_state waves old new w)).newest b))
    where
      go : (o : Option Life) → life_at new.state.lives b ≡ o → GoesOn (Some l) o → image b ≡ current l
      go None e dropped = absurd (false≢true (sym not_dropped ∙ dropped))
      go (Some m) e same = stands_now crash new is idle none image left b m e ∙ same.3
