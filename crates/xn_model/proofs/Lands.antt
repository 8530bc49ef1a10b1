-- What events of a world keep, where the calls of its state keep it.
use Rattle.std.proofs.Common.{[], ◌∷◌, zero, suc, ◌≡◌, ◌⊎◌, ℕ, ◌<◌, Bool, true, false, cond, List, length, Option, Some, None, refl, sym, ◌∙◌, ap, inl, inr, subst, take, arith}
use Rattle.std.specs.Prelude.{slice_set, Result, Ok, Err, option_map, is_some, unwrap_or}
use Rattle.std.specs.List.{last_or}
use Rattle.std.proofs.lemmas.Bool.{cases_eq, cases_lt, cond_both}
use Rattle.std.proofs.lemmas.Option.{same_Some, none-some}
use Rattle.std.proofs.lemmas.List.{get_or-set_same, get_or-set_other, length-set, get_or_past}
use Rattle.std.proofs.lemmas.List.FromFn.{get_or-map-range_with_len, length-map-range_with_len}
use Rattle.xn_model.specs.Lists.{has_number}
use Rattle.xn_model.specs.Images.{block_of}
use Rattle.xn_model.specs.Lives.{BlockState, Life, StoreState, life_at, first_states, bytes_of}
use Rattle.xn_model.specs.Results.{Refusal, NotSynced}
use Rattle.xn_model.specs.Flights.{flight_of, HaveSameFlights}
use Rattle.xn_model.specs.Calls.{types_of, begun_of, settled_of, bytes_at}
use Rattle.xn_model.specs.Worlds.{World, types_now, Reply, Begun, Landed, Fault, Finished, reply_and_world, begin, begun_count, begun_bytes, with_ticket, on_ticket, land, fail, sync, fail_sync, finish, read_back, write, settle_bytes, given_at, MayLeave, left_at, left, Synced, Refused}
use Rattle.xn_model.specs.Rules.{IsConsistent, Keeps, IsHeldOnDisk, ArePlaced, Holds}
use Rattle.xn_model.proofs.Lives.{in_lives}
use Rattle.xn_model.proofs.Begin.{begun_keeps}
use Rattle.xn_model.proofs.Writes.{begun_last}
use Rattle.xn_model.proofs.Ends.{settled_keeps}
use Rattle.xn_model.proofs.Tests.{none_from}
use Rattle.xn_model.proofs.Flights.{flight_count, flight_bytes, begun_idle, flights_begun, flights_settled}

pub told_keeps : {A : Type 0} (P : World → Type 0) (reply : A → Reply) (w : World) (r : Result (A × StoreState) Refusal) → P w → ((given : A × StoreState) → r ≡ Ok given → P (record w { state = given.1 })) → P (reply_and_world reply w r).1
told_keeps P reply w (Ok given) p q = q given refl
told_keeps P reply w (Err refusal) p q = p

-- a new state of which the same disk keeps the rules
pub next_fits : (w : World) → Holds w → (new : StoreState) → IsConsistent (types_of w.language new.lives) new → length new.lives ≡ length w.state.lives →
    ((content : ℕ → List ℕ) → ArePlaced content w.state.lives → ArePlaced content new.lives) → HaveSameFlights w.state.lives new.lives → Holds (record w { state = new })
next_fits w h new consistent count placed flights = record {
  state = consistent;
  count = h.count ∙ sym count;
  settled_count = h.settled_count ∙ sym count;
  given_count = h.given_count ∙ sym count;
  placed = placed (block_of w.settled) h.placed;
  newest = h.newest;
  unsynced = λ b bytes e. let f = h.unsynced b bytes e in (f.0, flights b ∙ f.1);
}

pub next_holds : (w : World) → Holds w → (new : StoreState) → Keeps (types_now w) w.state new → HaveSameFlights w.state.lives new.lives → Holds (record w { state = new })
next_holds w h new k flights = next_fits w h new (subst (λ T. IsConsistent T new) (sym (k.types w.language)) k.consistent) k.count k.placed flights

-- What a crash may leave

place_same : (v content : ℕ → List ℕ) (b : ℕ) (l : Life) (s : BlockState) → v b ≡ content b → IsHeldOnDisk content b l s → IsHeldOnDisk v b l s
place_same v content b l s e p = elim p [ inl x ↦ inl (e ∙ x) | inr y ↦ inr (y.0, y.1, e ∙ y.2) ]

-- it fits the lives
pub left_placed : (w : World) → Holds w → (image : List (List ℕ)) → MayLeave w image → ArePlaced (block_of image) w.state.lives
left_placed w h image m c l s e d = elim (m.1 c) [
  | inl settled ↦ place_same (block_of image) (block_of w.settled) c l s settled (h.placed c l s e d)
  | inr given ↦
      let f = h.unsynced c (block_of image c) given in
      let begun : l.begun ≡ Some f.0 = sym (ap begun_count e) ∙ flight_count (life_at w.state.lives c) f.0 (block_of image c) f.1 in
      let t = begun_last l f.0 (h.state.linked c l e).flight begun in
      let last : last_or None (take f.0 l.pending) ≡ Some t.0 = ap (λ o. last_or None (first_states o l.pending)) (sym begun) ∙ t.1 in
      inr (t.0, t.1, sym (flight_bytes (life_at w.state.lives c) f.0 (block_of image c) f.1) ∙ (ap (begun_bytes f.0) e ∙ ap bytes_of last))
]

-- what it leaves that keeps some open writes and no others
pub left_may : (w : World) → Holds w → (kept : List ℕ) → MayLeave w (left w kept)
left_may w h kept = (
  length-map-range_with_len (left_at w kept) 0 (length w.image),
  λ b. elim (cases_lt b (length w.image)) [
    | inl lt ↦
        let is : block_of (left w kept) b ≡ left_at w kept b = get_or-map-range_with_len (left_at w kept) 0 (length w.image) b b [] lt (omega arith) in
        subst (λ m. (m ≡ block_of w.settled b) ⊎ (given_at w.given b ≡ Some m)) (sym is)
        (cond_both (has_number kept b) (unwrap_or (given_at w.given b) (block_of w.settled b)) (block_of w.settled b) (λ m. (m ≡ block_of w.settled b) ⊎ (given_at w.given b ≡ Some m)) (λ t. kept_at (given_at w.given b) (block_of w.settled b)) (λ f. inl refl))
    | inr past ↦
        let count = length-map-range_with_len (left_at w kept) 0 (length w.image) in
        let same = h.count in
        let settled = h.settled_count in
        inl (get_or_past (left w kept) b [] (omega arith) ∙ sym (get_or_past w.settled b [] (omega arith)))
  ],
)
  where
    kept_at : (o : Option (List ℕ)) (m : List ℕ) → (unwrap_or o m ≡ m) ⊎ (o ≡ Some (unwrap_or o m))
    kept_at None m = inl refl
    kept_at (Some x) m = inr refl

-- no write is open after a sync
pub none_given_at : (given : List (Option (List ℕ))) (b : ℕ) → given_at (slice_set given b None) b ≡ None
none_given_at [] b = refl
none_given_at (o ∷ given) zero = refl
none_given_at (o ∷ given) (suc b) = none_given_at given b

-- with no open write the settled bytes are the newest
pub none_open : (w : World) → Holds w → (b : ℕ) → given_at w.given b ≡ None → block_of w.settled b ≡ block_of w.image b
none_open w h b none = elim (h.newest.1 b) [ inl same ↦ sym same | inr some ↦ absurd (none-some (block_of w.image b) (sym none ∙ some)) ]

-- and none is open where none is under way
pub idle_rests : (w : World) → Holds w → (b : ℕ) → flight_of (life_at w.state.lives b) ≡ None → (given_at w.given b ≡ None) × (block_of w.settled b ≡ block_of w.image b)
idle_rests w h b idle = (none, none_open w h b none)
  where
    go : (o : Option (List ℕ)) → given_at w.given b ≡ o → o ≡ None
    go None e = refl
    go (Some bytes) e = let f = h.unsynced b bytes e in absurd (none-some (f.0, bytes) (sym idle ∙ f.1))

    none : given_at w.given b ≡ None
    none = go (given_at w.given b) refl

-- Tickets

ticket_from : (o : Option Life) (k : ℕ) → begun_count o ≡ Some k → (l : Life) × (o ≡ Some l) × (l.begun ≡ Some k)
ticket_from None k e = absurd (none-some k e)
ticket_from (Some l) k e = (l, refl, e)

with_ticket_keeps : (P : World → Type 0) (w : World) (o : Option ℕ) (go : ℕ → Reply × World) → P w → ((k : ℕ) → o ≡ Some k → P (go k).1) → P (with_ticket w o go).1
with_ticket_keeps P w None go p q = p
with_ticket_keeps P w (Some k) go p q = q k refl

pub on_ticket_keeps : (P : World → Type 0) (w : World) (b : ℕ) (go : ℕ → Reply × World) → P w → ((l : Life) (k : ℕ) → life_at w.state.lives b ≡ Some l → l.begun ≡ Some k → P (go k).1) → P (on_ticket w b go).1
on_ticket_keeps P w b go p q = with_ticket_keeps P w (begun_count (life_at w.state.lives b)) go p (λ k e. let r = ticket_from (life_at w.state.lives b) k e in q r.0 k r.1 r.2)

-- The block write

module _ (w : World) (h : Holds w) (b : ℕ) (l : Life) (alive : life_at w.state.lives b ≡ Some l) (k : ℕ) (begun : l.begun ≡ Some k) where
  abbrev bytes : List ℕ
  bytes = begun_bytes k (life_at w.state.lives b)

  within : b < length w.state.lives
  within = in_lives w.state.lives b l alive

  carries : flight_of (life_at w.state.lives b) ≡ Some (k, bytes)
  carries = ap flight_of alive ∙ (ap (option_map (λ j. (j, bytes_at j l))) begun ∙ ap (λ o. Some (k, begun_bytes k o)) (sym alive))

  given_here : given_at (slice_set w.given b (Some bytes)) b ≡ Some bytes
  given_here = get_or-set_same w.given b (Some bytes) None (subst (λ n. b < n) (sym h.given_count) within)

  newest_written : (stays : Bool) (c : ℕ) → (block_of (write w b k stays).image c ≡ block_of w.settled c) ⊎ (given_at (write w b k stays).given c ≡ Some (block_of (write w b k stays).image c))
  newest_written true c = elim (cases_eq c b) [
    | inl same ↦
        let there : block_of (slice_set w.image b bytes) b ≡ bytes = get_or-set_same w.image b bytes [] (subst (λ n. b < n) (sym h.count) within) in
        let here : given_at (slice_set w.given b (Some bytes)) b ≡ Some (block_of (slice_set w.image b bytes) b) = given_here ∙ ap Some (sym there) in
        inr (subst (λ x. given_at (slice_set w.given b (Some bytes)) x ≡ Some (block_of (slice_set w.image b bytes) x)) (sym same) here)
    | inr other ↦
        let there : block_of (slice_set w.image b bytes) c ≡ block_of w.image c = get_or-set_other w.image b c bytes [] other in
        elim (h.newest.1 c) [
          | inl x ↦ inl (there ∙ x)
          | inr y ↦ inr (get_or-set_other w.given b c (Some bytes) None other ∙ (y ∙ ap Some (sym there)))
        ]
  ]
  newest_written false c = elim (h.newest.1 c) [
    | inl x ↦ inl x
    | inr y ↦ elim (cases_eq c b) [
      | inl same ↦
          let was : given_at w.given b ≡ Some (block_of w.image b) = subst (λ x. given_at w.given x ≡ Some (block_of w.image x)) same y in
          let f = h.unsynced b (block_of w.image b) was in
          let here : bytes ≡ block_of w.image b = ap (λ (p : ℕ × List ℕ). p.1) (same_Some (k, bytes) (f.0, block_of w.image b) (sym carries ∙ f.1)) in
          inr (subst (λ x. given_at (slice_set w.given b (Some bytes)) x ≡ Some (block_of w.image x)) (sym same) (given_here ∙ ap Some here))
      | inr other ↦ inr (get_or-set_other w.given b c (Some bytes) None other ∙ y)
    ]
  ]

  image_count : (stays : Bool) → length (write w b k stays).image ≡ length w.image
  image_count true = length-set w.image b bytes
  image_count false = refl

  pub written_keeps : (stays : Bool) → Holds (write w b k stays)
  written_keeps stays = record {
    state = h.state;
    count = image_count stays ∙ h.count;
    settled_count = h.settled_count;
    given_count = length-set w.given b (Some bytes) ∙ h.given_count;
    placed = h.placed;
    newest = (refl, newest_written stays);
    unsynced = λ c m e. elim (cases_eq c b) [
      | inl same ↦
          let is : bytes ≡ m = same_Some bytes m (sym given_here ∙ (ap (given_at (slice_set w.given b (Some bytes))) (sym same) ∙ e)) in
          (k, ap (λ x. flight_of (life_at w.state.lives x)) same ∙ (carries ∙ ap (λ x. Some (k, x)) is))
      | inr other ↦ h.unsynced c m (sym (get_or-set_other w.given b c (Some bytes) None other) ∙ e)
    ];
  }

  -- The sync
  settled_here : block_of (slice_set w.settled b (block_of w.image b)) b ≡ block_of w.image b
  settled_here = get_or-set_same w.settled b (block_of w.image b) [] (subst (λ n. b < n) (sym h.settled_count) within)

  pub synced_keeps : Holds (settle_bytes w b)
  synced_keeps = record {
    state = h.state;
    count = h.count;
    settled_count = length-set w.settled b (block_of w.image b) ∙ h.settled_count;
    given_count = length-set w.given b None ∙ h.given_count;
    placed = λ c m s e d. elim (cases_eq c b) [
      | inl same ↦ place_same (block_of (settle_bytes w b).settled) (block_of w.image) c m s
          (subst (λ x. block_of (settle_bytes w b).settled x ≡ block_of w.image x) (sym same) settled_here) (left_placed w h w.image h.newest c m s e d)
      | inr other ↦ place_same (block_of (settle_bytes w b).settled) (block_of w.settled) c m s (get_or-set_other w.settled b c (block_of w.image b) [] other) (h.placed c m s e d)
    ];
    newest = (
      refl,
      λ c. elim (cases_eq c b) [
        | inl same ↦ inl (subst (λ x. block_of w.image x ≡ block_of (settle_bytes w b).settled x) (sym same) (sym settled_here))
        | inr other ↦ elim (h.newest.1 c) [
          | inl x ↦ inl (x ∙ sym (get_or-set_other w.settled b c (block_of w.image b) [] other))
          | inr y ↦ inr (get_or-set_other w.given b c None None other ∙ y)
        ]
      ],
    );
    unsynced = λ c m e. elim (cases_eq c b) [
      | inl same ↦ absurd (none-some m (sym (none_given_at w.given b) ∙ (ap (given_at (slice_set w.given b None)) (sym same) ∙ e)))
      | inr other ↦ h.unsynced c m (sym (get_or-set_other w.given b c None None other) ∙ e)
    ];
  }

pub land_keeps : (w : World) → Holds w → (b : ℕ) → Holds (land w b).1
land_keeps w h b = on_ticket_keeps Holds w b (λ k. (Landed, write w b k true)) h (λ l k e f. written_keeps w h b l e k f true)

pub fail_keeps : (w : World) → Holds w → (b : ℕ) (stays : Bool) → Holds (fail w b stays).1
fail_keeps w h b stays = on_ticket_keeps Holds w b (λ k. (Fault, write w b k stays)) h (λ l k e f. written_keeps w h b l e k f stays)

pub sync_keeps : (w : World) → Holds w → (b : ℕ) → Holds (sync w b).1
sync_keeps w h b = on_ticket_keeps Holds w b (λ k. (Synced, settle_bytes w b)) h (λ l k e f. synced_keeps w h b l e k f)

pub fail_sync_keeps : (w : World) → Holds w → (b : ℕ) → Holds (fail_sync w b).1
fail_sync_keeps w h b = on_ticket_keeps Holds w b (λ k. (Fault, w)) h (λ l k e f. h)

pub begin_keeps : (w : World) → Holds w → (b : ℕ) → Holds (begin w b).1
begin_keeps w h b = told_keeps Holds (λ begun. Begun begun.1) w (begun_of w.state b) h (λ given e.
    let k = begun_keeps (types_now w) w.state h.state b given.0 given.1 e in
    record {
      state = subst (λ T. IsConsistent T given.1) (sym (k.types w.language)) k.consistent;
      count = h.count ∙ sym k.count;
      settled_count = h.settled_count ∙ sym k.count;
      given_count = h.given_count ∙ sym k.count;
      placed = k.placed (block_of w.settled) h.placed;
      newest = h.newest;
      unsynced = λ c bytes g. let f = h.unsynced c bytes g in elim (cases_eq c b) [
        | inl same ↦ absurd (none-some (f.0, bytes) (sym (begun_idle w.state given.1 b given.0 e) ∙ (ap (λ x. flight_of (life_at w.state.lives x)) (sym same) ∙ f.1)))
        | inr other ↦ (f.0, (flights_begun w.state given.1 b given.0 e).1 c other ∙ f.1)
      ];
    })

read_back_keeps : (w : World) → Holds w → (b : ℕ) → given_at w.given b ≡ None → Holds (read_back w b).1
read_back_keeps w h b none = told_keeps Holds (λ done. Finished done.0 done.1) w (settled_of w.state b (block_of w.image b)) h (λ given g.
    let r = settled_keeps (types_now w) w.state h.state b (block_of w.image b) given.0 given.1 g in
    record {
      state = subst (λ T. IsConsistent T given.1) (sym (r.2 w.language)) r.0;
      count = h.count ∙ sym r.1;
      settled_count = h.settled_count ∙ sym r.1;
      given_count = h.given_count ∙ sym r.1;
      placed = r.4 (block_of w.settled) h.placed (none_open w h b none);
      newest = h.newest;
      unsynced = λ c bytes e. let f = h.unsynced c bytes e in elim (cases_eq c b) [
        | inl same ↦ absurd (none-some bytes (sym none ∙ (ap (given_at w.given) (sym same) ∙ e)))
        | inr other ↦ (f.0, (flights_settled (types_now w) w.state given.1 b (block_of w.image b) given.0 h.state g).1 c other ∙ f.1)
      ];
    })

pub finish_keeps : (w : World) → Holds w → (b : ℕ) → Holds (finish w b).1
finish_keeps w h b = on_ticket_keeps Holds w b (λ k. cond (is_some (given_at w.given b)) (Refused NotSynced, w) (read_back w b)) h
    (λ l k e f. cond_both {A = Reply × World} (is_some (given_at w.given b)) (Refused NotSynced, w) (read_back w b) (λ x. Holds x.1) (λ t. h) (λ none. read_back_keeps w h b (none_from (given_at w.given b) none)))
