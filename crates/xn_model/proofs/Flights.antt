-- Calls leave the writes that are under way as they are.
use Rattle.std.proofs.Common.{◌≡◌, ℕ, ◌+◌, ◌≤◌, ◌<◌, Bool, true, false, cond, List, [], ◌∷◌, ◌++◌, length, take, Option, Some, None, Result, Ok, refl, sym, ◌∙◌, ap, inl, inr, subst, slice_get, slice_set}
use Rattle.std.specs.Prelude.{option_map, ◌==◌, is_some}
use Rattle.std.specs.List.{last_or}
use Rattle.std.proofs.lemmas.Bool.{cases_eq}
use Rattle.std.proofs.lemmas.List.{take-append-le}
use Rattle.xn_model.specs.Lists.{has_number}
use Rattle.xn_model.specs.Types.{Types}
use Rattle.xn_model.specs.Languages.{Language}
use Rattle.xn_model.specs.Lives.{BlockState, Life, Lives, StoreState, life_at, bytes_of, lowest_free, prefix_of, accepted_at, begun_at, settle, settled_at, freed, drops_of}
use Rattle.xn_model.specs.Results.{Refusal, NoSuchBlock, NotInUse, InFlight, NothingSafe, NoSpace, first_refusal}
use Rattle.xn_model.specs.Calls.{Edit, accepts, install_of, types_of, started, catalogue_state, edited, new_life, bytes_at, init_at, init_refusal, init_of, propose_refusal, propose_at, propose_of, make_root_refusal, make_root_at, make_root_of, drop_root_refusal, drop_root_of, forget_of, root_state, slot_now, begun_of, begun_place, settled_of, settled_place, settled_after, settled_with, first_pending}
use Rattle.xn_model.specs.Rules.{IsConsistent, IsCount}
use Rattle.xn_model.specs.Flights.{flight_of, HaveSameFlights, HaveSameFlightsBut}
use Rattle.xn_model.proofs.Changes.{accepted}
use Rattle.xn_model.proofs.Lists.{has_number_at}
use Rattle.xn_model.proofs.Lives.{life_from, accepted_is, each_at, set_other, set_same, change_same, freed_at}
use Rattle.xn_model.specs.Worlds.{begun_count, begun_bytes}
use Rattle.std.proofs.lemmas.Option.{same_Some, none-some}
use Rattle.xn_model.proofs.Tests.{map_ok, given_ok, own_then, same_ok, never_ok, unless_ok, none_from}
use Rattle.xn_model.proofs.Init.{lowest_is}
use Rattle.xn_model.proofs.Install.{installed_is, begun_kept}
use Rattle.xn_model.proofs.Ends.{settles_place}
use Rattle.xn_model.proofs.Lanes.{ended_idle}
use Rattle.xn_model.proofs.LaneCalls.{forgets}

-- One more state

-- the count of a beginning, with the bytes that it leaves
abbrev first : List BlockState → ℕ → ℕ × List ℕ
first xs k = (k, bytes_of (last_or None (take k xs)))

flight_accepted : (b : ℕ) (s : BlockState) (c : ℕ) (l : Life) → IsCount l.begun (length l.pending) → flight_of (Some (accepted b s c l)) ≡ flight_of (Some l)
flight_accepted b s c l count = go (c == b) l.begun count
  where
    at : (t : Bool) (k : ℕ) → k ≤ length l.pending → take k (cond t (l.pending ++ s ∷ []) l.pending) ≡ take k l.pending
    at true k few = take-append-le k l.pending (s ∷ []) few
    at false k few = refl

    go : (t : Bool) (o : Option ℕ) → IsCount o (length l.pending) → option_map (first (cond t (l.pending ++ s ∷ []) l.pending)) o ≡ option_map (first l.pending) o
    go t None count = refl
    go t (Some k) count = ap (λ xs. Some (k, bytes_of (last_or None xs))) (at t k count.1)

flights_accepted : (T : Types) (state : StoreState) → IsConsistent T state → (b : ℕ) (s : BlockState) → HaveSameFlights state.lives (accepted_at state.lives b s)
flights_accepted T state h b s c = ap flight_of (ap (λ xs. life_at xs c) (accepted_is state.lives b s) ∙ each_at (accepted b s) state.lives c) ∙ go (life_at state.lives c) refl
  where
    go : (o : Option Life) → life_at state.lives c ≡ o → flight_of (option_map (accepted b s c) o) ≡ flight_of o
    go None e = refl
    go (Some l) e = flight_accepted b s c l (h.linked c l e).flight

module _ (T : Types) (state new : StoreState) (h : IsConsistent T state) where
  by_accepting : (b : ℕ) (s : BlockState) (entry : ℕ) → ◌≡◌ {A = Result (ℕ × StoreState) Refusal} (Ok (accepts state b s)) (Ok (entry, new)) → HaveSameFlights state.lives new.lives
  by_accepting b s entry e = subst (HaveSameFlights state.lives) (ap (λ (x : ℕ × StoreState). x.1.lives) (same_ok (accepts state b s) (entry, new) e)) (flights_accepted T state h b s)

  pub flights_propose : (fs b : ℕ) (e : Edit) (entry : ℕ) → propose_of T state fs b e ≡ Ok (entry, new) → HaveSameFlights state.lives new.lives
  flights_propose fs b e entry done =
      let own = own_then state fs b (propose_at T state fs b e) (entry, new) done in
      by_accepting b (edited state.next fs e own.0) entry (given_ok (propose_refusal T state fs b e own.0) (Ok (accepts state b (edited state.next fs e own.0))) (entry, new) own.2)

  pub flights_make_root : (fs b entry : ℕ) → make_root_of state fs b ≡ Ok (entry, new) → HaveSameFlights state.lives new.lives
  flights_make_root fs b entry done =
      let own = own_then state fs b (make_root_at state fs b) (entry, new) done in
      let next = root_state state fs (b, own.0.ty) ((b, own.0.ty) ∷ []) [] in
      by_accepting 0 next entry (given_ok (make_root_refusal state fs own.0) (Ok (accepts state 0 next)) (entry, new) own.2)

  pub flights_drop_root : (fs entry : ℕ) → drop_root_of T state fs ≡ Ok (entry, new) → HaveSameFlights state.lives new.lives
  flights_drop_root fs entry done =
      let next = root_state state fs (0, 0) [] ((slot_now state fs).0 ∷ []) in
      by_accepting 0 next entry (given_ok (drop_root_refusal T state fs) (Ok (accepts state 0 next)) (entry, new) done)

-- One more life

flights_start : (lives : Lives) (b : ℕ) (l : Life) → b < length lives → life_at lives b ≡ None → l.begun ≡ None → HaveSameFlights lives (slice_set lives b (Some l))
flights_start lives b l within free idle c = elim (cases_eq c b) [
  | inl same ↦ ap flight_of (ap (life_at (slice_set lives b (Some l))) same ∙ set_same lives b (Some l) within)
      ∙ (ap (option_map (λ k. (k, bytes_at k l))) idle ∙ sym (ap flight_of (ap (life_at lives) same ∙ free)))
  | inr other ↦ ap flight_of (set_other lives b c (Some l) other)
]

flights_at : (state new : StoreState) (fs t : ℕ) (bytes : List ℕ) (o : Option ℕ) (made : ℕ × ℕ) → lowest_free state.lives ≡ o → init_at state fs t bytes o ≡ Ok (made, new) → HaveSameFlights state.lives new.lives
flights_at state new fs t bytes None made at e = absurd (never_ok NoSpace (made, new) e)
flights_at state new fs t bytes (Some b) made at e =
    let r = lowest_is state.lives b at in
    let life = new_life state.next (Some fs) t bytes in
    let is : slice_set state.lives b (Some life) ≡ new.lives =
    ap (λ (x : (ℕ × ℕ) × StoreState). x.1.lives) (same_ok ((b, state.next), record { lives = slice_set state.lives b (Some life); next = state.next + 1 }) (made, new) e) in
    subst (HaveSameFlights state.lives) is (flights_start state.lives b life r.0 r.1 refl)

pub flights_init : (T : Types) (state new : StoreState) (fs t : ℕ) (bytes : List ℕ) (made : ℕ × ℕ) → init_of T state fs t bytes ≡ Ok (made, new) → HaveSameFlights state.lives new.lives
flights_init T state new fs t bytes made e =
    flights_at state new fs t bytes (lowest_free state.lives) made refl (given_ok (init_refusal T state fs t bytes) (init_at state fs t bytes (lowest_free state.lives)) (made, new) e)

-- a template's
pub flights_install : (L : Language) (state new : StoreState) (bytes : List ℕ) (made : ℕ × ℕ × ℕ) → IsConsistent (types_of L state.lives) state → length bytes ≡ 512 →
    install_of L state bytes ≡ Ok (made, new) → HaveSameFlights state.lives new.lives
flights_install L state new bytes made h whole e =
    let x = installed_is L state bytes made new e in
    let r = lowest_is state.lives x.block x.free in
    let begun = started state None 1 bytes x.block in
    let k = begun_kept L state h bytes whole x.block x.free in
    subst (HaveSameFlights state.lives) (ap (λ (y : StoreState). y.lives) x.is) (λ c.
    flights_accepted (types_of L state.lives) begun k.consistent 0 (catalogue_state begun x.place x.block) c ∙ flights_start state.lives x.block (new_life state.next None 1 bytes) r.0 r.1 refl c)

-- One life fewer

flight_ended : (t : Bool) (o : Option Life) → (t ≡ true → (l : Life) → o ≡ Some l → l.begun ≡ None) → flight_of (cond t None o) ≡ flight_of o
flight_ended false o idle = refl
flight_ended true None idle = refl
flight_ended true (Some l) idle = sym (ap (option_map (λ k. (k, bytes_at k l))) (idle refl l refl))

pub flights_forget : (T : Types) (state new : StoreState) (fs b : ℕ) (none : Unit {0}) → forget_of T state fs b ≡ Ok (none, new) → HaveSameFlights state.lives new.lives
flights_forget T state new fs b none done =
    let r = forgets T state new fs b none done in
    let ended = b ∷ [] in
    subst (HaveSameFlights state.lives) r.0
    (λ c. ap flight_of (freed_at state.lives ended c) ∙ flight_ended (has_number ended c) (life_at state.lives c) (λ t l at. r.1 c l (has_number_at ended c t) at))

-- What is under way

pub flight_count : (o : Option Life) (k : ℕ) (bytes : List ℕ) → flight_of o ≡ Some (k, bytes) → begun_count o ≡ Some k
flight_count None k bytes e = absurd (none-some (k, bytes) e)
flight_count (Some l) k bytes e = go l.begun e
  where
    go : (g : Option ℕ) → option_map {U = ℕ × List ℕ} (λ j. (j, bytes_at j l)) g ≡ Some (k, bytes) → g ≡ Some k
    go None e = absurd (none-some (k, bytes) e)
    go (Some j) e = ap (λ n. Some n) (ap (λ (p : ℕ × List ℕ). p.0) (same_Some (j, bytes_at j l) (k, bytes) e))

pub flight_bytes : (o : Option Life) (k : ℕ) (bytes : List ℕ) → flight_of o ≡ Some (k, bytes) → begun_bytes k o ≡ bytes
flight_bytes None k bytes e = absurd (none-some (k, bytes) e)
flight_bytes (Some l) k bytes e = go l.begun e
  where
    go : (g : Option ℕ) → option_map {U = ℕ × List ℕ} (λ j. (j, bytes_at j l)) g ≡ Some (k, bytes) → bytes_at k l ≡ bytes
    go None e = absurd (none-some (k, bytes) e)
    go (Some j) e =
        let pair = same_Some (j, bytes_at j l) (k, bytes) e in
        sym (ap (λ n. bytes_at n l) (ap (λ (p : ℕ × List ℕ). p.0) pair)) ∙ ap (λ (p : ℕ × List ℕ). p.1) pair

-- A write begins

begun_is : (lives : Lives) (b : ℕ) (o : Option (Option Life)) (given : List ℕ × ℕ) → slice_get lives b ≡ o → begun_place lives o ≡ Ok given →
    (l : Life) × (life_at lives b ≡ Some l) × (bytes_at given.1 l ≡ given.0)
begun_is lives b None given at e = absurd (never_ok NoSuchBlock given e)
begun_is lives b (Some None) given at e = absurd (never_ok NotInUse given e)
begun_is lives b (Some (Some l)) given at e =
    let k = prefix_of lives (Some l) in
    let q = same_ok (bytes_at k l, k) given (given_ok (first_refusal ((is_some l.begun, InFlight) ∷ (k == 0, NothingSafe) ∷ [])) (Ok (bytes_at k l, k)) given e) in
    (l, life_from lives b l at, sym (ap (λ (x : List ℕ × ℕ). bytes_at x.1 l) q) ∙ ap (λ (x : List ℕ × ℕ). x.0) q)

pub flights_begun : (state new : StoreState) (b : ℕ) (given : List ℕ × ℕ) → begun_of state b ≡ Ok (given, new) →
    (flight_of (life_at new.lives b) ≡ Some (given.1, given.0)) × HaveSameFlightsBut b state.lives new.lives
flights_begun state new b given e =
    let m = map_ok (λ (x : List ℕ × ℕ). (x, record state { lives = begun_at state.lives b x.1 })) (begun_place state.lives (slice_get state.lives b)) (given, new) e in
    let same : m.0 ≡ given = ap (λ (x : (List ℕ × ℕ) × StoreState). x.0) m.2 in
    let is : begun_at state.lives b m.0.1 ≡ new.lives = ap (λ (x : (List ℕ × ℕ) × StoreState). x.1.lives) m.2 in
    let r = begun_is state.lives b (slice_get state.lives b) m.0 refl m.1 in
    let carries : Life → Life = λ l. record l { begun = Some m.0.1 } in
    let here : flight_of (life_at (begun_at state.lives b m.0.1) b) ≡ Some (m.0.1, m.0.0) =
    ap flight_of (change_same state.lives b carries ∙ ap (option_map carries) r.1) ∙ ap (λ bytes. Some (m.0.1, bytes)) r.2 in (
      ap (λ xs. flight_of (life_at xs b)) (sym is) ∙ (here ∙ ap (λ (x : List ℕ × ℕ). Some (x.1, x.0)) same),
      λ c other. ap (λ xs. flight_of (life_at xs c)) (sym is) ∙ ap flight_of (set_other state.lives b c (option_map carries (life_at state.lives b)) other),
    )

-- and only where none is under way
pub begun_idle : (state new : StoreState) (b : ℕ) (given : List ℕ × ℕ) → begun_of state b ≡ Ok (given, new) → flight_of (life_at state.lives b) ≡ None
begun_idle state new b given e =
    let m = map_ok (λ (x : List ℕ × ℕ). (x, record state { lives = begun_at state.lives b x.1 })) (begun_place state.lives (slice_get state.lives b)) (given, new) e in
    go (slice_get state.lives b) refl m.0 m.1
  where
    go : (o : Option (Option Life)) → slice_get state.lives b ≡ o → (x : List ℕ × ℕ) → begun_place state.lives o ≡ Ok x → flight_of (life_at state.lives b) ≡ None
    go None at x e = absurd (never_ok NoSuchBlock x e)
    go (Some None) at x e = absurd (never_ok NotInUse x e)
    go (Some (Some l)) at x e =
        let k = prefix_of state.lives (Some l) in
        let u = unless_ok ((is_some l.begun, InFlight) ∷ (k == 0, NothingSafe) ∷ []) (Ok (bytes_at k l, k)) x e in
        ap flight_of (life_from state.lives b l at) ∙ ap (option_map (λ j. (j, bytes_at j l))) (none_from l.begun u.0.0)

-- A write settles

flight_settled : (t : Bool) (k : ℕ) (l : Life) → flight_of (cond t None (Some (settle k l))) ≡ None
flight_settled true k l = refl
flight_settled false k l = refl

pub flights_settled : (T : Types) (state new : StoreState) (b : ℕ) (bytes : List ℕ) (done : ℕ × ℕ) → IsConsistent T state → settled_of state b bytes ≡ Ok (done, new) →
    (flight_of (life_at new.lives b) ≡ None) × HaveSameFlightsBut b state.lives new.lives
flights_settled T state new b bytes done h e =
    let m = map_ok (settled_after state b) (settled_place bytes (slice_get state.lives b)) (done, new) e in
    let s = settles_place state.lives b bytes (slice_get state.lives b) m.0 refl m.1 in
    let first : first_pending m.0 (life_at state.lives b) ≡ take m.0 s.life.pending = ap (first_pending m.0) s.alive in
    let ended = drops_of (take m.0 s.life.pending) in
    let is : freed (settled_at state.lives b m.0) ended ≡ new.lives = ap (λ xs. (settled_with state b (drops_of xs) m.0).1.lives) (sym first) ∙ ap (λ (x : (ℕ × ℕ) × StoreState). x.1.lives) m.2 in (
      ap (λ xs. flight_of (life_at xs b)) (sym is)
          ∙ (ap flight_of (freed_at (settled_at state.lives b m.0) ended b ∙ ap (cond (has_number ended b) None) (change_same state.lives b (settle m.0) ∙ ap (option_map (settle m.0)) s.alive))
          ∙ flight_settled (has_number ended b) m.0 s.life),
      λ c other. ap (λ xs. flight_of (life_at xs c)) (sym is)
          ∙ (ap flight_of (freed_at (settled_at state.lives b m.0) ended c ∙ ap (cond (has_number ended c) None) (set_other state.lives b c (option_map (settle m.0) (life_at state.lives b)) other))
          ∙ flight_ended (has_number ended c) (life_at state.lives c) (λ t l at. ended_idle {L = List ℕ} (λ x. x) T state h b m.0 bytes s c l (has_number_at ended c t) at)),
    )
