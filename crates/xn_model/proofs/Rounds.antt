-- A round of a drain by what its calls answer, apart from any disk.
use Rattle.std.proofs.Common.{cond, ◌≡◌, ℕ, zero, suc, ◌<◌, ◌≤◌, true, false, List, [], ◌∷◌, length, map, Option, Some, None, Result, Ok, refl, sym, ◌∙◌, ap, inl, inr, arith, subst}
use Rattle.std.specs.Prelude.{is_some, slice_set, ◌==◌}
use Rattle.std.proofs.lemmas.Bool.{cases_lt, false≢true, ne_eqb}
use Rattle.std.proofs.lemmas.List.{get_or-set_same, set-set, length-map}
use Rattle.xn_model.specs.Types.{Types}
use Rattle.xn_model.specs.Images.{block_of}
use Rattle.xn_model.specs.Lives.{Lives, StoreState, life_at, durable_bytes, prefix_of, begun_at}
use Rattle.xn_model.specs.BareDisks.{empty_language}
use Rattle.xn_model.specs.Results.{Refusal, InFlight, NothingSafe, NotSynced, result_map}
use Rattle.xn_model.specs.Calls.{begun_place, begun_of, bytes_at, settled_of, pick_of, life_pending}
use Rattle.xn_model.specs.Worlds.{World, Reply, Begun, Landed, Synced, Finished, Refused, reply_and_world, begin, land, sync, finish, read_back, write, settle_bytes, given_at, none_given, with_ticket, write_out, all_pending}
use Rattle.xn_model.specs.Rules.{IsConsistent, IsIdle}
use Rattle.xn_model.proofs.Lives.{place_from}
use Rattle.xn_model.proofs.Tests.{unless_passed, safe_count_within}
use Rattle.xn_model.proofs.Reached.{in_range}
use Rattle.xn_model.proofs.Least.{progress}
use Rattle.xn_model.proofs.Flights.{flights_begun, flight_count, flight_bytes}
use Rattle.xn_model.proofs.Lands.{none_given_at}
use Rattle.xn_model.proofs.Drains.{sum_some, picked_life, round_ends, first}

-- A disk that holds what is durable

abbrev at_rest : Lives → List (List ℕ)
at_rest lives = map durable_bytes lives

-- which templates there are does not matter
abbrev world_at : StoreState → World
world_at state = record { language = empty_language; image = at_rest state.lives; settled = at_rest state.lives; given = none_given (at_rest state.lives); state = state; down = false }

-- the block is written with what is begun, and that is settled
pub wrote_out : (w : World) (b : ℕ) (bytes : List ℕ) (count : ℕ) (begun : StoreState) (done : ℕ × ℕ) (after : StoreState) → begun_of w.state b ≡ Ok ((bytes, count), begun) →
    settled_of begun b bytes ≡ Ok (done, after) → b < length w.image →
    write_out w b ≡ record w { image = slice_set w.image b bytes; settled = slice_set w.settled b bytes; given = slice_set w.given b None; state = after }
wrote_out w b bytes count begun done after begins settles within =
    let began : World = record w { state = begun } in
    let landed : World = record began { image = slice_set w.image b bytes; given = slice_set w.given b (Some bytes) } in
    let rests : World = record landed { settled = slice_set w.settled b bytes; given = slice_set w.given b None } in
    let flight = (flights_begun w.state begun b (bytes, count) begins).0 in
    let ticket = flight_count (life_at begun.lives b) count bytes flight in
    let carries = flight_bytes (life_at begun.lives b) count bytes flight in
    let there : block_of rests.image b ≡ bytes = get_or-set_same w.image b bytes [] within in
    let begin_is : (begin w b).1 ≡ began = ap (λ r. (reply_and_world {A = List ℕ × ℕ} (λ x. Begun x.1) w r).1) begins in
    let land_is : (land began b).1 ≡ landed =
    ap (λ o. (with_ticket began o (λ n. (Landed, write began b n true))).1) ticket
    ∙ ap (λ m. record began { image = slice_set w.image b m; given = slice_set w.given b (Some m) }) carries in
    let sync_is : (sync landed b).1 ≡ rests =
    ap (λ o. (with_ticket landed o (λ n. (Synced, settle_bytes landed b))).1) ticket
    ∙ (λ i. record landed { settled = slice_set w.settled b (there i); given = set-set w.given b (Some bytes) None i }) in
    let finish_is : (finish rests b).1 ≡ record rests { state = after } =
    ap (λ o. (with_ticket rests o (λ n. cond (is_some (given_at rests.given b)) (Refused NotSynced, rests) (read_back rests b))).1) ticket
    ∙ (ap (λ o. (cond {A = Reply × World} (is_some o) (Refused NotSynced, rests) (read_back rests b)).1) (none_given_at w.given b)
    ∙ (ap (λ m. (reply_and_world (λ (x : ℕ × ℕ). Finished x.0 x.1) rests (settled_of begun b m)).1) there
    ∙ ap (λ r. (reply_and_world {A = ℕ × ℕ} (λ x. Finished x.0 x.1) rests r).1) settles)) in
    ap (λ x. (finish (sync (land x b).1 b).1 b).1) begin_is ∙ (ap (λ x. (finish (sync x b).1 b).1) land_is ∙ (ap (λ x. (finish x b).1) sync_is ∙ finish_is))

-- a round leaves no write under way, and less pending
pub round_leaves : (T : Types) (state begun after : StoreState) (b : ℕ) (bytes : List ℕ) (count : ℕ) (done : ℕ × ℕ) → IsConsistent T state → IsIdle state.lives → pick_of state ≡ Some b →
    begun_of state b ≡ Ok ((bytes, count), begun) → settled_of begun b bytes ≡ Ok (done, after) → IsIdle after.lives × (all_pending after.lives < all_pending state.lives)
round_leaves T state begun after b bytes count done h idle picks begins settles =
    let p = picked_life state b picks in
    let within : b < length (at_rest state.lives) = subst (λ n. b < n) (sym (length-map state.lives durable_bytes)) (in_range T state h b p.0 p.1) in
    subst (λ (x : World). IsIdle x.state.lives × (all_pending x.state.lives < all_pending state.lives))
    (wrote_out (world_at state) b bytes count begun done after begins settles within)
    (round_ends (world_at state) (length-map state.lives durable_bytes) idle b p.0 p.1 p.3)

-- what pick answers can be begun
pub picked_begins : (state : StoreState) (b : ℕ) → pick_of state ≡ Some b → (bytes : List ℕ) × (count : ℕ) × (1 ≤ count) × (begun_of state b ≡ Ok ((bytes, count), record state { lives = begun_at state.lives b count }))
picked_begins state b picks =
    let p = picked_life state b picks in
    let l = p.0 in
    let k = prefix_of state.lives (Some l) in
    let some : 1 ≤ k = p.3 in
    let ne : (k == 0) ≡ false = ne_eqb k 0 (λ z. absurd (omega arith)) in
    let go : Result (List ℕ × ℕ) Refusal → Result ((List ℕ × ℕ) × StoreState) Refusal = λ r. result_map (λ begun. (begun, record state { lives = begun_at state.lives b begun.1 })) r in (
      bytes_at k l,
      k,
      some,
      ap (λ o. go (begun_place state.lives o)) (place_from state.lives b l p.1)
          ∙ ap go (unless_passed ((is_some l.begun, InFlight) ∷ (k == 0, NothingSafe) ∷ []) (Ok (bytes_at k l, k)) (ap is_some p.2, (ne, tt))),
    )

-- where nothing can be picked, nothing is pending, and the other way round
pub none_pending : (T : Types) (state : StoreState) → IsConsistent T state → IsIdle state.lives → pick_of state ≡ None → all_pending state.lives ≡ 0
none_pending T state h idle none = elim (cases_lt 0 (all_pending state.lives)) [
  | inr past ↦ omega arith
  | inl some ↦
      let r = sum_some state.lives (omega arith) in
      let s = first r.1.pending r.3 in
      absurd (false≢true (ap is_some (sym none) ∙ progress T state h idle r.0 r.1 s.0 r.2 s.1))
]

pending_among : (lives : Lives) (b : ℕ) → life_pending (life_at lives b) ≤ all_pending lives
pending_among [] b = omega arith
pending_among (o ∷ os) zero = omega arith
pending_among (o ∷ os) (suc b) = let rest = pending_among os b in omega arith

pub none_picked : (state : StoreState) → all_pending state.lives ≡ 0 → pick_of state ≡ None
none_picked state none = go (pick_of state) refl
  where
    go : (o : Option ℕ) → pick_of state ≡ o → o ≡ None
    go None e = refl
    go (Some b) e =
        let p = picked_life state b e in
        let among = pending_among state.lives b in
        let here : life_pending (life_at state.lives b) ≡ length p.0.pending = ap life_pending p.1 in
        let some : 1 ≤ prefix_of state.lives (Some p.0) = p.3 in
        let within : prefix_of state.lives (Some p.0) ≤ length p.0.pending = safe_count_within state.lives p.0.ty [] p.0.pending in
        absurd (omega arith)
