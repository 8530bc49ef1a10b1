-- A whole wave: what its events answer, and the world that it leaves.
use Rattle.std.proofs.Common.{◌≡◌, ℕ, ◌<◌, Bool, true, false, cond, List, ◌++◌, map, length, Option, Some, None, refl, sym, ◌∙◌, ap, inl, inr, subst}
use Rattle.std.specs.Prelude.{Contains, flat_map, option_map, bytes_eq, Result, Ok, Err, if◌then◌else◌}
use Rattle.std.specs.List.{AllByRecursion}
use Rattle.std.proofs.lemmas.Bool.{cond-true, cond-false, true≢false, false≢true}
use Rattle.xn_model.specs.Lists.{has_number}
use Rattle.xn_model.specs.Images.{block_of}
use Rattle.xn_model.specs.Lives.{BlockState, first_states, Life, Lives, life_at, prefix, settle, drops_of}
use Rattle.xn_model.specs.Results.{Refusal, NotMine}
use Rattle.xn_model.specs.Calls.{bytes_at, first_pending, is_durable, settled_place}
use Rattle.xn_model.specs.Worlds.{World, types_now, Event, Begin, Finish, Reply, Finished, begun_count, begun_bytes, given_at, world_after, IsEvent, Run}
use Rattle.xn_model.specs.Waves.{IsWave, wave_bytes, begun_reply, made_durable, drops_with, finished_with, Outcome, Done, EndsAnyway, WriteFails, SyncFails, write_event, sync_event, is_written, is_done, written_blocks, done, wave_with, write_reply, sync_reply, replies_with, all_drops, life_then, newest_then, settled_then, given_then, IsAfterWave}
use Rattle.xn_model.specs.Flights.{flight_of}
use Rattle.xn_model.specs.Rules.{Holds}
use Rattle.xn_model.proofs.Lists.{has_number_at, has_number_from, filter_at}
use Rattle.std.proofs.lemmas.Option.{none-some}
use Rattle.xn_model.proofs.Lives.{place_from}
use Rattle.xn_model.proofs.Lands.{left_placed}
use Rattle.std.proofs.lemmas.Slice.Eq.{bytes_eq-Decides}
use Rattle.std.specs.List.{last_or}
use Rattle.xn_model.proofs.Reached.{idle_at_rest, in_range}
use Rattle.xn_model.proofs.Drains.{ready_life}
use Rattle.xn_model.proofs.Acts.{acts_run}
use Rattle.xn_model.proofs.WaveSteps.{Does, does_append, with_lives}
use Rattle.xn_model.proofs.WavePhases.{Began, begins, begin_life}
use Rattle.xn_model.proofs.WaveWrites.{IsFlying, AreWritten, AreSynced, writes, syncs}
use Rattle.xn_model.proofs.WaveEnds.{IsSettled, AreFinished, finishes, dropped_by, finished_as, flat_map_same, map_same}
use Rattle.xn_model.proofs.WaveParts.{has_filter, distinct_filter, with_rules, all_events, events_both, write_is_event, sync_is_event, given_done, ends_then, lives_then, settled_both, given_both, begun_pending, turned, dropped_rests, ready_stays}

-- A wave

module _ (w : World) (h : Holds w) (up : w.down ≡ false) (outcome : ℕ → Outcome) (bs : List ℕ) (can : IsWave w.state.lives bs) where
  abbrev lives : Lives
  lives = w.state.lives

  abbrev count : ℕ → ℕ
  count = prefix lives

  abbrev bytes : ℕ → List ℕ
  bytes = wave_bytes lives

  abbrev made : ℕ → ℕ
  made = made_durable w outcome

  abbrev ys : List ℕ
  ys = written_blocks outcome bs

  in_ys : (b : ℕ) → Contains ys b → Contains bs b
  in_ys b i = (filter_at (λ c. is_written (outcome c)) bs b i).0

  abbrev zs : List ℕ
  zs = done outcome bs

  module _ (u1 : World) (r1 : Began w bs u1) (h1 : Holds (with_lives w r1.now)) where
    abbrev v1 : World
    v1 = with_lives w r1.now

    -- the life of a block of the wave
    life_before : (b : ℕ) → Contains bs b → (l : Life) × (life_at lives b ≡ Some l) × (l.begun ≡ None)
    life_before b i = let r = ready_life lives (life_at lives b) (can.ready b i) in (r.0, r.1, r.2)

    -- what it holds before the wave is durable
    stands : (b : ℕ) (l : Life) → life_at lives b ≡ Some l → l.begun ≡ None → (d : Option BlockState) → l.durable ≡ d → is_durable (block_of w.image b) d ≡ true
    stands b l e idle None f = refl
    stands b l e idle (Some s) f = (bytes_eq-Decides (block_of w.image b) s.bytes).1 (elim (left_placed w h w.image h.newest b l s e f) [
      | inl there ↦ there
      | inr t ↦ absurd (none-some t.0 (sym (ap (λ o. last_or None (first_states o l.pending)) idle) ∙ t.1))
    ])

    life_begun : (b : ℕ) → (i : Contains bs b) → life_at r1.now b ≡ Some (begin_life (count b) (life_before b i).0)
    life_begun b i = r1.at b
        ∙ (cond-true (has_number bs b) (option_map (begin_life (count b)) (life_at lives b)) (life_at lives b) (has_number_from bs b i)
        ∙ ap (option_map (begin_life (count b))) (life_before b i).1)

    within : (b : ℕ) → Contains bs b → b < length lives
    within b i = in_range (types_now w) w.state h.state b (life_before b i).0 (life_before b i).1

    flying : (b : ℕ) → Contains bs b → IsFlying count bytes v1 b
    flying b i = record {
      ticket = ap begun_count (life_begun b i);
      carries = ap (begun_bytes (count b)) (life_begun b i) ∙ sym (ap (begun_bytes (count b)) (life_before b i).1);
      in_image = subst (λ n. b < n) (sym h.count) (within b i);
      in_settled = subst (λ n. b < n) (sym h.settled_count) (within b i);
      in_given = subst (λ n. b < n) (sym h.given_count) (within b i);
    }

    module _ (u2 : World) (r2 : AreWritten bytes outcome v1 bs u2) (h2 : Holds (record v1 { image = r2.image; given = r2.given })) where
      abbrev v2 : World
      v2 = record v1 { image = r2.image; given = r2.given }

      flying_still : (b : ℕ) → Contains ys b → IsFlying count bytes v2 b
      flying_still b i =
          let f = flying b (in_ys b i) in
          record {
            ticket = f.ticket;
            carries = f.carries;
            in_image = subst (λ n. b < n) (sym r2.image_count) f.in_image;
            in_settled = f.in_settled;
            in_given = subst (λ n. b < n) (sym r2.given_count) f.in_given;
          }

      module _ (u3 : World) (r3 : AreSynced outcome v2 ys u3) (h3 : Holds (record v2 { settled = r3.settled; given = r3.given })) where
        abbrev v3 : World
        v3 = record v2 { settled = r3.settled; given = r3.given }

        settled_now : (c : ℕ) → block_of r3.settled c ≡ cond (has_number bs c) (settled_then (outcome c) (block_of r2.image c) (block_of w.settled c)) (block_of w.settled c)
        settled_now c = r3.safe c
            ∙ ((λ i. cond (has_filter (λ b. is_written (outcome b)) bs c i) (settled_then (outcome c) (block_of r2.image c) (block_of w.settled c)) (block_of w.settled c))
            ∙ settled_both (has_number bs c) (outcome c) (block_of r2.image c) (block_of w.settled c))

        given_now : (c : ℕ) → given_at r3.given c ≡ cond (has_number bs c) (given_then (outcome c) (bytes c)) (given_at w.given c)
        given_now c = r3.closed c
            ∙ ((λ i. cond (has_filter (λ b. is_written (outcome b)) bs c i) (cond (is_done (outcome c)) None (r2.opened c i)) (r2.opened c i))
            ∙ given_both (has_number bs c) (outcome c) (bytes c) (given_at w.given c))

        readable : (b : ℕ) → Contains zs b → IsSettled count made v3 b
        readable b j =
            let f = filter_at (λ c. is_done (outcome c)) bs b j in
            let has = has_number_from bs b f.0 in
            let l = (life_before b f.0).0 in
            let k = count b in
            let new : bytes b ≡ bytes_at k l = ap (begun_bytes k) (life_before b f.0).1 in
            let old = block_of w.image b in
            let newest : block_of r2.image b ≡ newest_then (outcome b) (bytes b) old =
            r2.newest b ∙ cond-true (has_number bs b) (newest_then (outcome b) (bytes b) old) old has in
            let go : List ℕ → List ℕ → Result ℕ Refusal = λ m x. if bytes_eq m x then Ok k else if is_durable m l.durable then Ok 0 else Err NotMine in
            record {
              life = begin_life k l;
              alive = life_begun b f.0;
              begun = refl;
              none = given_now b ∙ (cond-true (has_number bs b) (given_then (outcome b) (bytes b)) (given_at w.given b) has ∙ given_done (outcome b) (bytes b) f.1);
              ends = ap (settled_place (block_of r2.image b)) (place_from r1.now b (begin_life k l) (life_begun b f.0))
                  ∙ ((λ i. go (newest i) (sym new i))
                  ∙ ends_then k (bytes b) old l.durable (stands b l (life_before b f.0).1 (life_before b f.0).2 l.durable refl) (outcome b) f.1);
            }

        drops_same : (b : ℕ) → dropped_by count made r1.now b ≡ drops_with w outcome b
        drops_same b = ap drops_of (ap (first_pending (made b)) (r1.at b) ∙ begun_pending (made b) (count b) (has_number bs b) (life_at lives b))

        replies_same : map (finished_as count made r1.now) zs ≡ map (finished_with w outcome) zs
        replies_same = map_same (finished_as count made r1.now) (finished_with w outcome) zs (λ b i. ap (λ xs. Finished (made b) (length xs)) (drops_same b))

        after : (u4 : World) → AreFinished count made v3 zs u4 → IsAfterWave w outcome bs u4
        after u4 r4 = subst (IsAfterWave w outcome bs) (sym r4.next) (record {
          lives = λ c.
              let drops : flat_map (dropped_by count made r1.now) zs ≡ all_drops w outcome bs = flat_map_same (dropped_by count made r1.now) (drops_with w outcome) zs (λ b i. drops_same b) in
              r4.at c
              ∙ ((λ i. cond (has_number (drops i) c) None (cond (has_filter (λ b. is_done (outcome b)) bs c i) (option_map (settle (made c)) (r1.at c i)) (r1.at c i)))
              ∙ (ap (cond (has_number (all_drops w outcome bs) c) None) (lives_then (has_number bs c) (outcome c) (count c) (made c) (life_at lives c))
              ∙ turned (has_number bs c) (has_number (all_drops w outcome bs) c) (λ t. ready_stays w outcome bs c (can.ready c (has_number_at bs c t))) (option_map (life_then (outcome c) (count c) (made c)) (life_at lives c)) (life_at lives c)));
          newest = r2.newest;
          settled = settled_now;
          given = given_now;
          count = r4.long ∙ r1.count;
          next = refl;
          language = refl;
          up = refl;
        })

        last : Does v3 (map Finish zs) (map (finished_with w outcome) zs) (IsAfterWave w outcome bs)
        last = let d = finishes count made zs v3 h3 up (distinct_filter (λ b. is_done (outcome b)) bs can.once) readable in
            (d.0 ∙ replies_same, after (world_after v3 (map Finish zs)) d.1)

      third : Does v2 (map (λ b. sync_event (outcome b) b) ys ++ map Finish zs) (map (λ b. sync_reply (outcome b)) ys ++ map (finished_with w outcome) zs) (IsAfterWave w outcome bs)
      third = does_append (λ v. AreSynced outcome v2 ys v × Holds v) (IsAfterWave w outcome bs) v2 (map (λ b. sync_event (outcome b) b) ys) (map Finish zs) (map (λ b. sync_reply (outcome b)) ys) (map (finished_with w outcome) zs)
          (with_rules (AreSynced outcome v2 ys) v2 (map (λ b. sync_event (outcome b) b) ys) (map (λ b. sync_reply (outcome b)) ys) h2 (all_events (λ b. sync_event (outcome b) b) (λ b. sync_is_event (outcome b) b) ys)
          (syncs count bytes outcome ys v2 up (distinct_filter (λ b. is_written (outcome b)) bs can.once) flying_still))
          (λ v p. subst (λ x. Does x (map Finish zs) (map (finished_with w outcome) zs) (IsAfterWave w outcome bs)) (sym p.0.next) (last v p.0 (subst Holds p.0.next p.1)))

    abbrev rest2 : List Event
    rest2 = map (λ b. sync_event (outcome b) b) ys ++ map Finish zs

    abbrev told2 : List Reply
    told2 = map (λ b. sync_reply (outcome b)) ys ++ map (finished_with w outcome) zs

    second : Does v1 (map (λ b. write_event (outcome b) b) bs ++ rest2) (map (λ b. write_reply (outcome b)) bs ++ told2) (IsAfterWave w outcome bs)
    second = does_append (λ v. AreWritten bytes outcome v1 bs v × Holds v) (IsAfterWave w outcome bs) v1 (map (λ b. write_event (outcome b) b) bs) rest2 (map (λ b. write_reply (outcome b)) bs) told2
        (with_rules (AreWritten bytes outcome v1 bs) v1 (map (λ b. write_event (outcome b) b) bs) (map (λ b. write_reply (outcome b)) bs) h1 (all_events (λ b. write_event (outcome b) b) (λ b. write_is_event (outcome b) b) bs)
        (writes count bytes outcome bs v1 up can.once flying))
        (λ v p. subst (λ x. Does x rest2 told2 (IsAfterWave w outcome bs)) (sym p.0.next) (third v p.0 (subst Holds p.0.next p.1)))

  abbrev rest1 : List Event
  rest1 = map (λ b. write_event (outcome b) b) bs ++ (map (λ b. sync_event (outcome b) b) ys ++ map Finish zs)

  abbrev told1 : List Reply
  told1 = map (λ b. write_reply (outcome b)) bs ++ (map (λ b. sync_reply (outcome b)) ys ++ map (finished_with w outcome) zs)

  pub wave_does : Does w (wave_with outcome bs) (replies_with w outcome bs) (IsAfterWave w outcome bs)
  wave_does = does_append (λ v. Began w bs v × Holds v) (IsAfterWave w outcome bs) w (map Begin bs) rest1 (map (begun_reply lives) bs) told1
      (with_rules (Began w bs) w (map Begin bs) (map (begun_reply lives) bs) h (all_events Begin (λ b. tt) bs) (begins bs w up can.once can.ready))
      (λ v p. subst (λ x. Does x rest1 told1 (IsAfterWave w outcome bs)) (sym p.0.next) (second v p.0 (subst Holds p.0.next p.1)))

  wave_events : AllByRecursion IsEvent (wave_with outcome bs)
  wave_events = events_both (map Begin bs) rest1 (all_events Begin (λ b. tt) bs)
      (events_both (map (λ b. write_event (outcome b) b) bs) (map (λ b. sync_event (outcome b) b) ys ++ map Finish zs) (all_events (λ b. write_event (outcome b) b) (λ b. write_is_event (outcome b) b) bs)
      (events_both (map (λ b. sync_event (outcome b) b) ys) (map Finish zs) (all_events (λ b. sync_event (outcome b) b) (λ b. sync_is_event (outcome b) b) ys) (all_events Finish (λ b. tt) zs)))

  pub wave_runs : Run w (wave_with outcome bs) (replies_with w outcome bs) (world_after w (wave_with outcome bs))
  wave_runs = subst (λ rs. Run w (wave_with outcome bs) rs (world_after w (wave_with outcome bs))) wave_does.0 (acts_run w (wave_with outcome bs) h wave_events)

  -- what is not done is still under way
  pub wave_flies : (b : ℕ) → Contains bs b → is_done (outcome b) ≡ false → flight_of (life_at (world_after w (wave_with outcome bs)).state.lives b) ≡ Some (count b, bytes b)
  wave_flies b i fails =
      let r = ready_life lives (life_at lives b) (can.ready b i) in
      ap flight_of (wave_does.1.lives b
      ∙ (cond-true (has_number bs b) (option_map (life_then (outcome b) (count b) (made b)) (life_at lives b)) (cond (has_number (all_drops w outcome bs) b) None (life_at lives b)) (has_number_from bs b i)
      ∙ ap (option_map (life_then (outcome b) (count b) (made b))) r.1))
      ∙ (go (outcome b) fails r.0 ∙ ap (λ o. Some (count b, begun_bytes (count b) o)) (sym r.1))
    where
      go : (o : Outcome) → is_done o ≡ false → (l : Life) → flight_of (Some (life_then o (count b) (made b) l)) ≡ Some (count b, bytes_at (count b) l)
      go Done e l = absurd (true≢false e)
      go (EndsAnyway stays) e l = absurd (true≢false e)
      go (WriteFails stays) e l = refl
      go SyncFails e l = refl

  -- what is done is not
  pub wave_lands : (b : ℕ) → Contains bs b → is_done (outcome b) ≡ true → flight_of (life_at (world_after w (wave_with outcome bs)).state.lives b) ≡ None
  wave_lands b i ends =
      ap flight_of (wave_does.1.lives b
      ∙ cond-true (has_number bs b) (option_map (life_then (outcome b) (count b) (made b)) (life_at lives b)) (cond (has_number (all_drops w outcome bs) b) None (life_at lives b)) (has_number_from bs b i))
      ∙ go (outcome b) ends (made b) (life_at lives b)
    where
      go : (o : Outcome) → is_done o ≡ true → (n : ℕ) (l : Option Life) → flight_of (option_map (life_then o (count b) n) l) ≡ None
      go Done e n None = refl
      go Done e n (Some l) = refl
      go (EndsAnyway stays) e n None = refl
      go (EndsAnyway stays) e n (Some l) = refl
      go (WriteFails stays) e n l = absurd (false≢true e)
      go SyncFails e n l = absurd (false≢true e)

  -- and other blocks' writes are as they were
  pub wave_apart : (c : ℕ) → has_number bs c ≡ false → flight_of (life_at (world_after w (wave_with outcome bs)).state.lives c) ≡ flight_of (life_at lives c)
  wave_apart c out =
      ap flight_of (wave_does.1.lives c
      ∙ cond-false (has_number bs c) (option_map (life_then (outcome c) (count c) (made c)) (life_at lives c)) (cond (has_number (all_drops w outcome bs) c) None (life_at lives c)) out)
      ∙ go (has_number (all_drops w outcome bs) c) refl
    where
      go : (d : Bool) → has_number (all_drops w outcome bs) c ≡ d → flight_of (cond d None (life_at lives c)) ≡ flight_of (life_at lives c)
      go false e = refl
      go true e =
          let rest = dropped_rests w outcome bs c (has_number_at (all_drops w outcome bs) c e) in
          let idle = idle_at_rest rest.life.begun (length rest.life.pending) (ap length rest.holds) (h.state.linked c rest.life rest.alive).flight in
          sym (ap flight_of rest.alive ∙ ap (option_map (λ k. (k, bytes_at k rest.life))) idle)
