-- The writes and the syncs of a wave, good or not.
use Rattle.std.proofs.Common.{◌≡◌, ℕ, ◌<◌, Bool, true, false, cond, List, [], ◌∷◌, map, length, Option, Some, None, refl, sym, ◌∙◌, ap, subst}
use Rattle.std.specs.Prelude.{Contains, ◌==◌, slice_set}
use Rattle.std.proofs.lemmas.List.{length-set}
use Rattle.xn_model.specs.Lists.{has_number, distinct}
use Rattle.xn_model.specs.Images.{block_of}
use Rattle.xn_model.specs.Lives.{life_at}
use Rattle.xn_model.specs.Worlds.{World, Landed, Fault, begun_count, begun_bytes, given_at, act, world_after}
use Rattle.xn_model.specs.Waves.{Outcome, Done, EndsAnyway, WriteFails, SyncFails, write_event, sync_event, is_done, write_reply, sync_reply, newest_then, settled_then}
use Rattle.xn_model.proofs.Lists.{Contains-head, Contains-tail}
use Rattle.xn_model.proofs.WaveSteps.{Does, does_cons, land_is, fail_is, sync_is, fail_sync_is, merged, once_head, once_tail, set_cond, cond_at}

-- Block b's write is under way with this count and these bytes, and the lists of the disk have a place for it.
pub record IsFlying (count : ℕ → ℕ) (bytes : ℕ → List ℕ) (w : World) (b : ℕ) : Type 0 where
  pub ticket : begun_count (life_at w.state.lives b) ≡ Some (count b)
  pub carries : begun_bytes (count b) (life_at w.state.lives b) ≡ bytes b
  pub in_image : b < length w.image
  pub in_settled : b < length w.settled
  pub in_given : b < length w.given

-- The world after writes.
pub record AreWritten (bytes : ℕ → List ℕ) (outcome : ℕ → Outcome) (w : World) (bs : List ℕ) (v : World) : Type 0 where
  pub image : List (List ℕ)
  pub given : List (Option (List ℕ))
  pub next : v ≡ record w { image = image; given = given }
  pub newest : (c : ℕ) → block_of image c ≡ cond (has_number bs c) (newest_then (outcome c) (bytes c) (block_of w.image c)) (block_of w.image c)
  pub opened : (c : ℕ) → given_at given c ≡ cond (has_number bs c) (Some (bytes c)) (given_at w.given c)
  pub image_count : length image ≡ length w.image
  pub given_count : length given ≡ length w.given

-- and after syncs
pub record AreSynced (outcome : ℕ → Outcome) (w : World) (bs : List ℕ) (v : World) : Type 0 where
  pub settled : List (List ℕ)
  pub given : List (Option (List ℕ))
  pub next : v ≡ record w { settled = settled; given = given }
  pub safe : (c : ℕ) → block_of settled c ≡ cond (has_number bs c) (settled_then (outcome c) (block_of w.image c) (block_of w.settled c)) (block_of w.settled c)
  pub closed : (c : ℕ) → given_at given c ≡ cond (has_number bs c) (cond (is_done (outcome c)) None (given_at w.given c)) (given_at w.given c)
  pub settled_count : length settled ≡ length w.settled
  pub given_count : length given ≡ length w.given

cond_same : {A : Type 0} (t : Bool) (x : A) → x ≡ cond t x x
cond_same true x = refl
cond_same false x = refl

module _ (count : ℕ → ℕ) (bytes : ℕ → List ℕ) (outcome : ℕ → Outcome) where
  -- One write

  abbrev image_of : Outcome → World → ℕ → List (List ℕ)
  image_of Done w b = slice_set w.image b (bytes b)
  image_of (EndsAnyway stays) w b = cond stays (slice_set w.image b (bytes b)) w.image
  image_of (WriteFails stays) w b = cond stays (slice_set w.image b (bytes b)) w.image
  image_of SyncFails w b = slice_set w.image b (bytes b)

  abbrev write_of : Outcome → World → ℕ → World
  write_of o w b = record w { image = image_of o w b; given = slice_set w.given b (Some (bytes b)) }

  writes_one : (o : Outcome) (w : World) (b : ℕ) → w.down ≡ false → IsFlying count bytes w b → act w (write_event o b) ≡ (write_reply o, write_of o w b)
  writes_one Done w b up f = land_is w b (count b) up f.ticket ∙ ap (λ m. (Landed, record w { image = slice_set w.image b m; given = slice_set w.given b (Some m) })) f.carries
  writes_one (EndsAnyway stays) w b up f = fail_is w b (count b) up f.ticket stays ∙ ap (λ m. (Fault, record w { image = cond stays (slice_set w.image b m) w.image; given = slice_set w.given b (Some m) })) f.carries
  writes_one (WriteFails stays) w b up f = fail_is w b (count b) up f.ticket stays ∙ ap (λ m. (Fault, record w { image = cond stays (slice_set w.image b m) w.image; given = slice_set w.given b (Some m) })) f.carries
  writes_one SyncFails w b up f = land_is w b (count b) up f.ticket ∙ ap (λ m. (Landed, record w { image = slice_set w.image b m; given = slice_set w.given b (Some m) })) f.carries

  image_at : (o : Outcome) (w : World) (b : ℕ) → b < length w.image → (c : ℕ) → block_of (image_of o w b) c ≡ cond (b == c) (newest_then o (bytes b) (block_of w.image b)) (block_of w.image c)
  image_at Done w b within c = set_cond w.image b (bytes b) [] within c
  image_at (EndsAnyway true) w b within c = set_cond w.image b (bytes b) [] within c
  image_at (WriteFails true) w b within c = set_cond w.image b (bytes b) [] within c
  image_at (EndsAnyway false) w b within c = cond_same (b == c) (block_of w.image c) ∙ sym (cond_at b c (block_of w.image) (block_of w.image c))
  image_at (WriteFails false) w b within c = cond_same (b == c) (block_of w.image c) ∙ sym (cond_at b c (block_of w.image) (block_of w.image c))
  image_at SyncFails w b within c = set_cond w.image b (bytes b) [] within c

  image_long : (o : Outcome) (w : World) (b : ℕ) → length (image_of o w b) ≡ length w.image
  image_long Done w b = length-set w.image b (bytes b)
  image_long (EndsAnyway true) w b = length-set w.image b (bytes b)
  image_long (WriteFails true) w b = length-set w.image b (bytes b)
  image_long (EndsAnyway false) w b = refl
  image_long (WriteFails false) w b = refl
  image_long SyncFails w b = length-set w.image b (bytes b)

  -- All writes

  pub writes : (bs : List ℕ) (w : World) → w.down ≡ false → distinct bs ≡ true → ((b : ℕ) → Contains bs b → IsFlying count bytes w b) →
      Does w (map (λ b. write_event (outcome b) b) bs) (map (λ b. write_reply (outcome b)) bs) (AreWritten bytes outcome w bs)
  writes [] w up once flying = (refl, record { image = w.image; given = w.given; next = refl; newest = λ c. refl; opened = λ c. refl; image_count = refl; given_count = refl })
  writes (b ∷ bs) w up once flying =
      let d = writes bs w1 up (once_tail b bs once) flying' in
      does_cons (AreWritten bytes outcome w (b ∷ bs)) w w1 (write_event (outcome b) b) (write_reply (outcome b)) (map (λ b. write_event (outcome b) b) bs) (map (λ b. write_reply (outcome b)) bs)
      (writes_one (outcome b) w b up here) (d.0, joined (world_after w1 (map (λ b. write_event (outcome b) b) bs)) d.1)
    where
      w1 : World
      w1 = write_of (outcome b) w b

      here : IsFlying count bytes w b
      here = flying b (Contains-head b bs)

      given1 : List (Option (List ℕ))
      given1 = slice_set w.given b (Some (bytes b))

      flying' : (c : ℕ) → Contains bs c → IsFlying count bytes w1 c
      flying' c i =
          let f = flying c (Contains-tail b bs c i) in
          record {
            ticket = f.ticket;
            carries = f.carries;
            in_image = subst (λ n. c < n) (sym (image_long (outcome b) w b)) f.in_image;
            in_settled = f.in_settled;
            in_given = subst (λ n. c < n) (sym (length-set w.given b (Some (bytes b)))) f.in_given;
          }

      image1 : (c : ℕ) → block_of (image_of (outcome b) w b) c ≡ cond (b == c) (newest_then (outcome c) (bytes c) (block_of w.image c)) (block_of w.image c)
      image1 c = image_at (outcome b) w b here.in_image c ∙ cond_at b c (λ x. newest_then (outcome x) (bytes x) (block_of w.image x)) (block_of w.image c)

      opened1 : (c : ℕ) → given_at given1 c ≡ cond (b == c) (Some (bytes c)) (given_at w.given c)
      opened1 c = set_cond w.given b (Some (bytes b)) None here.in_given c ∙ cond_at b c (λ x. Some (bytes x)) (given_at w.given c)

      joined : (v : World) → AreWritten bytes outcome w1 bs v → AreWritten bytes outcome w (b ∷ bs) v
      joined v r = record {
        image = r.image;
        given = r.given;
        next = r.next;
        newest = λ c. r.newest c
            ∙ ((λ i. cond (has_number bs c) (newest_then (outcome c) (bytes c) (image1 c i)) (image1 c i))
            ∙ merged (newest_then (outcome c) (bytes c)) (block_of w.image c) (b == c) (has_number bs c) (once_head b bs once c));
        opened = λ c. r.opened c
            ∙ ((λ i. cond (has_number bs c) (Some (bytes c)) (opened1 c i))
            ∙ merged (λ o. Some (bytes c)) (given_at w.given c) (b == c) (has_number bs c) (once_head b bs once c));
        image_count = r.image_count ∙ image_long (outcome b) w b;
        given_count = r.given_count ∙ length-set w.given b (Some (bytes b));
      }

  -- One sync

  abbrev settled_of : Outcome → World → ℕ → List (List ℕ)
  settled_of Done w b = slice_set w.settled b (block_of w.image b)
  settled_of (EndsAnyway stays) w b = slice_set w.settled b (block_of w.image b)
  settled_of (WriteFails stays) w b = w.settled
  settled_of SyncFails w b = w.settled

  abbrev given_of : Outcome → World → ℕ → List (Option (List ℕ))
  given_of Done w b = slice_set w.given b None
  given_of (EndsAnyway stays) w b = slice_set w.given b None
  given_of (WriteFails stays) w b = w.given
  given_of SyncFails w b = w.given

  abbrev sync_of : Outcome → World → ℕ → World
  sync_of o w b = record w { settled = settled_of o w b; given = given_of o w b }

  syncs_one : (o : Outcome) (w : World) (b : ℕ) → w.down ≡ false → begun_count (life_at w.state.lives b) ≡ Some (count b) → act w (sync_event o b) ≡ (sync_reply o, sync_of o w b)
  syncs_one Done w b up ticket = sync_is w b (count b) up ticket
  syncs_one (EndsAnyway stays) w b up ticket = sync_is w b (count b) up ticket
  syncs_one (WriteFails stays) w b up ticket = fail_sync_is w b (count b) up ticket
  syncs_one SyncFails w b up ticket = fail_sync_is w b (count b) up ticket

  settled_at' : (o : Outcome) (w : World) (b : ℕ) → b < length w.settled → (c : ℕ) → block_of (settled_of o w b) c ≡ cond (b == c) (settled_then o (block_of w.image b) (block_of w.settled b)) (block_of w.settled c)
  settled_at' Done w b within c = set_cond w.settled b (block_of w.image b) [] within c
  settled_at' (EndsAnyway stays) w b within c = set_cond w.settled b (block_of w.image b) [] within c
  settled_at' (WriteFails stays) w b within c = cond_same (b == c) (block_of w.settled c) ∙ sym (cond_at b c (block_of w.settled) (block_of w.settled c))
  settled_at' SyncFails w b within c = cond_same (b == c) (block_of w.settled c) ∙ sym (cond_at b c (block_of w.settled) (block_of w.settled c))

  given_at' : (o : Outcome) (w : World) (b : ℕ) → b < length w.given → (c : ℕ) → given_at (given_of o w b) c ≡ cond (b == c) (cond (is_done o) None (given_at w.given b)) (given_at w.given c)
  given_at' Done w b within c = set_cond w.given b None None within c
  given_at' (EndsAnyway stays) w b within c = set_cond w.given b None None within c
  given_at' (WriteFails stays) w b within c = cond_same (b == c) (given_at w.given c) ∙ sym (cond_at b c (given_at w.given) (given_at w.given c))
  given_at' SyncFails w b within c = cond_same (b == c) (given_at w.given c) ∙ sym (cond_at b c (given_at w.given) (given_at w.given c))

  settled_long : (o : Outcome) (w : World) (b : ℕ) → length (settled_of o w b) ≡ length w.settled
  settled_long Done w b = length-set w.settled b (block_of w.image b)
  settled_long (EndsAnyway stays) w b = length-set w.settled b (block_of w.image b)
  settled_long (WriteFails stays) w b = refl
  settled_long SyncFails w b = refl

  given_long : (o : Outcome) (w : World) (b : ℕ) → length (given_of o w b) ≡ length w.given
  given_long Done w b = length-set w.given b None
  given_long (EndsAnyway stays) w b = length-set w.given b None
  given_long (WriteFails stays) w b = refl
  given_long SyncFails w b = refl

  -- All syncs

  pub syncs : (bs : List ℕ) (w : World) → w.down ≡ false → distinct bs ≡ true → ((b : ℕ) → Contains bs b → IsFlying count bytes w b) →
      Does w (map (λ b. sync_event (outcome b) b) bs) (map (λ b. sync_reply (outcome b)) bs) (AreSynced outcome w bs)
  syncs [] w up once flying = (refl, record { settled = w.settled; given = w.given; next = refl; safe = λ c. refl; closed = λ c. refl; settled_count = refl; given_count = refl })
  syncs (b ∷ bs) w up once flying =
      let d = syncs bs w1 up (once_tail b bs once) flying' in
      does_cons (AreSynced outcome w (b ∷ bs)) w w1 (sync_event (outcome b) b) (sync_reply (outcome b)) (map (λ b. sync_event (outcome b) b) bs) (map (λ b. sync_reply (outcome b)) bs)
      (syncs_one (outcome b) w b up here.ticket) (d.0, joined (world_after w1 (map (λ b. sync_event (outcome b) b) bs)) d.1)
    where
      w1 : World
      w1 = sync_of (outcome b) w b

      here : IsFlying count bytes w b
      here = flying b (Contains-head b bs)

      flying' : (c : ℕ) → Contains bs c → IsFlying count bytes w1 c
      flying' c i =
          let f = flying c (Contains-tail b bs c i) in
          record {
            ticket = f.ticket;
            carries = f.carries;
            in_image = f.in_image;
            in_settled = subst (λ n. c < n) (sym (settled_long (outcome b) w b)) f.in_settled;
            in_given = subst (λ n. c < n) (sym (given_long (outcome b) w b)) f.in_given;
          }

      settled1 : (c : ℕ) → block_of (settled_of (outcome b) w b) c ≡ cond (b == c) (settled_then (outcome c) (block_of w.image c) (block_of w.settled c)) (block_of w.settled c)
      settled1 c = settled_at' (outcome b) w b here.in_settled c ∙ cond_at b c (λ x. settled_then (outcome x) (block_of w.image x) (block_of w.settled x)) (block_of w.settled c)

      given1 : (c : ℕ) → given_at (given_of (outcome b) w b) c ≡ cond (b == c) (cond (is_done (outcome c)) None (given_at w.given c)) (given_at w.given c)
      given1 c = given_at' (outcome b) w b here.in_given c ∙ cond_at b c (λ x. cond (is_done (outcome x)) None (given_at w.given x)) (given_at w.given c)

      joined : (v : World) → AreSynced outcome w1 bs v → AreSynced outcome w (b ∷ bs) v
      joined v r = record {
        settled = r.settled;
        given = r.given;
        next = r.next;
        safe = λ c. r.safe c
            ∙ ((λ i. cond (has_number bs c) (settled_then (outcome c) (block_of w.image c) (settled1 c i)) (settled1 c i))
            ∙ merged (settled_then (outcome c) (block_of w.image c)) (block_of w.settled c) (b == c) (has_number bs c) (once_head b bs once c));
        closed = λ c. r.closed c
            ∙ ((λ i. cond (has_number bs c) (cond (is_done (outcome c)) None (given1 c i)) (given1 c i))
            ∙ merged (λ o. cond (is_done (outcome c)) None o) (given_at w.given c) (b == c) (has_number bs c) (once_head b bs once c));
        settled_count = r.settled_count ∙ settled_long (outcome b) w b;
        given_count = r.given_count ∙ given_long (outcome b) w b;
      }
