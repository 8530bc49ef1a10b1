-- The finishes of a wave.
use Rattle.std.proofs.Common.{◌≡◌, ℕ, Bool, true, false, cond, List, [], ◌∷◌, ◌++◌, map, length, take, Option, Some, None, refl, sym, ◌∙◌, ap, subst}
use Rattle.std.specs.Prelude.{Contains, ◌==◌, ◌||◌, flat_map, option_map, slice_get, Ok}
use Rattle.std.proofs.lemmas.Bool.{cond-false, false_from_ne_true, true≢false}
use Rattle.std.proofs.lemmas.Option.{none-some}
use Rattle.std.proofs.lemmas.List.Folds.{list_any-append}
use Rattle.xn_model.specs.Lists.{has_number, distinct}
use Rattle.xn_model.specs.Images.{block_of}
use Rattle.xn_model.specs.Lives.{Life, Lives, life_at, settled_at, settle, freed, drops_of}
use Rattle.xn_model.specs.Calls.{first_pending, settled_place}
use Rattle.xn_model.specs.Worlds.{World, types_now, Finish, Reply, Finished, begun_count, given_at, act, world_after}
use Rattle.xn_model.specs.Rules.{Holds}
use Rattle.xn_model.proofs.Lists.{Contains-head, Contains-tail, has_number_at, has_number_from}
use Rattle.xn_model.proofs.Lives.{freed_at, length_change, length_freed, place_from}
use Rattle.xn_model.proofs.Ends.{Settles, settles_place}
use Rattle.xn_model.proofs.Lanes.{ended_idle}
use Rattle.xn_model.proofs.Lands.{finish_keeps}
use Rattle.xn_model.proofs.WaveSteps.{Does, does_cons, up_acts, with_lives, finish_is, merged, once_head, once_tail, change_cond}

-- functions that agree on a list
pub map_same : {A B : Type 0} (f g : A → B) (xs : List A) → ((x : A) → Contains xs x → f x ≡ g x) → map f xs ≡ map g xs
map_same f g [] h = refl
map_same f g (x ∷ xs) h = λ i. h x (Contains-head x xs) i ∷ map_same f g xs (λ y k. h y (Contains-tail x xs y k)) i

pub flat_map_same : {A B : Type 0} (f g : A → List B) (xs : List A) → ((x : A) → Contains xs x → f x ≡ g x) → flat_map f xs ≡ flat_map g xs
flat_map_same f g [] h = refl
flat_map_same f g (x ∷ xs) h = λ i. h x (Contains-head x xs) i ++ flat_map_same f g xs (λ y k. h y (Contains-tail x xs y k)) i

-- with what count each write began, and how many of its entries are durable
module _ (count made : ℕ → ℕ) where
  -- what block b's write drops
  abbrev pub dropped_by : Lives → ℕ → List ℕ
  dropped_by lives b = drops_of (first_pending (made b) (life_at lives b))

  abbrev pub ended_life : Lives → List ℕ → ℕ → Option Life
  ended_life lives bs c = cond (has_number (flat_map (dropped_by lives) bs) c) None (cond (has_number bs c) (option_map (settle (made c)) (life_at lives c)) (life_at lives c))

  abbrev pub finished_as : Lives → ℕ → Reply
  finished_as lives b = Finished (made b) (length (dropped_by lives b))

  -- Block b's write is under way and settled, and what is read back makes entries durable.
  pub record IsSettled (w : World) (b : ℕ) : Type 0 where
    pub life : Life
    pub alive : life_at w.state.lives b ≡ Some life
    pub begun : life.begun ≡ Some (count b)
    pub none : given_at w.given b ≡ None
    pub ends : settled_place (block_of w.image b) (slice_get w.state.lives b) ≡ Ok (made b)

  pub record AreFinished (w : World) (bs : List ℕ) (v : World) : Type 0 where
    pub now : Lives
    pub next : v ≡ with_lives w now
    pub long : length now ≡ length w.state.lives
    pub at : (c : ℕ) → life_at now c ≡ ended_life w.state.lives bs c

  -- one finish, then others
  ended_merged : (g : Option Life → Option Life) → g None ≡ None → (x : Option Life) (p q s t : Bool) → (s ≡ true → t ≡ false) →
      cond q None (cond t (g (cond p None (cond s (g x) x))) (cond p None (cond s (g x) x))) ≡ cond (p || q) None (cond (s || t) (g x) x)
  ended_merged g e x true true s t apart = refl
  ended_merged g e x false true s t apart = refl
  ended_merged g e x true false s true apart = e
  ended_merged g e x true false s false apart = refl
  ended_merged g e x false false s t apart = merged g x s t apart

  pub finishes : (bs : List ℕ) (w : World) → Holds w → w.down ≡ false → distinct bs ≡ true → ((b : ℕ) → Contains bs b → IsSettled w b) →
      Does w (map Finish bs) (map (finished_as w.state.lives) bs) (AreFinished w bs)
  finishes [] w h up once settled = (refl, record { now = w.state.lives; next = refl; long = refl; at = λ c. refl })
  finishes (b ∷ bs) w h up once settled =
      let d = finishes bs w1 h1 up (once_tail b bs once) settled' in
      does_cons (AreFinished w (b ∷ bs)) w w1 (Finish b) (finished_as lives b) (map Finish bs) (map (finished_as lives) bs) is
      (d.0 ∙ map_same (finished_as L) (finished_as lives) bs (λ c i. ap (λ o. Finished (made c) (length (drops_of (first_pending (made c) o)))) (still c i)), joined (world_after w1 (map Finish bs)) d.1)
    where
      lives : Lives
      lives = w.state.lives

      here : IsSettled w b
      here = settled b (Contains-head b bs)

      drops : List ℕ
      drops = dropped_by lives b

      L : Lives
      L = freed (settled_at lives b (made b)) drops

      w1 : World
      w1 = with_lives w L

      is : act w (Finish b) ≡ (finished_as lives b, w1)
      is = finish_is w b (count b) up (ap begun_count here.alive ∙ here.begun) (made b) here.none here.ends

      h1 : Holds w1
      h1 = subst (λ (x : Reply × World). Holds x.1) (sym (up_acts w (Finish b) up) ∙ is) (finish_keeps w h b)

      -- what is under way is not dropped
      undropped : (c : ℕ) (l : Life) → life_at lives c ≡ Some l → l.begun ≡ Some (count c) → has_number drops c ≡ false
      undropped c l alive begun = false_from_ne_true (has_number drops c) (λ t.
          let s : Settles lives b (block_of w.image b) (made b) = settles_place lives b (block_of w.image b) (slice_get lives b) (made b) refl here.ends in
          let first : drops ≡ drops_of (take (made b) s.life.pending) = ap (λ o. drops_of (first_pending (made b) o)) s.alive in
          let idle = ended_idle {L = List ℕ} (λ x. x) (types_now w) w.state h.state b (made b) (block_of w.image b) s c l (subst (λ xs. Contains xs c) first (has_number_at drops c t)) alive in
          none-some (count c) (sym idle ∙ begun))

      one : (c : ℕ) → life_at L c ≡ cond (has_number drops c) None (cond (b == c) (option_map (settle (made c)) (life_at lives c)) (life_at lives c))
      one c = freed_at (settled_at lives b (made b)) drops c ∙ ap (cond (has_number drops c) None) (change_cond lives b (λ x. settle (made x)) c)

      still : (c : ℕ) → Contains bs c → life_at L c ≡ life_at lives c
      still c i =
          let f = settled c (Contains-tail b bs c i) in
          let other : (b == c) ≡ false = false_from_ne_true (b == c) (λ t. true≢false (sym (has_number_from bs c i) ∙ once_head b bs once c t)) in
          one c
          ∙ (cond-false (has_number drops c) None (cond (b == c) (option_map (settle (made c)) (life_at lives c)) (life_at lives c)) (undropped c f.life f.alive f.begun)
          ∙ cond-false (b == c) (option_map (settle (made c)) (life_at lives c)) (life_at lives c) other)

      still_place : (c : ℕ) → Contains bs c → slice_get L c ≡ slice_get lives c
      still_place c i = let f = settled c (Contains-tail b bs c i) in place_from L c f.life (still c i ∙ f.alive) ∙ sym (place_from lives c f.life f.alive)

      settled' : (c : ℕ) → Contains bs c → IsSettled w1 c
      settled' c i = let f = settled c (Contains-tail b bs c i) in record { life = f.life; alive = still c i ∙ f.alive; begun = f.begun; none = f.none; ends = ap (settled_place (block_of w.image c)) (still_place c i) ∙ f.ends }

      joined : (v : World) → AreFinished w1 bs v → AreFinished w (b ∷ bs) v
      joined v r = record {
        now = r.now;
        next = r.next;
        long = r.long ∙ (length_freed (settled_at lives b (made b)) drops ∙ length_change lives b (settle (made b)));
        at = λ c.
            let later : flat_map (dropped_by L) bs ≡ flat_map (dropped_by lives) bs = flat_map_same (dropped_by L) (dropped_by lives) bs (λ x i. ap (λ o. drops_of (first_pending (made x) o)) (still x i)) in
            r.at c
            ∙ ((λ i. cond (has_number (later i) c) None (cond (has_number bs c) (option_map (settle (made c)) (one c i)) (one c i)))
            ∙ (ended_merged (option_map (settle (made c))) refl (life_at lives c) (has_number drops c) (has_number (flat_map (dropped_by lives) bs) c) (b == c) (has_number bs c) (once_head b bs once c)
            ∙ ap (λ t. cond t None (cond (has_number (b ∷ bs) c) (option_map (settle (made c)) (life_at lives c)) (life_at lives c))) (sym (list_any-append (λ x. x == c) drops (flat_map (dropped_by lives) bs)))));
      }
