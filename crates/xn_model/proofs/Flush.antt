-- Waves on a calm device, and flushes.
use Rattle.std.proofs.Common.{◌≡◌, ℕ, zero, suc, ◌+◌, ◌-◌, ◌<◌, ◌≤◌, Bool, true, false, cond, List, [], ◌∷◌, ◌++◌, map, length, take, Option, Some, None, refl, sym, ◌∙◌, ap, inl, inr, arith, subst, length-drop}
use Rattle.std.specs.Prelude.{Contains, All, not, filter, flat_map, option_map, get_or, is_none, nat_lt}
use Rattle.std.specs.List.{list_all, range_with_len, AllByRecursion}
use Rattle.std.proofs.lemmas.Bool.{cases_lt, and_from, and_parts, not-true, false_from_ne_true, false≢true, lt-ltb}
use Rattle.std.proofs.lemmas.Option.{none-some}
use Rattle.std.proofs.lemmas.List.FromFn.{length-range_with_len, get_or-range_with_len}
use Rattle.xn_model.specs.Lists.{has_number, distinct}
use Rattle.xn_model.specs.Types.{Types}
use Rattle.xn_model.specs.Lives.{BlockState, Life, Lives, StoreState, life_at, prefix, prefix_of, safe_count, settle}
use Rattle.xn_model.specs.Calls.{bytes_at, pick_of, is_ready, life_pending}
use Rattle.xn_model.specs.Worlds.{World, types_now, Begin, Land, Sync, Finish, Reply, Landed, Synced, replies, world_after, all_pending, Run, IsEvent}
use Rattle.xn_model.specs.Waves.{can_begin, ready_blocks, IsWave, wave, begun_reply, finished_reply, wave_replies, is_success, waves_for, waves, flush, Done, all_done, all_drops, life_then, IsAfterWave}
use Rattle.xn_model.specs.Flights.{flight_of, HaveSameFlights}
use Rattle.xn_model.specs.Rules.{IsConsistent, Holds, IsIdle}
use Rattle.xn_model.proofs.Reached.{idle_at_rest}
use Rattle.xn_model.proofs.Lists.{Contains-none, Contains-head, Contains-take, has_number_at, has_number_from, filter_at, filter_from}
use Rattle.xn_model.proofs.Lives.{past}
use Rattle.xn_model.proofs.Tests.{some_from, safe_count_within}
use Rattle.xn_model.proofs.Least.{progress}
use Rattle.xn_model.proofs.Drains.{ready_life, picked_life, sum_lt, sum_some, first}
use Rattle.xn_model.proofs.Acts.{acts_run}
use Rattle.xn_model.proofs.WaveSteps.{Does, replies_append, after_append}
use Rattle.xn_model.proofs.WaveParts.{distinct_filter, holds_after, all_events, events_both, dropped_rests}
use Rattle.xn_model.proofs.Waves.{wave_does}

-- The ready blocks

range_has : (n c : ℕ) → c < n → Contains (range_with_len 0 n) c
range_has n c lt = (c, subst (λ m. c < m) (sym (length-range_with_len 0 n)) lt, get_or-range_with_len 0 n c c lt ∙ omega arith)

within : (lives : Lives) (c : ℕ) (l : Life) → life_at lives c ≡ Some l → c < length lives
within lives c l e = elim (cases_lt c (length lives)) [
  | inl lt ↦ lt
  | inr out ↦ absurd (none-some l (sym (past lives c out) ∙ e))
]

pub ready_in : (lives : Lives) (c : ℕ) → can_begin lives c ≡ true → Contains (ready_blocks lives) c
ready_in lives c e = let r = ready_life lives (life_at lives c) e in filter_from (can_begin lives) (range_with_len 0 (length lives)) c (range_has (length lives) c (within lives c r.0 r.1)) e

pub ready_found : (T : Types) (state : StoreState) → IsConsistent T state → IsIdle state.lives → (b : ℕ) (l : Life) (s : BlockState) → life_at state.lives b ≡ Some l → Contains l.pending s →
    (c : ℕ) × Contains (ready_blocks state.lives) c
ready_found T state h idle b l s alive i =
    let p = some_from (pick_of state) (progress T state h idle b l s alive i) in
    let r = picked_life state p.0 p.1 in
    (p.0, ready_in state.lives p.0 (ap (is_ready state.lives) r.1 ∙ go r.0 r.2 r.3))
  where
    go : (m : Life) → m.begun ≡ None → 1 ≤ prefix_of state.lives (Some m) → is_ready state.lives (Some m) ≡ true
    go m none some = and_from (is_none m.begun) (nat_lt 0 (prefix_of state.lives (Some m))) (ap is_none none) (lt-ltb 0 (prefix_of state.lives (Some m)) (omega arith))

distinct_range : (a n : ℕ) → distinct (range_with_len a n) ≡ true
distinct_range a zero = refl
distinct_range a (suc n) = and_from (not (has_number (range_with_len (a + 1) n) a)) (distinct (range_with_len (a + 1) n)) (ap not (false_from_ne_true (has_number (range_with_len (a + 1) n) a) (λ t.
    let i = has_number_at (range_with_len (a + 1) n) a t in
    let at : get_or (range_with_len (a + 1) n) i.0 a ≡ a + 1 + i.0 = get_or-range_with_len (a + 1) n i.0 a (subst (λ m. i.0 < m) (length-range_with_len (a + 1) n) i.1) in
    let is : a ≡ a + 1 + i.0 = sym i.2 ∙ at in
    absurd (omega arith)))) (distinct_range (a + 1) n)

distinct_take : (n : ℕ) (xs : List ℕ) → distinct xs ≡ true → distinct (take n xs) ≡ true
distinct_take zero xs e = refl
distinct_take (suc n) [] e = refl
distinct_take (suc n) (x ∷ xs) e =
    let parts = and_parts (not (has_number xs x)) (distinct xs) e in
    and_from (not (has_number (take n xs) x)) (distinct (take n xs)) (ap not (false_from_ne_true (has_number (take n xs) x) (λ t.
    false≢true (sym (not-true (has_number xs x) parts.0) ∙ has_number_from xs x (Contains-take n xs x (has_number_at (take n xs) x t)))))) (distinct_take n xs parts.1)

-- the first of them are a wave
pub ready_wave : (lives : Lives) (n : ℕ) → IsWave lives (take n (ready_blocks lives))
ready_wave lives n = record {
  once = distinct_take n (ready_blocks lives) (distinct_filter (can_begin lives) (range_with_len 0 (length lives)) (distinct_range 0 (length lives)));
  ready = λ b i. (filter_at (can_begin lives) (range_with_len 0 (length lives)) b (Contains-take n (ready_blocks lives) b i)).1;
}

-- A wave on a calm device

filter_all : (xs : List ℕ) → filter (λ b. true) xs ≡ xs
filter_all [] = refl
filter_all (x ∷ xs) = ap (λ ys. x ∷ ys) (filter_all xs)

pub calm_does : (w : World) → Holds w → w.down ≡ false → (bs : List ℕ) → IsWave w.state.lives bs → Does w (wave bs) (wave_replies w.state.lives bs) (IsAfterWave w all_done bs)
calm_does w h up bs can =
    subst (λ xs. Does w (map Begin bs ++ (map Land bs ++ (map Sync xs ++ map Finish xs))) (map (begun_reply w.state.lives) bs ++ (map (λ b. Landed) bs ++ (map (λ b. Synced) xs ++ map (finished_reply w.state.lives) xs))) (IsAfterWave w all_done bs))
    (filter_all bs) (wave_does w h up all_done bs can)

pub wave_events : (bs : List ℕ) → AllByRecursion IsEvent (wave bs)
wave_events bs = events_both (map Begin bs) (map Land bs ++ (map Sync bs ++ map Finish bs)) (all_events Begin (λ b. tt) bs)
    (events_both (map Land bs) (map Sync bs ++ map Finish bs) (all_events Land (λ b. tt) bs) (events_both (map Sync bs) (map Finish bs) (all_events Sync (λ b. tt) bs) (all_events Finish (λ b. tt) bs)))

pub calm_runs : (w : World) → Holds w → w.down ≡ false → (bs : List ℕ) → IsWave w.state.lives bs → Run w (wave bs) (wave_replies w.state.lives bs) (world_after w (wave bs))
calm_runs w h up bs can = subst (λ rs. Run w (wave bs) rs (world_after w (wave bs))) (calm_does w h up bs can).0 (acts_run w (wave bs) h (wave_events bs))

-- What it leaves of the writes under way, and of what is pending

module _ (w : World) (h : Holds w) (bs : List ℕ) (can : IsWave w.state.lives bs) (v : World) (after : IsAfterWave w all_done bs v) where
  abbrev lives : Lives
  lives = w.state.lives

  abbrev drops : List ℕ
  drops = all_drops w all_done bs

  -- what is dropped has no write under way
  dropped_idle : (c : ℕ) → has_number drops c ≡ true → (l : Life) × (life_at lives c ≡ Some l) × (l.begun ≡ None)
  dropped_idle c t =
      let rest = dropped_rests w all_done bs c (has_number_at drops c t) in
      (rest.life, rest.alive, idle_at_rest rest.life.begun (length rest.life.pending) (ap length rest.holds) (h.state.linked c rest.life rest.alive).flight)

  settled_idle : (k : ℕ) (o : Option Life) → flight_of (option_map (settle k) o) ≡ None
  settled_idle k None = refl
  settled_idle k (Some l) = refl

  flight_none : (o : Option Life) (l : Life) → o ≡ Some l → l.begun ≡ None → flight_of o ≡ None
  flight_none o l e none = ap flight_of e ∙ ap (option_map (λ k. (k, bytes_at k l))) none

  pub wave_flights : HaveSameFlights lives v.state.lives
  wave_flights c = ap flight_of (after.lives c) ∙ go (has_number bs c) refl (has_number drops c) refl
    where
      go : (t : Bool) → has_number bs c ≡ t → (d : Bool) → has_number drops c ≡ d →
          flight_of (cond t (option_map (life_then Done (prefix lives c) (prefix lives c)) (life_at lives c)) (cond d None (life_at lives c))) ≡ flight_of (life_at lives c)
      go true e d f = let r = ready_life lives (life_at lives c) (can.ready c (has_number_at bs c e)) in settled_idle (prefix lives c) (life_at lives c) ∙ sym (flight_none (life_at lives c) r.0 r.1 r.2)
      go false e true f = let r = dropped_idle c f in sym (flight_none (life_at lives c) r.0 r.1 r.2)
      go false e false f = refl

  pub wave_idle : IsIdle lives → IsIdle v.state.lives
  wave_idle idle c m e = unflown m (sym (ap flight_of e) ∙ (wave_flights c ∙ was (life_at lives c) refl))
    where
      unflown : (m : Life) → flight_of (Some m) ≡ None → m.begun ≡ None
      unflown m f = go m.begun f
        where
          go : (o : Option ℕ) → option_map {U = ℕ × List ℕ} (λ k. (k, bytes_at k m)) o ≡ None → o ≡ None
          go None g = refl
          go (Some k) g = absurd (none-some (k, bytes_at k m) (sym g))

      was : (o : Option Life) → life_at lives c ≡ o → flight_of o ≡ None
      was None f = refl
      was (Some l) f = ap (option_map (λ k. (k, bytes_at k l))) (idle c l f)

  less : (c : ℕ) → life_pending (life_at v.state.lives c) ≤ life_pending (life_at lives c)
  less c = subst (λ o. life_pending o ≤ life_pending (life_at lives c)) (sym (after.lives c)) (go (has_number bs c) (has_number drops c) (prefix lives c) (life_at lives c))
    where
      go : (t d : Bool) (k : ℕ) (o : Option Life) → life_pending (cond t (option_map (life_then Done k k) o) (cond d None o)) ≤ life_pending o
      go true d k None = omega arith
      go true d k (Some l) = rw length-drop (omega arith)
      go false true k o = omega arith
      go false false k o = omega arith

  pub wave_less : (b : ℕ) → Contains bs b → all_pending v.state.lives < all_pending lives
  wave_less b i =
      let r = ready_life lives (life_at lives b) (can.ready b i) in
      let l = r.0 in
      let k = prefix lives b in
      let now : life_at v.state.lives b ≡ Some (settle k l) =
      after.lives b ∙ (ap (λ t. cond t (option_map (life_then Done k k) (life_at lives b)) (cond (has_number drops b) None (life_at lives b))) (has_number_from bs b i) ∙ ap (option_map (settle k)) r.1) in
      let left : life_pending (life_at v.state.lives b) ≡ length l.pending - k = ap life_pending now ∙ length-drop k l.pending in
      let was : life_pending (life_at lives b) ≡ length l.pending = ap life_pending r.1 in
      let is : k ≡ safe_count lives l.ty [] l.pending = ap (prefix_of lives) r.1 in
      let some : 1 ≤ safe_count lives l.ty [] l.pending = r.3 in
      let few = safe_count_within lives l.ty [] l.pending in
      sum_lt lives v.state.lives b after.count (within lives b l r.1) less (omega arith)

-- Successes

all_of : {A : Type 0} (p : Reply → Bool) (f : A → Reply) → ((x : A) → p (f x) ≡ true) → (xs : List A) → list_all p (map f xs) ≡ true
all_of p f e [] = refl
all_of p f e (x ∷ xs) = and_from (p (f x)) (list_all p (map f xs)) (e x) (all_of p f e xs)

all_both : (p : Reply → Bool) (rs ss : List Reply) → list_all p rs ≡ true → list_all p ss ≡ true → list_all p (rs ++ ss) ≡ true
all_both p [] ss e f = f
all_both p (r ∷ rs) ss e f = let parts = and_parts (p r) (list_all p rs) e in and_from (p r) (list_all p (rs ++ ss)) parts.0 (all_both p rs ss parts.1 f)

pub wave_succeeds : (lives : Lives) (bs : List ℕ) → list_all is_success (wave_replies lives bs) ≡ true
wave_succeeds lives bs =
    let d : list_all is_success (map (finished_reply lives) bs) ≡ true = all_of is_success (finished_reply lives) (λ b. refl) bs in
    let c : list_all is_success (map {B = Reply} (λ b. Synced) bs ++ map (finished_reply lives) bs) ≡ true = all_both is_success (map (λ b. Synced) bs) (map (finished_reply lives) bs) (all_of is_success (λ b. Synced) (λ b. refl) bs) d in
    let e : list_all is_success (map {B = Reply} (λ b. Landed) bs ++ (map (λ b. Synced) bs ++ map (finished_reply lives) bs)) ≡ true = all_both is_success (map (λ b. Landed) bs) (map (λ b. Synced) bs ++ map (finished_reply lives) bs) (all_of is_success (λ b. Landed) (λ b. refl) bs) c in
    all_both is_success (map (begun_reply lives) bs) (map (λ b. Landed) bs ++ (map (λ b. Synced) bs ++ map (finished_reply lives) bs)) (all_of is_success (begun_reply lives) (λ b. refl) bs) e

-- A flush

pub record IsFlushed (w : World) (n : ℕ) (ws : List (List ℕ)) : Type 0 where
  pub few : length ws ≤ n
  pub nothing : all_pending (world_after w (flat_map wave ws)).state.lives ≡ 0
  pub idle : IsIdle (world_after w (flat_map wave ws)).state.lives
  pub answered : list_all is_success (replies w (flat_map wave ws)) ≡ true

pub flushes : (n limit : ℕ) (w : World) → Holds w → w.down ≡ false → IsIdle w.state.lives → 1 ≤ limit → all_pending w.state.lives ≤ n → IsFlushed w n (waves_for n limit w)
flushes zero limit w h up idle some le = record { few = omega arith; nothing = omega arith; idle = idle; answered = refl }
flushes (suc n) limit w h up idle some le = go (take limit (ready_blocks w.state.lives)) refl (λ v hv upv idlev lev. flushes n limit v hv upv idlev some lev)
  where
    lives : Lives
    lives = w.state.lives

    none_ready : take limit (ready_blocks lives) ≡ [] → all_pending lives ≡ 0
    none_ready e = elim (cases_lt 0 (all_pending lives)) [
      | inr out ↦ omega arith
      | inl more ↦
          let r = sum_some lives (omega arith) in
          let s = first r.1.pending r.3 in
          let c = ready_found (types_now w) w.state h.state idle r.0 r.1 s.0 r.2 s.1 in
          absurd (taken limit (ready_blocks lives) some e c.0 c.1)
    ]
      where
        taken : (limit : ℕ) (xs : List ℕ) → 1 ≤ limit → take limit xs ≡ [] → (c : ℕ) → Contains xs c → ⊥
        taken zero xs some e c i = omega arith
        taken (suc m) [] some e c i = Contains-none c i
        taken (suc m) (x ∷ xs) some e c i = Contains-none x (subst (λ ys. Contains ys x) e (Contains-head x (take m xs)))

    go : (bs : List ℕ) → take limit (ready_blocks lives) ≡ bs →
        ((v : World) → Holds v → v.down ≡ false → IsIdle v.state.lives → all_pending v.state.lives ≤ n → IsFlushed v n (waves_for n limit v)) →
        IsFlushed w (suc n) (elim bs as (λ x. List (List ℕ)) [ [] ↦ [] | b ∷ cs ↦ (b ∷ cs) ∷ waves_for n limit (world_after w (wave (b ∷ cs))) ])
    go [] e more = record { few = omega arith; nothing = none_ready e; idle = idle; answered = refl }
    go (b ∷ cs) e more =
        let bs = b ∷ cs in
        let can : IsWave lives bs = subst (IsWave lives) e (ready_wave lives limit) in
        let d = calm_does w h up bs can in
        let v = world_after w (wave bs) in
        let less = wave_less w h bs can v d.1 b (Contains-head b cs) in
        let r = more v (holds_after w (wave bs) h (wave_events bs)) (d.1.up ∙ up) (wave_idle w h bs can v d.1 idle) (omega arith) in
        let rest = flat_map wave (waves_for n limit v) in
        record {
          few = let le' = r.few in omega arith;
          nothing = ap (λ (x : World). all_pending x.state.lives) (after_append w (wave bs) rest) ∙ r.nothing;
          idle = subst (λ (x : World). IsIdle x.state.lives) (sym (after_append w (wave bs) rest)) r.idle;
          answered = ap (list_all is_success) (replies_append w (wave bs) rest)
              ∙ all_both is_success (replies w (wave bs)) (replies v rest) (ap (list_all is_success) d.0 ∙ wave_succeeds lives bs) r.answered;
        }

pub flush_ends : (w : World) (limit : ℕ) → Holds w → w.down ≡ false → IsIdle w.state.lives → 1 ≤ limit → IsFlushed w (all_pending w.state.lives) (waves limit w)
flush_ends w limit h up idle some = flushes (all_pending w.state.lives) limit w h up idle some (omega arith)

pub flush_answered : (w : World) (limit : ℕ) → Holds w → w.down ≡ false → IsIdle w.state.lives → 1 ≤ limit → All (λ r. is_success r ≡ true) (replies w (flush limit w))
flush_answered w limit h up idle some = each (replies w (flush limit w)) (flush_ends w limit h up idle some).answered
  where
    each : (rs : List Reply) → list_all is_success rs ≡ true → All (λ r. is_success r ≡ true) rs
    each [] e k d lt = absurd (omega arith)
    each (r ∷ rs) e zero d lt = (and_parts (is_success r) (list_all is_success rs) e).0
    each (r ∷ rs) e (suc k) d lt = each rs (and_parts (is_success r) (list_all is_success rs) e).1 k d (omega arith)

flush_events : (ws : List (List ℕ)) → AllByRecursion IsEvent (flat_map wave ws)
flush_events [] = tt
flush_events (bs ∷ ws) = events_both (wave bs) (flat_map wave ws) (wave_events bs) (flush_events ws)

pub flush_runs : (w : World) (limit : ℕ) → Holds w → Run w (flush limit w) (replies w (flush limit w)) (world_after w (flush limit w))
flush_runs w limit h = acts_run w (flush limit w) h (flush_events (waves limit w))
