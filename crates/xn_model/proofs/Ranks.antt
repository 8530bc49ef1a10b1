-- A flush that takes all ready blocks at a time has as many waves as some chain of waiting entries has entries.
use Rattle.std.proofs.Common.{◌≡◌, ℕ, zero, suc, ◌<◌, ◌≤◌, ◌⊎◌, Bool, true, false, cond, not, ◌&&◌, ◌||◌, List, [], ◌∷◌, ◌++◌, length, take, drop, Option, Some, None, refl, sym, ◌∙◌, ap, inl, inr, arith, subst, eqb}
use Rattle.std.specs.Prelude.{Contains, option_to_list, is_some, is_none, nat_lt, filter, option_map, ◌≢◌, ◌==◌}
use Rattle.std.specs.List.{list_all, list_any, last_or, range_with_len}
use Rattle.std.proofs.lemmas.Bool.{eq-eqb, cases_eq, and_from, or_left, or_right, false≢true, true≢false, eqb-true, lt-ltb, false_from_ne_true, cond-true}
use Rattle.std.proofs.lemmas.Option.{same_Some, none-some}
use Rattle.std.proofs.lemmas.List.{append_assoc, take-append-drop}
use Rattle.std.proofs.lemmas.List.Elements.{Contains-append_cases, Contains-append_left, Contains-append_right}
use Rattle.std.proofs.lemmas.List.FromFn.{length-range_with_len}
use Rattle.xn_model.specs.Lists.{has_number, blocks_of, types_of_pairs}
use Rattle.xn_model.specs.Root.{has_type}
use Rattle.xn_model.specs.Types.{Types}
use Rattle.xn_model.specs.Lives.{BlockState, Life, Lives, StoreState, life_at, has_entry, is_pending, no_states, has_durable, is_all_durable, is_after_met, is_type_met, root_on_disk, durable_bytes, bytes_of, states, safe, safe_count, prefix, prefix_of, alive_and, durable_after, settle}
use Rattle.xn_model.specs.Calls.{is_ready}
use Rattle.xn_model.specs.Worlds.{World, types_now, world_after, all_pending}
use Rattle.xn_model.specs.Waves.{can_begin, ready_blocks, IsWave, wave, waves_for, waves, WaitsFor, ForAdded, ForDropped, ForType, ForEarlier, IsBefore, IsChain, Alone, Later, Behind, IsRanking, all_done, all_drops, Done, life_then, IsAfterWave}
use Rattle.xn_model.specs.Rules.{Holds, IsConsistent, IsRootLife, PointersStay, IsIdle, Rises}
use Rattle.xn_model.proofs.Lives.{of_life, of_root}
use Rattle.xn_model.proofs.Lists.{Contains-head, Contains-tail, Contains-none, Contains-cons, Contains-drop, any_at, any_from, blocks_of_at, has_number_at, has_number_from}
use Rattle.xn_model.proofs.Tests.{safe_count_within}
use Rattle.xn_model.proofs.Catalogue.{on_disk_is}
use Rattle.xn_model.proofs.Least.{list_life, rises_first}
use Rattle.xn_model.proofs.Drains.{ready_life, first}
use Rattle.xn_model.proofs.WaveParts.{holds_after}
use Rattle.xn_model.proofs.Prefixes.{settle_types, bytes_kept}
use Rattle.xn_model.proofs.Flush.{ready_in, ready_wave, calm_does, wave_events, wave_idle}

-- What is not safe waits for something

rises_later : (xs ys : List BlockState) → Rises (xs ++ ys) → Rises ys
rises_later [] ys r = r
rises_later (x ∷ []) [] r = tt
rises_later (x ∷ []) (y ∷ ys) r = r.1
rises_later (x ∷ z ∷ xs) ys r = rises_later (z ∷ xs) ys r.1

-- one of several does not pass
fails_at : {A : Type 0} (p : A → Bool) (xs : List A) → list_all p xs ≡ false → (x : A) × Contains xs x × (p x ≡ false)
fails_at {A = A} p [] e = absurd (true≢false e)
fails_at {A = A} p (x ∷ xs) e = go (p x) refl (λ f. fails_at p xs f)
  where
    go : (t : Bool) → p x ≡ t → (list_all p xs ≡ false → (y : A) × Contains xs y × (p y ≡ false)) → (y : A) × Contains (x ∷ xs) y × (p y ≡ false)
    go false f more = (x, Contains-head x xs, f)
    go true f more = let r = more (sym (ap (λ t. t && list_all p xs) f) ∙ e) in (r.0, Contains-tail x xs r.0 r.1, r.2)

-- the first of some states that passes a test
record FirstOf (p : BlockState → Bool) (xs : List BlockState) : Type 0 where
  state : BlockState
  front : List BlockState
  back : List BlockState
  split : xs ≡ front ++ state ∷ back
  none : list_any p front ≡ false
  passes : p state ≡ true

first_of : (p : BlockState → Bool) (xs : List BlockState) (t : BlockState) → Contains xs t → p t ≡ true → FirstOf p xs
first_of p [] t i e = absurd (Contains-none t i)
first_of p (x ∷ xs) t i e = go (p x) refl (λ j. first_of p xs t j e)
  where
    go : (u : Bool) → p x ≡ u → (Contains xs t → FirstOf p xs) → FirstOf p (x ∷ xs)
    go true f more = record { state = x; front = []; back = xs; split = refl; none = refl; passes = f }
    go false f more = elim (Contains-cons x xs t i) [
      | inl same ↦ absurd (false≢true (sym f ∙ (ap p same ∙ e)))
      | inr later ↦
          let r = more later in
          record {
            state = r.state;
            front = x ∷ r.front;
            back = r.back;
            split = ap (λ ys. x ∷ ys) r.split;
            none = ap (λ u. u || list_any p r.front) f ∙ r.none;
            passes = r.passes;
          }
    ]

types_at : (ps : List (ℕ × ℕ)) (u : ℕ) → Contains (types_of_pairs ps) u → (x : ℕ) × Contains ps (x, u)
types_at [] u k = absurd (Contains-none u k)
types_at (p ∷ ps) u k = elim (Contains-cons p.1 (types_of_pairs ps) u k) [
  | inl e ↦ (p.0, subst (λ t. Contains (p ∷ ps) (p.0, t)) e (Contains-head p ps))
  | inr j ↦ let r = types_at ps u j in (r.0, Contains-tail p ps (r.0, u) r.1)
]

-- a pending entry that entry s of block b waits for
pub record Awaits (lives : Lives) (b : ℕ) (s : BlockState) : Type 0 where
  pub block : ℕ
  pub life : Life
  pub alive : life_at lives block ≡ Some life
  pub state : BlockState
  pub pending : Contains life.pending state
  pub waits : WaitsFor lives b s block state

module _ (T : Types) (state : StoreState) (h : IsConsistent T state) where
  abbrev lives : Lives
  lives = state.lives

  module _ (b : ℕ) (l : Life) (alive : life_at lives b ≡ Some l) where
    added : (s : BlockState) (c u : ℕ) → Contains l.pending s → Contains s.adds (c, u) → has_durable lives c ≡ false → Awaits lives b s
    added s c u i j none =
        let o = (h.waits.adds b l s c u alive i j).1 in
        let fresh : is_some o.life.durable ≡ false = sym (ap (alive_and (λ m. is_some m.durable)) o.alive) ∙ none in
        elim o.holds [
          | inl d ↦ absurd (true≢false (sym (ap is_some d.1) ∙ fresh))
          | inr t ↦ go o.life o.alive o.life.durable refl fresh o.life.pending refl t.0 t.1
        ]
      where
        go : (m : Life) → life_at lives c ≡ Some m → (d : Option BlockState) → m.durable ≡ d → is_some d ≡ false → (xs : List BlockState) → m.pending ≡ xs → (t : BlockState) → Contains xs t → Awaits lives b s
        go m at (Some x) e f xs p t k = absurd (true≢false f)
        go m at None e f [] p t k = absurd (Contains-none t k)
        go m at None e f (x ∷ xs) p t k = record { block = c; life = m; alive = at; state = x; pending = subst (λ ys. Contains ys x) (sym p) (Contains-head x xs); waits = ForAdded u m xs j at e p }

    dropped : (s : BlockState) (c : ℕ) → Contains l.pending s → Contains s.drops c → is_all_durable lives c ≡ false → Awaits lives b s
    dropped s c i j none =
        let d = (h.linked b l alive).dropped s c i j in
        go d.life d.alive d.life.pending refl
      where
        go : (m : Life) → life_at lives c ≡ Some m → (xs : List BlockState) → m.pending ≡ xs → Awaits lives b s
        go m at [] p =
            let k = h.linked c m at in
            let stored : m.durable ≡ Some k.last = sym (ap (last_or m.durable) p) ∙ k.is_last in
            let all : is_all_durable lives c ≡ true = ap (alive_and (λ x. is_some x.durable && no_states x.pending)) at ∙ and_from (is_some m.durable) (no_states m.pending) (ap is_some stored) (ap no_states p) in
            absurd (true≢false (sym all ∙ none))
        go m at (t ∷ xs) p =
            let in' : Contains m.pending t = subst (λ ys. Contains ys t) (sym p) (Contains-head t xs) in
            record { block = c; life = m; alive = at; state = t; pending = in'; waits = ForDropped m j at in' }

    -- an older entry of the same block stands before it
    stands_earlier : (earlier xs : List BlockState) (s z : BlockState) → l.pending ≡ earlier ++ s ∷ xs → Contains l.pending z → z.entry < s.entry → Contains earlier z
    stands_earlier earlier xs s z split k lt = elim (Contains-append_cases earlier (s ∷ xs) z (subst (λ ys. Contains ys z) split k)) [
      | inl here ↦ here
      | inr later ↦
          let all : Rises (option_to_list l.durable ++ (earlier ++ s ∷ xs)) = subst (λ ys. Rises (option_to_list l.durable ++ ys)) split (h.lives_sound.each b l alive).rising in
          let le = rises_first s xs z (rises_later earlier (s ∷ xs) (rises_later (option_to_list l.durable) (earlier ++ s ∷ xs) all)) later in
          absurd (omega arith)
    ]

    -- block 0's own entries find the types of what they add
    typed : (earlier xs : List BlockState) (s : BlockState) (x u : ℕ) → l.pending ≡ earlier ++ s ∷ xs → Contains l.pending s → Contains s.adds (x, u) → is_type_met lives l.ty earlier u ≡ false → Awaits lives b s
    typed earlier xs s x u split i j f =
        let o = h.waits.types b l s x u alive i j in
        elim o.holds [
          | inl d ↦ absurd (false≢true (sym missing ∙ (ap (λ m. has_type m u) (on_disk_is lives o.life d.0 o.alive d.1) ∙ d.2)))
          | inr t ↦ elim (cases_eq b 0) [
            | inl root ↦
                let same : o.life ≡ l = same_Some o.life l (sym o.alive ∙ (ap (life_at lives) (sym root) ∙ alive)) in
                let before = stands_earlier earlier xs s t.0 split (subst (λ (m : Life). Contains m.pending t.0) same t.1) t.2 in
                let ty : l.ty ≡ 0 = (of_root h.lives_sound.root l (ap (life_at lives) (sym root) ∙ alive)).0 in
                let early : ((l.ty == 0) && list_any (λ y. has_type y.bytes u) earlier) ≡ true =
                and_from (l.ty == 0) (list_any (λ y. has_type y.bytes u) earlier) (eq-eqb l.ty 0 ty) (any_from (λ (y : BlockState). has_type y.bytes u) earlier t.0 before t.3) in
                absurd (true≢false (sym (or_right (has_type (root_on_disk lives) u) ((l.ty == 0) && list_any (λ y. has_type y.bytes u) earlier) early) ∙ f))
            | inr other ↦
                let r = first_of (λ (y : BlockState). has_type y.bytes u) o.life.pending t.0 t.1 t.3 in
                record {
                  block = 0;
                  life = o.life;
                  alive = o.alive;
                  state = r.state;
                  pending = subst (λ ys. Contains ys r.state) (sym r.split) (Contains-append_right r.front (r.state ∷ r.back) r.state (Contains-head r.state r.back));
                  waits = ForType x u o.life r.front r.back j missing other refl o.alive r.split r.none r.passes;
                }
          ]
        ]
      where
        missing : has_type (root_on_disk lives) u ≡ false
        missing = false_from_ne_true (has_type (root_on_disk lives) u)
            (λ t. true≢false (sym (or_left (has_type (root_on_disk lives) u) ((l.ty == 0) && list_any (λ y. has_type y.bytes u) earlier) t) ∙ f))

    unmet : (earlier xs : List BlockState) (s : BlockState) (o : Option ℕ) → l.pending ≡ earlier ++ s ∷ xs → Contains l.pending s → s.after ≡ o → is_after_met lives earlier o ≡ false → Awaits lives b s
    unmet earlier xs s None split i e f = absurd (true≢false f)
    unmet earlier xs s (Some n) split i e f = go (is_pending lives n) refl (has_entry earlier n) refl
      where
        earlier_has : (z : BlockState) → z.entry ≡ n → Contains l.pending z → n < s.entry → has_entry earlier n ≡ true
        earlier_has z is k lt = any_from (λ (y : BlockState). eqb y.entry n) earlier z (stands_earlier earlier xs s z split k (omega arith)) (eq-eqb z.entry n is)

        go : (p : Bool) → is_pending lives n ≡ p → (q : Bool) → has_entry earlier n ≡ q → Awaits lives b s
        go false none q g = absurd (true≢false (sym (ap (λ t. not t || has_entry earlier n) none) ∙ f))
        go true some true g = absurd (true≢false (sym (or_right (not (is_pending lives n)) (has_entry earlier n) g) ∙ f))
        go true some false g =
            let r = list_life lives (λ m. has_entry m.pending n) some in
            let z = any_at (λ (y : BlockState). eqb y.entry n) r.1.pending r.3 in
            let is = eqb-true z.0.entry n z.2 in
            elim (cases_eq r.0 b) [
              | inr other ↦ record { block = r.0; life = r.1; alive = r.2; state = z.0; pending = z.1; waits = ForEarlier r.1 (e ∙ ap (λ k. Some k) (sym is)) other r.2 z.1 }
              | inl same ↦
                  let life : r.1 ≡ l = same_Some r.1 l (sym r.2 ∙ (ap (life_at lives) same ∙ alive)) in
                  let has = earlier_has z.0 is (subst (λ (m : Life). Contains m.pending z.0) life z.1) (h.waits.after b l s n alive i e) in
                  absurd (true≢false (sym has ∙ g))
            ]

    unsafe : (earlier xs : List BlockState) (s : BlockState) → l.pending ≡ earlier ++ s ∷ xs → Contains l.pending s → safe lives l.ty earlier s ≡ false → Awaits lives b s
    unsafe earlier xs s split i e =
        go (list_all (has_durable lives) (blocks_of s.adds)) refl (list_all (is_type_met lives l.ty earlier) (types_of_pairs s.adds)) refl (list_all (is_all_durable lives) s.drops) refl
      where
        go : (x : Bool) → list_all (has_durable lives) (blocks_of s.adds) ≡ x → (t : Bool) → list_all (is_type_met lives l.ty earlier) (types_of_pairs s.adds) ≡ t →
            (y : Bool) → list_all (is_all_durable lives) s.drops ≡ y → Awaits lives b s
        go false f t k y g = let r = fails_at (has_durable lives) (blocks_of s.adds) f in let p = blocks_of_at s.adds r.0 r.1 in added s r.0 p.0 i p.1 r.2
        go true f false k y g =
            let r = fails_at (is_type_met lives l.ty earlier) (types_of_pairs s.adds) k in
            let p = types_at s.adds r.0 r.1 in
            typed earlier xs s p.0 r.0 split i p.1 r.2
        go true f true k false g = let r = fails_at (is_all_durable lives) s.drops g in dropped s r.0 i r.1 r.2
        go true f true k true g = unmet earlier xs s s.after split i refl
            (sym (λ i. (f i && k i) && (g i && is_after_met lives earlier s.after)) ∙ e)

    -- what is left after the prefix, or an entry before it, waits
    left_waits : (earlier xs : List BlockState) → l.pending ≡ earlier ++ xs → (t : BlockState) → Contains (drop (safe_count lives l.ty earlier xs) xs) t →
        (s : BlockState) × Contains l.pending s × Awaits lives b s × ((s ≡ t) ⊎ IsBefore l.pending s t)
    left_waits earlier [] split t i = absurd (Contains-none t i)
    left_waits earlier (x ∷ xs) split t i = go (safe lives l.ty earlier x) refl (λ j. left_waits (earlier ++ x ∷ []) xs (split ∙ sym (append_assoc earlier (x ∷ []) xs)) t j)
      where
        here : Contains l.pending x
        here = subst (λ ys. Contains ys x) (sym split) (Contains-append_right earlier (x ∷ xs) x (Contains-head x xs))

        go : (u : Bool) → safe lives l.ty earlier x ≡ u →
            (Contains (drop (safe_count lives l.ty (earlier ++ x ∷ []) xs) xs) t → (s : BlockState) × Contains l.pending s × Awaits lives b s × ((s ≡ t) ⊎ IsBefore l.pending s t)) →
            (s : BlockState) × Contains l.pending s × Awaits lives b s × ((s ≡ t) ⊎ IsBefore l.pending s t)
        go true e more = more (subst (λ n. Contains (drop n (x ∷ xs)) t) (cond-true (safe lives l.ty earlier x) (suc (safe_count lives l.ty (earlier ++ x ∷ []) xs)) 0 e) i)
        go false e more = (
          x,
          here,
          unsafe earlier xs x split here e,
          elim (Contains-cons x xs t (Contains-drop (safe_count lives l.ty earlier (x ∷ xs)) (x ∷ xs) t i)) [
            | inl same ↦ inl same
            | inr later ↦ inr (record { front = earlier; back = xs; split = split; later = later })
          ],
        )

-- A wave of all ready blocks

take_all : {A : Type 0} (n : ℕ) (xs : List A) → length xs ≤ n → take n xs ≡ xs
take_all zero [] le = refl
take_all zero (x ∷ xs) le = absurd (omega arith)
take_all (suc n) [] le = refl
take_all (suc n) (x ∷ xs) le = ap (λ ys. x ∷ ys) (take_all n xs (omega arith))

filter_short : (p : ℕ → Bool) (xs : List ℕ) → length (filter p xs) ≤ length xs
filter_short p [] = omega arith
filter_short p (x ∷ xs) = go (p x) (filter_short p xs)
  where
    go : (t : Bool) → length (filter p xs) ≤ length xs → length (cond t (x ∷ filter p xs) (filter p xs)) ≤ suc (length xs)
    go true le = omega arith
    go false le = omega arith

all_ready : (lives : Lives) (limit : ℕ) → length lives ≤ limit → take limit (ready_blocks lives) ≡ ready_blocks lives
all_ready lives limit le =
    let short = filter_short (can_begin lives) (range_with_len 0 (length lives)) in
    let long = length-range_with_len 0 (length lives) in
    take_all limit (ready_blocks lives) (omega arith)

-- what is left of a life
pub record IsLeft (old : Lives) (c : ℕ) (m : Life) : Type 0 where
  pub life : Life
  pub alive : life_at old c ≡ Some life
  pub pending : m.pending ≡ drop (safe_count old life.ty [] life.pending) life.pending
  pub bytes : bytes_of m.durable ≡ bytes_of (last_or life.durable (take (safe_count old life.ty [] life.pending) life.pending))
  pub fresh : m.durable ≡ None → (life.durable ≡ None) × (m.pending ≡ life.pending)

module _ (w : World) (h : Holds w) (idle : IsIdle w.state.lives) (bs : List ℕ) (can : IsWave w.state.lives bs) (all : (c : ℕ) → can_begin w.state.lives c ≡ true → has_number bs c ≡ true)
    (v : World) (after : IsAfterWave w all_done bs v) where
  abbrev was : Lives
  was = w.state.lives

  abbrev ended : List ℕ
  ended = all_drops w all_done bs

  has_last : (o : Option BlockState) (k : ℕ) (xs : List BlockState) → 1 ≤ k → k ≤ length xs → durable_after (last_or o (take k xs)) ≡ None → ⊥
  has_last o zero xs lo hi e = omega arith
  has_last o (suc k) [] lo hi e = omega arith
  has_last o (suc k) (x ∷ xs) lo hi e = go x (take k xs) e
    where
      go : (x : BlockState) (xs : List BlockState) → durable_after (last_or (Some x) xs) ≡ None → ⊥
      go x [] e = absurd cc
      go x (y ∷ xs) e = go y xs e

  not_ready : (n : ℕ) → nat_lt 0 n ≡ false → n ≡ 0
  not_ready zero e = refl
  not_ready (suc n) e = absurd (false≢true (sym e ∙ lt-ltb 0 (suc n) (omega arith)))

  left_of : (c : ℕ) (m : Life) → life_at v.state.lives c ≡ Some m → IsLeft was c m
  left_of c m e = go (has_number bs c) refl (has_number ended c) (life_at was c) refl (sym (after.lives c) ∙ e)
    where
      go : (t : Bool) → has_number bs c ≡ t → (d : Bool) (o : Option Life) → life_at was c ≡ o → cond t (option_map (life_then Done (prefix was c) (prefix was c)) o) (cond d None o) ≡ Some m → IsLeft was c m
      go true e d None f g = absurd (none-some m g)
      go true e d (Some l) f g =
          let r = ready_life was (life_at was c) (can.ready c (has_number_at bs c e)) in
          let same : r.0 ≡ l = same_Some r.0 l (sym r.1 ∙ f) in
          let k : prefix was c ≡ safe_count was l.ty [] l.pending = ap (prefix_of was) f in
          let is : settle (prefix was c) l ≡ m = same_Some (settle (prefix was c) l) m g in
          let some : 1 ≤ safe_count was l.ty [] l.pending = subst (λ (x : Life). 1 ≤ safe_count was x.ty [] x.pending) same r.3 in
          let few = safe_count_within was l.ty [] l.pending in
          record {
            life = l;
            alive = f;
            pending = ap (λ (x : Life). x.pending) (sym is) ∙ ap (λ n. drop n l.pending) k;
            bytes = ap (λ (x : Life). bytes_of x.durable) (sym is)
                ∙ (bytes_kept (last_or l.durable (take (prefix was c) l.pending)) ∙ ap (λ n. bytes_of (last_or l.durable (take n l.pending))) k);
            fresh = λ none. absurd (has_last l.durable (prefix was c) l.pending (omega arith) (omega arith) (ap (λ (x : Life). x.durable) is ∙ none));
          }
      go false e true o f g = absurd (none-some m g)
      go false e false None f g = absurd (none-some m g)
      go false e false (Some l) f g =
          let same : l ≡ m = same_Some l m g in
          let unready : can_begin was c ≡ false = false_from_ne_true (can_begin was c) (λ t. false≢true (sym e ∙ all c t)) in
          let none : safe_count was l.ty [] l.pending ≡ 0 = not_ready (safe_count was l.ty [] l.pending)
          (sym (ap (λ o. is_none o && nat_lt 0 (safe_count was l.ty [] l.pending)) (idle c l f)) ∙ (sym (ap (is_ready was) f) ∙ unready)) in
          record {
            life = l;
            alive = f;
            pending = ap (λ (x : Life). x.pending) (sym same) ∙ ap (λ n. drop n l.pending) (sym none);
            bytes = ap (λ (x : Life). bytes_of x.durable) (sym same) ∙ ap (λ n. bytes_of (last_or l.durable (take n l.pending))) (sym none);
            fresh = λ d. (ap (λ (x : Life). x.durable) same ∙ d, ap (λ (x : Life). x.pending) (sym same));
          }

  -- What is left waited as it does now
  still_pending : (c : ℕ) (m : Life) (r : IsLeft was c m) (s : BlockState) → Contains m.pending s → Contains r.life.pending s
  still_pending c m r s i = Contains-drop (safe_count was r.life.ty [] r.life.pending) r.life.pending s (subst (λ xs. Contains xs s) r.pending i)

  before_dropped : (k : ℕ) (xs : List BlockState) (s t : BlockState) → IsBefore (drop k xs) s t → IsBefore xs s t
  before_dropped k xs s t r = record {
    front = take k xs ++ r.front;
    back = r.back;
    split = sym (take-append-drop k xs) ∙ (ap (λ ys. take k xs ++ ys) r.split ∙ sym (append_assoc (take k xs) r.front (s ∷ r.back)));
    later = r.later;
  }

  -- the types of block 0's states that are on the disk now
  module _ (m : Life) (e : life_at v.state.lives 0 ≡ Some m) (u : ℕ) (missing : has_type (root_on_disk v.state.lives) u ≡ false) where
    abbrev root_left : IsLeft was 0 m
    root_left = left_of 0 m e

    abbrev first_ones : List BlockState
    first_ones = take (safe_count was root_left.life.ty [] root_left.life.pending) root_left.life.pending

    root : IsRootLife (types_now w) was
    root = h.state.lives_sound.root

    root_same : root.life ≡ root_left.life
    root_same = same_Some root.life root_left.life (sym root.alive ∙ root_left.alive)

    none_had : (s : BlockState) → Contains (option_to_list root_left.life.durable ++ first_ones) s → has_type s.bytes u ≡ true → ⊥
    none_had s i has =
        let left = settle_types (safe_count was root_left.life.ty [] root_left.life.pending) root_left.life s u (subst (λ (l : Life). PointersStay (states l)) root_same root.pointers) i has in
        false≢true (sym missing ∙ (ap (λ n. has_type n u) (ap durable_bytes e ∙ root_left.bytes) ∙ left))

    was_missing : has_type (root_on_disk was) u ≡ false
    was_missing = false_from_ne_true (has_type (root_on_disk was) u) (λ t.
        none_had root.state (Contains-append_left (option_to_list root_left.life.durable) first_ones root.state (subst (λ o. Contains (option_to_list o) root.state)
        (sym root.durable ∙ ap (λ (l : Life). l.durable) root_same) (Contains-head root.state [])))
        (ap (λ n. has_type n u) (sym (on_disk_is was root.life root.state root.alive root.durable)) ∙ t))

    none_before : (front : List BlockState) → list_any (λ y. has_type y.bytes u) front ≡ false → list_any (λ y. has_type y.bytes u) (first_ones ++ front) ≡ false
    none_before front none = false_from_ne_true (list_any (λ y. has_type y.bytes u) (first_ones ++ front)) (λ t.
        let y = any_at (λ (y : BlockState). has_type y.bytes u) (first_ones ++ front) t in
        elim (Contains-append_cases first_ones front y.0 y.1) [
          | inl i ↦ none_had y.0 (Contains-append_right (option_to_list root_left.life.durable) first_ones y.0 i) y.2
          | inr i ↦ false≢true (sym none ∙ any_from (λ (y : BlockState). has_type y.bytes u) front y.0 i y.2)
        ])

  waited : (b : ℕ) (s : BlockState) (c : ℕ) (t : BlockState) → WaitsFor v.state.lives b s c t → WaitsFor was b s c t
  waited b s c t (ForAdded u m states j e d p) = let r = left_of c m e in let fresh = r.fresh d in ForAdded u r.life states j r.alive fresh.0 (sym fresh.1 ∙ p)
  waited b s c t (ForDropped m j e i) = let r = left_of c m e in ForDropped r.life j r.alive (still_pending c m r t i)
  waited b s c t (ForType x u m front back j missing other root e split none has) =
      let r = left_of 0 m e in
      let k = safe_count was r.life.ty [] r.life.pending in
      ForType x u r.life (take k r.life.pending ++ front) back j (was_missing m e u missing) other root r.alive
      (sym (take-append-drop k r.life.pending) ∙ (ap (λ ys. take k r.life.pending ++ ys) (sym r.pending ∙ split) ∙ sym (append_assoc (take k r.life.pending) front (t ∷ back))))
      (none_before m e u missing front none) has
  waited b s c t (ForEarlier m a other e i) = let r = left_of c m e in ForEarlier r.life a other r.alive (still_pending c m r t i)

  -- so a chain was longer by one
  pub longer : {n b : ℕ} {s : BlockState} → IsChain v.state.lives n b s → IsChain was (suc n) b s
  longer {n} {b} {s} (Alone m e i) =
      let r = left_of b m e in
      let k = left_waits (types_now w) w.state h.state b r.life r.alive [] r.life.pending refl s (subst (λ xs. Contains xs s) r.pending i) in
      let a : Awaits was b k.0 = k.2 in
      let two : IsChain was 2 b k.0 = Behind r.life a.block a.state (Alone a.life a.alive a.pending) r.alive k.1 a.waits in
      elim k.3 [ inl same ↦ subst (IsChain was 2 b) same two | inr before ↦ Later r.life k.0 two r.alive before ]
  longer {n} {b} {s = t} (Later m s chain e before) =
      let r = left_of b m e in
      Later r.life s (longer chain) r.alive (before_dropped (safe_count was r.life.ty [] r.life.pending) r.life.pending s t (subst (λ xs. IsBefore xs s t) r.pending before))
  longer {n} {b} {s} (Behind m c t chain e i waits) = let r = left_of b m e in Behind r.life c t (longer chain) r.alive (still_pending b m r s i) (waited b s c t waits)

-- All waves

-- a chain of so many entries, where there are any
abbrev pub HasChain : Lives → ℕ → Type 0
HasChain lives n = (n ≡ 0) ⊎ ((b : ℕ) × (s : BlockState) × IsChain lives n b s)

pub chain_of_waves : (n limit : ℕ) (w : World) → Holds w → w.down ≡ false → IsIdle w.state.lives → length w.state.lives ≤ limit → HasChain w.state.lives (length (waves_for n limit w))
chain_of_waves zero limit w h up idle long = inl refl
chain_of_waves (suc n) limit w h up idle long = go (take limit (ready_blocks w.state.lives)) refl (λ v hv upv idlev longv. chain_of_waves n limit v hv upv idlev longv)
  where
    lives : Lives
    lives = w.state.lives

    go : (bs : List ℕ) → take limit (ready_blocks lives) ≡ bs →
        ((v : World) → Holds v → v.down ≡ false → IsIdle v.state.lives → length v.state.lives ≤ limit → HasChain v.state.lives (length (waves_for n limit v))) →
        HasChain lives (length (elim bs as (λ x. List (List ℕ)) [ [] ↦ [] | b ∷ cs ↦ (b ∷ cs) ∷ waves_for n limit (world_after w (wave (b ∷ cs))) ]))
    go [] e more = inl refl
    go (b ∷ cs) e more =
        let bs = b ∷ cs in
        let can : IsWave lives bs = subst (IsWave lives) e (ready_wave lives limit) in
        let d = calm_does w h up bs can in
        let v = world_after w (wave bs) in
        let all : (c : ℕ) → can_begin lives c ≡ true → has_number bs c ≡ true = λ c t. has_number_from bs c (subst (λ xs. Contains xs c) (sym (all_ready lives limit long) ∙ e) (ready_in lives c t)) in
        let r = ready_life lives (life_at lives b) (can.ready b (Contains-head b cs)) in
        let some : 1 ≤ safe_count lives r.0.ty [] r.0.pending = r.3 in
        let within = safe_count_within lives r.0.ty [] r.0.pending in
        let s = first r.0.pending (omega arith) in
        elim (more v (holds_after w (wave bs) h (wave_events bs)) (d.1.up ∙ up) (wave_idle w h bs can v d.1 idle) (let count = d.1.count in omega arith)) [
          | inl none ↦ inr (b, s.0, subst (λ k. IsChain lives (suc k) b s.0) (sym none) (Alone r.0 r.1 s.1))
          | inr chain ↦ inr (chain.0, chain.1, longer w h idle bs can all v d.1 chain.2)
        ]

-- Ranks

-- the last of a chain is pending, and its rank is at least the number of those before it
pub chain_ranks : (all : Lives) (rank : ℕ → ℕ) → IsRanking all rank → {n b : ℕ} {s : BlockState} → IsChain all n b s →
    ((l : Life) × (life_at all b ≡ Some l) × Contains l.pending s) × (n ≤ suc (rank s.entry))
chain_ranks all rank k {n} {b} {s} (Alone l e i) = ((l, e, i), omega arith)
chain_ranks all rank k {n} {b} {s = t} (Later l s chain e before) =
    let r = chain_ranks all rank k chain in
    let le = k.rising b l s t e before in
    let few = r.1 in
    ((l, e, subst (λ xs. Contains xs t) (sym before.split) (Contains-append_right before.front (s ∷ before.back) t (Contains-tail s before.back t before.later))), omega arith)
chain_ranks all rank k {n} {b} {s} (Behind l c t chain e i waits) =
    let r = chain_ranks all rank k chain in
    let lt = k.above b l s c t e i waits in
    let few = r.1 in
    ((l, e, i), omega arith)

pub waves_ranked : (w : World) (limit : ℕ) (rank : ℕ → ℕ) (top : ℕ) → Holds w → w.down ≡ false → IsIdle w.state.lives → length w.state.lives ≤ limit → IsRanking w.state.lives rank →
    ((b : ℕ) (l : Life) (s : BlockState) → life_at w.state.lives b ≡ Some l → Contains l.pending s → rank s.entry < top) → length (waves limit w) ≤ top
waves_ranked w limit rank top h up idle long k below = elim (chain_of_waves (all_pending w.state.lives) limit w h up idle long) [
  | inl none ↦ omega arith
  | inr chain ↦
      let r = chain_ranks w.state.lives rank k chain.2 in
      let lt = below chain.0 r.0.0 chain.1 r.0.1 r.0.2 in
      let few = r.1 in
      omega arith
]

-- Entry numbers are a ranking

pub entries_rank : (T : Types) (state : StoreState) → IsConsistent T state → IsRanking state.lives (λ n. n)
entries_rank T state h = record {
  rising = λ b l s t e before.
      let all : Rises (s ∷ before.back) = rises_later before.front (s ∷ before.back) (subst Rises before.split (rises_later (option_to_list l.durable) l.pending (h.lives_sound.each b l e).rising)) in
      rises_first s before.back t all (Contains-tail s before.back t before.later);
  above = λ b l s c t e i waits. go b l s c t e i waits;
}
  where
    go : (b : ℕ) (l : Life) (s : BlockState) (c : ℕ) (t : BlockState) → life_at state.lives b ≡ Some l → Contains l.pending s → WaitsFor state.lives b s c t → t.entry < s.entry
    go b l s c t e i (ForAdded u m states j f d p) =
        elim (of_life (h.waits.adds b l s c u e i j).1 m f) [
          | inl x ↦ absurd (none-some x.0 (sym d ∙ x.1))
          | inr x ↦
              let all : Rises (t ∷ states) = rises_later (option_to_list m.durable) (t ∷ states) (subst (λ ys. Rises (option_to_list m.durable ++ ys)) p (h.lives_sound.each c m f).rising) in
              let le = rises_first t states x.0 all (subst (λ ys. Contains ys x.0) p x.1) in
              let lt = x.2 in
              omega arith
        ]
    go b l s c t e i (ForType x u m front back j missing other root f split none has) =
        elim (of_life (h.waits.types b l s x u e i j) m f) [
          | inl d ↦ absurd (false≢true (sym missing ∙ (ap (λ n. has_type n u) (on_disk_is state.lives m d.0 f d.1) ∙ d.2)))
          | inr d ↦ elim (Contains-append_cases front (t ∷ back) d.0 (subst (λ ys. Contains ys d.0) split d.1)) [
            | inl early ↦ absurd (false≢true (sym none ∙ any_from (λ (y : BlockState). has_type y.bytes u) front d.0 early d.3))
            | inr late ↦
                let all : Rises (t ∷ back) = rises_later front (t ∷ back)
                (subst Rises split (rises_later (option_to_list m.durable) m.pending (h.lives_sound.each 0 m f).rising)) in
                let le = rises_first t back d.0 all late in
                let lt = d.2 in
                omega arith
          ]
        ]
    go b l s c t e i (ForDropped m j f g) = h.waits.drops b l s c m t e i j f g
    go b l s c t e i (ForEarlier m a other f g) = h.waits.after b l s t.entry e i a

-- The chain of a flush

empty_from : (xs : List (List ℕ)) → length xs ≡ 0 → xs ≡ []
empty_from [] e = refl
empty_from (x ∷ xs) e = absurd (omega arith)

pub waves_chain : (w : World) (limit : ℕ) → Holds w → w.down ≡ false → IsIdle w.state.lives → length w.state.lives ≤ limit → waves limit w ≢ [] →
    (b : ℕ) × (s : BlockState) × IsChain w.state.lives (length (waves limit w)) b s
waves_chain w limit h up idle long some = elim (chain_of_waves (all_pending w.state.lives) limit w h up idle long) [
  | inl none ↦ absurd (some (empty_from (waves limit w) none))
  | inr chain ↦ chain
]
