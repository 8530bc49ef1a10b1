-- A wave by what its calls answer, apart from any disk.
use Rattle.std.proofs.Common.{◌≡◌, ℕ, zero, suc, ◌+◌, ◌<◌, ◌≤◌, Bool, true, false, cond, ◌&&◌, List, [], ◌∷◌, length, take, Option, Some, None, refl, sym, ◌∙◌, ap, inl, inr, arith, subst, length-drop}
use Rattle.std.specs.Prelude.{◌==◌, ◌≢◌, is_some, is_none, nat_lt, option_map, slice_get, Result, Ok, Err, if◌then◌else◌}
use Rattle.std.proofs.lemmas.Bool.{ne_eqb, eq-eqb, cond-false, false_from_ne_true}
use Rattle.std.proofs.lemmas.Option.{none-some}
use Rattle.std.proofs.lemmas.Slice.Eq.{bytes_eq-Decides}
use Rattle.xn_model.specs.Lists.{has_number}
use Rattle.xn_model.specs.Types.{Types}
use Rattle.xn_model.specs.Lives.{Life, Lives, StoreState, life_at, prefix, prefix_of, begun_at, settle, settled_at, freed, drops_of}
use Rattle.xn_model.specs.Results.{Refusal, InFlight, NothingSafe, NotMine, result_map}
use Rattle.xn_model.specs.Calls.{begun_place, begun_of, bytes_at, first_pending, is_durable, settled_count, settled_of, settled_place, settled_after, settled_with, is_ready, life_pending}
use Rattle.xn_model.specs.Worlds.{all_pending, begun_bytes}
use Rattle.xn_model.specs.Waves.{can_begin, wave_bytes}
use Rattle.xn_model.specs.Rules.{IsConsistent, IsCount}
use Rattle.xn_model.proofs.Lists.{has_number_at}
use Rattle.xn_model.proofs.Lives.{place_from, freed_at, length_change, length_freed}
use Rattle.xn_model.proofs.Tests.{map_ok, unless_passed}
use Rattle.xn_model.proofs.Ends.{Settles, settles_place}
use Rattle.xn_model.proofs.Lanes.{ended_idle}
use Rattle.xn_model.proofs.Drains.{ready_life, sum_le}
use Rattle.xn_model.proofs.Reached.{in_range}
use Rattle.xn_model.proofs.WaveSteps.{change_cond}
use Rattle.xn_model.proofs.WavePhases.{prefixes_same, unbegun, begin_life, begun_erased}

-- What can be begun is

pub ready_begins : (state : StoreState) (b : ℕ) → can_begin state.lives b ≡ true →
    begun_of state b ≡ Ok ((wave_bytes state.lives b, prefix state.lives b), record state { lives = begun_at state.lives b (prefix state.lives b) })
ready_begins state b ready =
    let r = ready_life state.lives (life_at state.lives b) ready in
    let l = r.0 in
    subst (λ o. begun_of state b ≡ Ok ((begun_bytes (prefix_of state.lives o) o, prefix_of state.lives o), record state { lives = begun_at state.lives b (prefix_of state.lives o) })) (sym r.1)
    (let k = prefix_of state.lives (Some l) in
    let some : 1 ≤ k = r.3 in
    let ne : (k == 0) ≡ false = ne_eqb k 0 (λ z. absurd (omega arith)) in
    let go : Result (List ℕ × ℕ) Refusal → Result ((List ℕ × ℕ) × StoreState) Refusal = λ r. result_map (λ begun. (begun, record state { lives = begun_at state.lives b begun.1 })) r in
    ap (λ o. go (begun_place state.lives o)) (place_from state.lives b l r.1)
    ∙ ap go (unless_passed ((is_some l.begun, InFlight) ∷ (k == 0, NothingSafe) ∷ []) (Ok (bytes_at k l, k)) (ap is_some r.2, (ne, tt))))

-- Another block is as it was

module _ (state new : StoreState) (b : ℕ) (given : List ℕ × ℕ) (begins : begun_of state b ≡ Ok (given, new)) where
  abbrev lives : Lives
  lives = state.lives

  abbrev k : ℕ
  k = given.1

  is_begun : begun_at lives b k ≡ new.lives
  is_begun =
      let m = map_ok (λ (x : List ℕ × ℕ). (x, record state { lives = begun_at lives b x.1 })) (begun_place lives (slice_get lives b)) (given, new) begins in
      ap (λ (x : (List ℕ × ℕ) × StoreState). begun_at lives b x.0.1) (sym m.2) ∙ ap (λ (x : (List ℕ × ℕ) × StoreState). x.1.lives) m.2

  pub begun_length : length new.lives ≡ length lives
  begun_length = ap length (sym is_begun) ∙ length_change lives b (begin_life k)

  begun_at_block : (c : ℕ) → life_at new.lives c ≡ cond (b == c) (option_map (begin_life k) (life_at lives c)) (life_at lives c)
  begun_at_block c = ap (λ xs. life_at xs c) (sym is_begun) ∙ change_cond lives b (λ x. begin_life k) c

  begun_prefix : (o : Option Life) → prefix_of new.lives o ≡ prefix_of lives o
  begun_prefix o = prefixes_same lives new.lives (ap length (sym is_begun) ∙ length_change lives b (begin_life k)) (λ c. ap unbegun (begun_at_block c) ∙ begun_erased k (b == c) (life_at lives c)) o

  begun_ready : (o : Option Life) → is_ready new.lives o ≡ is_ready lives o
  begun_ready None = refl
  begun_ready (Some l) = ap (λ n. is_none l.begun && nat_lt 0 n) (begun_prefix (Some l))

  pub begun_life_apart : (c : ℕ) → c ≢ b → life_at new.lives c ≡ life_at lives c
  begun_life_apart c other = begun_at_block c ∙ cond-false (b == c) (option_map (begin_life k) (life_at lives c)) (life_at lives c) (ne_eqb b c (λ e. other (sym e)))

  pub begun_prefix_apart : (c : ℕ) → c ≢ b → prefix new.lives c ≡ prefix lives c
  begun_prefix_apart c other = begun_prefix (life_at new.lives c) ∙ ap (prefix_of lives) (begun_life_apart c other)

  pub begun_ready_apart : (c : ℕ) → c ≢ b → can_begin new.lives c ≡ can_begin lives c
  begun_ready_apart c other = begun_ready (life_at new.lives c) ∙ ap (is_ready lives) (begun_life_apart c other)

  pub begun_not_ready : can_begin new.lives b ≡ false
  begun_not_ready = ap (is_ready new.lives) (begun_at_block b ∙ ap (λ t. cond t (option_map (begin_life k) (life_at lives b)) (life_at lives b)) (eq-eqb b b refl)) ∙ go (life_at lives b)
    where
      go : (o : Option Life) → is_ready new.lives (option_map (begin_life k) o) ≡ false
      go None = refl
      go (Some l) = refl

  pub begun_pending : all_pending new.lives ≡ all_pending lives
  begun_pending = sums lives new.lives (ap length (sym is_begun) ∙ length_change lives b (begin_life k)) (λ c. ap life_pending (begun_at_block c) ∙ go (b == c) (life_at lives c))
    where
      go : (t : Bool) (o : Option Life) → life_pending (cond t (option_map (begin_life k) o) o) ≡ life_pending o
      go true None = refl
      go true (Some l) = refl
      go false o = refl

      sums : (xs ys : Lives) → length ys ≡ length xs → ((c : ℕ) → life_pending (life_at ys c) ≡ life_pending (life_at xs c)) → all_pending ys ≡ all_pending xs
      sums [] [] e same = refl
      sums [] (y ∷ ys) e same = absurd (omega arith)
      sums (x ∷ xs) [] e same = absurd (omega arith)
      sums (x ∷ xs) (y ∷ ys) e same = λ i. same 0 i + sums xs ys (omega arith) (λ c. same (suc c)) i

-- A write settles

-- the begun bytes do
pub begun_settles : (state : StoreState) (b k : ℕ) (l : Life) → life_at state.lives b ≡ Some l → l.begun ≡ Some k →
    settled_of state b (bytes_at k l) ≡ Ok ((k, length (drops_of (take k l.pending))), record state { lives = freed (settled_at state.lives b k) (drops_of (take k l.pending)) })
begun_settles state b k l alive begun =
    let bytes = bytes_at k l in
    let counts : settled_place bytes (slice_get state.lives b) ≡ Ok k =
    ap (settled_place bytes) (place_from state.lives b l alive)
    ∙ (ap (settled_count l bytes) begun
    ∙ ap (λ t. if t then Ok k else if is_durable bytes l.durable then Ok 0 else Err NotMine) ((bytes_eq-Decides bytes bytes).1 refl)) in
    ap (λ r. result_map (settled_after state b) r) counts
    ∙ ap (λ xs. Ok ((k, length (drops_of xs)), record state { lives = freed (settled_at state.lives b k) (drops_of xs) })) (ap (first_pending k) alive)

module _ (T : Types) (state new : StoreState) (b : ℕ) (bytes : List ℕ) (done : ℕ × ℕ) (h : IsConsistent T state) (settles : settled_of state b bytes ≡ Ok (done, new)) where
  abbrev old : Lives
  old = state.lives

  found : (k : ℕ) × Settles old b bytes k × ((settled_with state b (drops_of (first_pending k (life_at old b))) k) ≡ (done, new))
  found = let m = map_ok (settled_after state b) (settled_place bytes (slice_get old b)) (done, new) settles in (m.0, settles_place old b bytes (slice_get old b) m.0 refl m.1, m.2)

  abbrev n : ℕ
  n = found.0

  abbrev s : Settles old b bytes n
  s = found.1

  abbrev ended : List ℕ
  ended = drops_of (take n s.life.pending)

  is_settled : freed (settled_at old b n) ended ≡ new.lives
  is_settled = ap (λ xs. freed (settled_at old b n) (drops_of xs)) (sym (ap (first_pending n) s.alive)) ∙ ap (λ (x : (ℕ × ℕ) × StoreState). x.1.lives) found.2

  settled_block : (c : ℕ) → life_at new.lives c ≡ cond (has_number ended c) None (cond (b == c) (option_map (settle n) (life_at old c)) (life_at old c))
  settled_block c = ap (λ xs. life_at xs c) (sym is_settled) ∙ (freed_at (settled_at old b n) ended c ∙ ap (cond (has_number ended c) None) (change_cond old b (λ x. settle n) c))

  -- another block whose write is under way is as it was
  pub settled_life_apart : (c : ℕ) (l : Life) (k : ℕ) → c ≢ b → life_at old c ≡ Some l → l.begun ≡ Some k → life_at new.lives c ≡ Some l
  settled_life_apart c l k other alive begun =
      let stays : has_number ended c ≡ false = false_from_ne_true (has_number ended c) (λ t.
      none-some k (sym (ended_idle {L = List ℕ} (λ x. x) T state h b n bytes s c l (has_number_at ended c t) alive) ∙ begun)) in
      settled_block c
      ∙ (cond-false (has_number ended c) None (cond (b == c) (option_map (settle n) (life_at old c)) (life_at old c)) stays
      ∙ (cond-false (b == c) (option_map (settle n) (life_at old c)) (life_at old c) (ne_eqb b c (λ e. other (sym e))) ∙ alive))

  -- what is durable is no longer pending
  count_within : n ≤ length s.life.pending
  count_within = elim s.case [
    | inl landed ↦ let count : IsCount (Some n) (length s.life.pending) = subst (λ o. IsCount o (length s.life.pending)) landed.0 (h.linked b s.life s.alive).flight in count.1
    | inr none ↦ let zero' = none.0 in omega arith
  ]

  sums : (xs ys : Lives) (b k : ℕ) → length ys ≡ length xs → b < length xs → ((c : ℕ) → life_pending (life_at ys c) ≤ life_pending (life_at xs c)) →
      life_pending (life_at ys b) + k ≤ life_pending (life_at xs b) → all_pending ys + k ≤ all_pending xs
  sums [] ys b k e lt le here = absurd (omega arith)
  sums (x ∷ xs) [] b k e lt le here = absurd (omega arith)
  sums (x ∷ xs) (y ∷ ys) zero k e lt le here = let rest = sum_le xs ys (omega arith) (λ c. le (suc c)) in omega arith
  sums (x ∷ xs) (y ∷ ys) (suc b) k e lt le here = let first = le 0 in let rest = sums xs ys b k (omega arith) (omega arith) (λ c. le (suc c)) here in omega arith

  less : (c : ℕ) → life_pending (life_at new.lives c) ≤ life_pending (life_at old c)
  less c = subst (λ o. life_pending o ≤ life_pending (life_at old c)) (sym (settled_block c)) (go (has_number ended c) (b == c) (life_at old c))
    where
      go : (d t : Bool) (o : Option Life) → life_pending (cond d None (cond t (option_map (settle n) o) o)) ≤ life_pending o
      go true t o = omega arith
      go false true None = omega arith
      go false true (Some l) = rw length-drop (omega arith)
      go false false o = omega arith

  less_here : life_pending (life_at new.lives b) + n ≤ life_pending (life_at old b)
  less_here =
      let was : life_pending (life_at old b) ≡ length s.life.pending = ap life_pending s.alive in
      let few = count_within in
      let now = go (has_number ended b) in
      let is : life_pending (life_at new.lives b) ≡ life_pending (cond (has_number ended b) None (Some (settle n s.life))) =
      ap life_pending (settled_block b ∙ (ap (λ t. cond (has_number ended b) None (cond t (option_map (settle n) (life_at old b)) (life_at old b))) (eq-eqb b b refl) ∙ ap (λ o. cond (has_number ended b) None (option_map (settle n) o)) s.alive)) in
      omega arith
    where
      go : (d : Bool) → life_pending (cond d None (Some (settle n s.life))) + n ≤ length s.life.pending
      go true = let few = count_within in omega arith
      go false = let few = count_within in rw length-drop (omega arith)

  pub settled_pending : all_pending new.lives + done.0 ≤ all_pending old
  settled_pending =
      let is : n ≡ done.0 = ap (λ (x : (ℕ × ℕ) × StoreState). x.0.0) found.2 in
      let long : length new.lives ≡ length old = ap length (sym is_settled) ∙ (length_freed (settled_at old b n) ended ∙ length_change old b (settle n)) in
      let few = sums old new.lives b n long (in_range T state h b s.life s.alive) less less_here in
      subst (λ k. all_pending new.lives + k ≤ all_pending old) is few
