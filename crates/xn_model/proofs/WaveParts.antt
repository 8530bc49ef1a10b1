-- What a wave's outcomes leave of one block, what its entries drop, and the rules along its events.
use Rattle.std.proofs.Common.{◌≡◌, ℕ, ◌≤◌, ◌⊎◌, Bool, true, false, cond, List, [], ◌∷◌, ◌++◌, map, length, take, Option, Some, None, refl, sym, ◌∙◌, ap, inl, inr, arith, subst}
use Rattle.std.specs.Prelude.{Contains, ◌==◌, ◌||◌, ◌&&◌, not, filter, flat_map, option_map, bytes_eq, Result, Ok, Err, if◌then◌else◌}
use Rattle.std.specs.List.{AllByRecursion}
use Rattle.std.proofs.lemmas.Bool.{and_from, eqb-true, not-true, and_parts, false_from_ne_true, true≢false, false≢true}
use Rattle.xn_model.specs.Lists.{has_number, distinct}
use Rattle.xn_model.specs.Images.{block_of}
use Rattle.xn_model.specs.Lives.{BlockState, Life, Lives, life_at, prefix, prefix_of, safe_count, settle, drops_of}
use Rattle.xn_model.specs.Results.{Refusal, NotMine}
use Rattle.xn_model.specs.Calls.{first_pending, is_durable}
use Rattle.xn_model.specs.Worlds.{World, Event, Reply, replies, world_after, IsEvent}
use Rattle.xn_model.specs.Waves.{can_begin, wave_bytes, durable_then, drops_with, Outcome, Done, EndsAnyway, WriteFails, SyncFails, write_event, sync_event, is_written, is_done, done, all_drops, life_then, newest_then, settled_then, given_then}
use Rattle.xn_model.specs.Rules.{Holds, IsAtRest}
use Rattle.xn_model.proofs.Lives.{of_life}
use Rattle.xn_model.proofs.Lists.{Contains-none, Contains-head, Contains-tail, has_number_at}
use Rattle.xn_model.proofs.Tests.{prefix_safe, safe_drops, safe_count_within}
use Rattle.xn_model.proofs.Ends.{drops_at}
use Rattle.std.proofs.lemmas.List.Elements.{Contains-append_cases}
use Rattle.std.proofs.lemmas.Slice.Eq.{bytes_eq-Decides}
use Rattle.xn_model.proofs.Drains.{ready_life}
use Rattle.xn_model.proofs.Runs.{run_keeps}
use Rattle.xn_model.proofs.Acts.{acts_run}
use Rattle.xn_model.proofs.WaveSteps.{Does}
use Rattle.xn_model.proofs.WavePhases.{begin_life}

-- Parts of a list

pub has_cond : (t : Bool) (x : ℕ) (xs : List ℕ) (c : ℕ) → has_number (cond t (x ∷ xs) xs) c ≡ cond t ((x == c) || has_number xs c) (has_number xs c)
has_cond true x xs c = refl
has_cond false x xs c = refl

pub and_none : (u q : Bool) → false ≡ q → (u && q) ≡ false
and_none true q e = sym e
and_none false q e = refl

pub kept_both : (t s u q v : Bool) → (s ≡ true → t ≡ q) → v ≡ (u && q) → cond t (s || v) v ≡ ((s || u) && q)
kept_both true true u q v same e = same refl
kept_both true false u q v same e = e
kept_both false true u q v same e = e ∙ (and_none u q (same refl) ∙ same refl)
kept_both false false u q v same e = e

pub has_filter : (p : ℕ → Bool) (xs : List ℕ) (c : ℕ) → has_number (filter p xs) c ≡ (has_number xs c && p c)
has_filter p [] c = refl
has_filter p (x ∷ xs) c =
    has_cond (p x) x (filter p xs) c
    ∙ kept_both (p x) (x == c) (has_number xs c) (p c) (has_number (filter p xs) c) (λ e. ap p (eqb-true x c e)) (has_filter p xs c)

pub distinct_filter : (p : ℕ → Bool) (xs : List ℕ) → distinct xs ≡ true → distinct (filter p xs) ≡ true
distinct_filter p [] e = refl
distinct_filter p (x ∷ xs) e = go (p x) (distinct_filter p xs parts.1)
  where
    parts : (not (has_number xs x) ≡ true) × (distinct xs ≡ true)
    parts = and_parts (not (has_number xs x)) (distinct xs) e

    go : (t : Bool) → distinct (filter p xs) ≡ true → distinct (cond t (x ∷ filter p xs) (filter p xs)) ≡ true
    go true rest = and_from (not (has_number (filter p xs) x)) (distinct (filter p xs))
        (ap not (has_filter p xs x ∙ ap (λ t. t && p x) (not-true (has_number xs x) parts.0))) rest
    go false rest = rest

-- The rules along a wave

pub holds_after : (w : World) (es : List Event) → Holds w → AllByRecursion IsEvent es → Holds (world_after w es)
holds_after w es h each = run_keeps w es (replies w es) (world_after w es) each h (acts_run w es h each)

pub with_rules : (P : World → Type 0) (w : World) (es : List Event) (rs : List Reply) → Holds w → AllByRecursion IsEvent es → Does w es rs P → Does w es rs (λ v. P v × Holds v)
with_rules P w es rs h each d = (d.0, (d.1, holds_after w es h each))

pub all_events : {A : Type 0} (f : A → Event) → ((x : A) → IsEvent (f x)) → (xs : List A) → AllByRecursion IsEvent (map f xs)
all_events f h [] = tt
all_events f h (x ∷ xs) = (h x, all_events f h xs)

pub events_both : (es fs : List Event) → AllByRecursion IsEvent es → AllByRecursion IsEvent fs → AllByRecursion IsEvent (es ++ fs)
events_both [] fs x y = y
events_both (e ∷ es) fs x y = (x.0, events_both es fs x.1 y)

pub write_is_event : (o : Outcome) (b : ℕ) → IsEvent (write_event o b)
write_is_event Done b = tt
write_is_event (EndsAnyway stays) b = tt
write_is_event (WriteFails stays) b = tt
write_is_event SyncFails b = tt

pub sync_is_event : (o : Outcome) (b : ℕ) → IsEvent (sync_event o b)
sync_is_event Done b = tt
sync_is_event (EndsAnyway stays) b = tt
sync_is_event (WriteFails stays) b = tt
sync_is_event SyncFails b = tt

-- Outcomes

pub given_done : (o : Outcome) (new : List ℕ) → is_done o ≡ true → given_then o new ≡ None
given_done Done new e = refl
given_done (EndsAnyway stays) new e = refl
given_done (WriteFails stays) new e = absurd (false≢true e)
given_done SyncFails new e = absurd (false≢true e)

-- what is read back, where the old bytes are durable
module _ (k : ℕ) (new old : List ℕ) (d : Option BlockState) (stands : is_durable old d ≡ true) where
  counted : (m : List ℕ) (t : Bool) → (t ≡ false → is_durable m d ≡ true) → ◌≡◌ {A = Result ℕ Refusal} (if t then Ok k else if is_durable m d then Ok 0 else Err NotMine) (Ok (cond t k 0))
  counted m true h = refl
  counted m false h = ap (λ u. if u then Ok 0 else Err NotMine) (h refl)

  pub ends_then : (o : Outcome) → is_done o ≡ true → ◌≡◌ {A = Result ℕ Refusal} (if bytes_eq (newest_then o new old) new then Ok k else if is_durable (newest_then o new old) d then Ok 0 else Err NotMine) (Ok (durable_then o k new old))
  ends_then Done e = ap (λ t. if t then Ok k else if is_durable new d then Ok 0 else Err NotMine) ((bytes_eq-Decides new new).1 refl)
  ends_then (EndsAnyway true) e = counted new (bytes_eq new new) (λ f. absurd (true≢false (sym ((bytes_eq-Decides new new).1 refl) ∙ f)))
  ends_then (EndsAnyway false) e = counted old (bytes_eq old new) (λ f. stands)
  ends_then (WriteFails stays) e = absurd (false≢true e)
  ends_then SyncFails e = absurd (false≢true e)

-- all entries are durable, or none
pub all_or_none : (o : Outcome) (k : ℕ) (new old : List ℕ) → (durable_then o k new old ≡ k) ⊎ (durable_then o k new old ≡ 0)
all_or_none Done k new old = inl refl
all_or_none (EndsAnyway stays) k new old = go (bytes_eq (cond stays new old) new)
  where
    go : (t : Bool) → (cond t k 0 ≡ k) ⊎ (cond t k 0 ≡ 0)
    go true = inl refl
    go false = inr refl
all_or_none (WriteFails stays) k new old = inr refl
all_or_none SyncFails k new old = inr refl

pub lives_then : (t : Bool) (x : Outcome) (k n : ℕ) (o : Option Life) →
    cond (t && is_done x) (option_map (settle n) (cond t (option_map (begin_life k) o) o)) (cond t (option_map (begin_life k) o) o) ≡ cond t (option_map (life_then x k n) o) o
lives_then true Done k n None = refl
lives_then true Done k n (Some l) = refl
lives_then true (EndsAnyway stays) k n None = refl
lives_then true (EndsAnyway stays) k n (Some l) = refl
lives_then true (WriteFails stays) k n o = refl
lives_then true SyncFails k n o = refl
lives_then false x k n o = refl

pub settled_both : (t : Bool) (x : Outcome) (m s : List ℕ) → cond (t && is_written x) (settled_then x m s) s ≡ cond t (settled_then x m s) s
settled_both true Done m s = refl
settled_both true (EndsAnyway stays) m s = refl
settled_both true (WriteFails stays) m s = refl
settled_both true SyncFails m s = refl
settled_both false x m s = refl

pub given_both : (t : Bool) (x : Outcome) (new : List ℕ) (g : Option (List ℕ)) →
    cond (t && is_written x) (cond (is_done x) None (cond t (Some new) g)) (cond t (Some new) g) ≡ cond t (given_then x new) g
given_both true Done new g = refl
given_both true (EndsAnyway stays) new g = refl
given_both true (WriteFails stays) new g = refl
given_both true SyncFails new g = refl
given_both false x new g = refl

pub begun_pending : (n k : ℕ) (t : Bool) (o : Option Life) → first_pending n (cond t (option_map (begin_life k) o) o) ≡ first_pending n o
begun_pending n k true None = refl
begun_pending n k true (Some l) = refl
begun_pending n k false o = refl

-- a test and a part of it
pub turned : (t d : Bool) → (t ≡ true → d ≡ false) → (x y : Option Life) → cond d None (cond t x y) ≡ cond t x (cond d None y)
turned true d apart x y = ap (λ u. cond u None x) (apart refl)
turned false d apart x y = refl

pub drop_in : (f : ℕ → List ℕ) (xs : List ℕ) (c : ℕ) → Contains (flat_map f xs) c → (b : ℕ) × Contains xs b × Contains (f b) c
drop_in f [] c i = absurd (Contains-none c i)
drop_in f (x ∷ xs) c i = elim (Contains-append_cases (f x) (flat_map f xs) c i) [
  | inl here ↦ (x, Contains-head x xs, here)
  | inr later ↦ let r = drop_in f xs c later in (r.0, Contains-tail x xs r.0 r.1, r.2)
]

-- what safe entries drop is at rest
pub prefix_rests : (lives : Lives) (b : ℕ) (o : Option Life) (c : ℕ) → life_at lives b ≡ o → Contains (drops_of (first_pending (prefix_of lives o) o)) c → IsAtRest lives c
prefix_rests lives b None c e i = absurd (Contains-none c i)
prefix_rests lives b (Some l) c e i =
    let d = drops_at (take (safe_count lives l.ty [] l.pending) l.pending) c i in
    let s = prefix_safe lives l.ty [] l.pending d.0 d.1 in
    safe_drops lives l.ty s.0 d.0 c s.1 d.2

pub none_drop : (o : Option Life) (c : ℕ) → Contains (drops_of (first_pending 0 o)) c → ⊥
none_drop None c i = Contains-none c i
none_drop (Some l) c i = Contains-none c i

pub dropped_rests : (w : World) (outcome : ℕ → Outcome) (bs : List ℕ) (c : ℕ) → Contains (all_drops w outcome bs) c → IsAtRest w.state.lives c
dropped_rests w outcome bs c i =
    let lives = w.state.lives in
    let r = drop_in (drops_with w outcome) (done outcome bs) c i in
    let b : ℕ = r.0 in
    elim (all_or_none (outcome b) (prefix lives b) (wave_bytes lives b) (block_of w.image b)) [
      | inl all ↦ prefix_rests lives b (life_at lives b) c refl (subst (λ n. Contains (drops_of (first_pending n (life_at lives b))) c) all r.2)
      | inr none ↦ absurd (none_drop (life_at lives b) c (subst (λ n. Contains (drops_of (first_pending n (life_at lives b))) c) none r.2))
    ]

-- so no block that can be begun is dropped
pub ready_stays : (w : World) (outcome : ℕ → Outcome) (bs : List ℕ) (c : ℕ) → can_begin w.state.lives c ≡ true → has_number (all_drops w outcome bs) c ≡ false
ready_stays w outcome bs c ready = false_from_ne_true (has_number (all_drops w outcome bs) c) (λ t.
    let lives = w.state.lives in
    let rest = dropped_rests w outcome bs c (has_number_at (all_drops w outcome bs) c t) in
    let l = ready_life lives (life_at lives c) ready in
    let none : length l.0.pending ≡ 0 = ap length (of_life rest l.0 l.1) in
    let some : 1 ≤ safe_count lives l.0.ty [] l.0.pending = l.3 in
    let few = safe_count_within lives l.0.ty [] l.0.pending in
    absurd (omega arith))
