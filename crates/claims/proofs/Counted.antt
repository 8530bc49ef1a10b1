-- The counts of owned blocks, where lives change.
use Rattle.std.proofs.Common.{◌≡◌, ℕ, ◌+◌, ◌-◌, ◌<◌, ◌≤◌, false, cond, List, length, map, take, replicate, Option, Some, None, refl, sym, subst, ◌∙◌, ap, arith, inl, inr}
use Rattle.std.specs.Prelude.{Contains, option_map, slice_get, slice_index, slice_index_or, slice_set, unwrap_or}
use Rattle.std.proofs.lemmas.Bool.{cases_eq, cases_lt, eq-eqb, ne_eqb}
use Rattle.std.proofs.lemmas.Option.{unwrap_or-slice_get}
use Rattle.std.proofs.lemmas.List.{get_or_past, get_or-replicate, get_or-set_other, get_or-set_same, length-replicate, length-set, length-take-le, take_all}
use Rattle.std.proofs.lemmas.List.FromFn.{get_or-map-range_with_len, length-map-range_with_len}
use Rattle.std.proofs.lemmas.List.Sums.{count_by-le-length, sum_by_more}
use Rattle.std.specs.List.{range_with_len}
use Rattle.store_types.specs.declared.status.Status.{Status}
use Rattle.store_types.specs.declared.status.Status.TheVariants.{Fresh, Owned, Dropped}
use Rattle.xn_model.specs.Lives.{BlockState, Life, Lives, life_at, is_owned_by, settle, settled_at, begun_at, accepted_at, freed, owner_of}
use Rattle.xn_model.specs.Calls.{new_life}
use Rattle.claims.specs.Owners.{owned_count}
use Rattle.block_cache.specs.declared.life.FoundLife.{FoundLife}
use Rattle.block_cache.specs.Views.{facts_of, rest_at, rest_in}
use Rattle.claims.specs.Owned.{AreOwnedCounts, MayClaim, found_owner, one_more, owner_in}
use Rattle.claims.proofs.Owners.{is_owned, count_same, count_kept, status_kept, accepted_count, drops_within, freed_count, length_accepted, length_freed}

-- there are no more than blocks
pub few_owned : (lives : Lives) (b : ℕ) → owned_count lives b ≤ length lives
few_owned lives b = count_by-le-length (is_owned b) lives

-- where no count changes
same_counts : (counts : List ℕ) (old new : Lives) → AreOwnedCounts counts old → length new ≡ length old → ((e : ℕ) → owned_count new e ≡ owned_count old e) → AreOwnedCounts counts new
same_counts counts old new h long same = record { long = h.long ∙ sym long; each = λ e within. h.each e (omega (arith, long, within)) ∙ sym (same e) }

abbrev begun_with : ℕ → Life → Life
begun_with k l = record l { begun = Some k }

pub begun_counts : (counts : List ℕ) (lives : Lives) (b k : ℕ) → AreOwnedCounts counts lives → AreOwnedCounts counts (begun_at lives b k)
begun_counts counts lives b k h =
    same_counts counts lives (begun_at lives b k) h (length-set lives b (option_map (begun_with k) (life_at lives b)))
    (λ e. count_kept e lives b (begun_with k) (λ l. refl))

pub started_counts : (counts : List ℕ) (lives : Lives) (b n : ℕ) (f : Option ℕ) (ty : ℕ) (bytes : List ℕ) → AreOwnedCounts counts lives → life_at lives b ≡ None →
    AreOwnedCounts counts (slice_set lives b (Some (new_life n f ty bytes)))
started_counts counts lives b n f ty bytes h free =
    same_counts counts lives (slice_set lives b (Some (new_life n f ty bytes))) h (length-set lives b (Some (new_life n f ty bytes)))
    (λ e. count_same e lives b (Some (new_life n f ty bytes)) (sym (ap (is_owned e) free)))

-- a life ends that nobody owns
pub ended_counts : (counts : List ℕ) (lives : Lives) (b : ℕ) → AreOwnedCounts counts lives → ((e : ℕ) → is_owned e (life_at lives b) ≡ false) → AreOwnedCounts counts (slice_set lives b None)
ended_counts counts lives b h none =
    same_counts counts lives (slice_set lives b None) h (length-set lives b None) (λ e. count_same e lives b None (sym (none e)))

-- a write is settled, and blocks that nobody owns are free
pub settled_counts : (counts : List ℕ) (lives : Lives) (b k : ℕ) (blocks : List ℕ) → AreOwnedCounts counts lives → ((c : ℕ) → Contains blocks c → (e : ℕ) → is_owned e (life_at lives c) ≡ false) →
    AreOwnedCounts counts (freed (settled_at lives b k) blocks)
settled_counts counts lives b k blocks h none =
    same_counts counts lives (freed (settled_at lives b k) blocks) h
    (length_freed (settled_at lives b k) blocks ∙ length-set lives b (option_map (settle k) (life_at lives b)))
    (λ e. freed_count e blocks (settled_at lives b k) (λ c i. status_kept (is_owned_by e) lives b (settle k) c (λ l. refl) ∙ none c i e)
    ∙ count_kept e lives b (settle k) (λ l. refl))

-- a block accepts an entry
pub accepted_counts : (counts : List ℕ) (lives : Lives) (b : ℕ) (s : BlockState) → AreOwnedCounts counts lives → b < length lives → MayClaim lives b s.adds s.drops →
    AreOwnedCounts (slice_set counts b (slice_index counts b - length s.drops + length s.adds)) (accepted_at lives b s)
accepted_counts counts lives b s h there may = record {
  long = length-set counts b (slice_index counts b - length s.drops + length s.adds) ∙ (h.long ∙ sym (length_accepted lives b s));
  each = λ e within. elim (cases_eq e b) [
    | inl same ↦ same_one e same
    | inr other ↦ other_one e other (omega (arith, within, length_accepted lives b s))
  ];
}
  where
    after : ℕ
    after = slice_index counts b - length s.drops + length s.adds

    mine : after ≡ owned_count (accepted_at lives b s) b
    mine =
        let count = accepted_count lives b s may b in
        let drops = drops_within lives b s.adds s.drops may in
        let was = h.each b there in
        let one = ap {B = ℕ} (λ t. cond t (length s.drops) 0) (eq-eqb b b refl) in
        let two = ap {B = ℕ} (λ t. cond t (length s.adds) 0) (eq-eqb b b refl) in
        omega (arith, count, drops, was, one, two)

    same_one : (e : ℕ) → e ≡ b → slice_index (slice_set counts b after) e ≡ owned_count (accepted_at lives b s) e
    same_one e same =
        ap (slice_index (slice_set counts b after)) same
        ∙ (get_or-set_same counts b after 0 (omega (arith, there, h.long)) ∙ (mine ∙ ap (owned_count (accepted_at lives b s)) (sym same)))

    other_one : (e : ℕ) → (e ≡ b → ⊥) → e < length lives → slice_index (slice_set counts b after) e ≡ owned_count (accepted_at lives b s) e
    other_one e other within =
        let count = accepted_count lives b s may e in
        let ne = ne_eqb b e (λ i. other (sym i)) in
        let one = ap {B = ℕ} (λ t. cond t (length s.drops) 0) ne in
        let two = ap {B = ℕ} (λ t. cond t (length s.adds) 0) ne in
        let was = h.each e within in
        let kept = get_or-set_other counts b e after 0 other in
        omega (arith, count, one, two, was, kept)

-- what a block owns, where it drops some
pub may_drop_all : (counts : List ℕ) (lives : Lives) (b : ℕ) (adds : List (ℕ × ℕ)) (drops : List ℕ) → AreOwnedCounts counts lives → b < length lives → MayClaim lives b adds drops →
    length drops ≤ slice_index counts b
may_drop_all counts lives b adds drops h there may =
    let within = drops_within lives b adds drops may in
    let one = ap {B = ℕ} (λ t. cond t (length drops) 0) (eq-eqb b b refl) in
    let was = h.each b there in
    omega (arith, within, one, was)

-- none is counted past the end
pub none_past : (counts : List ℕ) (b : ℕ) (o : Option ℕ) → o ≡ slice_get counts b → o ≡ None → 0 ≡ slice_index counts b
none_past counts b o is none = ap (λ (count : Option ℕ). unwrap_or count 0) (sym none ∙ is) ∙ unwrap_or-slice_get counts b 0

-- Counted from nothing

-- each place of a list so far
pub record AreCountedTo (counts : List ℕ) (lives : Lives) (n : ℕ) : Type 0 where
  pub long : length counts ≡ length lives
  pub each : (b : ℕ) → b < length lives → slice_index counts b ≡ owned_count (take n lives) b

pub none_counted : (lives : Lives) → AreCountedTo (replicate (length lives) 0) lives 0
none_counted lives = record {
  long = length-replicate (length lives) 0;
  each = λ b within. get_or-replicate (length lives) b 0 0 within;
}

more_at : (counts : List ℕ) (o : Option Life) (b : ℕ) → b < length counts → slice_index (one_more counts (owner_in (option_map facts_of o))) b ≡ slice_index counts b + cond (is_owned b o) 1 0
more_at counts None b within = omega arith
more_at counts (Some l) b within = by l.status
  where
    by : (st : Status) → slice_index (one_more counts (owner_of st)) b ≡ slice_index counts b + cond (is_owned_by b st) 1 0
    by Fresh = omega arith
    by (Dropped a) = omega arith
    by (Owned a) = elim (cases_eq b a) [
      | inl same ↦
          let one = ap {B = ℕ} (λ t. cond t 1 0) (eq-eqb a b (sym same)) in
          let here = ap (slice_index (slice_set counts a (slice_index counts a + 1))) same in
          let set = get_or-set_same counts a (slice_index counts a + 1) 0 (omega (arith, within, same)) in
          let was = ap (slice_index counts) same in
          omega (arith, one, here, set, was)
      | inr other ↦
          let none = ap {B = ℕ} (λ t. cond t 1 0) (ne_eqb a b (λ e. other (sym e))) in
          let kept = get_or-set_other counts a b (slice_index counts a + 1) 0 other in
          omega (arith, none, kept)
    ]

length-more : (counts : List ℕ) (o : Option ℕ) → length (one_more counts o) ≡ length counts
length-more counts None = refl
length-more counts (Some b) = length-set counts b (slice_index counts b + 1)

pub one_counted : (counts : List ℕ) (lives : Lives) (n : ℕ) → n < length lives → AreCountedTo counts lives n → AreCountedTo (one_more counts (owner_in (option_map facts_of (life_at lives n)))) lives (n + 1)
one_counted counts lives n there h = record {
  long = length-more counts (owner_in (option_map facts_of (life_at lives n))) ∙ h.long;
  each = λ b within.
      let here = more_at counts (life_at lives n) b (omega (arith, within, h.long)) in
      let more = sum_by_more (λ o. cond (is_owned b o) 1 0) lives n None there in
      let life = ap {B = ℕ} (λ o. cond (is_owned b o) 1 0) (unwrap_or-slice_get lives n None) in
      let was = h.each b within in
      omega (arith, here, more, life, was);
}

-- the lives of blocks of which this is found in an image of these
abbrev lives_of_found : List (Option FoundLife) → List (List ℕ) → Lives
lives_of_found found blocks = map (rest_at found blocks) (range_with_len 0 (length found))

pub length-found : (found : List (Option FoundLife)) (blocks : List (List ℕ)) → length (lives_of_found found blocks) ≡ length found
length-found found blocks = length-map-range_with_len (rest_at found blocks) 0 (length found)

rest_owner : (blocks : List (List ℕ)) (b : ℕ) (o : Option FoundLife) → owner_in (option_map facts_of (rest_in blocks b o)) ≡ found_owner o
rest_owner blocks b None = refl
rest_owner blocks b (Some found) = refl

pub one_found : (counts : List ℕ) (found : List (Option FoundLife)) (blocks : List (List ℕ)) (n : ℕ) → n < length found → AreCountedTo counts (lives_of_found found blocks) n →
    AreCountedTo (one_more counts (found_owner (slice_index_or found n None))) (lives_of_found found blocks) (n + 1)
one_found counts found blocks n there h =
    let lives = lives_of_found found blocks in
    let life = unwrap_or-slice_get lives n None ∙ get_or-map-range_with_len (rest_at found blocks) 0 (length found) n n None there (omega arith) in
    let owner = ap (λ (l : Option Life). owner_in (option_map facts_of l)) life ∙ rest_owner blocks n (slice_index_or found n None) in
    subst (λ (a : Option ℕ). AreCountedTo (one_more counts a) lives (n + 1)) owner (one_counted counts lives n (omega (arith, there, length-found found blocks)) h)

-- all of them
pub all_counted : (counts : List ℕ) (lives : Lives) (n : ℕ) → length lives ≤ n → AreCountedTo counts lives n → AreOwnedCounts counts lives
all_counted counts lives n all h = record {
  long = h.long;
  each = λ b within. h.each b within ∙ ap (λ (ls : Lives). owned_count ls b) (take_all n lives all);
}

-- a count so far is small
pub few_counted : (counts : List ℕ) (lives : Lives) (n : ℕ) → n < length lives → AreCountedTo counts lives n → (b : ℕ) → slice_index counts b < length lives
few_counted counts lives n there h b = elim (cases_lt b (length lives)) [
  | inl within ↦
      let few = count_by-le-length (is_owned b) (take n lives) in
      let short = length-take-le n lives (omega (arith, there)) in
      let was = h.each b within in
      omega (arith, few, short, was)
  | inr past ↦ let none = get_or_past counts b 0 (omega (arith, past, h.long)) in omega (arith, none)
]
