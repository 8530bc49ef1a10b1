-- How many blocks a block owns, where lives change.
use Rattle.std.proofs.Common.{◌≡◌, ℕ, zero, suc, ◌+◌, ◌<◌, ◌≤◌, Bool, true, false, cond, not, List, [], ◌∷◌, length, get_or, Option, Some, None, refl, sym, ◌∙◌, ap, arith, inl, inr, subst}
use Rattle.std.specs.Prelude.{Contains, is_some, option_map, slice_set, sum_by, ◌==◌}
use Rattle.std.specs.List.{sum}
use Rattle.std.proofs.Math.Seq.{map-set_same}
use Rattle.std.proofs.lemmas.Bool.{and_parts, cases_eq, false≢true, not-true}
use Rattle.std.proofs.lemmas.Option.{unwrap_or-slice_get, slice_get_within}
use Rattle.std.proofs.lemmas.List.{length-set}
use Rattle.std.proofs.lemmas.List.Sums.{sum-map, sum_by-set}
use Rattle.store_types.specs.declared.status.Status.{Status}
use Rattle.store_types.specs.declared.status.Status.TheVariants.{Owned, Dropped}
use Rattle.xn_model.specs.Lists.{blocks_of, distinct, has_number}
use Rattle.xn_model.specs.Lives.{BlockState, Life, Lives, life_at, alive_and, change_at, with_state, with_status, is_fresh, is_owned_by, owned_after, dropped_after, accepted_at, freed}
use Rattle.xn_model.proofs.ForCallers.{alive_from, fresh_from, owned_from, Contains-head, Contains-tail, has_number_from, change_same, place_from, set_other}
use Rattle.claims.specs.Owners.{owned_count}
use Rattle.claims.specs.Owned.{MayClaim}

-- a block that block b owns
abbrev pub is_owned : ℕ → Option Life → Bool
is_owned b o = alive_and (λ l. is_owned_by b l.status) o

-- a block that nobody has owned
abbrev pub is_new : Option Life → Bool
is_new o = alive_and (λ l. is_fresh l.status) o

-- One life changes

pub sum_same : {X : Type 0} (f : X → ℕ) (xs : List X) (i : ℕ) (y d : X) → f y ≡ f (get_or xs i d) → sum_by f (slice_set xs i y) ≡ sum_by f xs
sum_same f xs i y d e = sym (sum-map f (slice_set xs i y)) ∙ (ap sum (map-set_same f xs i y d e) ∙ sum-map f xs)

place_is : (lives : Lives) (b : ℕ) → life_at lives b ≡ get_or lives b None
place_is lives b = unwrap_or-slice_get lives b None

alive_within : (lives : Lives) (b : ℕ) (l : Life) → life_at lives b ≡ Some l → b < length lives
alive_within lives b l e = slice_get_within lives b (Some l) (place_from lives b l e)

count_set : (e : ℕ) (lives : Lives) (c : ℕ) (x : Option Life) → c < length lives →
    owned_count (slice_set lives c x) e + cond (is_owned e (life_at lives c)) 1 0 ≡ owned_count lives e + cond (is_owned e x) 1 0
count_set e lives c x within =
    let moved = sum_by-set (λ o. cond (is_owned e o) 1 0) lives c x None within in
    let here = ap {B = ℕ} (λ o. cond (is_owned e o) 1 0) (place_is lives c) in
    omega (arith, moved, here)

pub count_same : (e : ℕ) (lives : Lives) (c : ℕ) (x : Option Life) → is_owned e x ≡ is_owned e (life_at lives c) → owned_count (slice_set lives c x) e ≡ owned_count lives e
count_same e lives c x same = sum_same (λ o. cond (is_owned e o) 1 0) lives c x None (ap {B = ℕ} (λ t. cond t 1 0) (same ∙ ap (is_owned e) (place_is lives c)))

-- a change that keeps each status
pub count_kept : (e : ℕ) (lives : Lives) (b : ℕ) (g : Life → Life) → ((l : Life) → (g l).status ≡ l.status) → owned_count (change_at lives b g) e ≡ owned_count lives e
count_kept e lives b g same = count_same e lives b (option_map g (life_at lives b)) (at (life_at lives b))
  where
    at : (o : Option Life) → is_owned e (option_map g o) ≡ is_owned e o
    at None = refl
    at (Some l) = ap (is_owned_by e) (same l)

pub status_kept : (test : Status → Bool) (lives : Lives) (b : ℕ) (g : Life → Life) (c : ℕ) → ((l : Life) → (g l).status ≡ l.status) →
    alive_and (λ l. test l.status) (life_at (change_at lives b g) c) ≡ alive_and (λ l. test l.status) (life_at lives c)
status_kept test lives b g c same = elim (cases_eq c b) [
  | inl e ↦
      ap (λ x. alive_and (λ l. test l.status) (life_at (change_at lives b g) x)) e
      ∙ (ap (alive_and (λ l. test l.status)) (change_same lives b g)
      ∙ (at (life_at lives b) ∙ ap (λ x. alive_and (λ l. test l.status) (life_at lives x)) (sym e)))
  | inr other ↦ ap (alive_and (λ l. test l.status)) (set_other lives b c (option_map g (life_at lives b)) other)
]
  where
    at : (o : Option Life) → alive_and (λ l. test l.status) (option_map g o) ≡ alive_and (λ l. test l.status) o
    at None = refl
    at (Some l) = ap test (same l)

-- a life's status changes
count_status : (e : ℕ) (lives : Lives) (c : ℕ) (st : Status) (l : Life) → life_at lives c ≡ Some l →
    owned_count (change_at lives c (with_status st)) e + cond (is_owned_by e l.status) 1 0 ≡ owned_count lives e + cond (is_owned_by e st) 1 0
count_status e lives c st l here =
    let now = ap (λ o. owned_count (slice_set lives c (option_map (with_status st) o)) e) here in
    let moved = count_set e lives c (Some (with_status st l)) (alive_within lives c l here) in
    let before = ap {B = ℕ} (λ o. cond (is_owned e o) 1 0) here in
    omega (arith, now, moved, before)

-- Blocks are dropped

part_zero : (t : Bool) → ◌≡◌ {A = ℕ} (cond t 0 0) 0
part_zero true = refl
part_zero false = refl

part_suc : (t : Bool) (n : ℕ) → cond t (suc n) 0 ≡ cond t 1 0 + cond t n 0
part_suc true n = omega arith
part_suc false n = omega arith

-- a number that stands behind another is another
apart : (c : ℕ) (cs : List ℕ) (d : ℕ) → distinct (c ∷ cs) ≡ true → Contains cs d → d ≡ c → ⊥
apart c cs d once i same =
    let first = (and_parts (not (has_number cs c)) (distinct cs) once).0 in
    false≢true (sym (not-true (has_number cs c) first) ∙ has_number_from cs c (subst (λ n. Contains cs n) same i))

rest_once : (c : ℕ) (cs : List ℕ) → distinct (c ∷ cs) ≡ true → distinct cs ≡ true
rest_once c cs once = (and_parts (not (has_number cs c)) (distinct cs) once).1

-- the others keep what a test of their life says
others : (test : Option Life → Bool) (st : Status) (lives : Lives) (c : ℕ) (cs : List ℕ) → distinct (c ∷ cs) ≡ true → ((d : ℕ) → Contains (c ∷ cs) d → test (life_at lives d) ≡ true) →
    (d : ℕ) → Contains cs d → test (life_at (change_at lives c (with_status st)) d) ≡ true
others test st lives c cs once all d i =
    ap test (set_other lives c d (option_map (with_status st) (life_at lives c)) (apart c cs d once i)) ∙ all d (Contains-tail c cs d i)

dropped_count : (e b : ℕ) (drops : List ℕ) (lives : Lives) → ((c : ℕ) → Contains drops c → is_owned b (life_at lives c) ≡ true) → distinct drops ≡ true →
    owned_count (dropped_after b lives drops) e + cond (b == e) (length drops) 0 ≡ owned_count lives e
dropped_count e b [] lives owned once = let none = part_zero (b == e) in omega (arith, none)
dropped_count e b (c ∷ cs) lives owned once =
    let p = alive_from (λ l. is_owned_by b l.status) (life_at lives c) (owned c (Contains-head c cs)) in
    let rest = dropped_count e b cs (change_at lives c (with_status (Dropped b))) (others (is_owned b) (Dropped b) lives c cs once owned) (rest_once c cs once) in
    let here = count_status e lives c (Dropped b) p.0 p.1 in
    let was = ap {B = ℕ} (λ (s : Status). cond (is_owned_by e s) 1 0) (owned_from b p.0.status p.2) in
    let more = part_suc (b == e) (length cs) in
    omega (arith, rest, here, was, more)

-- what nobody has owned stays so
fresh_after : (b : ℕ) (drops : List ℕ) (lives : Lives) (c : ℕ) → ((d : ℕ) → Contains drops d → is_owned b (life_at lives d) ≡ true) → distinct drops ≡ true →
    is_new (life_at lives c) ≡ true → is_new (life_at (dropped_after b lives drops) c) ≡ true
fresh_after b [] lives c owned once new = new
fresh_after b (d ∷ ds) lives c owned once new =
    let p = alive_from (λ l. is_owned_by b l.status) (life_at lives d) (owned d (Contains-head d ds)) in
    let other : c ≡ d → ⊥ = λ same. false≢true (sym (ap is_fresh (owned_from b p.0.status p.2)) ∙ (sym (ap is_new (ap (life_at lives) same ∙ p.1)) ∙ new)) in
    fresh_after b ds (change_at lives d (with_status (Dropped b))) c (others (is_owned b) (Dropped b) lives d ds once owned) (rest_once d ds once)
    (ap is_new (set_other lives d c (option_map (with_status (Dropped b)) (life_at lives d)) other) ∙ new)

-- Blocks are added

added_count : (e b : ℕ) (adds : List (ℕ × ℕ)) (lives : Lives) → ((c : ℕ) → Contains (blocks_of adds) c → is_new (life_at lives c) ≡ true) → distinct (blocks_of adds) ≡ true →
    owned_count (owned_after b lives adds) e ≡ owned_count lives e + cond (b == e) (length adds) 0
added_count e b [] lives fresh once = let none = part_zero (b == e) in omega (arith, none)
added_count e b (a ∷ adds) lives fresh once =
    let p = alive_from (λ l. is_fresh l.status) (life_at lives a.0) (fresh a.0 (Contains-head a.0 (blocks_of adds))) in
    let rest = added_count e b adds (change_at lives a.0 (with_status (Owned b))) (others is_new (Owned b) lives a.0 (blocks_of adds) once fresh) (rest_once a.0 (blocks_of adds) once) in
    let here = count_status e lives a.0 (Owned b) p.0 p.1 in
    let was = ap {B = ℕ} (λ (s : Status). cond (is_owned_by e s) 1 0) (fresh_from p.0.status p.2) in
    let more = part_suc (b == e) (length adds) in
    omega (arith, rest, here, was, more)

-- A block accepts an entry

module _ (lives : Lives) (b : ℕ) (s : BlockState) (may : MayClaim lives b s.adds s.drops) where
  abbrev pushed : Lives
  pushed = change_at lives b (with_state s)

  owned : (c : ℕ) → Contains s.drops c → is_owned b (life_at pushed c) ≡ true
  owned c i = status_kept (is_owned_by b) lives b (with_state s) c (λ l. refl) ∙ may.owned c i

  fresh : (c : ℕ) → Contains (blocks_of s.adds) c → is_new (life_at pushed c) ≡ true
  fresh c i = status_kept is_fresh lives b (with_state s) c (λ l. refl) ∙ may.fresh c i

  pub accepted_count : (e : ℕ) → owned_count (accepted_at lives b s) e + cond (b == e) (length s.drops) 0 ≡ owned_count lives e + cond (b == e) (length s.adds) 0
  accepted_count e =
      let first = count_kept e lives b (with_state s) (λ l. refl) in
      let drops = dropped_count e b s.drops pushed owned may.dropped_once in
      let adds = added_count e b s.adds (dropped_after b pushed s.drops) (λ c i. fresh_after b s.drops pushed c owned may.dropped_once (fresh c i)) may.added_once in
      omega (arith, first, drops, adds)

-- a block drops no more than it owns
pub drops_within : (lives : Lives) (b : ℕ) (adds : List (ℕ × ℕ)) (drops : List ℕ) → MayClaim lives b adds drops → cond (b == b) (length drops) 0 ≤ owned_count lives b
drops_within lives b adds drops may = let all = dropped_count b b drops lives may.owned may.dropped_once in omega (arith, all)

-- Lives end

pub freed_count : (e : ℕ) (blocks : List ℕ) (lives : Lives) → ((c : ℕ) → Contains blocks c → is_owned e (life_at lives c) ≡ false) → owned_count (freed lives blocks) e ≡ owned_count lives e
freed_count e [] lives none = refl
freed_count e (c ∷ cs) lives none =
    freed_count e cs (slice_set lives c None) (λ d i. still d (none d (Contains-tail c cs d i)))
    ∙ count_same e lives c None (sym (none c (Contains-head c cs)))
  where
    nothing : (lives : Lives) (c : ℕ) → life_at (slice_set lives c None) c ≡ None
    nothing [] c = refl
    nothing (o ∷ os) zero = refl
    nothing (o ∷ os) (suc c) = nothing os c

    still : (d : ℕ) → is_owned e (life_at lives d) ≡ false → is_owned e (life_at (slice_set lives c None) d) ≡ false
    still d h = elim (cases_eq d c) [
      | inl same ↦ ap (λ x. is_owned e (life_at (slice_set lives c None) x)) same ∙ ap (is_owned e) (nothing lives c)
      | inr other ↦ ap (is_owned e) (set_other lives c d None other) ∙ h
    ]

-- The lengths

length_change : (lives : Lives) (b : ℕ) (g : Life → Life) → length (change_at lives b g) ≡ length lives
length_change lives b g = length-set lives b (option_map g (life_at lives b))

length_dropped : (b : ℕ) (lives : Lives) (drops : List ℕ) → length (dropped_after b lives drops) ≡ length lives
length_dropped b lives [] = refl
length_dropped b lives (c ∷ cs) = length_dropped b (change_at lives c (with_status (Dropped b))) cs ∙ length_change lives c (with_status (Dropped b))

length_owned : (b : ℕ) (lives : Lives) (adds : List (ℕ × ℕ)) → length (owned_after b lives adds) ≡ length lives
length_owned b lives [] = refl
length_owned b lives (p ∷ ps) = length_owned b (change_at lives p.0 (with_status (Owned b))) ps ∙ length_change lives p.0 (with_status (Owned b))

pub length_accepted : (lives : Lives) (b : ℕ) (s : BlockState) → length (accepted_at lives b s) ≡ length lives
length_accepted lives b s =
    length_owned b (dropped_after b (change_at lives b (with_state s)) s.drops) s.adds
    ∙ (length_dropped b (change_at lives b (with_state s)) s.drops ∙ length_change lives b (with_state s))

pub length_freed : (lives : Lives) (blocks : List ℕ) → length (freed lives blocks) ≡ length lives
length_freed lives [] = refl
length_freed lives (c ∷ cs) = length_freed (slice_set lives c None) cs ∙ length-set lives c None

-- a block in use has a place
pub alive_place : (lives : Lives) (b : ℕ) → is_some (life_at lives b) ≡ true → b < length lives
alive_place lives b alive = by (life_at lives b) refl alive
  where
    by : (o : Option Life) → life_at lives b ≡ o → is_some o ≡ true → b < length lives
    by None here e = absurd (false≢true e)
    by (Some l) here e = alive_within lives b l here
