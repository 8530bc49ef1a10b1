-- The blocks with something pending, where lives change.
use Rattle.std.proofs.Common.{◌≡◌, ℕ, zero, suc, ◌-◌, Bool, true, false, List, [], ◌∷◌, ◌++◌, length, map, Option, Some, None, refl, sym, ◌∙◌, ap, arith, length-append, length-drop}
use Rattle.std.specs.Prelude.{Contains, is_some, nat_lt, option_map, slice_set, IsTrue}
use Rattle.std.proofs.Math.Seq.{map-set_same}
use Rattle.std.proofs.lemmas.Bool.{false≢true, le-ltb, lt-ltb}
use Rattle.std.proofs.lemmas.List.{map-set}
use Rattle.store_types.specs.declared.status.Status.TheVariants.{Owned, Dropped}
use Rattle.xn_model.specs.Lives.{BlockState, Life, Lives, life_at, change_at, with_state, with_status, settle, settled_at, begun_at, owned_after, dropped_after, accepted_at, freed}
use Rattle.xn_model.specs.Calls.{life_pending, new_life}
use Rattle.xn_model.proofs.ForCallers.{Contains-head, Contains-tail}
use Rattle.dependencies.specs.Pending.{is_dirty}
use Rattle.dependencies.proofs.FirstEntries.{place_is}
use Rattle.dependencies.proofs.Freed.{still_none}

abbrev pub dirt : Lives → List Bool
dirt lives = map is_dirty lives

-- One block

dirty_if : (o : Option Life) → life_pending o ≡ 0 → is_dirty o ≡ false
dirty_if o none = le-ltb 0 (life_pending o) (omega (arith, none))

-- Changes

dirt-change : (lives : Lives) (b : ℕ) (g : Life → Life) → ((l : Life) → (g l).pending ≡ l.pending) → dirt (change_at lives b g) ≡ dirt lives
dirt-change [] b g same = refl
dirt-change (o ∷ os) zero g same = ap (λ t. t ∷ dirt os) (still o)
  where
    still : (o : Option Life) → is_dirty (option_map g o) ≡ is_dirty o
    still None = refl
    still (Some l) = ap (λ (ps : List BlockState). nat_lt 0 (length ps)) (same l)
dirt-change (o ∷ os) (suc b) g same = ap (λ ts. is_dirty o ∷ ts) (dirt-change os b g same)

dirt-dropped : (b : ℕ) (lives : Lives) (drops : List ℕ) → dirt (dropped_after b lives drops) ≡ dirt lives
dirt-dropped b lives [] = refl
dirt-dropped b lives (c ∷ cs) = dirt-dropped b (change_at lives c (with_status (Dropped b))) cs ∙ dirt-change lives c (with_status (Dropped b)) (λ l. refl)

dirt-owned : (b : ℕ) (lives : Lives) (adds : List (ℕ × ℕ)) → dirt (owned_after b lives adds) ≡ dirt lives
dirt-owned b lives [] = refl
dirt-owned b lives (p ∷ ps) = dirt-owned b (change_at lives p.0 (with_status (Owned b))) ps ∙ dirt-change lives p.0 (with_status (Owned b)) (λ l. refl)

abbrev begun_with : ℕ → Life → Life
begun_with k l = record l { begun = Some k }

pub begun_dirty : (dirty : List Bool) (lives : Lives) (b k : ℕ) → dirty ≡ dirt lives → dirty ≡ dirt (begun_at lives b k)
begun_dirty dirty lives b k e = e ∙ sym (dirt-change lives b (begun_with k) (λ l. refl))

pub started_dirty : (dirty : List Bool) (lives : Lives) (b n : ℕ) (f : Option ℕ) (ty : ℕ) (bytes : List ℕ) → dirty ≡ dirt lives → slice_set dirty b true ≡ dirt (slice_set lives b (Some (new_life n f ty bytes)))
started_dirty dirty lives b n f ty bytes e = ap (λ ts. slice_set ts b true) e ∙ sym (map-set is_dirty lives b (Some (new_life n f ty bytes)))

pub forgotten_dirty : (dirty : List Bool) (lives : Lives) (b : ℕ) → dirty ≡ dirt lives → slice_set dirty b false ≡ dirt (slice_set lives b None)
forgotten_dirty dirty lives b e = ap (λ ts. slice_set ts b false) e ∙ sym (map-set is_dirty lives b None)

pub accepted_dirty : (dirty : List Bool) (lives : Lives) (b : ℕ) (s : BlockState) → dirty ≡ dirt lives → IsTrue (is_some (life_at lives b)) → slice_set dirty b true ≡ dirt (accepted_at lives b s)
accepted_dirty dirty lives b s e alive =
    let pushed = change_at lives b (with_state s) in
    ap (λ ts. slice_set ts b true) e
    ∙ (ap (slice_set (dirt lives) b) (sym (more (life_at lives b) alive))
    ∙ (sym (map-set is_dirty lives b (option_map (with_state s) (life_at lives b)))
    ∙ sym (dirt-owned b (dropped_after b pushed s.drops) s.adds ∙ dirt-dropped b pushed s.drops)))
  where
    more : (o : Option Life) → is_some o ≡ true → is_dirty (option_map (with_state s) o) ≡ true
    more None h = absurd (false≢true h)
    more (Some l) h = lt-ltb 0 (length (l.pending ++ s ∷ [])) (omega (arith, length-append l.pending (s ∷ [])))

dirt-freed : (drops : List ℕ) (lives : Lives) → ((c : ℕ) → Contains drops c → life_pending (life_at lives c) ≡ 0) → dirt (freed lives drops) ≡ dirt lives
dirt-freed [] lives none = refl
dirt-freed (c ∷ cs) lives none =
    dirt-freed cs (slice_set lives c None) (λ d i. still_none lives c d (none d (Contains-tail c cs d i)))
    ∙ map-set_same is_dirty lives c None None (sym (ap is_dirty (sym (place_is lives c)) ∙ dirty_if (life_at lives c) (none c (Contains-head c cs))))

pub settled_dirty : (dirty : List Bool) (lives : Lives) (b k : ℕ) (drops : List ℕ) → dirty ≡ dirt lives → ((c : ℕ) → Contains drops c → life_pending (life_at (settled_at lives b k) c) ≡ 0) →
    slice_set dirty b (nat_lt 0 (life_pending (life_at lives b) - k)) ≡ dirt (freed (settled_at lives b k) drops)
settled_dirty dirty lives b k drops e none =
    ap (λ ts. slice_set ts b (nat_lt 0 (life_pending (life_at lives b) - k))) e
    ∙ (ap (slice_set (dirt lives) b) (left (life_at lives b))
    ∙ (sym (map-set is_dirty lives b (option_map (settle k) (life_at lives b)))
    ∙ sym (dirt-freed drops (settled_at lives b k) none)))
  where
    left : (o : Option Life) → nat_lt 0 (life_pending o - k) ≡ is_dirty (option_map (settle k) o)
    left None = let none : 0 - k ≡ 0 = omega arith in ap (nat_lt 0) none
    left (Some l) = ap (nat_lt 0) (sym (length-drop k l.pending))
