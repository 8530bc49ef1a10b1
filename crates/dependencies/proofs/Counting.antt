-- What is counted of lives, where one of them changes.
use Rattle.std.proofs.Common.{◌≡◌, ℕ, zero, suc, ◌+◌, ◌<◌, Bool, true, false, cond, not, List, [], ◌∷◌, length, map, take, get_or, Option, Some, None, refl, sym, ◌∙◌, ap, arith, inl, inr, slice_get}
use Rattle.std.specs.Prelude.{IfSome, sum_by, count_by, position, unwrap_or, slice_set, slice_index, slice_index_or, is_none, is_some, IsTrue, nat_lt, option_map, ◌==◌}
use Rattle.std.specs.List.{sum, position_or_len}
use Rattle.std.proofs.Math.Seq.{map-set_same}
use Rattle.std.proofs.lemmas.Bool.{cases_eq, eq-eqb, ne_eqb, false≢true}
use Rattle.std.proofs.lemmas.Option.{slice_get-get_or, slice_get_within}
use Rattle.std.proofs.lemmas.List.{get_or-set_same, get_or-set_other, length-map}
use Rattle.std.proofs.lemmas.List.Sums.{sum-map, sum_by-cons, sum_by-set, sum_by_push, sum_by-take-drop}
use Rattle.std.proofs.lemmas.List.Quantifiers.{position-Some}
use Rattle.store_types.specs.declared.status.Status.{Status}
use Rattle.store_types.specs.declared.status.Status.TheVariants.{Owned, Dropped}
use Rattle.xn_model.specs.Lives.{BlockState, Life, Lives, life_at, change_at, with_state, with_status, settle, begun_at, settled_at, owned_after, dropped_after, accepted_at, freed, is_for, lowest_free}
use Rattle.xn_model.specs.Calls.{first_pending, pending_in, new_life}
use Rattle.xn_model.proofs.ForCallers.{place_from}
use Rattle.free_map.specs.Members.{is_member}
pub use Rattle.dependencies.proofs.FirstEntries.{counted, counts_for, place_is}
use Rattle.dependencies.specs.Index.{IsCounted}
use Rattle.edit_list.specs.declared.fs.Fs.{Fs}
use Rattle.block_cache.specs.Systems.{system_of}
use Rattle.dependencies.specs.Oldest.{AreOldest}
use Rattle.dependencies.proofs.OldestChanges.{accepted_nobody, accepted_oldest, started_nobody, started_oldest}
use Rattle.dependencies.specs.Counts.{counted_for, given, noted_for}

-- Which blocks are free

-- a mark for each block
abbrev pub marks : Lives → List Bool
marks lives = map is_none lives

pub marks-set : (lives : Lives) (b : ℕ) (x : Option Life) → marks (slice_set lives b x) ≡ slice_set (marks lives) b (is_none x)
marks-set [] b x = refl
marks-set (o ∷ os) zero x = refl
marks-set (o ∷ os) (suc b) x = ap (λ ts. is_none o ∷ ts) (marks-set os b x)

still_there : (o : Option Life) (g : Life → Life) → is_none (option_map g o) ≡ is_none o
still_there None g = refl
still_there (Some l) g = refl

pub marks-change : (lives : Lives) (b : ℕ) (g : Life → Life) → marks (change_at lives b g) ≡ marks lives
marks-change [] b g = refl
marks-change (o ∷ os) zero g = ap (λ t. t ∷ marks os) (still_there o g)
marks-change (o ∷ os) (suc b) g = ap (λ ts. is_none o ∷ ts) (marks-change os b g)

marks-dropped : (b : ℕ) (lives : Lives) (drops : List ℕ) → marks (dropped_after b lives drops) ≡ marks lives
marks-dropped b lives [] = refl
marks-dropped b lives (c ∷ cs) = marks-dropped b (change_at lives c (with_status (Dropped b))) cs ∙ marks-change lives c (with_status (Dropped b))

marks-owned : (b : ℕ) (lives : Lives) (adds : List (ℕ × ℕ)) → marks (owned_after b lives adds) ≡ marks lives
marks-owned b lives [] = refl
marks-owned b lives (p ∷ ps) = marks-owned b (change_at lives p.0 (with_status (Owned b))) ps ∙ marks-change lives p.0 (with_status (Owned b))

marks-accepted : (lives : Lives) (b : ℕ) (s : BlockState) → marks (accepted_at lives b s) ≡ marks lives
marks-accepted lives b s =
    let pushed = change_at lives b (with_state s) in
    marks-owned b (dropped_after b pushed s.drops) s.adds ∙ (marks-dropped b pushed s.drops ∙ marks-change lives b (with_state s))

pub marks-freed : (lives : Lives) (blocks : List ℕ) → given (marks lives) blocks ≡ marks (freed lives blocks)
marks-freed lives [] = refl
marks-freed lives (c ∷ cs) = ap (λ ts. given ts cs) (sym (marks-set lives c None)) ∙ marks-freed (slice_set lives c None) cs

-- the least that is marked, and how many
lowest_mark : (lives : Lives) → position_or_len is_member (marks lives) ≡ position_or_len is_none lives
lowest_mark [] = refl
lowest_mark (o ∷ os) = ap (λ n. cond (not (is_none o)) (1 + n) 0) (lowest_mark os)

pub lowest_marked : (lives : Lives) → position is_member (marks lives) ≡ lowest_free lives
lowest_marked lives =
    let long = length-map lives is_none in
    let place = lowest_mark lives in
    λ i. cond (nat_lt (place i) (long i)) (Some (place i)) None

pub count_marked : (lives : Lives) → count_by is_member (marks lives) ≡ count_by is_none lives
count_marked [] = refl
count_marked (o ∷ os) =
    let first = sum_by-cons (λ t. cond (is_member t) 1 0) (is_none o) (marks os) in
    let second = sum_by-cons (λ (x : Option Life). cond (is_none x) 1 0) o os in
    let rest = count_marked os in
    omega (arith, first, second, rest)

-- What is counted where a life changes

pub sum_same : {X : Type 0} (f : X → ℕ) (xs : List X) (i : ℕ) (y d : X) → f y ≡ f (get_or xs i d) → sum_by f (slice_set xs i y) ≡ sum_by f xs
sum_same f xs i y d e = sym (sum-map f (slice_set xs i y)) ∙ (ap sum (map-set_same f xs i y d e) ∙ sum-map f xs)

alive_within : (lives : Lives) (b : ℕ) (l : Life) → life_at lives b ≡ Some l → b < length lives
alive_within lives b l e = slice_get_within lives b (Some l) (place_from lives b l e)

-- a change of a life that leaves its pending entries
changed_counted : (fs : ℕ) (lives : Lives) (b : ℕ) (g : Life → Life) → ((l : Life) → pending_in fs (Some (g l)) ≡ pending_in fs (Some l)) → counted fs (change_at lives b g) ≡ counted fs lives
changed_counted fs lives b g same = sum_same (pending_in fs) lives b (option_map g (life_at lives b)) None (at (life_at lives b) ∙ ap (pending_in fs) (place_is lives b))
  where
    at : (o : Option Life) → pending_in fs (option_map g o) ≡ pending_in fs o
    at None = refl
    at (Some l) = same l

-- A write begins

pub begun_counted : (lives : Lives) (free : List Bool) (pending : List ℕ) (b k : ℕ) → IsCounted lives free pending → IsCounted (begun_at lives b k) free pending
begun_counted lives free pending b k h = record {
  marked = h.marked ∙ sym (marks-change lives b (λ l. record l { begun = Some k }));
  counts = λ fs few. h.counts fs few ∙ sym (changed_counted fs lives b (λ l. record l { begun = Some k }) (λ l. refl));
}

-- A write ends

-- the entries of a life that are durable now
settled_some : (fs : ℕ) (lives : Lives) (b k : ℕ) (l : Life) → life_at lives b ≡ Some l → b < length lives → counted fs (settled_at lives b k) + count_by (counts_for fs) (take k l.pending) ≡ counted fs lives
settled_some fs lives b k l here within =
    let now = ap (λ o. counted fs (slice_set lives b (option_map (settle k) o))) here in
    let moved = sum_by-set (pending_in fs) lives b (Some (settle k l)) None within in
    let before = ap (pending_in fs) (sym here ∙ place_is lives b) in
    let parts = sum_by-take-drop (λ s. cond (counts_for fs s) 1 0) l.pending k in
    omega (arith, now, moved, before, parts)

settled_none : (fs : ℕ) (lives : Lives) (b k : ℕ) → life_at lives b ≡ None → counted fs (settled_at lives b k) ≡ counted fs lives
settled_none fs lives b k free =
    sum_same (pending_in fs) lives b (option_map (settle k) (life_at lives b)) None (ap (λ o. pending_in fs (option_map (settle k) o)) free ∙ ap (pending_in fs) (sym free ∙ place_is lives b))

pub settled_less : (fs : ℕ) (lives : Lives) (b k : ℕ) → counted fs (settled_at lives b k) + count_by (counts_for fs) (first_pending k (life_at lives b)) ≡ counted fs lives
settled_less fs lives b k = by (life_at lives b) refl
  where
    by : (o : Option Life) → life_at lives b ≡ o → counted fs (settled_at lives b k) + count_by (counts_for fs) (first_pending k o) ≡ counted fs lives
    by None e = let same = settled_none fs lives b k e in omega (arith, same)
    by (Some l) e = settled_some fs lives b k l e (alive_within lives b l e)

-- One more entry

-- the counts with one more for a file system
pub one_more : (pending : List ℕ) (f fs : ℕ) → f < length pending → slice_index (slice_set pending f (slice_index_or pending f 0 + 1)) fs ≡ slice_index pending fs + cond (f == fs) 1 0
one_more pending f fs within = elim (cases_eq fs f) [
  | inl same ↦
      ap (slice_index (slice_set pending f (slice_index_or pending f 0 + 1))) same
      ∙ (get_or-set_same pending f (slice_index_or pending f 0 + 1) 0 within
      ∙ (λ i. slice_index pending (sym same i) + cond (sym (eq-eqb f fs (sym same)) i) 1 0))
  | inr other ↦
      let same = get_or-set_other pending f fs (slice_index_or pending f 0 + 1) 0 other in
      let none = ap {B = ℕ} (λ t. cond t 1 0) (ne_eqb f fs (λ e. other (sym e))) in
      omega (arith, same, none)
]

-- or for none
pub counted_more : (pending : List ℕ) (f : Option ℕ) (fs : ℕ) → IfSome f (λ x. x < length pending) → slice_index (counted_for f pending) fs ≡ slice_index pending fs + cond (is_for fs f) 1 0
counted_more pending None fs within = omega arith
counted_more pending (Some f) fs within = one_more pending f fs within

started_more : (fs : ℕ) (lives : Lives) (b n : ℕ) (f : Option ℕ) (ty : ℕ) (bytes : List ℕ) → b < length lives → life_at lives b ≡ None →
    counted fs (slice_set lives b (Some (new_life n f ty bytes))) ≡ counted fs lives + cond (is_for fs f) 1 0
started_more fs lives b n f ty bytes within free =
    let moved = sum_by-set (pending_in fs) lives b (Some (new_life n f ty bytes)) None within in
    let before = ap (pending_in fs) (sym free ∙ place_is lives b) in
    omega (arith, moved, before)

-- a life starts on the least free block
pub least_is_free : (lives : Lives) (b : ℕ) → lowest_free lives ≡ Some b → slice_get lives b ≡ Some None
least_is_free lives b lowest =
    let least = position-Some is_none lives b None lowest in
    slice_get-get_or lives b None least.0 ∙ ap (λ o. Some o) (none_of (get_or lives b None) least.1)
  where
    none_of : (o : Option Life) → is_none o ≡ true → o ≡ None
    none_of None f = refl
    none_of (Some l) f = absurd (false≢true f)

pub started_counted : (lives : Lives) (free : List Bool) (pending : List ℕ) (b n : ℕ) (f : Option ℕ) (ty : ℕ) (bytes : List ℕ) → IsCounted lives free pending → IfSome f (λ x. x < length pending) → slice_get lives b ≡ Some None →
    IsCounted (slice_set lives b (Some (new_life n f ty bytes))) (slice_set free b false) (counted_for f pending)
started_counted lives free pending b n f ty bytes h few none =
    let within = slice_get_within lives b None none in
    let empty = ap (λ o. unwrap_or o None) none in
    record {
      marked = ap (λ ts. slice_set ts b false) h.marked ∙ sym (marks-set lives b (Some (new_life n f ty bytes)));
      counts = λ fs low. counted_more pending f fs few ∙ (ap (λ n. n + cond (is_for fs f) 1 0) (h.counts fs low) ∙ sym (started_more fs lives b n f ty bytes within empty));
    }

appended_more : (fs : ℕ) (lives : Lives) (b : ℕ) (s : BlockState) (l : Life) → life_at lives b ≡ Some l → b < length lives → counted fs (change_at lives b (with_state s)) ≡ counted fs lives + cond (counts_for fs s) 1 0
appended_more fs lives b s l here within =
    let now = ap (λ o. counted fs (slice_set lives b (option_map (with_state s) o))) here in
    let moved = sum_by-set (pending_in fs) lives b (Some (with_state s l)) None within in
    let before = ap (pending_in fs) (sym here ∙ place_is lives b) in
    let pushed = sum_by_push (λ t. cond (counts_for fs t) 1 0) l.pending s in
    omega (arith, now, moved, before, pushed)

-- a status changes nothing that is counted
status_counted : (fs : ℕ) (st : Status) (lives : Lives) (c : ℕ) → counted fs (change_at lives c (with_status st)) ≡ counted fs lives
status_counted fs st lives c = changed_counted fs lives c (with_status st) (λ l. refl)

dropped_counted : (fs b : ℕ) (lives : Lives) (drops : List ℕ) → counted fs (dropped_after b lives drops) ≡ counted fs lives
dropped_counted fs b lives [] = refl
dropped_counted fs b lives (c ∷ cs) = dropped_counted fs b (change_at lives c (with_status (Dropped b))) cs ∙ status_counted fs (Dropped b) lives c

owned_counted : (fs b : ℕ) (lives : Lives) (adds : List (ℕ × ℕ)) → counted fs (owned_after b lives adds) ≡ counted fs lives
owned_counted fs b lives [] = refl
owned_counted fs b lives (p ∷ ps) = owned_counted fs b (change_at lives p.0 (with_status (Owned b))) ps ∙ status_counted fs (Owned b) lives p.0

accepted_more : (fs : ℕ) (lives : Lives) (b : ℕ) (s : BlockState) → IsTrue (is_some (life_at lives b)) → counted fs (accepted_at lives b s) ≡ counted fs lives + cond (counts_for fs s) 1 0
accepted_more fs lives b s alive =
    let pushed = change_at lives b (with_state s) in
    owned_counted fs b (dropped_after b pushed s.drops) s.adds
    ∙ (dropped_counted fs b pushed s.drops ∙ by (life_at lives b) refl alive)
  where
    by : (o : Option Life) → life_at lives b ≡ o → IsTrue (is_some o) → counted fs (change_at lives b (with_state s)) ≡ counted fs lives + cond (counts_for fs s) 1 0
    by None e t = absurd (false≢true t)
    by (Some l) e t = appended_more fs lives b s l e (alive_within lives b l e)

-- a block accepts one more state
pub accepted_counted : (lives : Lives) (free : List Bool) (pending : List ℕ) (b : ℕ) (f : Option ℕ) (s : BlockState) → IsCounted lives free pending → IfSome f (λ x. x < length pending) → IsTrue (is_some (life_at lives b)) →
    s.fs ≡ f → IsCounted (accepted_at lives b s) free (counted_for f pending)
accepted_counted lives free pending b f s h few alive for = record {
  marked = h.marked ∙ sym (marks-accepted lives b s);
  counts = λ fs low. counted_more pending f fs few ∙ ((λ i. h.counts fs low i + cond (is_for fs (sym for i)) 1 0) ∙ sym (accepted_more fs lives b s alive));
}

-- From which number on the entries lie

-- there are 32 file systems
pub system_few : (fs : Option Fs) → IfSome (system_of fs) (λ x. x < 32)
system_few None = tt
system_few (Some fs) = fs.few

pub system_within : (fs : Option Fs) (pending : List ℕ) → length pending ≡ 32 → IfSome (system_of fs) (λ x. x < length pending)
system_within None pending long = tt
system_within (Some fs) pending long = let few = fs.few in omega (arith, few, long)

-- few entries of a file system are pending
abbrev pub FewFor : Lives → Option Fs → Type 0
FewFor lives fs = IfSome fs (λ (f : Fs). counted f.number lives < 4096)

pub few_counted : (lives : Lives) (pending : List ℕ) (fs : Option Fs) → ((f : ℕ) → f < 32 → slice_index pending f ≡ counted f lives) → FewFor lives fs → IfSome fs (λ (f : Fs). slice_index pending f.number < 4096)
few_counted lives pending None counts few = tt
few_counted lives pending (Some fs) counts few = let same = counts fs.number fs.few in omega (arith, same, few)

pub started_noted : (lives : Lives) (oldest pending : List ℕ) (b n : ℕ) (f : Option ℕ) (ty : ℕ) (bytes : List ℕ) → IfSome f (λ x. x < length oldest) → IfSome f (λ x. x < 32) →
    ((fs : ℕ) → fs < 32 → slice_index pending fs ≡ counted fs lives) → AreOldest lives oldest → AreOldest (slice_set lives b (Some (new_life n f ty bytes))) (noted_for f n pending oldest)
started_noted lives oldest pending b n None ty bytes within few counts are = started_nobody lives oldest b n ty bytes are
started_noted lives oldest pending b n (Some f) ty bytes within few counts are = started_oldest lives oldest b n f ty bytes (slice_index pending f) within (counts f few) are

pub accepted_noted : (lives : Lives) (oldest pending : List ℕ) (b : ℕ) (f : Option ℕ) (s : BlockState) → IfSome f (λ x. x < length oldest) → IfSome f (λ x. x < 32) →
    ((fs : ℕ) → fs < 32 → slice_index pending fs ≡ counted fs lives) → s.fs ≡ f → AreOldest lives oldest → AreOldest (accepted_at lives b s) (noted_for f s.entry pending oldest)
accepted_noted lives oldest pending b None s within few counts for are = accepted_nobody lives oldest b s for are
accepted_noted lives oldest pending b (Some f) s within few counts for are = accepted_oldest lives oldest b f s (slice_index pending f) within (counts f few) for are
