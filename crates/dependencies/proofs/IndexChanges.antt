-- The index of lives, where these change.
use Rattle.std.proofs.Common.{◌≡◌, ℕ, ◌<◌, ◌+◌, ◌-◌, true, false, cond, List, length, Option, Some, None, ap, subst, sym, ◌∙◌}
use Rattle.std.proofs.lemmas.List.{set-get_or}
use Rattle.std.specs.Prelude.{Contains, IfSome, IsTrue, count_by, is_some, nat_lt, option_map, slice_get, slice_index, slice_set, ◌==◌}
use Rattle.xn_model.specs.Lives.{BlockState, Lives, accepted_at, begun_at, drops_of, freed, is_for, life_at, settle, settled_at}
use Rattle.xn_model.specs.Calls.{first_pending, life_pending, new_life}
use Rattle.dependencies.specs.Candidates.{CandidatesValue, Wakes, with_candidate}
use Rattle.dependencies.specs.Counts.{counted_for, given, noted_for}
use Rattle.dependencies.specs.Homes.{homes_with, slot_of}
use Rattle.dependencies.specs.Index.{IndexValue, IsIndex, MayFree}
use Rattle.dependencies.specs.Pending.{pends}
use Rattle.dependencies.proofs.Counting.{accepted_counted, accepted_noted, begun_counted, started_counted, started_noted}
use Rattle.dependencies.proofs.DirtyChanges.{accepted_dirty, begun_dirty, forgotten_dirty, settled_dirty, started_dirty}
use Rattle.dependencies.proofs.Ended.{forgotten_counted}
use Rattle.dependencies.proofs.FirstEntries.{place_is}
use Rattle.dependencies.proofs.Freed.{ended_counted, settled_none}
use Rattle.dependencies.proofs.HomeChanges.{accepted_homes, begun_homes, forgotten_homes, settled_homes, started_homes}
use Rattle.dependencies.proofs.LifeChanges.{accepted_accounts, begun_accounts, forgotten_accounts, settled_accounts, started_accounts}
use Rattle.dependencies.proofs.OldestChanges.{begun_oldest, forgotten_oldest, settled_oldest}

-- a place for each file system
abbrev pub IsWithin : Option ℕ → List ℕ → Type 0
IsWithin f numbers = IfSome f (λ x. x < length numbers)

-- a life starts
pub started_index : (lives : Lives) (index : IndexValue) (b n : ℕ) (f : Option ℕ) (ty : ℕ) (bytes : List ℕ) → IsIndex lives index → IsWithin f index.pending →
    IsWithin f index.oldest → IfSome f (λ x. x < 32) → slot_of (length index.homes) n < length index.homes → slice_get lives b ≡ Some None →
    ((c : ℕ) → pends n (life_at lives c) ≡ false) → IsIndex (slice_set lives b (Some (new_life n f ty bytes))) (record {
      free = slice_set index.free b false;
      pending = counted_for f index.pending;
      oldest = noted_for f n index.pending index.oldest;
      dirty = slice_set index.dirty b true;
      candidates = with_candidate index.candidates b true;
      homes = homes_with index.homes n b;
    })
started_index lives index b n f ty bytes is pending oldest few room free fresh = record {
  counted = started_counted lives index.free index.pending b n f ty bytes is.counted pending free;
  oldest = started_noted lives index.oldest index.pending b n f ty bytes oldest few is.counted.counts is.oldest;
  dirty = started_dirty index.dirty lives b n f ty bytes is.dirty;
  candidates = started_accounts lives index.candidates b n f ty bytes is.candidates free;
  homes = started_homes lives index.homes b n f ty bytes room is.homes fresh;
}

-- a block accepts one more state
pub accepted_index : (lives : Lives) (index : IndexValue) (b : ℕ) (s : BlockState) (f : Option ℕ) → IsIndex lives index → IsWithin f index.pending →
    IsWithin f index.oldest → IfSome f (λ x. x < 32) → slot_of (length index.homes) s.entry < length index.homes → IsTrue (is_some (life_at lives b)) → s.fs ≡ f →
    ((c : ℕ) → pends s.entry (life_at lives c) ≡ false) → IsIndex (accepted_at lives b s) (record {
      free = index.free;
      pending = counted_for f index.pending;
      oldest = noted_for f s.entry index.pending index.oldest;
      dirty = slice_set index.dirty b true;
      candidates = cond (life_pending (life_at lives b) == 0) (with_candidate index.candidates b true) index.candidates;
      homes = homes_with index.homes s.entry b;
    })
accepted_index lives index b s f is pending oldest few room alive for fresh = record {
  counted = accepted_counted lives index.free index.pending b f s is.counted pending alive for;
  oldest = accepted_noted lives index.oldest index.pending b f s oldest few is.counted.counts for is.oldest;
  dirty = accepted_dirty index.dirty lives b s is.dirty alive;
  candidates = accepted_accounts lives index.candidates b s is.candidates alive;
  homes = accepted_homes lives index.homes b s room is.homes fresh;
}

-- a write begins
pub begun_index : {now : Lives} {index value : IndexValue} (b : ℕ) → index ≡ value → (lives : Lives) × (k : ℕ) × (now ≡ begun_at lives b k) × IsIndex lives value →
    IsIndex now (record index { candidates = with_candidate index.candidates b false })
begun_index {now} {index} b same from =
    let lives = from.0 in
    let k = from.1 in
    let is = subst (IsIndex lives) (sym same) from.3 in
    rw from.2 (record {
      counted = begun_counted lives index.free index.pending b k is.counted;
      oldest = begun_oldest lives index.oldest b k is.oldest;
      dirty = begun_dirty index.dirty lives b k is.dirty;
      candidates = begun_accounts lives index.candidates b k is.candidates;
      homes = begun_homes lives index.homes b k is.homes;
    })

-- a write is settled, and what its entries drop is free
pub settled_index : (lives : Lives) (index : IndexValue) (b k : ℕ) (pending : List ℕ) (woken : CandidatesValue) → IsIndex lives index →
    MayFree lives b (drops_of (first_pending k (life_at lives b))) →
    ((fs : ℕ) → fs < 32 → slice_index pending fs + count_by (λ s. is_for fs s.fs) (first_pending k (life_at lives b)) ≡ slice_index index.pending fs) →
    Wakes index.candidates woken b →
    IsIndex (freed (settled_at lives b k) (drops_of (first_pending k (life_at lives b)))) (record {
      free = given index.free (drops_of (first_pending k (life_at lives b)));
      pending = pending;
      oldest = index.oldest;
      dirty = slice_set index.dirty b (nat_lt 0 (life_pending (life_at lives b) - k));
      candidates = with_candidate woken b (nat_lt 0 (life_pending (life_at lives b) - k));
      homes = index.homes;
    })
settled_index lives index b k pending woken is may less wakes =
    let drops = drops_of (first_pending k (life_at lives b)) in
    let rest = λ (d : ℕ) (i : Contains drops d). settled_none lives b k d (λ e. may.apart (subst (Contains drops) e i)) (may.at_rest d i) in
    record {
      counted = ended_counted lives index.free index.pending pending b k is.counted less may;
      oldest = settled_oldest lives index.oldest b k drops is.oldest;
      dirty = settled_dirty index.dirty lives b k drops is.dirty rest;
      candidates = settled_accounts lives index.candidates woken b k drops is.candidates wakes may.at_rest;
      homes = settled_homes lives index.homes b k drops is.homes;
    }

-- a write of a free block changes nothing
pub settled_free : (lives : Lives) (index : IndexValue) (b k : ℕ) → life_at lives b ≡ None → IsIndex lives index →
    IsIndex (freed (settled_at lives b k) (drops_of (first_pending k (life_at lives b)))) index
settled_free lives index b k free is =
    let same : slice_set lives b None ≡ lives = ap (slice_set lives b) (sym free ∙ place_is lives b) ∙ set-get_or lives b None in
    subst (λ o. IsIndex (freed (slice_set lives b (option_map (settle k) o)) (drops_of (first_pending k o))) index) (sym free) (
    subst (λ (ls : Lives). IsIndex ls index) (sym same) is
    )

-- a life ends
pub ended_index : (lives : Lives) (index : IndexValue) (b k : ℕ) (pending : List ℕ) (woken : CandidatesValue) → IsIndex lives index → k ≡ life_pending (life_at lives b) →
    ((fs : ℕ) → fs < 32 → slice_index pending fs + count_by (λ s. is_for fs s.fs) (first_pending k (life_at lives b)) ≡ slice_index index.pending fs) →
    Wakes index.candidates woken b → IsIndex (slice_set lives b None) (record {
      free = slice_set index.free b true;
      pending = pending;
      oldest = index.oldest;
      dirty = slice_set index.dirty b false;
      candidates = with_candidate woken b false;
      homes = index.homes;
    })
ended_index lives index b k pending woken is all less wakes = record {
  counted = forgotten_counted lives index.free index.pending pending b k is.counted all less;
  oldest = forgotten_oldest lives index.oldest b is.oldest;
  dirty = forgotten_dirty index.dirty lives b is.dirty;
  candidates = forgotten_accounts lives index.candidates woken b is.candidates wakes;
  homes = forgotten_homes lives index.homes b is.homes;
}
