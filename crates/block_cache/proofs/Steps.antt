-- What each call leaves of the places and the slab.
use Rattle.std.proofs.Common.{◌≡◌, ℕ, ◌<◌, ◌≤◌, Bool, List, length, take, drop, Option, Some, None, refl, sym, ◌∙◌, ap, arith, subst}
use Rattle.std.specs.Prelude.{Contains, IsTrue, IfSome, is_some, option_map, slice_set}
use Rattle.slab.specs.Slab.{Slab, get, Updates}
use Rattle.store_types.specs.declared.status.Status.{Status}
use Rattle.xn_model.specs.Lives as model
use Rattle.xn_model.specs.Lives.{Life, Lives, life_at, change_at, with_state, settle, settled_at, begun_at, current, root_on_disk}
use Rattle.xn_model.specs.Calls.{life_pending, life_bytes, patched}
use Rattle.block_cache.specs.declared.entry.Entry.{Entry}
use Rattle.block_cache.specs.Claims.{claimed_state}
use Rattle.block_cache.specs.Cached.{CachedLife}
use Rattle.block_cache.specs.declared.new_bytes.NewBytes.{NewBytes}
use Rattle.block_cache.specs.NewBytes.{appended_by, new_bytes}
use Rattle.block_cache.specs.Named.{places_named}
use Rattle.block_cache.specs.Undone.{before, entries_under, life_of, lives_of}
use Rattle.block_cache.specs.Kept.{AreOf, IsKept, AreKept, IsWhole, place_at, change_place, appended, settled, cached_with_status, with_begun, first_keys}
use Rattle.block_cache.specs.Views.{HasImage, image_at}
use Rattle.block_cache.proofs.Keys.{same_keys, take_keys}
use Rattle.block_cache.proofs.Used.{used_append, used_kept, used_settle}
use Rattle.block_cache.proofs.WrittenPlaces.{KeepsOthers, life-life_at}
use Rattle.block_cache.proofs.Changes.{length-pending, current_of_life, image_of_life, inserted_keeps, removed_keeps, appended_life, appended_kept, settled_life, settled_kept, given_up_life, lives_of-change, kept-change, place_kept, same_slab_keeps}

-- The life at a place

pub life_there : (slab : Slab Entry) (places : List (Option CachedLife)) (lives : Lives) (b : ℕ) (l : CachedLife) → lives_of slab places ≡ lives → Some l ≡ place_at places b →
    life_at lives b ≡ Some (life_of slab l)
life_there slab places lives b l view at =
    ap (λ (ls : Lives). life_at ls b) (sym view) ∙ (life-life_at slab places b ∙ ap (option_map (life_of slab)) (sym at))

some-map : (slab : Slab Entry) (o : Option CachedLife) → is_some (option_map (life_of slab) o) ≡ is_some o
some-map slab None = refl
some-map slab (Some l) = refl

pub alive_there : (slab : Slab Entry) (places : List (Option CachedLife)) (lives : Lives) (b : ℕ) → lives_of slab places ≡ lives → IsTrue (is_some (life_at lives b)) →
    IsTrue (is_some (place_at places b))
alive_there slab places lives b view alive =
    sym (some-map slab (place_at places b)) ∙ (ap is_some (sym (life-life_at slab places b) ∙ ap (λ (ls : Lives). life_at ls b) view) ∙ alive)

pub pending_there : (slab : Slab Entry) (places : List (Option CachedLife)) (lives : Lives) (b : ℕ) (l : CachedLife) → AreKept slab places → lives_of slab places ≡ lives →
    Some l ≡ place_at places b → life_pending (life_at lives b) ≡ length l.keys
pending_there slab places lives b l kept view at =
    ap life_pending (life_there slab places lives b l view at) ∙ length-pending slab b l (place_kept slab places b l kept (sym at))

-- the bytes with only the first entries done
pub image_there : (slab : Slab Entry) (places : List (Option CachedLife)) (lives : Lives) (b : ℕ) (l : CachedLife) (k : ℕ) → AreKept slab places → lives_of slab places ≡ lives →
    Some l ≡ place_at places b → IfSome (life_at lives b) (HasImage k) →
    (k ≤ length l.keys) × (before (entries_under slab (drop k l.keys)) l.current ≡ image_at k (life_of slab l))
image_there slab places lives b l k kept view at has =
    let here = place_kept slab places b l kept (sym at) in
    let image = let P : Option Life → Type 0 = λ o. IfSome o (HasImage k) in subst P (life_there slab places lives b l view at) has in
    let within : k ≤ length l.keys = omega (arith, image.within, length-pending slab b l here) in
    (within, image_of_life slab b l k here image)

if_some : (o : Option CachedLife) (P : CachedLife → Type 0) → ((l : CachedLife) → Some l ≡ o → P l) → IfSome o P
if_some None P h = tt
if_some (Some l) P h = h l refl

same_map : (o : Option CachedLife) (f g : CachedLife → CachedLife) → ((l : CachedLife) → Some l ≡ o → f l ≡ g l) → option_map f o ≡ option_map g o
same_map None f g h = refl
same_map (Some l) f g h = ap (λ x. Some x) (h l refl)

-- one more entry of the newest bytes, which are those that are kept
pub appended_there : (slab : Slab Entry) (places : List (Option CachedLife)) (lives : Lives) (b k : ℕ) (bytes : NewBytes) → AreKept slab places → lives_of slab places ≡ lives →
    change_place places b (appended_by k bytes) ≡ change_place places b (appended k (new_bytes bytes (life_bytes (life_at lives b))))
appended_there slab places lives b k bytes kept view =
    ap (slice_set places b) (same_map (place_at places b) (appended_by k bytes) (appended k (new_bytes bytes (life_bytes (life_at lives b))))
    (λ l at.
    let now = ap life_bytes (life_there slab places lives b l view at) ∙ current_of_life slab b l (place_kept slab places b l kept (sym at)) in
    ap (λ m. appended k (new_bytes bytes m) l) (sym now)))

pub few_keys : (slab : Slab Entry) (places : List (Option CachedLife)) (lives : Lives) (b k : ℕ) → AreKept slab places → lives_of slab places ≡ lives →
    k ≤ life_pending (life_at lives b) → IfSome (place_at places b) (λ l. k ≤ length l.keys)
few_keys slab places lives b k kept view within =
    let P : CachedLife → Type 0 = λ l. k ≤ length l.keys in
    if_some (place_at places b) P (λ l at. omega (arith, within, pending_there slab places lives b l kept view at))

-- A slab with more room

pub same_gets : (old mid : Slab Entry) (n : ℕ) → mid ≡ record old { capacity = n } → (k : ℕ) → get mid k ≡ get old k
same_gets old mid n e k = ap (λ (s : Slab Entry). get s k) e

pub grown_kept : (old mid : Slab Entry) (places : List (Option CachedLife)) → ((k : ℕ) → get mid k ≡ get old k) → AreKept old places → AreKept mid places
grown_kept old mid places same kept = record {
  each = λ b l at. let k = kept.each b l at in record { keys = same_keys old mid b l.keys (λ q i. same q) k.keys; few = k.few; begun = k.begun; has_state = k.has_state };
  used = λ k e at. kept.used k e (sym (same k) ∙ at);
  few = kept.few;
}

pub grown_whole : (old mid : Slab Entry) (places : List (Option CachedLife)) (names : List Bool) (n : ℕ) → mid ≡ record old { capacity = n } → IsWhole old places names → IsWhole mid places names
grown_whole old mid places names n e whole = record {
  kept = grown_kept old mid places (same_gets old mid n e) whole.kept;
  named = whole.named ∙ ap (λ (s : Slab Entry). places_named (root_on_disk (lives_of s places))) (sym e);
}

-- Appending

module _ (old new : Slab Entry) (places : List (Option CachedLife)) (lives : Lives) (b k : ℕ) (e : Entry) (bytes : List ℕ)
    (kept : AreKept old places) (view : lives_of old places ≡ lives) (vacant : get old k ≡ None) (updates : Updates old new k (Some e)) where
  keeps : KeepsOthers old new b places
  keeps = inserted_keeps old new places b k (Some e) kept vacant updates

  pub append_kept : e.block ≡ b → IsTrue (is_some (life_at lives b)) → life_pending (life_at lives b) < 64 → AreKept new (change_place places b (appended k bytes))
  append_kept own alive room =
      kept-change old new places b (appended k bytes) kept keeps
      (λ l at. appended_kept old new b l k e bytes (place_kept old places b l kept at) vacant updates own (omega (arith, room, pending_there old places lives b l kept view (sym at))))
      (used_append old new places b k e bytes kept.used updates own (alive_there old places lives b view alive))

  pub append_view : patched bytes e.undo ≡ life_bytes (life_at lives b) → lives_of new (change_place places b (appended k bytes)) ≡ change_at lives b (with_state (claimed_state e.claim bytes))
  append_view back =
      lives_of-change old new places b (appended k bytes) (with_state (claimed_state e.claim bytes)) keeps
      (λ l at.
      let here = place_kept old places b l kept at in
      let now = ap life_bytes (life_there old places lives b l view (sym at)) ∙ current_of_life old b l here in
      appended_life old new b l k e bytes here vacant updates (back ∙ now))
      ∙ ap (λ (ls : Lives). change_at ls b (with_state (claimed_state e.claim bytes))) view

-- Status and begun writes

module _ (slab : Slab Entry) (places : List (Option CachedLife)) (lives : Lives) (b : ℕ) (kept : AreKept slab places) (view : lives_of slab places ≡ lives) where
  pub status_kept : (st : Status) → AreKept slab (change_place places b (cached_with_status st))
  status_kept st =
      kept-change slab slab places b (cached_with_status st) kept (same_slab_keeps slab places b)
      (λ l at. let k = place_kept slab places b l kept at in record { keys = k.keys; few = k.few; begun = k.begun; has_state = k.has_state })
      (used_kept slab places b (cached_with_status st) (λ l. refl) kept.used)

  pub status_view : (st : Status) → lives_of slab (change_place places b (cached_with_status st)) ≡ change_at lives b (model.with_status st)
  status_view st =
      lives_of-change slab slab places b (cached_with_status st) (model.with_status st) (same_slab_keeps slab places b) (λ l at. refl)
      ∙ ap (λ (ls : Lives). change_at ls b (model.with_status st)) view

  pub begun_kept : (k : ℕ) → 1 ≤ k → k ≤ life_pending (life_at lives b) → AreKept slab (change_place places b (with_begun (Some k)))
  begun_kept k some within =
      kept-change slab slab places b (with_begun (Some k)) kept (same_slab_keeps slab places b)
      (λ l at.
      let here = place_kept slab places b l kept at in
      record { keys = here.keys; few = here.few; begun = (some, omega (arith, within, pending_there slab places lives b l kept view (sym at))); has_state = here.has_state })
      (used_kept slab places b (with_begun (Some k)) (λ l. refl) kept.used)

  pub begun_view : (k : ℕ) → lives_of slab (change_place places b (with_begun (Some k))) ≡ begun_at lives b k
  begun_view k =
      lives_of-change slab slab places b (with_begun (Some k)) (λ l. record l { begun = Some k }) (same_slab_keeps slab places b) (λ l at. refl)
      ∙ ap (λ (ls : Lives). begun_at ls b k) view

  pub given_up_kept : AreKept slab (change_place places b (with_begun None))
  given_up_kept =
      kept-change slab slab places b (with_begun None) kept (same_slab_keeps slab places b)
      (λ l at. let k = place_kept slab places b l kept at in record { keys = k.keys; few = k.few; begun = tt; has_state = k.has_state })
      (used_kept slab places b (with_begun None) (λ l. refl) kept.used)

  pub given_up_view : lives_of slab (change_place places b (with_begun None)) ≡ settled_at lives b 0
  given_up_view =
      lives_of-change slab slab places b (with_begun None) (settle 0) (same_slab_keeps slab places b) (λ l at. given_up_life slab l)
      ∙ ap (λ (ls : Lives). settled_at ls b 0) view

-- Settling

first_own : (slab : Slab Entry) (b k : ℕ) (o : Option CachedLife) → ((l : CachedLife) → o ≡ Some l → IsKept slab b l) → AreOf slab b (first_keys k o)
first_own slab b k None kept = tt
first_own slab b k (Some l) kept = take_keys slab b k l.keys (kept l refl).keys

module _ (old new : Slab Entry) (places : List (Option CachedLife)) (lives : Lives) (b k : ℕ)
    (kept : AreKept old places) (view : lives_of old places ≡ lives)
    (others : (q : ℕ) → (Contains (first_keys k (place_at places b)) q → ⊥) → get new q ≡ get old q) where
  rest : KeepsOthers old new b places
  rest = removed_keeps old new places b (first_keys k (place_at places b)) kept (first_own old b k (place_at places b) (λ l at. place_kept old places b l kept at)) others

  own : (l : CachedLife) → place_at places b ≡ Some l → (q : ℕ) → (Contains (take k l.keys) q → ⊥) → get new q ≡ get old q
  own l at q apart = others q (let P : Option CachedLife → Type 0 = λ o. Contains (first_keys k o) q → ⊥ in subst P (sym at) apart)

  pub settle_kept : ((q : ℕ) → Contains (first_keys k (place_at places b)) q → get new q ≡ None) → AreKept new (change_place places b (settled k))
  settle_kept gone =
      kept-change old new places b (settled k) kept rest (λ l at. settled_kept old new b l k (place_kept old places b l kept at) (own l at))
      (used_settle old new places b k kept.used others gone)

  pub settle_view : 1 ≤ k → k ≤ life_pending (life_at lives b) → lives_of new (change_place places b (settled k)) ≡ settled_at lives b k
  settle_view some within =
      lives_of-change old new places b (settled k) (settle k) rest
      (λ l at. settled_life old new b l k (place_kept old places b l kept at) some (omega (arith, within, pending_there old places lives b l kept view (sym at))) (own l at))
      ∙ ap (λ (ls : Lives). settled_at ls b k) view
