-- Lives that end: those that a finished write drops, and those that are forgotten.
use Rattle.std.proofs.Common.{arith, suc, Option, ◌≡◌, ◌≢◌, ◌<◌, ◌⊎◌, zero, suc, ℕ, Bool, true, false, cond, not, List, [], ◌∷◌, length, take, Some, None, refl, sym, ◌∙◌, ap, inl, inr, subst, eqb}
use Rattle.std.specs.Prelude.{Contains, IsTrue, is_some, option_to_list, option_map, bytes_eq, slice_get, Ok, Err, if◌then◌else◌}
use Rattle.std.proofs.lemmas.Bool.{not-false, cond-false, false_from_ne_true}
use Rattle.std.proofs.lemmas.Slice.Eq.{bytes_eq-Decides}
use Rattle.std.proofs.lemmas.Option.{same_Some, none-some}
use Rattle.std.proofs.lemmas.List.Elements.{Contains-append_cases, Contains-append_left, Contains-append_right}
use Rattle.xn_model.specs.Lists.{has_number}
use Rattle.xn_model.specs.Types.{Types}
use Rattle.xn_model.specs.Root.{pointer, has_type, slot, templates_of, roots_of, owned_by_root}
use Rattle.xn_model.specs.Languages.{Language}
use Rattle.xn_model.specs.Lives.{StoreState, freed, settled_at, BlockState, Status, Fresh, Dropped, Life, Lives, life_at, states, drops_of, is_fresh, current, newest, durable_bytes, bytes_of, root_on_disk}
use Rattle.xn_model.specs.Images.{IsDiskSize}
use Rattle.xn_model.specs.Results.{NotMine, NotFresh, NotEmpty, TooManyPending, InFlight}
use Rattle.xn_model.specs.Calls.{bytes_at, is_durable, settled_count, settled_place, settled_with, settled_after, settled_of, first_pending, forget_of, forget_at, is_untouched, owns_nothing, types_of, life_bytes}
use Rattle.xn_model.specs.Rules.{Keeps, ArePlaced, IsBy, IsRootLife, IsSoundLife, IsLinkedLife, IsConsistent, IsDroppedBy, KeepsTypesThere, NamedIn}
use Rattle.xn_model.proofs.Changes.{bared, with_begun, each, free, settled}
use Rattle.xn_model.proofs.Lists.{has_number_at, Contains-none, Contains-head, Contains-cons, Contains-take, Contains-drop, Contains-tail, last_of}
use Rattle.xn_model.proofs.Languages.{kept_types, types_all, latest_each}
use Rattle.xn_model.proofs.Lives.{life_from, free_at, freed_is, settled_is, settled_none, each_back, free_forth, free_back, at_free, of_life, of_root, length_revised}
use Rattle.xn_model.proofs.Catalogue.{on_disk_each}
use Rattle.xn_model.proofs.Carry.{settled_disk, settled_same, settled_if, settled_gone, types_still}
use Rattle.xn_model.proofs.Statuses.{exact_free, named_same, settled_newest, names_none}
use Rattle.xn_model.proofs.Chains.{chains_free}
use Rattle.xn_model.proofs.Orders.{ordered_free}
use Rattle.xn_model.proofs.Queue.{queued_free}
use Rattle.xn_model.proofs.Tests.{unless_ok, never_ok, same_ok, map_ok, own_then, fresh_from}
use Rattle.xn_model.proofs.RootBytes.{roots_from}
use Rattle.xn_model.proofs.Reached.{carried_pending, among_states}
use Rattle.xn_model.proofs.Bare.{bare_consistent, bare_latest, bare_placed, bare_there}
use Rattle.xn_model.proofs.Begin.{begun_latest, given_up_consistent, given_up_placed}
use Rattle.xn_model.proofs.Writes.{settles, settles_places, states_fewer}

free_same : (blocks : List ℕ) (lives : Lives) (c : ℕ) → (Contains blocks c → ⊥) → life_at (free blocks lives) c ≡ life_at lives c
free_same blocks lives c out = free_at blocks lives c ∙ cond-false (has_number blocks c) None (life_at lives c) (false_from_ne_true (has_number blocks c) (λ t. out (has_number_at blocks c t)))

-- Blocks that nothing names or drops
pub record MayFree (T : Types) (lives : Lives) (blocks : List ℕ) : Type 0 where
  pub not_root : Contains blocks 0 → ⊥
  pub empty : (a : ℕ) (m : Life) (p : ℕ × ℕ) → Contains blocks a → life_at lives a ≡ Some m → NamedIn T m.ty (newest m) p → ⊥
  pub unnamed : (c : ℕ) → Contains blocks c → (a : ℕ) (l : Life) (s : BlockState) (u : ℕ) → life_at lives a ≡ Some l → Contains (states l) s → Contains (T.owned l.ty s.bytes) (c, u) → ⊥
  pub undropped : (c : ℕ) → Contains blocks c → (a : ℕ) (l : Life) (s : BlockState) → life_at lives a ≡ Some l → Contains l.pending s → Contains s.drops c → ⊥

module _ (T : Types) (state : StoreState) (h : IsConsistent T state) (blocks : List ℕ) (may : MayFree T state.lives blocks) where
  now : Lives
  now = free blocks state.lives

  -- a template is named by block 0
  template_stays : (s : BlockState) (c u : ℕ) → Contains (states h.lives_sound.root.life) s → Contains (templates_of s.bytes) (c, u) → Contains blocks c → ⊥
  unfolding owned_by_root
  template_stays s c u m n in' =
      let r = h.lives_sound.root in
      let listed : Contains (owned_by_root s.bytes) (c, u) = Contains-append_left (templates_of s.bytes) (roots_of s.bytes) (c, u) n in
      let named : Contains (T.owned r.life.ty s.bytes) (c, u) = subst (λ t. Contains (T.owned t s.bytes) (c, u)) (sym r.ty) (subst (λ ps. Contains ps (c, u)) (sym (h.built_ins.root_owns s.bytes)) listed) in
      may.unnamed c in' 0 r.life s u r.alive m named

  -- and so is what a root slot names
  slot_stays : (s : BlockState) (i c : ℕ) → Contains (states h.lives_sound.root.life) s → i < 32 → (slot s.bytes i).0 ≡ c → c ≢ 0 → Contains blocks c → ⊥
  unfolding owned_by_root
  slot_stays s i c m lt e ne in' =
      let r = h.lives_sound.root in
      let u = (slot s.bytes i).1 in
      let listed : Contains (owned_by_root s.bytes) (c, u) = Contains-append_right (templates_of s.bytes) (roots_of s.bytes) (c, u) (roots_from s.bytes i c u lt (λ j. (e j, u)) ne) in
      let named : Contains (T.owned r.life.ty s.bytes) (c, u) = subst (λ t. Contains (T.owned t s.bytes) (c, u)) (sym r.ty) (subst (λ ps. Contains ps (c, u)) (sym (h.built_ins.root_owns s.bytes)) listed) in
      may.unnamed c in' 0 r.life s u r.alive m named

  root_free : IsRootLife T now
  unfolding now
  root_free =
      let r = h.lives_sound.root in
      record {
        life = r.life;
        alive = free_forth blocks state.lives 0 r.life may.not_root r.alive;
        ty = r.ty;
        nobody = r.nobody;
        unowned = r.unowned;
        state = r.state;
        durable = r.durable;
        mark = λ s m. rw (length_revised (λ c o. cond (has_number blocks c) None o) state.lives) (r.mark s m);
        pointers = r.pointers;
        long = r.long;
        templates = λ s c u m n. at_free blocks (template_stays s c u m n) (r.templates s c u m n);
        types = r.types;
        all_types = r.all_types;
        slots = λ s i c m lt e ne. at_free blocks (slot_stays s i c m lt e ne) (r.slots s i c m lt e ne);
      }

  held_free : (b : ℕ) (l : Life) → life_at state.lives b ≡ Some l → IsSoundLife T now b l
  unfolding now
  held_free b l e =
      let k = h.lives_sound.each b l e in
      record {
        fit = k.fit;
        named = λ s c u m n. at_free blocks (λ i. may.unnamed c i b l s u e m n) (k.named s c u m n);
        same_system = λ s c u ne m n. at_free blocks (λ i. may.unnamed c i b l s u e m n) (k.same_system s c u ne m n);
        ready = λ s c u m n. at_free blocks (λ i. may.unnamed c i b l s u e (among_states l s m) n) (k.ready s c u m n);
        typed = λ s c u ne m n. ap (λ m. has_type m u) (ap durable_bytes (free_same blocks state.lives 0 may.not_root)) ∙ k.typed s c u ne m n;
        rising = k.rising;
      }

  kept_free : (b : ℕ) (l : Life) → life_at state.lives b ≡ Some l → IsLinkedLife T now b l
  unfolding now
  kept_free b l e =
      let k = h.linked b l e in
      record {
        last = k.last;
        is_last = k.is_last;
        owned = λ c u n. at_free blocks (λ i. may.unnamed c i b l k.last u e (last_of l.durable l.pending k.last k.is_last)
            (subst (λ o. NamedIn T l.ty o (c, u)) k.is_last n)) (k.owned c u n);
        installed = k.installed;
        root_alone = k.root_alone;
        start = k.start;
        grows = k.grows;
        dropped = λ s c m n. at_free blocks (λ i. may.undropped c i b l s e m n) (k.dropped s c m n);
        gone = k.gone;
        flight = k.flight;
        resting = λ s c m n. at_free blocks (λ i. may.undropped c i b l s e (carried_pending l s m) n) (k.resting s c m n);
      }

  pub free_keeps : IsConsistent T (record state { lives = free blocks state.lives })
  unfolding now
  free_keeps = record {
    waits = queued_free T state.lives blocks (λ c i a l s u e j n. may.unnamed c i a l s u e (Contains-append_right (option_to_list l.durable) l.pending s j) n) may.not_root h.waits;
    order = ordered_free state.lives blocks h.order;
    statuses = exact_free T state.lives blocks may.empty h.statuses;
    chains = chains_free T state.lives blocks may.empty h.statuses h.chains;
    built_ins = h.built_ins;
    size = subst IsDiskSize (sym (length_revised (λ c o. cond (has_number blocks c) None o) state.lives)) h.size;
    lives_sound = record { root = root_free; each = λ c l e. held_free c l (free_back blocks state.lives c l e).1 };
    linked = λ c l e. kept_free c l (free_back blocks state.lives c l e).1;
    numbers = λ c l s e i. h.numbers c l s (free_back blocks state.lives c l e).1 i;
  }

  -- no template ends
  pub free_types : (L : Language) → types_of L (free blocks state.lives) ≡ types_of L state.lives
  free_types =
      let r = h.lives_sound.root in
      let k = h.linked 0 r.life r.alive in
      kept_types T state.lives (free blocks state.lives) r k.last k.is_last (λ i lt. ap (λ o. pointer (life_bytes o) i) (free_same blocks state.lives 0 may.not_root))
      (λ c n t. ap life_bytes (free_same blocks state.lives c (λ i. template_stays k.last c 1 (last_of r.life.durable r.life.pending k.last k.is_last) n i)))

-- What a write that settled drops may end

pub drops_at : (xs : List BlockState) (c : ℕ) → Contains (drops_of xs) c → (s : BlockState) × Contains xs s × Contains s.drops c
drops_at [] c m = absurd (Contains-none c m)
drops_at (x ∷ xs) c m = elim (Contains-append_cases x.drops (drops_of xs) c m) [
  | inl here ↦ (x, Contains-head x xs, here)
  | inr later ↦ let r = drops_at xs c later in (r.0, Contains-tail x xs r.0 r.1, r.2)
]

pub by_dropped : (a b : ℕ) (s : Status) → s ≡ Dropped b → IsBy a s → a ≡ b
by_dropped a b s e by = let p : IsBy a (Dropped b) = subst (IsBy a) e by in sym p

pub dropped_once : (a b : ℕ) (s : Status) → s ≡ Dropped b → s ≡ Dropped a → a ≡ b
dropped_once a b s e f = let p : Dropped a ≡ Dropped b = sym f ∙ e in cc

module _ (T : Types) (state : StoreState) (h : IsConsistent T state) (b : ℕ) (l : Life) (alive : life_at state.lives b ≡ Some l) (k : ℕ) where
  -- what block c, dropped by the first k states, is
  gone_block : (c : ℕ) → Contains (drops_of (take k l.pending)) c → IsDroppedBy state.lives b c
  gone_block c i = let s = drops_at (take k l.pending) c i in (h.linked b l alive).dropped s.0 c (Contains-take k l.pending s.0 s.1) s.2

  settled_unnamed : (c : ℕ) → Contains (drops_of (take k l.pending)) c → (a : ℕ) (m : Life) (s : BlockState) (u : ℕ) → life_at (each (settled b k) state.lives) a ≡ Some m → Contains (states m) s → Contains (T.owned m.ty s.bytes) (c, u) → ⊥
  settled_unnamed c i a m s u e in' names =
      let r = each_back (settled b k) state.lives a m e in
      let was : Contains (states (settled b k a r.0)) s = subst (λ x. Contains (states x) s) r.2 in' in
      let of : Contains (T.owned r.0.ty s.bytes) (c, u) = subst (λ (x : Life). Contains (T.owned x.ty s.bytes) (c, u)) r.2 names in
      let by = (h.lives_sound.each a r.0 r.1).named s c u (states_fewer (eqb a b) k r.0 s was) of in
      let d = gone_block c i in
      let block : a ≡ b = by_dropped a b by.life.status (of_life d by.life by.alive) by.holds.1 in
      let life : r.0 ≡ l = same_Some r.0 l (sym r.1 ∙ (ap (life_at state.lives) block ∙ alive)) in
      let here : settled b k a r.0 ≡ settled_if true k l = settled_same b k a r.0 block ∙ ap (settled_if true k) life in
      let drop' = drops_at (take k l.pending) c i in
      (settled_gone T l.ty k l.pending drop'.0 c (h.linked b l alive).gone drop'.1 drop'.2 l.durable).0 s u
      (subst (λ x. Contains (states x) s) here was) (subst (λ (x : Life). Contains (T.owned x.ty s.bytes) (c, u)) life of)

  settled_undropped : (c : ℕ) → Contains (drops_of (take k l.pending)) c → (a : ℕ) (m : Life) (s : BlockState) → life_at (each (settled b k) state.lives) a ≡ Some m → Contains m.pending s → Contains s.drops c → ⊥
  settled_undropped c i a m s e in' drops =
      let r = each_back (settled b k) state.lives a m e in
      let was : Contains (settled b k a r.0).pending s = subst (λ (x : Life). Contains x.pending s) r.2 in' in
      let d' = (h.linked a r.0 r.1).dropped s c (pending_fewer (eqb a b) r.0 s was) drops in
      let d = gone_block c i in
      let block : a ≡ b = dropped_once a b d'.life.status (of_life d d'.life d'.alive) d'.holds in
      let life : r.0 ≡ l = same_Some r.0 l (sym r.1 ∙ (ap (life_at state.lives) block ∙ alive)) in
      let here : settled b k a r.0 ≡ settled_if true k l = settled_same b k a r.0 block ∙ ap (settled_if true k) life in
      let drop' = drops_at (take k l.pending) c i in
      (settled_gone T l.ty k l.pending drop'.0 c (h.linked b l alive).gone drop'.1 drop'.2 l.durable).1 s (subst (λ (x : Life). Contains x.pending s) here was) drops
    where
      pending_fewer : (t : Bool) (x : Life) (s : BlockState) → Contains (settled_if t k x).pending s → Contains x.pending s
      pending_fewer true x s m = Contains-drop k x.pending s m
      pending_fewer false x s m = m

  settled_not_root : Contains (drops_of (take k l.pending)) 0 → ⊥
  settled_not_root i =
      let r = h.lives_sound.root in
      let p : Fresh ≡ Dropped b = sym r.unowned ∙ of_life (gone_block 0 i) r.life r.alive in
      absurd cc

  -- a dropped block names nothing
  settled_empty : (a : ℕ) (m : Life) (p : ℕ × ℕ) → Contains (drops_of (take k l.pending)) a → life_at (each (settled b k) state.lives) a ≡ Some m → NamedIn T m.ty (newest m) p → ⊥
  settled_empty a m p i e n =
      let r = each_back (settled b k) state.lives a m e in
      let x = settled_newest b k a r.0 in
      let old : NamedIn T r.0.ty (newest r.0) p = named_same T m r.0 p (sym x.ty ∙ ap (λ (y : Life). y.ty) (sym r.2)) (sym x.newest ∙ ap newest (sym r.2)) n in
      h.statuses.emptied a r.0 b p r.1 (of_life (gone_block a i) r.0 r.1) old

  settled_may_free : MayFree T (each (settled b k) state.lives) (drops_of (take k l.pending))
  settled_may_free = record { not_root = settled_not_root; empty = settled_empty; unnamed = settled_unnamed; undropped = settled_undropped }

-- What a free block was holds nothing
free_placed : (content : ℕ → List ℕ) (lives : Lives) (blocks : List ℕ) → ArePlaced content lives → ArePlaced content (free blocks lives)
free_placed content lives blocks p c l s e d = p c l s (free_back blocks lives c l e).1 d

-- Settled

-- what the bytes settle
pub record Settles (lives : Lives) (b : ℕ) (bytes : List ℕ) (k : ℕ) : Type 0 where
  pub life : Life
  pub alive : life_at lives b ≡ Some life
  pub case : ((life.begun ≡ Some k) × (bytes ≡ bytes_at k life)) ⊎ ((k ≡ 0) × ((s : BlockState) → life.durable ≡ Some s → bytes ≡ s.bytes))

durable_is : (bytes : List ℕ) (o : Option BlockState) → is_durable bytes o ≡ true → (s : BlockState) → o ≡ Some s → bytes ≡ s.bytes
durable_is bytes None e s d = absurd (none-some s d)
durable_is bytes (Some t) e s d = (bytes_eq-Decides bytes t.bytes).0 e ∙ ap (λ (x : BlockState). x.bytes) (same_Some t s d)

settles_by : (lives : Lives) (b : ℕ) (l : Life) (bytes : List ℕ) (n k : ℕ) → life_at lives b ≡ Some l → l.begun ≡ Some n → (x y : Bool) → bytes_eq bytes (bytes_at n l) ≡ x → is_durable bytes l.durable ≡ y →
    (if x then Ok n else if y then Ok 0 else Err NotMine) ≡ Ok k → Settles lives b bytes k
settles_by lives b l bytes n k alive begun true y f g e =
    let same : n ≡ k = same_ok n k e in
    subst (Settles lives b bytes) same (record { life = l; alive = alive; case = inl (begun, (bytes_eq-Decides bytes (bytes_at n l)).0 f) })
settles_by lives b l bytes n k alive begun false true f g e = record { life = l; alive = alive; case = inr (sym (same_ok 0 k e), durable_is bytes l.durable g) }
settles_by lives b l bytes n k alive begun false false f g e = absurd (never_ok NotMine k e)

settles_count : (lives : Lives) (b : ℕ) (l : Life) (bytes : List ℕ) (o : Option ℕ) (k : ℕ) → life_at lives b ≡ Some l → l.begun ≡ o → settled_count l bytes o ≡ Ok k → Settles lives b bytes k
settles_count lives b l bytes None k alive begun e = absurd (never_ok NotMine k e)
settles_count lives b l bytes (Some n) k alive begun e = settles_by lives b l bytes n k alive begun (bytes_eq bytes (bytes_at n l)) (is_durable bytes l.durable) (λ i. bytes_eq bytes (bytes_at n l)) (λ i. is_durable bytes l.durable) e

pub settles_place : (lives : Lives) (b : ℕ) (bytes : List ℕ) (o : Option (Option Life)) (k : ℕ) → slice_get lives b ≡ o → settled_place bytes o ≡ Ok k → Settles lives b bytes k
settles_place lives b bytes None k at e = absurd (never_ok NotMine k e)
settles_place lives b bytes (Some None) k at e = absurd (never_ok NotMine k e)
settles_place lives b bytes (Some (Some l)) k at e = settles_count lives b l bytes l.begun k (life_from lives b l at) refl e

module _ (T : Types) (state : StoreState) (h : IsConsistent T state) (b : ℕ) (bytes : List ℕ) where
  -- the lives after it
  left_by : (k : ℕ) → Settles state.lives b bytes k → Lives
  left_by k s = freed (settled_at state.lives b k) (drops_of (take k s.life.pending))

  left_is : (k : ℕ) (s : Settles state.lives b bytes k) → left_by k s ≡ each (bared b) (free (drops_of (take k s.life.pending)) (each (settled b k) state.lives))
  unfolding left_by
  left_is k s = settled_is state.lives b k (drops_of (take k s.life.pending))

  left_none : (s : Settles state.lives b bytes 0) → left_by 0 s ≡ each (bared b) (each (with_begun b None) state.lives)
  unfolding left_by
  left_none s = settled_none state.lives b

  left_consistent : (k : ℕ) (s : Settles state.lives b bytes k) → IsConsistent T (record state { lives = left_by k s })
  left_consistent k s = elim s.case [
    | inl there ↦ subst (λ xs. IsConsistent T (record state { lives = xs })) (sym (left_is k s))
        (bare_consistent T (record state { lives = free (drops_of (take k s.life.pending)) (each (settled b k) state.lives) })
        (free_keeps T (record state { lives = each (settled b k) state.lives }) (settles T state h b s.life s.alive k there.0) (drops_of (take k s.life.pending)) (settled_may_free T state h b s.life s.alive k)) b)
    | inr none ↦ given_up k none.0 s
  ]
    where
      given_up : (k : ℕ) → k ≡ 0 → (s : Settles state.lives b bytes k) → IsConsistent T (record state { lives = left_by k s })
      given_up zero e s = subst (λ xs. IsConsistent T (record state { lives = xs })) (sym (left_none s)) (bare_consistent T (record state { lives = each (with_begun b None) state.lives }) (given_up_consistent T state h b s.life s.alive) b)
      given_up (suc k) e s = absurd (omega arith)

  left_types : (k : ℕ) (s : Settles state.lives b bytes k) (L : Language) → types_of L (left_by k s) ≡ types_of L state.lives
  left_types k s L = elim s.case [
    | inl there ↦
        let drops = drops_of (take k s.life.pending) in
        let settled_state : StoreState = record state { lives = each (settled b k) state.lives } in
        ap (types_of L) (left_is k s)
        ∙ (types_all (free drops (each (settled b k) state.lives)) (each (bared b) (free drops (each (settled b k) state.lives))) (bare_latest b (free drops (each (settled b k) state.lives))) L
        ∙ (free_types T settled_state (settles T state h b s.life s.alive k there.0) drops (settled_may_free T state h b s.life s.alive k) L
        ∙ types_all state.lives (each (settled b k) state.lives) (λ c. latest_each (settled b k) state.lives c (λ l e. ap bytes_of (settled_newest b k c l).newest)) L))
    | inr none ↦ given_up k none.0 s
  ]
    where
      given_up : (k : ℕ) → k ≡ 0 → (s : Settles state.lives b bytes k) → types_of L (left_by k s) ≡ types_of L state.lives
      given_up zero e s = ap (types_of L) (left_none s) ∙ types_all state.lives (each (bared b) (each (with_begun b None) state.lives)) (λ c. bare_latest b (each (with_begun b None) state.lives) c ∙ begun_latest b None state.lives c) L
      given_up (suc k) e s = absurd (omega arith)

  left_there : (k : ℕ) (s : Settles state.lives b bytes k) → KeepsTypesThere state.lives (left_by k s)
  left_there k s t has = elim s.case [
    | inl there ↦
        let drops = drops_of (take k s.life.pending) in
        let may = settled_may_free T state h b s.life s.alive k in
        let settled_there = settled_disk T b k state.lives h.lives_sound.root t has in
        subst (λ m. IsTrue (has_type m t)) (sym (ap root_on_disk (left_is k s)
        ∙ (bare_there b (free drops (each (settled b k) state.lives)) ∙ ap durable_bytes (free_same drops (each (settled b k) state.lives) 0 may.not_root)))) settled_there
    | inr none ↦ given_up k none.0 s
  ]
    where
      given_up : (k : ℕ) → k ≡ 0 → (s : Settles state.lives b bytes k) → IsTrue (has_type (root_on_disk (left_by k s)) t)
      given_up zero e s = subst (λ m. IsTrue (has_type m t)) (sym (ap root_on_disk (left_none s)
          ∙ (bare_there b (each (with_begun b None) state.lives) ∙ on_disk_each (with_begun b None) state.lives (λ l. refl)))) has
      given_up (suc k) e s = absurd (omega arith)

  left_placed : (k : ℕ) (s : Settles state.lives b bytes k) (content : ℕ → List ℕ) → ArePlaced content state.lives → content b ≡ bytes → ArePlaced content (left_by k s)
  left_placed k s content p there = elim s.case [
    | inl landed ↦ subst (ArePlaced content) (sym (left_is k s))
        (bare_placed content (free (drops_of (take k s.life.pending)) (each (settled b k) state.lives)) b
        (free_placed content (each (settled b k) state.lives) (drops_of (take k s.life.pending)) (settles_places T state h b s.life s.alive k landed.0 content p (there ∙ landed.1))))
    | inr none ↦ given_up k none.0 s none.1
  ]
    where
      given_up : (k : ℕ) → k ≡ 0 → (s : Settles state.lives b bytes k) → ((x : BlockState) → s.life.durable ≡ Some x → bytes ≡ x.bytes) → ArePlaced content (left_by k s)
      given_up zero e s stands = subst (ArePlaced content) (sym (left_none s)) (bare_placed content (each (with_begun b None) state.lives) b (given_up_placed T state h b s.life s.alive content p (λ x d. there ∙ stands x d)))
      given_up (suc k) e s stands = absurd (omega arith)

  pub settled_keeps : (given : ℕ × ℕ) (new : StoreState) → settled_of state b bytes ≡ Ok (given, new) →
      IsConsistent T new × (length new.lives ≡ length state.lives) × ((L : Language) → types_of L new.lives ≡ types_of L state.lives) × KeepsTypesThere state.lives new.lives × ((content : ℕ → List ℕ) → ArePlaced content state.lives → content b ≡ bytes → ArePlaced content new.lives)
  unfolding left_by
  settled_keeps given new e =
      let m = map_ok (settled_after state b) (settled_place bytes (slice_get state.lives b)) (given, new) e in
      let s = settles_place state.lives b bytes (slice_get state.lives b) m.0 refl m.1 in
      let first : first_pending m.0 (life_at state.lives b) ≡ take m.0 s.life.pending = ap (first_pending m.0) s.alive in
      let is : record state { lives = left_by m.0 s } ≡ new = ap (λ xs. (settled_with state b (drops_of xs) m.0).1) (sym first) ∙ ap (λ (x : (ℕ × ℕ) × StoreState). x.1) m.2 in
      subst (λ (x : StoreState). IsConsistent T x × (length x.lives ≡ length state.lives) × ((L : Language) → types_of L x.lives ≡ types_of L state.lives) × KeepsTypesThere state.lives x.lives × ((content : ℕ → List ℕ) → ArePlaced content state.lives → content b ≡ bytes → ArePlaced content x.lives)) is
      (left_consistent m.0 s, length_left m.0 s, left_types m.0 s, left_there m.0 s, left_placed m.0 s)
    where
      length_left : (k : ℕ) (s : Settles state.lives b bytes k) → length (left_by k s) ≡ length state.lives
      length_left k s = ap length (left_is k s) ∙ (length_revised (λ c o. option_map (bared b c) o) (free (drops_of (take k s.life.pending)) (each (settled b k) state.lives)) ∙ (length_revised (λ c o. cond (has_number (drops_of (take k s.life.pending)) c) None o) (each (settled b k) state.lives) ∙ length_revised (λ c o. option_map (settled b k c) o) state.lives))

-- Forget

forgotten_may : (T : Types) (state : StoreState) → IsConsistent T state → (fs b : ℕ) (l : Life) → life_at state.lives b ≡ Some l → l.fs ≡ Some fs → l.status ≡ Fresh → owns_nothing T l.ty (current l) ≡ true → MayFree T state.lives (b ∷ [])
forgotten_may T state h fs b l alive mine fresh nothing = record {
  empty = λ a m p i e n.
      let same : m ≡ l = same_Some m l (sym e ∙ (ap (life_at state.lives) (sym (only i)) ∙ alive)) in
      names_none T l p nothing (subst (λ (x : Life). NamedIn T x.ty (newest x) p) same n);
  not_root = λ i. none-some fs (sym (of_root h.lives_sound.root l (ap (life_at state.lives) (sym (only i)) ∙ alive)).1 ∙ mine);
  unnamed = λ c i a m s u e in' names. subst (IsBy a) fresh
      (of_life ((h.lives_sound.each a m e).named s c u in' names) l (ap (life_at state.lives) (sym (only i)) ∙ alive)).1;
  undropped = λ c i a m s e in' drops.
      let p : Fresh ≡ Dropped a = sym fresh ∙ of_life ((h.linked a m e).dropped s c in' drops) l (ap (life_at state.lives) (sym (only i)) ∙ alive) in
      absurd cc;
}
  where
    only : {c : ℕ} → Contains (b ∷ []) c → b ≡ c
    only {c} i = elim (Contains-cons b [] c i) [ inl e ↦ e | inr n ↦ absurd (Contains-none c n) ]

pub forget_keeps : (T : Types) (state : StoreState) → IsConsistent T state → (fs b : ℕ) (u : Unit {0}) (new : StoreState) → forget_of T state fs b ≡ Ok (u, new) → Keeps T state new
forget_keeps T state h fs b none new done =
    let own = own_then state fs b (forget_at T state b) (none, new) done in
    let l : Life = own.0 in
    let u = unless_ok (
    (not (is_fresh l.status), NotFresh)
    ∷ (not (owns_nothing T l.ty (current l)), NotEmpty)
    ∷ (not (is_untouched l), TooManyPending)
    ∷ (is_some l.begun, InFlight)
    ∷ []) (Ok (tt, record state { lives = freed state.lives (b ∷ []) })) (none, new) own.2 in
    let is : record state { lives = freed state.lives (b ∷ []) } ≡ new = ap (λ (x : Unit {0} × StoreState). x.1) (same_ok (tt, record state { lives = freed state.lives (b ∷ []) }) (none, new) u.1) in
    subst (Keeps T state) is (record {
      consistent = subst (λ xs. IsConsistent T (record state { lives = xs })) (sym (freed_is state.lives (b ∷ [])))
          (free_keeps T state h (b ∷ []) (forgotten_may T state h fs b l own.1.alive own.1.mine (fresh_from l.status (not-false (is_fresh l.status) u.0.0)) (not-false (owns_nothing T l.ty (current l)) u.0.1.0)));
      types = λ L. ap (types_of L) (freed_is state.lives (b ∷ []))
          ∙ free_types T state h (b ∷ []) (forgotten_may T state h fs b l own.1.alive own.1.mine (fresh_from l.status (not-false (is_fresh l.status) u.0.0)) (not-false (owns_nothing T l.ty (current l)) u.0.1.0)) L;
      there = types_still state.lives (freed state.lives (b ∷ [])) (ap root_on_disk (freed_is state.lives (b ∷ []))
          ∙ ap durable_bytes (free_same (b ∷ []) state.lives 0 (forgotten_may T state h fs b l own.1.alive own.1.mine (fresh_from l.status (not-false (is_fresh l.status) u.0.0)) (not-false (owns_nothing T l.ty (current l)) u.0.1.0)).not_root));
      count = ap length (freed_is state.lives (b ∷ [])) ∙ length_revised (λ c o. cond (has_number (b ∷ []) c) None o) state.lives;
      placed = λ content p. subst (ArePlaced content) (sym (freed_is state.lives (b ∷ []))) (free_placed content state.lives (b ∷ []) p);
    })
