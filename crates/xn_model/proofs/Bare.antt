-- Of a durable state the bytes are enough.
use Rattle.std.proofs.Common.{◌≡◌, ℕ, ◌<◌, Bool, true, false, cond, List, [], ◌∷◌, ◌++◌, Option, Some, None, refl, sym, ◌∙◌, ap, inl, inr, arith, subst}
use Rattle.std.specs.Prelude.{◌==◌, Contains, option_map, option_to_list}
use Rattle.std.specs.List.{last_or}
use Rattle.std.proofs.lemmas.List.Elements.{Contains-append_right}
use Rattle.xn_model.specs.Types.{Types}
use Rattle.xn_model.specs.Images.{IsDiskSize}
use Rattle.xn_model.specs.Lives.{BlockState, Life, Lives, StoreState, states, carried, newest, on_disk, durable_after, bytes_of, root_on_disk}
use Rattle.xn_model.specs.Rules.{IsSoundLife, IsLinkedLife, IsHeldOnDisk, ArePlaced, IsConsistent, NamedIn, StartsPlain, Grows, Rises, HasExactStatuses, IsNamer, IsRootLife, IsOlderType, PointersStay}
use Rattle.xn_model.proofs.Changes.{each, bared}
use Rattle.xn_model.proofs.Lists.{Contains-head, Contains-cons}
use Rattle.xn_model.proofs.Lives.{each_forth, each_back, at_each, length_revised}
use Rattle.xn_model.proofs.Carry.{Carries, types_still}
use Rattle.xn_model.proofs.Catalogue.{on_disk_each}
use Rattle.xn_model.proofs.Languages.{latest_each}
use Rattle.xn_model.specs.Calls.{latest}
use Rattle.std.proofs.lemmas.Option.{same_Some}
use Rattle.xn_model.proofs.Chains.{chains_each}
use Rattle.xn_model.proofs.Orders.{ordered_bare}
use Rattle.xn_model.proofs.Queue.{Shrinks, queued_each}
use Rattle.xn_model.proofs.Reached.{carried_pending}

-- a state with these bytes
abbrev SameBytes : List BlockState → BlockState → Type 0
SameBytes xs s = (t : BlockState) × Contains xs t × (t.bytes ≡ s.bytes)

bare_state : (o : Option BlockState) (xs : List BlockState) (s : BlockState) → Contains (option_to_list (durable_after o) ++ xs) s → SameBytes (option_to_list o ++ xs) s
bare_state None xs s i = (s, i, refl)
bare_state (Some d) xs s i = elim (Contains-cons (on_disk d.bytes) xs s i) [
  | inl e ↦ (d, Contains-head d xs, ap (λ (x : BlockState). x.bytes) e)
  | inr j ↦ (s, Contains-append_right (d ∷ []) xs s j, refl)
]

state_if : (t : Bool) (o : Option BlockState) (xs : List BlockState) (s : BlockState) → Contains (option_to_list (cond t (durable_after o) o) ++ xs) s → SameBytes (option_to_list o ++ xs) s
state_if true o xs s i = bare_state o xs s i
state_if false o xs s i = (s, i, refl)

bare_some : (t : Bool) (o : Option BlockState) (s : BlockState) → o ≡ Some s → (r : BlockState) × (cond t (durable_after o) o ≡ Some r) × (r.bytes ≡ s.bytes)
bare_some true o s e = (on_disk s.bytes, ap durable_after e, refl)
bare_some false o s e = (s, e, refl)

some_bare : (t : Bool) (o : Option BlockState) (s : BlockState) → cond t (durable_after o) o ≡ Some s → (r : BlockState) × (o ≡ Some r) × (r.bytes ≡ s.bytes)
some_bare true None s e = absurd cc
some_bare true (Some d) s e = (d, refl, let same : on_disk d.bytes ≡ s = cc in ap (λ (x : BlockState). x.bytes) same)
some_bare false o s e = (s, e, refl)

bare_rises : (t : Bool) (o : Option BlockState) (xs : List BlockState) → Rises (option_to_list o ++ xs) → Rises (option_to_list (cond t (durable_after o) o) ++ xs)
bare_rises false o xs h = h
bare_rises true None xs h = h
bare_rises true (Some d) [] h = tt
bare_rises true (Some d) (x ∷ xs) h = let lt = h.0 in (omega arith, h.1)

bare_start : (t : Bool) (o : Option BlockState) (xs : List BlockState) → StartsPlain o xs → StartsPlain (cond t (durable_after o) o) xs
bare_start false o xs h = h
bare_start true None xs h = h
bare_start true (Some d) xs h = tt

bare_grows : (T : Types) (ty : ℕ) (t : Bool) (o : Option BlockState) (xs : List BlockState) → Grows T ty o xs → Grows T ty (cond t (durable_after o) o) xs
bare_grows T ty false o xs h = h
bare_grows T ty true None xs h = h
bare_grows T ty true (Some d) [] h = tt
bare_grows T ty true (Some d) (x ∷ xs) h = (h.0, h.1)

-- the newest state names what it did
abbrev pub last_if : Bool → Option BlockState → List BlockState → Option BlockState
last_if t o xs = last_or (cond t (durable_after o) o) xs

named_if : (T : Types) (ty : ℕ) (t : Bool) (o : Option BlockState) (xs : List BlockState) (p : ℕ × ℕ) → NamedIn T ty (last_if t o xs) p → NamedIn T ty (last_or o xs) p
named_if T ty false o xs p n = n
named_if T ty true None xs p n = n
named_if T ty true (Some d) [] p n = n
named_if T ty true (Some d) (x ∷ xs) p n = n

if_named : (T : Types) (ty : ℕ) (t : Bool) (o : Option BlockState) (xs : List BlockState) (p : ℕ × ℕ) → NamedIn T ty (last_or o xs) p → NamedIn T ty (last_if t o xs) p
if_named T ty false o xs p n = n
if_named T ty true None xs p n = n
if_named T ty true (Some d) [] p n = n
if_named T ty true (Some d) (x ∷ xs) p n = n

some_last : (t : Bool) (o : Option BlockState) (xs : List BlockState) (s : BlockState) → last_or o xs ≡ Some s → (r : BlockState) × (last_if t o xs ≡ Some r)
some_last false o xs s e = (s, e)
some_last true None xs s e = (s, e)
some_last true (Some d) [] s e = (on_disk d.bytes, refl)
some_last true (Some d) (x ∷ xs) s e = (s, e)

-- a list of one state has one still
bare_only : (t : Bool) (o : Option BlockState) (xs : List BlockState) (s : BlockState) → option_to_list o ++ xs ≡ s ∷ [] → (r : BlockState) × (option_to_list (cond t (durable_after o) o) ++ xs ≡ r ∷ []) × (r.bytes ≡ s.bytes)
bare_only false o xs s e = (s, e, refl)
bare_only true None xs s e = (s, e, refl)
bare_only true (Some d) xs s e = (on_disk d.bytes, ap (λ ys. on_disk d.bytes ∷ rest ys) e, ap first e)
  where
    rest : List BlockState → List BlockState
    rest [] = []
    rest (y ∷ ys) = ys

    first : List BlockState → List ℕ
    first [] = []
    first (y ∷ ys) = y.bytes

bare_bytes : (t : Bool) (o : Option BlockState) → bytes_of (cond t (durable_after o) o) ≡ bytes_of o
bare_bytes false o = refl
bare_bytes true None = refl
bare_bytes true (Some d) = refl

bare_pointers : (t : Bool) (o : Option BlockState) (xs : List BlockState) → PointersStay (option_to_list o ++ xs) → PointersStay (option_to_list (cond t (durable_after o) o) ++ xs)
bare_pointers false o xs h = h
bare_pointers true None xs h = h
bare_pointers true (Some d) [] h = tt
bare_pointers true (Some d) (x ∷ xs) h = (h.0, h.1)

last_bytes : (t : Bool) (o : Option BlockState) (xs : List BlockState) (s : BlockState) → last_if t o xs ≡ Some s → (r : BlockState) × (last_or o xs ≡ Some r) × (r.bytes ≡ s.bytes)
last_bytes false o xs s e = (s, e, refl)
last_bytes true None xs s e = (s, e, refl)
last_bytes true (Some d) [] s e = (d, refl, ap (λ (x : BlockState). x.bytes) (same_Some (on_disk d.bytes) s e))
last_bytes true (Some d) (x ∷ xs) s e = (s, e, refl)

-- the newest bytes are the same
pub bare_newest : (t : Bool) (l : Life) → bytes_of (last_if t l.durable l.pending) ≡ bytes_of (newest l)
bare_newest t l = go t l.durable l.pending
  where
    go : (t : Bool) (o : Option BlockState) (xs : List BlockState) → bytes_of (last_if t o xs) ≡ bytes_of (last_or o xs)
    go false o xs = refl
    go true None xs = refl
    go true (Some d) [] = refl
    go true (Some d) (x ∷ xs) = refl

module _ (T : Types) (state : StoreState) (h : IsConsistent T state) (b : ℕ) where
  abbrev now : Lives
  now = each (bared b) state.lives

  carries : Carries T state.lives now
  carries = record {
    count = length_revised (λ c o. option_map (bared b c) o) state.lives;
    belongs = λ a c u r. at_each (bared b) r r.holds;
    system = λ fs c r. at_each (bared b) r r.holds;
    disk = λ c r. at_each (bared b) r (let d = bare_some (c == b) r.life.durable r.holds.0 r.holds.1 in (d.0, d.1));
    template = λ c r. at_each (bared b) r
        (let d = bare_only (c == b) r.life.durable r.life.pending r.holds.2 r.holds.3 in (r.holds.0, r.holds.1, d.0, d.1, rw d.2 r.holds.4));
    dropped = λ a c r. at_each (bared b) r r.holds;
    resting = λ a c d r. at_each (bared b) r r.holds;
    types = types_still state.lives now (on_disk_each (bared b) state.lives (λ l. bare_bytes (0 == b) l.durable));
  }

  held_bare : (c : ℕ) (l : Life) → IsSoundLife T state.lives c l → IsSoundLife T now c (bared b c l)
  held_bare c l k = record {
    fit = λ s i. let r = state_if (c == b) l.durable l.pending s i in rw (← r.2) (k.fit r.0 r.1);
    named = λ s x u i n. let r = state_if (c == b) l.durable l.pending s i in carries.belongs c x u (k.named r.0 x u r.1 (rw r.2 n));
    same_system = λ s x u ne i n. let r = state_if (c == b) l.durable l.pending s i in carries.system l.fs x (k.same_system r.0 x u ne r.1 (rw r.2 n));
    ready = λ s x u i n. let r = state_if (c == b) l.durable (carried l) s i in carries.disk x (k.ready r.0 x u r.1 (rw r.2 n));
    typed = λ s x u ne i n. let r = state_if (c == b) l.durable (carried l) s i in carries.types u (k.typed r.0 x u ne r.1 (rw r.2 n));
    rising = bare_rises (c == b) l.durable l.pending k.rising;
  }

  kept_bare : (c : ℕ) (l : Life) → IsLinkedLife T state.lives c l → IsLinkedLife T now c (bared b c l)
  kept_bare c l k =
      let last = some_last (c == b) l.durable l.pending k.last k.is_last in
      record {
        last = last.0;
        is_last = last.1;
        owned = λ x u n. let r = k.owned x u (named_if T l.ty (c == b) l.durable l.pending (x, u) n) in at_each (bared b) r r.holds;
        installed = k.installed;
        root_alone = k.root_alone;
        start = bare_start (c == b) l.durable l.pending k.start;
        grows = bare_grows T l.ty (c == b) l.durable l.pending k.grows;
        dropped = λ s x i n. carries.dropped c x (k.dropped s x i n);
        gone = k.gone;
        flight = k.flight;
        resting = λ s x i n. carries.resting c x (k.dropped s x (carried_pending l s i) n) (k.resting s x i n);
      }

  root_bare : IsRootLife T now
  root_bare =
      let r = h.lives_sound.root in
      let d = bare_some (0 == b) r.life.durable r.state r.durable in
      record {
        life = bared b 0 r.life;
        alive = each_forth (bared b) state.lives 0 r.life r.alive;
        ty = r.ty;
        nobody = r.nobody;
        unowned = r.unowned;
        state = d.0;
        durable = d.1;
        mark = λ s i. let x = state_if (0 == b) r.life.durable r.life.pending s i in rw (carries.count, ← x.2) (r.mark x.0 x.1);
        pointers = bare_pointers (0 == b) r.life.durable r.life.pending r.pointers;
        long = λ s i. let x = state_if (0 == b) r.life.durable r.life.pending s i in rw (← x.2) (r.long x.0 x.1);
        templates = λ s c u i n. let x = state_if (0 == b) r.life.durable r.life.pending s i in carries.template c (r.templates x.0 c u x.1 (rw x.2 n));
        types = λ s c u i n. let x = state_if (0 == b) r.life.durable r.life.pending s i in rw (← x.2) (r.types x.0 c u x.1 (rw x.2 n));
        all_types = λ s t e i. let x = last_bytes (0 == b) r.life.durable r.life.pending s e in rw (← x.2) (r.all_types x.0 t x.1 i);
        slots = λ s j c i lt e ne. let x = state_if (0 == b) r.life.durable r.life.pending s i in carries.system (Some j) c (r.slots x.0 j c x.1 lt (rw x.2 e) ne);
      }

  bare_shrinks : (c : ℕ) (l : Life) → Shrinks l (bared b c l)
  bare_shrinks c l = record { ty = refl; status = refl; fewer = λ t i. i; stored = λ s e. let d = bare_some (c == b) l.durable s e in (d.0, d.1); leaves = λ t i. inr i }

  bare_older : (u n : ℕ) → IsOlderType state.lives u n → IsOlderType now u n
  bare_older u n o = at_each (bared b) o (elim o.holds [ inl d ↦ let r = bare_some (0 == b) o.life.durable d.0 d.1 in inl (r.0, r.1, rw r.2 d.2) | inr t ↦ inr t ])

  exact_bare : HasExactStatuses T now
  exact_bare = record {
    owned = λ c m a e s.
        let r = each_back (bared b) state.lives c m e in
        let o = h.statuses.owned c r.0 a r.1 (ap (λ (x : Life). x.status) (sym r.2) ∙ s) in
        let ty : r.0.ty ≡ m.ty = ap (λ (x : Life). x.ty) (sym r.2) in
        subst (λ u. IsNamer T now a c u) ty (at_each (bared b) o (if_named T o.life.ty (a == b) o.life.durable o.life.pending (c, r.0.ty) o.holds));
    emptied = λ c m a p e s n.
        let r = each_back (bared b) state.lives c m e in
        let named : NamedIn T r.0.ty (newest (bared b c r.0)) p = subst (λ (x : Life). NamedIn T x.ty (newest x) p) r.2 n in
        h.statuses.emptied c r.0 a p r.1 (ap (λ (x : Life). x.status) (sym r.2) ∙ s) (named_if T r.0.ty (c == b) r.0.durable r.0.pending p named);
  }

  entry_below : (t : Bool) (o : Option BlockState) (xs : List BlockState) → ((s : BlockState) → Contains (option_to_list o ++ xs) s → s.entry < state.next) → (s : BlockState) → Contains (option_to_list (cond t (durable_after o) o) ++ xs) s → s.entry < state.next
  entry_below false o xs low s i = low s i
  entry_below true None xs low s i = low s i
  entry_below true (Some d) xs low s i = elim (Contains-cons (on_disk d.bytes) xs s i) [
    | inl e ↦ let zero' : 0 ≡ s.entry = ap (λ (x : BlockState). x.entry) e in let lt = low d (Contains-head d xs) in omega arith
    | inr j ↦ low s (Contains-append_right (d ∷ []) xs s j)
  ]

  pub bare_consistent : IsConsistent T (record state { lives = each (bared b) state.lives })
  bare_consistent = record {
    built_ins = h.built_ins;
    size = subst IsDiskSize (sym carries.count) h.size;
    lives_sound = record { root = root_bare; each = λ c m e. let r = each_back (bared b) state.lives c m e in subst (IsSoundLife T now c) (sym r.2) (held_bare c r.0 (h.lives_sound.each c r.0 r.1)) };
    linked = λ c m e. let r = each_back (bared b) state.lives c m e in subst (IsLinkedLife T now c) (sym r.2) (kept_bare c r.0 (h.linked c r.0 r.1));
    waits = queued_each T state.lives (bared b) (λ c l e. bare_shrinks c l) bare_older h.waits;
    order = ordered_bare state.lives b h.order;
    statuses = exact_bare;
    chains = chains_each state.lives (bared b) (λ c l. refl) h.chains;
    numbers = λ c m s e i. let r = each_back (bared b) state.lives c m e in entry_below (c == b) r.0.durable r.0.pending (λ t j. h.numbers c r.0 t r.1 j) s (subst (λ x. Contains (states x) s) r.2 i);
  }

pub bare_latest : (b : ℕ) (lives : Lives) (c : ℕ) → latest (each (bared b) lives) c ≡ latest lives c
bare_latest b lives c = latest_each (bared b) lives c (λ l e. bare_newest (c == b) l)

pub bare_there : (b : ℕ) (lives : Lives) → root_on_disk (each (bared b) lives) ≡ root_on_disk lives
bare_there b lives = on_disk_each (bared b) lives (λ l. bare_bytes (0 == b) l.durable)

pub bare_placed : (content : ℕ → List ℕ) (lives : Lives) (b : ℕ) → ArePlaced content lives → ArePlaced content (each (bared b) lives)
bare_placed content lives b p c m s e d =
    let r = each_back (bared b) lives c m e in
    let was = some_bare (c == b) r.0.durable s (ap (λ (x : Life). x.durable) (sym r.2) ∙ d) in
    subst (λ x. IsHeldOnDisk content c x s) (sym r.2) (elim (p c r.0 was.0 r.1 was.1) [ inl x ↦ inl (x ∙ was.2) | inr y ↦ inr y ])
