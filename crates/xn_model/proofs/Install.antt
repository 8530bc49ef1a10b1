-- A template is installed: a block of nobody's begins with it, and the catalogue names that.
use Rattle.std.proofs.Common.{◌≡◌, ◌≢◌, ℕ, ◌+◌, ◌-◌, ◌^◌, ◌<◌, true, false, List, [], ◌∷◌, length, drop, Option, Some, None, refl, sym, ◌∙◌, ap, inl, inr, arith, subst}
use Rattle.std.specs.Prelude.{◌==◌, Contains, IsTrue, is_some, is_none, nat_le, unwrap_or, find, Ok}
use Rattle.std.specs.List.{range_with_len}
use Rattle.std.proofs.lemmas.Bool.{cases_eq, false≢true, cond-true, cond-false, eq-eqb, ne_eqb}
use Rattle.std.proofs.lemmas.List.{drop_all}
use Rattle.std.proofs.lemmas.Option.{same_Some, none-some}
use Rattle.xn_model.specs.Lists.{blank, blocks_of}
use Rattle.xn_model.specs.Types.{Types, fits}
use Rattle.xn_model.specs.Root.{KeepsPointers, has_type, pointer, with_pointer, slot, templates_of, owned_by_root}
use Rattle.xn_model.specs.Languages.{Language, Extends, language_template}
use Rattle.xn_model.specs.Lives.{BlockState, Fresh, Owned, Life, StoreState, life_at, newest, bytes_of, is_dropped, chain_end, lowest_free}
use Rattle.xn_model.specs.Results.{NoSlot, TooManyPending, Exhausted, NoSpace, BadTemplate}
use Rattle.xn_model.specs.Calls.{install_of, install_at, empty_place, catalogue_state, started, new_life, first_state, accepts, root_now, latest, types_of, life_bytes, life_pending}
use Rattle.xn_model.specs.Rules.{IsConsistent, Keeps, Installs, ArePlaced, IsTemplate, IsRootLife}
use Rattle.xn_model.proofs.Changes.{accepted}
use Rattle.xn_model.proofs.Lists.{Contains-none, Contains-head, Contains-tail, Contains-cons, blocks_of_at}
use Rattle.xn_model.proofs.Lives.{accepted_is, length_accepted, each_forth, of_life, set_other, set_same}
use Rattle.xn_model.proofs.Tests.{unless_ok, same_ok}
use Rattle.xn_model.proofs.Chains.{ends_itself}
use Rattle.xn_model.proofs.Catalogue.{has_built_in, has_keeps}
use Rattle.xn_model.proofs.RootBytes.{range_at, templates_from}
use Rattle.xn_model.proofs.PointerBytes.{pointer_length, pointer_mark, pointer_fits, pointer_names, templates_name, pointer_owned, pointer_keeps, pointer_other, pointer_same, pointer_stays, slot_still}
use Rattle.xn_model.proofs.Languages.{built_ins_in, installed_has, template_is, latest_each, same_template, same_installed, same_owned, same_size, same_templates, template_same, template_there}
use Rattle.xn_model.proofs.States.{IsAddable, MayBeRoot, MayAccept, accepted_other, accepted_same, last_push}
use Rattle.xn_model.proofs.Accept.{accept_keeps, accept_places, accept_there}
use Rattle.xn_model.proofs.Init.{lowest_is, started_keeps}
use Rattle.xn_model.proofs.Roots.{root_fresh, kept_root, newest_is, in_states, long, fit, mark, root_named, root_lists, root_owns, small_life}
use Rattle.xn_model.proofs.MoreTypes.{more_types}

-- the place that is found names no template
pub place_is : (m : List ℕ) (i : ℕ) → empty_place m ≡ Some i → (i < 16) × (pointer m i ≡ 0)
place_is m i e =
    let r = go (range_with_len 0 16) e in
    let hi : i < 0 + 16 = (range_at 0 16 i r.0).1 in
    (omega arith, r.1)
  where
    go : (is : List ℕ) → find (λ j. pointer m j == 0) is ≡ Some i → Contains is i × (pointer m i ≡ 0)
    go [] e = absurd (none-some i e)
    go (j ∷ is) e = elim (cases_eq (pointer m j) 0) [
      | inl zero' ↦
          let is' : j ≡ i = same_Some j i (sym (cond-true (pointer m j == 0) (Some j) (find (λ j. pointer m j == 0) is) (eq-eqb (pointer m j) 0 zero')) ∙ e) in
          (subst (λ y. Contains (j ∷ is) y) is' (Contains-head j is), ap (pointer m) (sym is') ∙ zero')
      | inr ne ↦ let r = go is (sym (cond-false (pointer m j == 0) (Some j) (find (λ j. pointer m j == 0) is) (ne_eqb (pointer m j) 0 ne)) ∙ e) in (Contains-tail j is i r.0, r.1)
    ]

-- The catalogue names a block of nobody's

module _ (T : Types) (state : StoreState) (h : IsConsistent T state) (i : ℕ) (few : i < 16) (empty : pointer (root_now state) i ≡ 0) (b : ℕ) (l : Life) (alive : life_at state.lives b ≡ Some l)
    (fresh : l.status ≡ Fresh) (ne : b ≢ 0) (template : IsTemplate T state.lives b) where
  abbrev m : List ℕ
  m = root_now state

  abbrev s : BlockState
  s = catalogue_state state i b

  abbrev r : IsRootLife T state.lives
  r = h.lives_sound.root

  abbrev last : BlockState
  last = (kept_root T state h).last

  m_long : length m ≡ 512
  m_long = long T state h

  ty_is : l.ty ≡ 1
  ty_is = (of_life template l alive).1

  small : b < 2 ^ 32
  small = (small_life T state h b l alive).0

  -- it was named nowhere
  unnamed : Contains (blocks_of (owned_by_root m)) b → ⊥
  unnamed n =
      let u = blocks_of_at (owned_by_root m) b n in
      let clash : Fresh ≡ Owned 0 = sym fresh ∙ of_life (root_owns T state h b u.0 u.1) l alive in
      absurd cc

  to_root : (c u : ℕ) → Contains (T.owned r.life.ty s.bytes) (c, u) → Contains (owned_by_root s.bytes) (c, u)
  to_root c u n = subst (λ ps. Contains ps (c, u)) (h.built_ins.root_owns s.bytes) (subst (λ t. Contains (T.owned t s.bytes) (c, u)) r.ty n)

  from_root : (c u : ℕ) → Contains (owned_by_root s.bytes) (c, u) → Contains (T.owned r.life.ty s.bytes) (c, u)
  from_root c u n = subst (λ t. Contains (T.owned t s.bytes) (c, u)) (sym r.ty) (subst (λ ps. Contains ps (c, u)) (sym (h.built_ins.root_owns s.bytes)) n)

  keeps : KeepsPointers last.bytes s.bytes
  keeps = subst (λ x. KeepsPointers x s.bytes) (newest_is T state h) (pointer_keeps m i b m_long few small empty)

  has_after : (u : ℕ) → has_type last.bytes u ≡ true → has_type s.bytes u ≡ true
  has_after u has = has_keeps last.bytes s.bytes u keeps has

  one : (c u : ℕ) → Contains s.adds (c, u) → (b ≡ c) × (1 ≡ u)
  one c u k = elim (Contains-cons (b, 1) [] (c, u) k) [
    | inl e ↦ (ap (λ (p : ℕ × ℕ). p.0) e, ap (λ (p : ℕ × ℕ). p.1) e)
    | inr none ↦ absurd (Contains-none (c, u) none)
  ]

  may : MayAccept T state.lives 0 r.life s
  may = record {
    adds = λ c u k. let e = one c u k in
        subst (λ x. IsAddable state.lives x u) e.0 (record { life = l; alive = alive; holds = (ty_is ∙ e.1, fresh, ne) });
    systems = λ c u zero' k. absurd (zero' refl);
    drops = λ c k. absurd (Contains-none c k);
    in_use = ap is_dropped r.unowned;
    editable = λ e. refl;
    names = λ c u n. elim (pointer_names m i b m_long few small c u (to_root c u n)) [
      | inl new ↦ inr (subst (λ (p : ℕ × ℕ). Contains s.adds p) (λ j. (sym new.0 j, sym new.1 j)) (Contains-head (b, 1) []))
      | inr old ↦ inl (root_named T state h c u old, λ k. Contains-none c k)
    ];
    fit = subst (λ t. IsTrue (fits T t s.bytes)) (sym r.ty) (pointer_fits m i b m_long few small T h.built_ins (fit T state h) unnamed);
    added = λ c u k. let e = one c u k in
        (from_root c u (subst (λ (p : ℕ × ℕ). Contains (owned_by_root s.bytes) p) (λ j. (e.0 j, e.1 j)) (pointer_owned m i b m_long few small ne)), λ z. ne (e.0 ∙ z));
    given = λ n e. absurd (none-some n e);
    stays = λ c u n out. from_root c u (pointer_stays m i b m_long few small empty c u (root_lists T state h c u n));
    empty = λ c x p k e n. absurd (Contains-none c k);
    no_cycle = λ k. elim (Contains-cons b [] (chain_end state.lives 0) k) [
      | inl e ↦ ne (e ∙ ends_itself state.lives 0 (root_fresh T state h))
      | inr none ↦ Contains-none (chain_end state.lives 0) none
    ];
  }

  may_root : MayBeRoot T state.lives r s
  may_root = record {
    mark = pointer_mark m i b m_long few (length state.lives) ∙ mark T state h;
    pointers = λ x e. subst (λ (y : BlockState). KeepsPointers y.bytes s.bytes) (same_Some last x (sym (kept_root T state h).is_last ∙ e)) keeps;
    long = pointer_length m i b m_long few;
    templates = λ c u n. elim (templates_name m i b m_long few small c u n) [
      | inl new ↦ subst (IsTemplate T state.lives) (sym new.0) template
      | inr old ↦ r.templates last c u (in_states T state h) (subst (λ x. Contains (templates_of x) (c, u)) (newest_is T state h) old)
    ];
    types = λ c u n. elim (pointer_names m i b m_long few small c u n) [
      | inl new ↦ has_built_in s.bytes u (let one : u ≡ 1 = new.1 in omega arith)
      | inr old ↦ has_after u (r.types last c u (in_states T state h) (subst (λ x. Contains (owned_by_root x) (c, u)) (newest_is T state h) old))
    ];
    all_types = λ t k. has_after t (r.all_types last t (kept_root T state h).is_last k);
    slots = λ j c lt e ne'. r.slots last j c (in_states T state h) lt (ap (λ x. (slot x j).0) (sym (newest_is T state h)) ∙ (ap (λ (p : ℕ × ℕ). p.0) (sym (slot_still m i b m_long few j)) ∙ e)) ne';
  }

  -- the state after it
  abbrev after : StoreState
  after = (accepts state 0 s).1

  pub named_consistent : IsConsistent T after
  named_consistent = subst (λ xs. IsConsistent T (record { lives = xs; next = state.next + 1 })) (sym (accepted_is state.lives 0 s)) (accept_keeps T state h 0 r.life s r.alive may refl (λ e. may_root))

  pub named_placed : (content : ℕ → List ℕ) → ArePlaced content state.lives → ArePlaced content after.lives
  named_placed content p = subst (ArePlaced content) (sym (accepted_is state.lives 0 s)) (accept_places T state h 0 r.life s r.alive may refl (λ e. may_root) content p)

  -- the newest bytes after it
  pub latest_root : latest after.lives 0 ≡ s.bytes
  latest_root =
      ap (λ xs. latest xs 0) (accepted_is state.lives 0 s)
      ∙ (ap life_bytes (each_forth (accepted 0 s) state.lives 0 r.life r.alive)
      ∙ (ap (λ x. bytes_of (newest x)) (accepted_same 0 s 0 r.life refl) ∙ ap bytes_of (last_push r.life.durable r.life.pending s)))

  pub latest_other : (c : ℕ) → c ≢ 0 → latest after.lives c ≡ latest state.lives c
  latest_other c other = ap (λ xs. latest xs c) (accepted_is state.lives 0 s) ∙ latest_each (accepted 0 s) state.lives c (λ x e. ap (λ y. bytes_of (newest y)) (accepted_other 0 s c x other))

-- The whole call

-- the state between its two entries
pub begun_kept : (L : Language) (state : StoreState) → IsConsistent (types_of L state.lives) state → (bytes : List ℕ) → length bytes ≡ 512 → (b : ℕ) → lowest_free state.lives ≡ Some b →
    Keeps (types_of L state.lives) state (started state None 1 bytes b)
begun_kept L state h bytes whole b free = started_keeps (types_of L state.lives) state h None 1 bytes h.built_ins.template (λ z. absurd (omega arith)) (h.built_ins.template_owns bytes)
    (ap (λ n. blank (drop n bytes)) (h.built_ins.template_size bytes) ∙ ap blank (drop_all 512 bytes (let e = whole in omega arith))) b free

module _ (L : Language) (state : StoreState) (h : IsConsistent (types_of L state.lives) state) (bytes : List ℕ) (whole : length bytes ≡ 512) (is_template : is_some (L bytes) ≡ true)
    (i : ℕ) (few : i < 16) (empty : pointer (root_now state) i ≡ 0) (b : ℕ) (free : lowest_free state.lives ≡ Some b) where
  abbrev T : Types
  T = types_of L state.lives

  -- once the block has begun
  abbrev begun : StoreState
  begun = started state None 1 bytes b

  kept : Keeps T state begun
  kept = begun_kept L state h bytes whole b free

  abbrev life : Life
  life = new_life state.next None 1 bytes

  not_root : b ≢ 0
  not_root z =
      let r = h.lives_sound.root in
      none-some r.life (sym (lowest_is state.lives b free).1 ∙ (ap (life_at state.lives) z ∙ r.alive))

  life_alive : life_at begun.lives b ≡ Some life
  life_alive = set_same state.lives b (Some life) (lowest_is state.lives b free).0

  others : (c : ℕ) → c ≢ b → latest begun.lives c ≡ latest state.lives c
  others c ne = ap life_bytes (set_other state.lives b c (Some life) ne)

  same_root : root_now begun ≡ root_now state
  same_root = others 0 (λ e. not_root (sym e))

  begun_empty : pointer (root_now begun) i ≡ 0
  begun_empty = ap (λ m. pointer m i) same_root ∙ empty

  template : IsTemplate T begun.lives b
  template = record { life = life; alive = life_alive; holds = (refl, refl, first_state state.next None bytes, refl, at_bytes) }
    where
      at_bytes : IsTrue (T.template bytes)
      at_bytes = template_is L (latest state.lives) bytes ∙ is_template

  abbrev new : StoreState
  new = install_at state bytes i b

  consistent : IsConsistent T new
  consistent = named_consistent T begun kept.consistent i few begun_empty b life life_alive refl not_root template

  root_after : latest new.lives 0 ≡ with_pointer (root_now begun) i b
  root_after = latest_root T begun kept.consistent i few begun_empty b life life_alive refl not_root template

  other_after : (c : ℕ) → c ≢ 0 → latest new.lives c ≡ latest begun.lives c
  other_after c ne = latest_other T begun kept.consistent i few begun_empty b life life_alive refl not_root template c ne

  -- the templates that were named are named still
  still_named : (j : ℕ) → j < 16 → pointer (latest state.lives 0) j ≢ 0 →
      (pointer (latest new.lives 0) j ≡ pointer (latest state.lives 0) j) × (latest new.lives (pointer (latest state.lives 0) j) ≡ latest state.lives (pointer (latest state.lives 0) j))
  still_named j lt ne =
      let p : ℕ = pointer (latest state.lives 0) j in
      let r = h.lives_sound.root in
      let last = (kept_root T state h).last in
      let t = r.templates last p 1 (in_states T state h) (templates_from last.bytes j p lt (ap (λ m. pointer m j) (sym (newest_is T state h))) ne) in
      let apart : p ≢ b = λ e. none-some t.life (sym (lowest_is state.lives b free).1 ∙ (ap (life_at state.lives) (sym e) ∙ t.alive)) in
      let keeps = pointer_keeps (root_now begun) i b (long T begun kept.consistent) few (small_life T begun kept.consistent b life life_alive).0 begun_empty in
      let before : pointer (root_now begun) j ≡ p = ap (λ m. pointer m j) same_root in (
        ap (λ m. pointer m j) root_after ∙ (keeps j lt (λ z. ne (sym before ∙ z)) ∙ before),
        other_after p ne ∙ others p apart,
      )

  extends : Extends T (types_of L new.lives)
  extends = record {
    installed = λ t k. same_installed L (latest state.lives) (latest new.lives) t (same t k) ∙ k;
    owned = λ t k. same_owned L (latest state.lives) (latest new.lives) t (same t k);
    size = λ t k. same_size L (latest state.lives) (latest new.lives) t (same t k);
    template = same_templates L (latest state.lives) (latest new.lives);
  }
    where
      same : (t : ℕ) → IsTrue (T.installed t) → language_template L (latest new.lives) t ≡ language_template L (latest state.lives) t
      same t k = same_template L (latest state.lives) (latest new.lives) t (installed_has L (latest state.lives) t k) still_named

  -- the new type has the template, and every other type what it had
  pub new_template : language_template L (latest new.lives) (3 + i) ≡ L bytes
  new_template =
      let small = (small_life T begun kept.consistent b life life_alive).0 in
      let at = ap (λ m. pointer m i) root_after ∙ pointer_same (root_now begun) i b (long T begun kept.consistent) few small in
      template_there L (latest new.lives) i b few not_root at ∙ ap L (other_after b not_root ∙ ap life_bytes life_alive)

  pub other_template : (t : ℕ) → t ≢ 3 + i → language_template L (latest new.lives) t ≡ language_template L (latest state.lives) t
  other_template t ne = template_same L (latest state.lives) (latest new.lives) t
      (λ lo hi. ap (λ m. pointer m (t - 3)) root_after ∙ (pointer_other (root_now begun) i b (long T begun kept.consistent) few (t - 3) (λ e. ne (omega (arith, e, lo))) ∙ ap (λ m. pointer m (t - 3)) same_root))
      (λ lo hi named. (still_named (t - 3) (omega (arith, lo, hi)) named).1)

  pub installs : Installs L state new
  installs = record {
    consistent = more_types T (types_of L new.lives) new consistent extends (built_ins_in L (latest new.lives)) (λ s t e k.
        let r = consistent.lives_sound.root in
        ap (λ m. has_type m t) (sym (ap bytes_of e) ∙ sym (ap life_bytes r.alive)) ∙ installed_has L (latest new.lives) t k);
    types = extends;
    there = λ t has. accept_there begun 0 (catalogue_state begun i b) t (kept.there t has);
    count = length_accepted begun.lives 0 (catalogue_state begun i b) ∙ kept.count;
    placed = λ content p. named_placed T begun kept.consistent i few begun_empty b life life_alive refl not_root template content (kept.placed content p);
  }

-- what such a call found, and left
pub record IsInstalled (L : Language) (state : StoreState) (bytes : List ℕ) (made : ℕ × ℕ × ℕ) (new : StoreState) : Type 0 where
  pub place : ℕ
  pub few : place < 16
  pub empty : pointer (root_now state) place ≡ 0
  pub block : ℕ
  pub free : lowest_free state.lives ≡ Some block
  pub template : is_some (L bytes) ≡ true
  pub made_is : (3 + place, block, state.next) ≡ made
  pub is : install_at state bytes place block ≡ new

pub installed_is : (L : Language) (state : StoreState) (bytes : List ℕ) (made : ℕ × ℕ × ℕ) (new : StoreState) → install_of L state bytes ≡ Ok (made, new) → IsInstalled L state bytes made new
installed_is L state bytes made new e =
    let i = unwrap_or (empty_place (root_now state)) 0 in
    let b = unwrap_or (lowest_free state.lives) 0 in
    let u = unless_ok (
    (is_none (empty_place (root_now state)), NoSlot)
    ∷ (nat_le 64 (life_pending (life_at state.lives 0)), TooManyPending)
    ∷ (nat_le (2 ^ 64 - 1) (state.next + 1), Exhausted)
    ∷ (is_none (lowest_free state.lives), NoSpace)
    ∷ (is_none (L bytes), BadTemplate)
    ∷ []) (Ok ((3 + i, b, state.next), install_at state bytes i b)) (made, new) e in
    let place = place_is (root_now state) i (given (empty_place (root_now state)) u.0.0) in
    let same = same_ok ((3 + i, b, state.next), install_at state bytes i b) (made, new) u.1 in
    record {
      place = i;
      few = place.0;
      empty = place.1;
      block = b;
      free = given (lowest_free state.lives) u.0.1.1.1.0;
      template = some (L bytes) u.0.1.1.1.1.0;
      made_is = ap (λ (x : (ℕ × ℕ × ℕ) × StoreState). x.0) same;
      is = ap (λ (x : (ℕ × ℕ × ℕ) × StoreState). x.1) same;
    }
  where
    given : (o : Option ℕ) → is_none o ≡ false → o ≡ Some (unwrap_or o 0)
    given None f = absurd (false≢true (sym f))
    given (Some x) f = refl

    some : {A : Type 0} (o : Option A) → is_none o ≡ false → is_some o ≡ true
    some None f = absurd (false≢true (sym f))
    some (Some x) f = refl

pub install_keeps : (L : Language) (state : StoreState) → IsConsistent (types_of L state.lives) state → (bytes : List ℕ) → length bytes ≡ 512 → (made : ℕ × ℕ × ℕ) (new : StoreState) → install_of L state bytes ≡ Ok (made, new) → Installs L state new
install_keeps L state h bytes whole made new e =
    let x = installed_is L state bytes made new e in
    subst (Installs L state) x.is (installs L state h bytes whole x.template x.place x.few x.empty x.block x.free)

pub installed_own : (L : Language) (state : StoreState) → IsConsistent (types_of L state.lives) state → (bytes : List ℕ) → length bytes ≡ 512 → (made : ℕ × ℕ × ℕ) (new : StoreState) → install_of L state bytes ≡ Ok (made, new) →
    language_template L (latest new.lives) made.0 ≡ L bytes
installed_own L state h bytes whole made new e =
    let x = installed_is L state bytes made new e in
    subst (λ (y : StoreState). language_template L (latest y.lives) made.0 ≡ L bytes) x.is
    (subst (λ t. language_template L (latest (install_at state bytes x.place x.block).lives) t ≡ L bytes) (ap (λ (y : ℕ × ℕ × ℕ). y.0) x.made_is)
    (new_template L state h bytes whole x.template x.place x.few x.empty x.block x.free))

pub installed_others : (L : Language) (state : StoreState) → IsConsistent (types_of L state.lives) state → (bytes : List ℕ) → length bytes ≡ 512 → (made : ℕ × ℕ × ℕ) (new : StoreState) → install_of L state bytes ≡ Ok (made, new) →
    (t : ℕ) → t ≢ made.0 → language_template L (latest new.lives) t ≡ language_template L (latest state.lives) t
installed_others L state h bytes whole made new e t ne =
    let x = installed_is L state bytes made new e in
    subst (λ (y : StoreState). language_template L (latest y.lives) t ≡ language_template L (latest state.lives) t) x.is
    (other_template L state h bytes whole x.template x.place x.few x.empty x.block x.free t (λ same. ne (same ∙ ap (λ (y : ℕ × ℕ × ℕ). y.0) x.made_is)))
