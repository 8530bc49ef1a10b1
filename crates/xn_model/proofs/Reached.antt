-- What the lives hold of the image: each reached block holds a state of its life, and has one owner.
use Rattle.std.proofs.Common.{◌≡◌, ℕ, zero, suc, ◌<◌, ◌≤◌, ◌≢◌, true, List, [], ◌∷◌, ◌++◌, length, get_or, Option, Some, None, refl, sym, ◌∙◌, ap, inl, inr, arith, subst}
use Rattle.std.specs.Prelude.{Contains, IsTrue, option_to_list}
use Rattle.std.specs.List.{last_or}
use Rattle.std.proofs.lemmas.Bool.{and_parts}
use Rattle.std.proofs.lemmas.Option.{none-some}
use Rattle.std.proofs.lemmas.List.{get_or_default, length-map}
use Rattle.std.proofs.lemmas.Bool.{cases_lt, cases_eq}
use Rattle.std.proofs.lemmas.List.Elements.{Contains-append_cases, Contains-append_left, Contains-append_right, Contains-get_or}
use Rattle.xn_model.specs.Lists.{blocks_of}
use Rattle.xn_model.specs.Types.{Types, fits, named_once, within_size}
use Rattle.xn_model.specs.Root.{pointer, has_type, templates_of}
use Rattle.xn_model.specs.Languages.{Language, types_in, language_template}
use Rattle.xn_model.specs.Images.{Reach, root, step, Owns, HasOneOwner, IsSound}
use Rattle.xn_model.specs.Lives.{BlockState, Status, Fresh, Owned, Dropped, Life, Lives, life_at, states, carried, first_states, bytes_of, root_on_disk, StoreState}
use Rattle.xn_model.specs.Calls.{types_of, latest, life_bytes}
use Rattle.xn_model.specs.Rules.{At, IsCount, HoldsState, Agrees, IsBy, BelongsTo, IsTemplate, IsRootLife, PointersStay, IsConsistent, ArePlaced}
use Rattle.xn_model.proofs.Lives.{past, of_life}
use Rattle.xn_model.proofs.RootBytes.{template_owned, templates_from}
use Rattle.xn_model.proofs.Catalogue.{has_built_in, has_keeps, pointers_first, pointers_last, on_disk_is}
use Rattle.xn_model.proofs.Languages.{same_template, same_installed, same_owned, same_size, same_templates, fits_same}
use Rattle.xn_model.proofs.Lists.{Contains-head, Contains-cons, Contains-take, last_is_in, distinct_places, Contains-none}

-- what is carried is pending
pub carried_pending : (l : Life) (s : BlockState) → Contains (carried l) s → Contains l.pending s
carried_pending l s h = go l.begun h
  where
    go : (k : Option ℕ) → Contains (first_states k l.pending) s → Contains l.pending s
    go None h' = absurd (Contains-none s h')
    go (Some k) h' = Contains-take k l.pending s h'

-- what a crash may meet is a state
pub among_states : (l : Life) (s : BlockState) → Contains (option_to_list l.durable ++ carried l) s → Contains (states l) s
among_states l s h = elim (Contains-append_cases (option_to_list l.durable) (carried l) s h) [
  | inl d ↦ Contains-append_left (option_to_list l.durable) l.pending s d
  | inr c ↦ Contains-append_right (option_to_list l.durable) l.pending s (carried_pending l s c)
]

-- a block with a state on the disk, of a type
abbrev pub IsStored : (lives : Lives) (c u : ℕ) → Type 0
IsStored lives c u = At lives c (λ life. (life.ty ≡ u) × (s : BlockState) × (life.durable ≡ Some s))

pub durable_in : (l : Life) (s : BlockState) → l.durable ≡ Some s → Contains (option_to_list l.durable ++ carried l) s
durable_in l s e = Contains-append_left (option_to_list l.durable) (carried l) s (subst (λ o. Contains (option_to_list o) s) (sym e) (Contains-head s []))

pub positive : (n : ℕ) → (n ≡ 0 → ⊥) → 1 ≤ n
positive zero ne = absurd (ne refl)
positive (suc n) ne = omega arith

-- with nothing pending no write is begun
pub idle_at_rest : (o : Option ℕ) (n : ℕ) → n ≡ 0 → IsCount o n → o ≡ None
idle_at_rest None n e i = refl
idle_at_rest (Some j) n e i = let lo = i.0 in let hi = i.1 in absurd (omega arith)

-- blocks that are alive are on the disk
pub in_range : (T : Types) (state : StoreState) → IsConsistent T state → (c : ℕ) (l : Life) → life_at state.lives c ≡ Some l → c < length state.lives
in_range T state h c l e = elim (cases_lt c (length state.lives)) [
  | inl lt ↦ lt
  | inr past' ↦ absurd (none-some l (sym (past state.lives c past') ∙ e))
]

module _ (L : Language) (state : StoreState) (h : IsConsistent (types_of L state.lives) state) (content : ℕ → List ℕ) (placed : ArePlaced content state.lives) where
  -- the types of the lives, and those of the catalogue on the disk
  abbrev T : Types
  T = types_of L state.lives

  abbrev there : Types
  there = types_in L content

  -- the disk holds the durable state or the begun one
  holds_state : (c u : ℕ) → IsStored state.lives c u → HoldsState content state.lives c u
  holds_state c u k = elim (placed c k.life k.holds.1 k.alive k.holds.2) [
    | inl e ↦ record { life = k.life; alive = k.alive; holds = (k.holds.0, k.holds.1, durable_in k.life k.holds.1 k.holds.2, e) }
    | inr f ↦ record { life = k.life; alive = k.alive; holds = (k.holds.0, f.0, Contains-append_right (option_to_list k.life.durable) (carried k.life) f.0 (last_is_in (carried k.life) f.0 f.1), f.2) }
  ]

  -- block 0

  abbrev root_rule : IsRootLife T state.lives
  root_rule = h.lives_sound.root

  root_stored : IsStored state.lives 0 0
  root_stored = record { life = root_rule.life; alive = root_rule.alive; holds = (root_rule.ty, root_rule.state, root_rule.durable) }

  root_holds : (s : BlockState) × Contains (option_to_list root_rule.life.durable ++ carried root_rule.life) s × (content 0 ≡ s.bytes)
  root_holds = let s = of_life (holds_state 0 0 root_stored) root_rule.life root_rule.alive in (s.1, s.2, s.3)

  root_state : Contains (states root_rule.life) root_holds.0
  root_state = among_states root_rule.life root_holds.0 root_holds.1

  -- what block 0 has on the disk, the contents have
  pub has_there : (u : ℕ) → has_type (root_on_disk state.lives) u ≡ true → has_type (content 0) u ≡ true
  has_there u has =
      let s = root_holds in
      let r = root_rule in
      let from : PointersStay (r.state ∷ r.life.pending) = subst (λ o. PointersStay (option_to_list o ++ r.life.pending)) r.durable r.pointers in
      let at : Contains (r.state ∷ r.life.pending) s.0 = subst (λ o. Contains (option_to_list o ++ r.life.pending) s.0) r.durable (root_state) in
      ap (λ m. has_type m u) s.2 ∙ has_keeps r.state.bytes s.0.bytes u (pointers_first r.state r.life.pending from s.0 at) (ap (λ m. has_type m u) (sym (on_disk_is state.lives r.life r.state r.alive r.durable)) ∙ has)

  -- a block with one state, which is on the disk, has that one newest, and the disk holds it
  one_there : (c : ℕ) (l : Life) (s d : BlockState) → life_at state.lives c ≡ Some l → states l ≡ s ∷ [] → l.durable ≡ Some d → (content c ≡ s.bytes) × (latest state.lives c ≡ s.bytes)
  one_there c l s d e only at =
      let list : d ∷ l.pending ≡ s ∷ [] = ap (λ o. option_to_list o ++ l.pending) (sym at) ∙ only in
      let nothing : l.pending ≡ [] = ap rest list in
      let same : d ≡ s = first_of d l.pending s list in (
        elim (placed c l d e at) [
          | inl x ↦ x ∙ ap (λ (y : BlockState). y.bytes) same
          | inr f ↦ absurd (Contains-none f.0 (subst (λ xs. Contains xs f.0) nothing (carried_pending l f.0 (last_is_in (carried l) f.0 f.1))))
        ],
        ap life_bytes e ∙ (ap (λ xs. bytes_of (last_or l.durable xs)) nothing ∙ (ap bytes_of at ∙ ap (λ (y : BlockState). y.bytes) same)),
      )
    where
      rest : List BlockState → List BlockState
      rest [] = []
      rest (x ∷ xs) = xs

      first_of : (d : BlockState) (xs : List BlockState) (s : BlockState) → d ∷ xs ≡ s ∷ [] → d ≡ s
      first_of d xs s e = elim (Contains-cons s [] d (subst (λ ys. Contains ys d) e (Contains-head d xs))) [ inl same ↦ sym same | inr none ↦ absurd (Contains-none d none) ]

  -- a template that the contents name stands there
  template_there : (c u : ℕ) → Contains (templates_of (content 0)) (c, u) → (t : IsTemplate T state.lives c) × (content c ≡ t.holds.2.bytes) × (latest state.lives c ≡ t.holds.2.bytes)
  template_there c u n =
      let s = root_holds in
      let r = root_rule in
      let at : Contains (templates_of s.0.bytes) (c, u) = subst (λ m. Contains (templates_of m) (c, u)) s.2 n in
      let t = r.templates s.0 c u (root_state) at in
      let owns : Contains (T.owned r.life.ty s.0.bytes) (c, u) =
      subst (λ y. Contains (T.owned y s.0.bytes) (c, u)) (sym r.ty) (subst (λ ps. Contains ps (c, u)) (sym (h.built_ins.root_owns s.0.bytes)) (template_owned s.0.bytes c u at)) in
      let d = (h.lives_sound.each 0 r.life r.alive).ready s.0 c u (s.1) owns in
      let disk = of_life d t.life t.alive in
      let x = one_there c t.life t.holds.2 disk.0 t.alive t.holds.3 disk.1 in
      (t, x.0, x.1)

  -- so the types of the contents are those of the lives that block 0 has there
  pub template_same : (t : ℕ) → has_type (content 0) t ≡ true → language_template L content t ≡ language_template L (latest state.lives) t
  template_same t has = sym (same_template L content (latest state.lives) t has (λ i lt ne. (pointer_same i lt ne, bytes_same i lt ne)))
    where
      pointer_same : (i : ℕ) → i < 16 → pointer (content 0) i ≢ 0 → pointer (latest state.lives 0) i ≡ pointer (content 0) i
      pointer_same i lt ne =
          let s = root_holds in
          let k = h.linked 0 root_rule.life root_rule.alive in
          let newest_is : latest state.lives 0 ≡ k.last.bytes = ap life_bytes root_rule.alive ∙ ap bytes_of k.is_last in
          let keeps = pointers_last root_rule.life.durable root_rule.life.pending k.last root_rule.pointers k.is_last s.0 (root_state) in
          ap (λ m. pointer m i) newest_is ∙ (keeps i lt (λ z. ne (ap (λ m. pointer m i) s.2 ∙ z)) ∙ ap (λ m. pointer m i) (sym s.2))

      bytes_same : (i : ℕ) → i < 16 → pointer (content 0) i ≢ 0 → latest state.lives (pointer (content 0) i) ≡ content (pointer (content 0) i)
      bytes_same i lt ne = let x = template_there (pointer (content 0) i) 1 (templates_from (content 0) i (pointer (content 0) i) lt refl ne) in x.2 ∙ sym x.1

  owned_same : (t : ℕ) → has_type (content 0) t ≡ true → there.owned t ≡ T.owned t
  owned_same t has = same_owned L (latest state.lives) content t (template_same t has)

  names_now : (t : ℕ) (m : List ℕ) (c u : ℕ) → has_type (content 0) t ≡ true → Contains (there.owned t m) (c, u) → Contains (T.owned t m) (c, u)
  names_now t m c u has n = subst (λ (o : List ℕ → List (ℕ × ℕ)). Contains (o m) (c, u)) (owned_same t has) n

  -- what a stored block names on the disk is stored, and its type stands there
  named_stored : (b t c u : ℕ) → IsStored state.lives b t → Contains (T.owned t (content b)) (c, u) → IsStored state.lives c u × (BelongsTo state.lives b c u × (has_type (content 0) u ≡ true))
  named_stored b t c u k names =
      let s = holds_state b t k in
      let each = h.lives_sound.each b s.life s.alive in
      let at_state : Contains (T.owned s.life.ty s.holds.1.bytes) (c, u) = rw (s.holds.0, ← s.holds.3) names in
      let disk = each.ready s.holds.1 c u s.holds.2 at_state in
      let by = each.named s.holds.1 c u (among_states s.life s.holds.1 s.holds.2) at_state in (
        record { life = disk.life; alive = disk.alive; holds = ((of_life by disk.life disk.alive).0, disk.holds.0, disk.holds.1) },
        (by, elim (cases_eq b 0) [ inl zero' ↦ of_root t k zero' names | inr ne ↦ has_there u (each.typed s.holds.1 c u ne s.holds.2 at_state) ]),
      )
    where
      of_root : (t : ℕ) → IsStored state.lives b t → b ≡ 0 → Contains (T.owned t (content b)) (c, u) → has_type (content 0) u ≡ true
      of_root t k zero' names =
          let s = root_holds in
          let r = root_rule in
          let ty : t ≡ 0 = sym (of_life k r.life (ap (life_at state.lives) zero' ∙ r.alive)).0 ∙ r.ty in
          let at : Contains (T.owned 0 s.0.bytes) (c, u) = subst (λ m. Contains (T.owned 0 m) (c, u)) (ap content zero' ∙ s.2) (subst (λ y. Contains (T.owned y (content b)) (c, u)) ty names) in
          ap (λ m. has_type m u) s.2 ∙ r.types s.0 c u root_state (subst (λ ps. Contains ps (c, u)) (h.built_ins.root_owns s.0.bytes) at)

  reached_has : (c u : ℕ) → Reach there (length state.lives) content c u → IsStored state.lives c u × (has_type (content 0) u ≡ true)
  reached_has c u root = (root_stored, has_built_in (content 0) 0 (omega arith))
  reached_has c u (step {b} {t} r lt inst names) =
      let k = reached_has b t r in
      let n = named_stored b t c u k.0 (names_now t (content b) c u k.1 names) in
      (n.0, n.1.1)

  reached_stored : (c u : ℕ) → Reach there (length state.lives) content c u → IsStored state.lives c u
  reached_stored c u r = (reached_has c u r).0

  -- what a reached block names
  reached_names : (b t c u : ℕ) → Reach there (length state.lives) content b t → Contains (there.owned t (content b)) (c, u) → IsStored state.lives c u × (BelongsTo state.lives b c u × (has_type (content 0) u ≡ true))
  reached_names b t c u r names = let k = reached_has b t r in named_stored b t c u k.0 (names_now t (content b) c u k.1 names)

  installed : (c u : ℕ) → IsStored state.lives c u → has_type (content 0) u ≡ true → IsTrue (there.installed u)
  installed c u k has = same_installed L (latest state.lives) content u (template_same u has) ∙ subst (λ t. IsTrue (T.installed t)) k.holds.0 (h.linked c k.life k.alive).installed

  -- a type that is reached is one of both, and means the same
  pub reached_owned : (c u : ℕ) → Reach there (length state.lives) content c u → there.owned u ≡ T.owned u
  reached_owned c u r = owned_same u (reached_has c u r).1

  pub reached_installed : (c u : ℕ) → Reach there (length state.lives) content c u → IsTrue (there.installed u) × IsTrue (T.installed u)
  reached_installed c u r =
      let k = reached_has c u r in
      (installed c u k.0 k.1, subst (λ t. IsTrue (T.installed t)) k.0.holds.0 (h.linked c k.0.life k.0.alive).installed)

  -- the same is reached under the types of the lives
  pub reached_now : (c u : ℕ) → Reach there (length state.lives) content c u → Reach T (length state.lives) content c u
  reached_now c u root = root
  reached_now c u (step {b} {t} r lt inst names) =
      let k = reached_has b t r in
      step (reached_now b t r) lt (subst (λ x. IsTrue (T.installed x)) k.0.holds.0 (h.linked b k.0.life k.0.alive).installed) (names_now t (content b) c u k.1 names)

  pub now_reached : (c u : ℕ) → Reach T (length state.lives) content c u → Reach there (length state.lives) content c u
  now_reached c u root = root
  now_reached c u (step {b} {t} r lt inst names) =
      let q = now_reached b t r in
      let k = reached_has b t q in
      step q lt (installed b t k.0 k.1) (subst (λ (o : List ℕ → List (ℕ × ℕ)). Contains (o (content b)) (c, u)) (sym (owned_same t k.1)) names)

  -- the bytes of a stored block fit
  stored_fit : (c u : ℕ) → IsStored state.lives c u → has_type (content 0) u ≡ true → IsTrue (fits there u (content c))
  stored_fit c u k has =
      let s = holds_state c u k in
      let f = (h.lives_sound.each c s.life s.alive).fit s.holds.1 (among_states s.life s.holds.1 s.holds.2) in
      let now : IsTrue (fits T u (content c)) = rw (← s.holds.0, s.holds.3) f in
      fits_same T there u (content c) (owned_same u has) (same_size L (latest state.lives) content u (template_same u has)) now

  -- two blocks that name one
  same_by : (b a : ℕ) (s : Status) → IsBy b s → IsBy a s → b ≡ a
  same_by b a Fresh p q = absurd p
  same_by b a (Owned x) p q = sym p ∙ q
  same_by b a (Dropped x) p q = sym p ∙ q

  -- a place of a list of pairs, by its block
  block_at : (ps : List (ℕ × ℕ)) (i : ℕ) → get_or (blocks_of ps) i 0 ≡ (get_or ps i (0, 0)).0
  block_at [] i = refl
  block_at (p ∷ ps) zero = refl
  block_at (p ∷ ps) (suc i) = block_at ps i

  -- an owner's pair, with its type
  owner_pair : (b i c : ℕ) (o : Owns there (length state.lives) content b i c) → (u : ℕ) × Contains (there.owned o.ty (content b)) (c, u)
  owner_pair b i c o =
      let ps = there.owned o.ty (content b) in
      let pair : ℕ × ℕ = get_or ps i (0, 0) in
      let P : ℕ → Type 0 = λ x. Contains ps (x, pair.1) in
      (pair.1, subst P o.names (Contains-get_or ps i (0, 0) o.within))

  -- a block has one type
  same_type : (b t a u : ℕ) → IsStored state.lives b t → IsStored state.lives a u → b ≡ a → t ≡ u
  same_type b t a u k m e = sym (of_life k m.life (ap (life_at state.lives) e ∙ m.alive)).0 ∙ m.holds.0

  only_owner : (b t i c u : ℕ) → Reach there (length state.lives) content b t → Contains (there.owned t (content b)) (c, u) → i < length (there.owned t (content b)) → (get_or (there.owned t (content b)) i (0, 0)).0 ≡ c →
      (a j : ℕ) → Owns there (length state.lives) content a j c → (a ≡ b) × (j ≡ i)
  only_owner b t i c u r names lt at a j o =
      let stored = reached_stored b t r in
      let here = (reached_names b t c u r names).1.0 in
      let other = (reached_names a o.ty c (owner_pair a j c o).0 o.reached (owner_pair a j c o).1).1.0 in
      let block : a ≡ b = same_by a b here.life.status (of_life other here.life here.alive).1 here.holds.1 in
      let types : o.ty ≡ t = same_type a o.ty b t (reached_stored a o.ty o.reached) stored block in
      let lists : there.owned o.ty (content a) ≡ there.owned t (content b) = λ k. there.owned (types k) (content (block k)) in
      let once = (and_parts (named_once there t (content b)) (within_size there t (content b)) (stored_fit b t stored (reached_has b t r).1)).0 in
      let ps = there.owned t (content b) in
      (block, distinct_places (blocks_of ps) j i once (rw length-map (rw lists at o.within)) (rw length-map lt) (block_at ps j ∙ (ap (λ (qs : List (ℕ × ℕ)). (get_or qs j (0, 0)).0) (sym lists) ∙ (o.names ∙ sym (block_at ps i ∙ at)))))

  one_owner : (b t c u : ℕ) → Reach there (length state.lives) content b t → Contains (there.owned t (content b)) (c, u) → HasOneOwner there (length state.lives) content c
  one_owner b t c u r names =
      let ps = there.owned t (content b) in
      let at : (get_or ps names.0 (0, 0)).0 ≡ c = ap (λ (p : ℕ × ℕ). p.0) (get_or_default ps names.0 (0, 0) (c, u) names.1 ∙ names.2) in
      record {
        owner = b;
        place = names.0;
        owns = record { ty = t; reached = r; within = names.1; names = at };
        only = only_owner b t names.0 c u r names names.1 at;
      }

  owner : (c u : ℕ) → Reach there (length state.lives) content c u → c ≢ 0 → HasOneOwner there (length state.lives) content c
  owner c u root ne = absurd (ne refl)
  owner c u (step {b} {t} r lt inst names) ne = one_owner b t c u r names

  -- each reached block holds a state of its life, and has one owner
  pub agreement : Agrees there (length state.lives) content state.lives
  agreement = record { states = λ c u r. holds_state c u (reached_stored c u r); owner = owner }

  -- block 0 is named by none
  never_root : (b t c u : ℕ) → Reach there (length state.lives) content b t → Contains (there.owned t (content b)) (c, u) → c ≡ 0 → ⊥
  never_root b t c u r names e =
      let by = (reached_names b t c u r names).1.0 in
      let r0 = h.lives_sound.root in
      subst (λ s. IsBy b s) r0.unowned (of_life by r0.life (ap (life_at state.lives) e ∙ r0.alive)).1

  -- so the image is sound
  pub soundness : IsSound there (length state.lives) content
  soundness = record {
    size = h.size;
    long = let s = root_holds in ap length s.2 ∙ root_rule.long s.0 root_state;
    head = let s = root_holds in rw s.2 (root_rule.mark s.0 root_state);
    templates = λ c u names. let x = template_there c u names in
        (in_range T state h c x.0.life x.0.alive, ap (λ f. f (content c)) (same_templates L (latest state.lives) content) ∙ (ap T.template x.1 ∙ x.0.holds.4));
    fit = λ b t r. let k = reached_has b t r in stored_fit b t k.0 k.1;
    range = λ b t c u r names. let k = (reached_names b t c u r names).0 in (positive c (never_root b t c u r names), in_range T state h c k.life k.alive);
    types = λ b t c u r names. let k = reached_names b t c u r names in (positive u (λ e. never_root b t c u r names ((h.linked c k.0.life k.0.alive).root_alone (k.0.holds.0 ∙ e))), installed c u k.0 k.1.1);
    owner = one_owner;
  }
