-- Calls that are refused for want of something alone.
--     IsHeld T state fs c u     what is reached in the newest bytes: its file system's own, owned, with bytes that fit
--     IsFit T state fs b t e    an edit that passes each test but those for want of something
use Rattle.std.proofs.Common.{◌≡◌, ℕ, ◌<◌, ◌≤◌, ◌≢◌, ◌⊎◌, Bool, true, false, not, ◌&&◌, ◌||◌, List, [], ◌∷◌, Option, Some, None, refl, sym, ◌∙◌, ap, inl, inr, subst, eq-eqb}
use Rattle.std.specs.Prelude.{Contains, IsTrue, Result, Ok, Err, ⊤, nat_lt, ◌==◌, if◌then◌else◌}
use Rattle.std.specs.List.{list_all}
use Rattle.std.proofs.lemmas.Bool.{and_parts, and_from, false_from_ne_true, le-ltb, true≢false}
use Rattle.std.proofs.lemmas.List.Elements.{Contains-append_right}
use Rattle.store_types.specs.declared.refusal.Refusal.{Refusal}
use Rattle.store_types.specs.declared.refusal.Refusal.TheVariants.{NoMemory, NotInUse, NotYours, BadPatch, BadAfter, NotFresh, NotOwned, NotEmpty, ClaimWrong, SizeWrong, TooManyPending, NoSpace, BadType, RootTaken, Exhausted}
use Rattle.store_types.specs.declared.status.Status.TheVariants.{Fresh, Owned}
use Rattle.xn_model.specs.Lists.{blocks_of, distinct, has_number}
use Rattle.xn_model.specs.Types.{Types, changes, claims, fits, named_once, within_size}
use Rattle.xn_model.specs.Root.{slot, owned_by_root, templates_of, roots_of}
use Rattle.xn_model.specs.Lives.{Life, StoreState, life_at, bytes_of, chain_end, current, is_dropped, is_fresh, is_for, is_owned_by, alive_and, lowest_free}
use Rattle.xn_model.specs.Results.{first_refusal, unless, result_and_then}
use Rattle.xn_model.specs.Calls.{Edit, accepts, edit_tests, edited, exhausted, init_at, init_of, is_empty, life_bytes, life_pending, make_root_at, make_root_of, may_add, may_drop, own_life, own_place, owns_nothing, patched, propose_at, propose_of, root_state, slot_now, too_many, was_given, within_limits}
use Rattle.xn_model.specs.Rules.{IsConsistent, IsOwnedBy, NamedIn}
use Rattle.xn_model.proofs.ForCallers.{of_life, addable, all_at, blocks_of_at, ends_itself, has_number_at, last_of, place_from, roots_from, same_end}
use Rattle.ffs_model.specs.Cuts.{Under, root, step, latest}
use Rattle.ffs_model.specs.Shortages.{is_shortage}
use Rattle.ffs_model.proofs.Volumes.{latest_reached}
use Rattle.ffs_model.proofs.Pairs.{all_from}

-- Tests in their order

-- each test fails, or is for want of something
abbrev pub AreShort : List (Bool × Refusal) → Type 0
AreShort [] = ⊤
AreShort (t ∷ tests) = ((t.0 ≡ false) ⊎ (is_shortage t.1 ≡ true)) × AreShort tests

abbrev refusal_of : {A : Type 0} → Result A Refusal → Refusal
refusal_of (Ok x) = NoMemory
refusal_of (Err refusal) = refusal

pub same_refusal : {A : Type 0} (x y : Refusal) → ◌≡◌ {A = Result A Refusal} (Err x) (Err y) → x ≡ y
same_refusal {A} x y e = ap (refusal_of {A = A}) e

abbrev is_err : {A : Type 0} → Result A Refusal → Bool
is_err (Ok x) = false
is_err (Err refusal) = true

pub never_err : {A : Type 0} (x : A) (refusal : Refusal) → ◌≡◌ {A = Result A Refusal} (Ok x) (Err refusal) → ⊥
never_err x refusal e = true≢false (sym (ap is_err e))

tests_short : {A : Type 0} (tests : List (Bool × Refusal)) (given : Result A Refusal) (r : Refusal) → AreShort tests → (given ≡ Err r → is_shortage r ≡ true) → unless (first_refusal tests) given ≡ Err r → is_shortage r ≡ true
tests_short [] given r all last e = last e
tests_short {A} (t ∷ tests) given r all last e = go t.0 refl all.0 (tests_short tests given r all.1 last) e
  where
    go : (b : Bool) → t.0 ≡ b → (t.0 ≡ false) ⊎ (is_shortage t.1 ≡ true) → (unless (first_refusal tests) given ≡ Err r → is_shortage r ≡ true) →
        unless {A = A} (if b then Some t.1 else first_refusal tests) given ≡ Err r → is_shortage r ≡ true
    go true f (inl g) more x = absurd (true≢false (sym f ∙ g))
    go true f (inr g) more x = ap is_shortage (sym (same_refusal {A = A} t.1 r x)) ∙ g
    go false f g more x = more x

failed : (t : Bool) (r : Refusal) → t ≡ true → (not t ≡ false) ⊎ (is_shortage r ≡ true)
failed t r e = inl (ap not e)

-- What is reached

own_passed : (l : Life) (dropped mine : Bool) → dropped ≡ false → mine ≡ true → unless (first_refusal ((dropped, NotInUse) ∷ (not mine, NotYours) ∷ [])) (Ok l) ≡ Ok l
own_passed l true mine d m = absurd (true≢false d)
own_passed l false false d m = absurd (true≢false (sym m))
own_passed l false true d m = refl

pub record IsHeld (T : Types) (state : StoreState) (fs c u : ℕ) : Type 0 where
  pub life : Life
  pub alive : life_at state.lives c ≡ Some life
  pub own : own_life state fs c ≡ Ok life
  pub ty : life.ty ≡ u
  pub owner : ℕ
  pub owned : life.status ≡ Owned owner
  pub fit : fits T u (latest state.lives c) ≡ true

module _ (T : Types) (state : StoreState) (h : IsConsistent T state) (fs : ℕ) (few : fs < 32) where
  pub owner_of : (b t c u : ℕ) (l : Life) → life_at state.lives b ≡ Some l → l.ty ≡ t → Contains (T.owned t (latest state.lives b)) (c, u) → IsOwnedBy state.lives b c
  owner_of b t c u l alive ty i =
      let k = h.linked b l alive in
      let bytes : latest state.lives b ≡ k.last.bytes = ap life_bytes alive ∙ ap bytes_of k.is_last in
      let named : Contains (T.owned l.ty k.last.bytes) (c, u) = subst (λ x. Contains (T.owned x k.last.bytes) (c, u)) (sym ty) (subst (λ m. Contains (T.owned t m) (c, u)) bytes i) in
      k.owned c u (subst (λ o. NamedIn T l.ty o (c, u)) (sym k.is_last) named)

  top_owns : (m : List ℕ) (c u : ℕ) → slot m fs ≡ (c, u) → c ≢ 0 → Contains (T.owned 0 m) (c, u)
  unfolding owned_by_root
  top_owns m c u e ne = subst (λ ps. Contains ps (c, u)) (sym (h.built_ins.root_owns m)) (Contains-append_right (templates_of m) (roots_of m) (c, u) (roots_from m fs c u few e ne))

  has_owner : (c u : ℕ) → Under T (latest state.lives) fs c u → (b : ℕ) × IsOwnedBy state.lives b c
  has_owner c u (root e ne) = let top = h.lives_sound.root in (0, owner_of 0 0 c u top.life top.alive top.ty (top_owns (latest state.lives 0) c u e ne))
  has_owner c u (step {b} {t} r n) = let x = latest_reached T state h fs few b t r in (b, owner_of b t c u x.life x.alive x.ty n)

  -- the chain of its owners ends at block 0
  end_under : (c u : ℕ) → Under T (latest state.lives) fs c u → chain_end state.lives c ≡ 0
  end_under c u (root e ne) =
      let top = h.lives_sound.root in
      same_end state.lives h.chains 0 c (owner_of 0 0 c u top.life top.alive top.ty (top_owns (latest state.lives 0) c u e ne))
      ∙ ends_itself state.lives 0 (record { life = top.life; alive = top.alive; holds = top.unowned })
  end_under c u (step {b} {t} r n) = let x = latest_reached T state h fs few b t r in
      same_end state.lives h.chains b c (owner_of b t c u x.life x.alive x.ty n) ∙ end_under b t r

  -- so nothing that may be added closes it
  pub no_cycle : (c u : ℕ) → Under T (latest state.lives) fs c u → (adds : List (ℕ × ℕ)) → list_all (may_add state fs) adds ≡ true → has_number (blocks_of adds) (chain_end state.lives c) ≡ false
  no_cycle c u r adds may = false_from_ne_true (has_number (blocks_of adds) (chain_end state.lives c)) (λ t.
      let p = blocks_of_at adds (chain_end state.lives c) (has_number_at (blocks_of adds) (chain_end state.lives c) t) in
      (addable T state h fs (chain_end state.lives c) p.0 (all_at (may_add state fs) adds (chain_end state.lives c, p.0) may p.1)).holds.2 (end_under c u r))

  pub held : (c u : ℕ) → Under T (latest state.lives) fs c u → IsHeld T state fs c u
  held c u r =
      let x = latest_reached T state h fs few c u r in
      let o = has_owner c u r in
      let status = of_life o.1 x.life x.alive in
      let k = h.linked c x.life x.alive in
      let fit = (h.lives_sound.each c x.life x.alive).fit k.last (last_of x.life.durable x.life.pending k.last k.is_last) in
      record {
        life = x.life;
        alive = x.alive;
        own = ap (own_place fs) (place_from state.lives c x.life x.alive)
            ∙ own_passed x.life (is_dropped x.life.status) (is_for fs x.life.fs) (ap is_dropped status) (ap (is_for fs) x.system ∙ eq-eqb fs fs refl);
        ty = x.ty;
        owner = o.0;
        owned = status;
        fit = ap (λ m. fits T u m) (ap life_bytes x.alive ∙ ap bytes_of k.is_last) ∙ (ap (λ t. fits T t k.last.bytes) (sym x.ty) ∙ fit);
      }

  pub once_held : (c u : ℕ) → Under T (latest state.lives) fs c u → named_once T u (latest state.lives c) ≡ true
  once_held c u r = (and_parts (named_once T u (latest state.lives c)) (within_size T u (latest state.lives c)) (held c u r).fit).0

  -- what may be added is owned by nothing that is reached
  pub unnamed : (b t c u : ℕ) → Under T (latest state.lives) fs b t → may_add state fs (c, u) ≡ true → Contains (blocks_of (T.owned t (latest state.lives b))) c → ⊥
  unnamed b t c u r may i =
      let p = blocks_of_at (T.owned t (latest state.lives b)) c i in
      let x = held c p.0 (step r p.1) in
      let a = addable T state h fs c u may in
      let status : Owned x.owner ≡ Fresh = sym x.owned ∙ (of_life a x.life x.alive).1 in
      true≢false (sym (ap is_fresh status))

  -- What is owned may be dropped
  module _ (b t : ℕ) (r : Under T (latest state.lives) fs b t) (zs : List (ℕ × ℕ)) (has : (p : ℕ × ℕ) → Contains zs p → Contains (T.owned t (latest state.lives b)) p) where
    pub may_all_drop : list_all (may_drop state b) (blocks_of zs) ≡ true
    may_all_drop = all_from (may_drop state b) (blocks_of zs) (λ c i.
        let p = blocks_of_at zs c i in
        let x = held b t r in
        let o = owner_of b t c p.0 x.life x.alive x.ty (has (c, p.0) p.1) in
        ap (alive_and (λ l. is_owned_by b l.status)) o.alive ∙ (ap (is_owned_by b) o.holds ∙ eq-eqb b b refl))

    pub all_empty : ((c u : ℕ) → Contains zs (c, u) → T.owned u (latest state.lives c) ≡ []) → list_all (is_empty T state) (blocks_of zs) ≡ true
    all_empty none = all_from (is_empty T state) (blocks_of zs) (λ c i.
        let p = blocks_of_at zs c i in
        let x = held c p.0 (step r (has (c, p.0) p.1)) in
        let bytes : T.owned x.life.ty (current x.life) ≡ [] = ap (λ u. T.owned u (current x.life)) x.ty ∙ (ap (T.owned p.0) (sym (ap life_bytes x.alive)) ∙ none c p.0 p.1) in
        ap (alive_and (λ l. owns_nothing T l.ty (current l))) x.alive ∙ ap (λ ps. elim ps [ [] ↦ true | q ∷ qs ↦ false ]) bytes)

-- Edits

pub record IsFit (T : Types) (state : StoreState) (fs b t : ℕ) (e : Edit) : Type 0 where
  pub limits : within_limits e ≡ true
  pub given : IsTrue (was_given state e.after)
  pub adds : list_all (may_add state fs) e.adds ≡ true
  pub adds_once : distinct (blocks_of e.adds) ≡ true
  pub drops : list_all (may_drop state b) e.drops ≡ true
  pub drops_once : distinct e.drops ≡ true
  pub empty : list_all (is_empty T state) e.drops ≡ true
  pub changes : changes T t (latest state.lives b) (patched (latest state.lives b) e.patches) e.adds e.drops ≡ true

tests_of_edit : (T : Types) (state : StoreState) (fs b t : ℕ) (e : Edit) (l : Life) → life_at state.lives b ≡ Some l → l.ty ≡ t → has_number (blocks_of e.adds) (chain_end state.lives b) ≡ false → IsFit T state fs b t e → AreShort (edit_tests T state fs b e l)
tests_of_edit T state fs b t e l alive ty no_loop f =
    let new = patched (current l) e.patches in
    let bytes : latest state.lives b ≡ current l = ap life_bytes alive in
    let all : changes T l.ty (current l) new e.adds e.drops ≡ true =
    subst (λ x. changes T x (current l) new e.adds e.drops ≡ true) (sym ty) (subst (λ m. changes T t m (patched m e.patches) e.adds e.drops ≡ true) bytes f.changes) in
    let one = and_parts (claims T l.ty (current l) new e.adds e.drops) (fits T l.ty new) all in
    let two = and_parts (named_once T l.ty new) (within_size T l.ty new) one.1 in
    let claim : (claims T l.ty (current l) new e.adds e.drops && named_once T l.ty new) ≡ true = and_from (claims T l.ty (current l) new e.adds e.drops) (named_once T l.ty new) one.0 two.0 in
    let adds : (list_all (may_add state fs) e.adds && distinct (blocks_of e.adds)) ≡ true = and_from (list_all (may_add state fs) e.adds) (distinct (blocks_of e.adds)) f.adds f.adds_once in
    let drops : (list_all (may_drop state b) e.drops && distinct e.drops) ≡ true = and_from (list_all (may_drop state b) e.drops) (distinct e.drops) f.drops f.drops_once in (
      inr refl,
      (
        inr refl,
        (
          failed (within_limits e) BadPatch f.limits,
          (
            failed (was_given state e.after) BadAfter f.given,
            (
              failed (list_all (may_add state fs) e.adds && distinct (blocks_of e.adds)) NotFresh adds,
              (
                inl no_loop,
                (
                  failed (list_all (may_drop state b) e.drops && distinct e.drops) NotOwned drops,
                  (
                    failed (list_all (is_empty T state) e.drops) NotEmpty f.empty,
                    (
                      failed (claims T l.ty (current l) new e.adds e.drops && named_once T l.ty new) ClaimWrong claim,
                      (failed (within_size T l.ty new) SizeWrong two.1, tt),
                    ),
                  ),
                ),
              ),
            ),
          ),
        ),
      ),
    )

pub edit_short : (T : Types) (state : StoreState) → IsConsistent T state → (fs : ℕ) → fs < 32 → (b t : ℕ) (e : Edit) → Under T (latest state.lives) fs b t → IsFit T state fs b t e →
    (r : Refusal) → propose_of T state fs b e ≡ Err r → is_shortage r ≡ true
edit_short T state h fs few b t e at f r refused =
    let x = held T state h fs few b t at in
    let l : Life = x.life in
    let given : Result (ℕ × StoreState) Refusal = Ok (accepts state b (edited state.next fs e l)) in
    tests_short (edit_tests T state fs b e l) given r (tests_of_edit T state fs b t e l x.alive x.ty (no_cycle T state h fs few b t at e.adds f.adds) f)
    (λ k. absurd (never_err (accepts state b (edited state.next fs e l)) r k))
    (sym (ap (result_and_then (propose_at T state fs b e)) x.own) ∙ refused)

-- New blocks

pub init_short : (T : Types) (state : StoreState) (fs t : ℕ) (bytes : List ℕ) → 2 ≤ t → IsTrue (T.installed t) → within_size T t bytes ≡ true → T.owned t bytes ≡ [] →
    (r : Refusal) → init_of T state fs t bytes ≡ Err r → is_shortage r ≡ true
init_short T state fs t bytes two there size none r refused =
    tests_short (
    (nat_lt t 2 || not (T.installed t), BadType)
    ∷ (too_many state fs 0, TooManyPending)
    ∷ (exhausted state, Exhausted)
    ∷ (not (within_size T t bytes), SizeWrong)
    ∷ (not (owns_nothing T t bytes), ClaimWrong)
    ∷ []) (init_at state fs t bytes (lowest_free state.lives)) r (
      inl (ap (λ x. x || not (T.installed t)) (le-ltb t 2 two) ∙ ap not there),
      (
        inr refl,
        (
          inr refl,
          (
            failed (within_size T t bytes) SizeWrong size,
            (failed (owns_nothing T t bytes) ClaimWrong (ap (λ ps. elim ps [ [] ↦ true | p ∷ ps ↦ false ]) none), tt),
          ),
        ),
      ),
    )
    (last (lowest_free state.lives)) refused
  where
    last : (o : Option ℕ) → init_at state fs t bytes o ≡ Err r → is_shortage r ≡ true
    last None e = ap is_shortage (sym (same_refusal {A = (ℕ × ℕ) × StoreState} NoSpace r e))
    last (Some b) e = absurd (never_err _ r e)

pub root_short : (T : Types) (state : StoreState) (fs b : ℕ) (l : Life) → own_life state fs b ≡ Ok l → is_fresh l.status ≡ true → (slot_now state fs).0 ≡ 0 →
    (r : Refusal) → make_root_of state fs b ≡ Err r → is_shortage r ≡ true
root_short T state fs b l own fresh empty r refused =
    let done = accepts state 0 (root_state state fs (b, l.ty) ((b, l.ty) ∷ []) []) in
    tests_short (
    (not ((slot_now state fs).0 == 0), RootTaken)
    ∷ (not (is_fresh l.status), NotFresh)
    ∷ (too_many state fs (life_pending (life_at state.lives 0)), TooManyPending)
    ∷ (exhausted state, Exhausted)
    ∷ []) (Ok done) r
    (failed ((slot_now state fs).0 == 0) RootTaken (eq-eqb (slot_now state fs).0 0 empty), (failed (is_fresh l.status) NotFresh fresh, (inr refl, (inr refl, tt))))
    (λ k. absurd (never_err done r k))
    (sym (ap (result_and_then (make_root_at state fs b)) own) ∙ refused)
