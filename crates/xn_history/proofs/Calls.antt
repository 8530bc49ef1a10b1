-- What each client's call does to blocks and histories.
use Rattle.std.proofs.Common.{◌≡◌, ◌≢◌, ◌^◌, ℕ, ◌+◌, ◌<◌, ◌≤◌, ◌&&◌, cond, not, List, [], ◌∷◌, ◌++◌, length, Option, Some, None, refl, sym, ◌∙◌, ap, inl, inr, subst, Result, Ok, arith}
use Rattle.std.specs.Prelude.{Contains, option_map, ◌==◌, slice_set}
use Rattle.std.proofs.lemmas.Bool.{cases_eq, eq-eqb, ne_eqb, and_parts, not-false, eqb-true}
use Rattle.std.proofs.lemmas.Option.{same_Some, none-some}
use Rattle.xn_model.specs.Types.{Types, claims, named_once}
use Rattle.xn_model.specs.Images.{most_blocks}
use Rattle.xn_model.specs.Root.{slot, with_slot}
use Rattle.xn_model.specs.Lives.{BlockState, Life, Lives, StoreState, life_at, bytes_of, current, is_fresh, accepted_at, lowest_free}
use Rattle.store_types.specs.declared.refusal.Refusal.{Refusal}
use Rattle.store_types.specs.declared.refusal.Refusal.TheVariants.{NoSpace, TooManyPending, Exhausted, NotFresh, NotOwned, NotEmpty, RootTaken}
use Rattle.xn_model.specs.Calls.{Edit, patched, first_state, new_life, init_at, init_refusal, init_of, accepts, edited, propose_of, propose_at, too_many, exhausted, is_empty, root_now, slot_now, life_bytes, root_state, life_pending, make_root_of, make_root_at, drop_root_of, forget_of, forget_at, forget_refusal, edit_tests}
use Rattle.xn_model.specs.Rules.{IsConsistent}
use Rattle.xn_model.proofs.ForCallers.{of_life, accepted, Contains-none, Contains-head, Contains-cons, last_of, accepted_is, each_back, set_same, set_other, freed_is, free_back, given_ok, own_then, same_ok, never_ok, unless_ok, lowest_is, claim_stays, in_newest, fresh_owned, slot_stays, in_range, forgets}
use Rattle.xn_model.specs.Root.{owned_by_root}
use Rattle.xn_history.specs.Histories.{History, Histories, bytes_in, type_in, accepting, change_in, start_in, edit_state, slot_state, rooted}
use Rattle.xn_history.specs.Moments.{IsHistoryOf, AreHistoriesOf}
use Rattle.xn_history.proofs.Turns as turn
use Rattle.xn_history.proofs.Turns.{Turn, Keeps, placed, matched, unmatched, current_is}

-- Each block that is alive after it has its turn.
abbrev pub Turns : Types → ℕ → List ℕ → Option ℕ → Lives → Histories → Lives → Histories → Type 0
Turns T next drops block old hs new hs' = (c : ℕ) (l : Life) → life_at new c ≡ Some l → Turn T next drops (block ≡ Some c) (life_at old c) (hs c) l (hs' c)

module _ (T : Types) (next : ℕ) (drops : List ℕ) (block : Option ℕ) where
  -- where each life is one from before, seen as it was
  pub all_stay : (old new : Lives) (hs : Histories) → AreHistoriesOf old hs →
      ((c : ℕ) (l' : Life) → life_at new c ≡ Some l' → (l : Life) × (life_at old c ≡ Some l) × (l'.fs ≡ l.fs) × (l'.ty ≡ l.ty) × (l'.pending ≡ l.pending) × (l'.durable ≡ l.durable)) →
      Turns T next drops block old hs new hs
  all_stay old new hs known same c l' e =
      let r = same c l' e in
      let x = matched (life_at old c) (hs c) (known c) r.0 r.1 in
      placed (λ o h. Turn T next drops (block ≡ Some c) o h l' h) (life_at old c) (hs c) r.0 x.0 r.1 x.1 (turn.stays T next drops (block ≡ Some c) r.0 l' x.0 x.2 r.2 r.3 r.4 r.5)

  pub none_change : (lives : Lives) (hs : Histories) → AreHistoriesOf lives hs → Turns T next drops block lives hs lives hs
  none_change lives hs known = all_stay lives lives hs known (λ c l e. (l, e, refl, refl, refl, refl))

-- A state is accepted

module _ (T : Types) (old : Lives) (hs : Histories) (known : AreHistoriesOf old hs) (b : ℕ) (s s' : BlockState) (same : s' ≡ s) (drops : List ℕ)
    (keeps : (l : Life) (x : History) → life_at old b ≡ Some l → hs b ≡ Some x → IsHistoryOf l x → Keeps T drops x s) where
  accepts_at : (c : ℕ) (l : Life) (x : History) → life_at old c ≡ Some l → hs c ≡ Some x → IsHistoryOf l x →
      Turn T s.entry drops (Some b ≡ Some c) (Some l) (Some x) (accepted b s c l) (cond (c == b) (option_map (accepting s) (Some x)) (Some x))
  accepts_at c l x e f m = elim (cases_eq c b) [
    | inl here ↦
        let t = eq-eqb c b here in
        subst (λ h. Turn T s.entry drops (Some b ≡ Some c) (Some l) (Some x) (accepted b s c l) h) (ap (λ t. cond t (option_map (accepting s) (Some x)) (Some x)) (sym t))
        (turn.accepts T s.entry drops (Some b ≡ Some c) l (accepted b s c l) x s m refl refl (ap (λ t. cond t (l.pending ++ s ∷ []) l.pending) t) refl (omega arith) (ap Some (sym here))
        (keeps l x (ap (life_at old) (sym here) ∙ e) (ap hs (sym here) ∙ f) m))
    | inr other ↦
        let t = ne_eqb c b other in
        subst (λ h. Turn T s.entry drops (Some b ≡ Some c) (Some l) (Some x) (accepted b s c l) h) (ap (λ t. cond t (option_map (accepting s) (Some x)) (Some x)) (sym t))
        (turn.stays T s.entry drops (Some b ≡ Some c) l (accepted b s c l) x m refl refl (ap (λ t. cond t (l.pending ++ s ∷ []) l.pending) t) refl)
  ]

  pub accepts_turn : Turns T s.entry drops (Some b) old hs (accepted_at old b s) (change_in hs b (accepting s'))
  accepts_turn c l' e =
      let r = each_back (accepted b s) old c l' (ap (λ xs. life_at xs c) (sym (accepted_is old b s)) ∙ e) in
      let x = matched (life_at old c) (hs c) (known c) r.0 r.1 in
      subst (λ t. Turn T s.entry drops (Some b ≡ Some c) (life_at old c) (hs c) l' (cond (c == b) (option_map (accepting t) (hs c)) (hs c))) (sym same)
      (subst (λ l. Turn T s.entry drops (Some b ≡ Some c) (life_at old c) (hs c) l (cond (c == b) (option_map (accepting s) (hs c)) (hs c))) (sym r.2)
      (placed (λ o h. Turn T s.entry drops (Some b ≡ Some c) o h (accepted b s c r.0) (cond (c == b) (option_map (accepting s) h) h)) (life_at old c) (hs c) r.0 x.0 r.1 x.1 (accepts_at c r.0 x.0 r.1 x.1 x.2)))

-- Edits

module _ (T : Types) (state new : StoreState) (h : IsConsistent T state) (hs : Histories) (known : AreHistoriesOf state.lives hs) where
  -- what a newest state names, and does not drop, the next one names
  pub keeps_by : (l : Life) (x : History) (s : BlockState) (drops : List ℕ) → IsHistoryOf l x →
      ((d u : ℕ) → Contains (T.owned l.ty (current l)) (d, u) → (Contains drops d → ⊥) → Contains (T.owned l.ty s.bytes) (d, u)) → Keeps T drops x s
  keeps_by l x s drops m stay d u names out =
      let before : Contains (T.owned l.ty (current l)) (d, u) = subst (λ t. Contains (T.owned t (current l)) (d, u)) m.ty (subst (λ bytes. Contains (T.owned x.ty bytes) (d, u)) (sym (current_is l x m)) names) in
      subst (λ t. Contains (T.owned t s.bytes) (d, u)) (sym m.ty) (stay d u before out)

  by_accepting : (b : ℕ) (s s' : BlockState) (entry : ℕ) (drops : List ℕ) → ◌≡◌ {A = Result (ℕ × StoreState) Refusal} (Ok (accepts state b s)) (Ok (entry, new)) → s.entry ≡ state.next → (state.next ≡ entry → s' ≡ s) →
      ((l : Life) (x : History) → life_at state.lives b ≡ Some l → hs b ≡ Some x → IsHistoryOf l x → Keeps T drops x s) →
      Turns T state.next drops (Some b) state.lives hs new.lives (change_in hs b (accepting s')) × (state.next ≤ new.next)
  by_accepting b s s' entry drops e number same keeps =
      let p = same_ok (accepts state b s) (entry, new) e in
      let told : state.next ≡ entry = ap (λ (x : ℕ × StoreState). x.0) p in
      let lives : accepted_at state.lives b s ≡ new.lives = ap (λ (x : ℕ × StoreState). x.1.lives) p in
      let more : state.next + 1 ≡ new.next = ap (λ (x : ℕ × StoreState). x.1.next) p in (
        subst (λ xs. Turns T state.next drops (Some b) state.lives hs xs (change_in hs b (accepting s'))) lives
            (subst (λ n. Turns T n drops (Some b) state.lives hs (accepted_at state.lives b s) (change_in hs b (accepting s'))) number
            (accepts_turn T state.lives hs known b s s' (same told) drops keeps)),
        omega arith,
      )

  pub propose_turns : (fs b : ℕ) (e : Edit) (entry : ℕ) → propose_of T state fs b e ≡ Ok (entry, new) →
      Turns T state.next e.drops (Some b) state.lives hs new.lives (change_in hs b (accepting (edit_state entry fs e (bytes_in (hs b))))) × (state.next ≤ new.next)
  propose_turns fs b e entry done =
      let own = own_then state fs b (propose_at T state fs b e) (entry, new) done in
      let l : Life = own.0 in
      let m = patched (current l) e.patches in
      let u = unless_ok (edit_tests T state fs b e l) (Ok (accepts state b (edited state.next fs e l))) (entry, new) own.2 in
      let claim = (and_parts (claims T l.ty (current l) m e.adds e.drops) (named_once T l.ty m) (not-false (claims T l.ty (current l) m e.adds e.drops && named_once T l.ty m) u.0.1.1.1.1.1.1.1.1.0)).0 in
      let x = matched (life_at state.lives b) (hs b) (known b) l own.1.alive in
      let bytes : bytes_in (hs b) ≡ current l = ap bytes_in x.1 ∙ sym (current_is l x.0 x.2) in
      by_accepting b (edited state.next fs e l) (edit_state entry fs e (bytes_in (hs b))) entry e.drops u.1 refl
      (λ told. (λ i. edit_state (sym told i) fs e (bytes i)))
      (λ k y alive has of.
      let same : l ≡ k = same_Some l k (sym own.1.alive ∙ alive) in
      keeps_by k y (edited state.next fs e l) e.drops of (λ d v names out.
      subst (λ (z : Life). Contains (T.owned z.ty m) (d, v)) same (claim_stays T l.ty (current l) m e.adds e.drops d v claim (subst (λ (z : Life). Contains (T.owned z.ty (current z)) (d, v)) (sym same) names) out)))

  pub root_bytes : bytes_in (hs 0) ≡ root_now state
  root_bytes =
      let r = h.lives_sound.root in
      let x = matched (life_at state.lives 0) (hs 0) (known 0) r.life r.alive in
      ap bytes_in x.1 ∙ (sym (current_is r.life x.0 x.2) ∙ sym (ap life_bytes r.alive))

  -- block 0's newest bytes
  root_is : root_now state ≡ current h.lives_sound.root.life
  root_is = ap life_bytes h.lives_sound.root.alive

  pub root_long : length (root_now state) ≡ 512
  root_long =
      let r = h.lives_sound.root in
      let linked = h.linked 0 r.life r.alive in
      ap length root_is ∙ (ap (λ o. length (bytes_of o)) linked.is_last ∙ r.long linked.last (last_of r.life.durable r.life.pending linked.last linked.is_last))

  -- what they name isn't block 0
  root_names : (d v : ℕ) → Contains (T.owned h.lives_sound.root.life.ty (current h.lives_sound.root.life)) (d, v) → d ≢ 0
  root_names d v names zero =
      let r = h.lives_sound.root in
      let linked = h.linked 0 r.life r.alive in
      let o = linked.owned d v (in_newest T state.lives 0 r.life linked (d, v) names) in
      fresh_owned 0 (sym r.unowned ∙ of_life o r.life (ap (life_at state.lives) zero ∙ r.alive))

  -- a root slot's change keeps what another place names
  slot_keeps : (fs : ℕ) → fs < 32 → (p : ℕ × ℕ) → p.0 < 2 ^ 32 → p.1 < 2 ^ 32 → (drops : List ℕ) → ((d v : ℕ) → d ≢ 0 → slot (root_now state) fs ≡ (d, v) → Contains drops d) → (s : BlockState) → s.bytes ≡ with_slot (root_now state) fs p →
      (l : Life) (x : History) → life_at state.lives 0 ≡ Some l → hs 0 ≡ Some x → IsHistoryOf l x → Keeps T drops x s
  slot_keeps fs few p small small' drops gone s bytes l x alive has of =
      let r = h.lives_sound.root in
      let life : r.life ≡ l = same_Some r.life l (sym r.alive ∙ alive) in
      keeps_by l x s drops of (λ d v names out.
      let here : Contains (T.owned r.life.ty (current r.life)) (d, v) = subst (λ (z : Life). Contains (T.owned z.ty (current z)) (d, v)) (sym life) names in
      let listed : Contains (owned_by_root (root_now state)) (d, v) =
      subst (λ ps. Contains ps (d, v)) (h.built_ins.root_owns (root_now state)) (subst (λ m. Contains (T.owned 0 m) (d, v)) (sym root_is) (subst (λ t. Contains (T.owned t (current r.life)) (d, v)) r.ty here)) in
      let stays = slot_stays (root_now state) fs p root_long few small small' d v listed (λ e. out (gone d v (root_names d v here) e)) in
      subst (λ m. Contains (T.owned l.ty m) (d, v)) (sym bytes)
      (subst (λ t. Contains (T.owned t (with_slot (root_now state) fs p)) (d, v)) (sym r.ty ∙ ap (λ (z : Life). z.ty) life) (subst (λ ps. Contains ps (d, v)) (sym (h.built_ins.root_owns (with_slot (root_now state) fs p))) stays)))

  -- a block and its type fit a root slot
  small_life : (b : ℕ) (l : Life) → life_at state.lives b ≡ Some l → (b < 2 ^ 32) × (l.ty < 2 ^ 32)
  small_life b l alive =
      let lt : b < length state.lives = in_range T state h b l alive in
      let top : length state.lives ≤ most_blocks = h.size.1 in
      let low = h.built_ins.few l.ty (h.linked b l alive).installed in
      (omega arith, omega arith)

  pub make_root_turns : (fs : ℕ) → fs < 32 → (b entry : ℕ) → make_root_of state fs b ≡ Ok (entry, new) →
      Turns T state.next [] (Some 0) state.lives hs new.lives (change_in hs 0 (accepting (slot_state entry fs (b, type_in (hs b)) ((b, type_in (hs b)) ∷ []) [] (bytes_in (hs 0))))) × (state.next ≤ new.next)
  make_root_turns fs few b entry done =
      let own = own_then state fs b (make_root_at state fs b) (entry, new) done in
      let l : Life = own.0 in
      let next = root_state state fs (b, l.ty) ((b, l.ty) ∷ []) [] in
      let u = unless_ok (
      (not ((slot_now state fs).0 == 0), RootTaken)
      ∷ (not (is_fresh l.status), NotFresh)
      ∷ (too_many state fs (life_pending (life_at state.lives 0)), TooManyPending)
      ∷ (exhausted state, Exhausted)
      ∷ []) (Ok (accepts state 0 next)) (entry, new) own.2 in
      let x = matched (life_at state.lives b) (hs b) (known b) l own.1.alive in
      let ty : type_in (hs b) ≡ l.ty = ap type_in x.1 ∙ x.2.ty in
      by_accepting 0 next (slot_state entry fs (b, type_in (hs b)) ((b, type_in (hs b)) ∷ []) [] (bytes_in (hs 0))) entry [] u.1 refl
      (λ told. (λ i. slot_state (sym told i) fs (b, ty i) ((b, ty i) ∷ []) [] (root_bytes i)))
      (slot_keeps fs few (b, l.ty) (small_life b l own.1.alive).0 (small_life b l own.1.alive).1 [] (λ d v ne e.
      absurd (ne (sym (ap (λ (q : ℕ × ℕ). q.0) e) ∙ eqb-true (slot_now state fs).0 0 (not-false ((slot_now state fs).0 == 0) u.0.0)))) next refl)

  pub drop_root_turns : (fs : ℕ) → fs < 32 → (entry : ℕ) → drop_root_of T state fs ≡ Ok (entry, new) →
      Turns T state.next (rooted hs fs ∷ []) (Some 0) state.lives hs new.lives (change_in hs 0 (accepting (slot_state entry fs (0, 0) [] (rooted hs fs ∷ []) (bytes_in (hs 0))))) × (state.next ≤ new.next)
  drop_root_turns fs few entry done =
      let next = root_state state fs (0, 0) [] ((slot_now state fs).0 ∷ []) in
      let u = unless_ok (
      ((slot_now state fs).0 == 0, NotOwned)
      ∷ (not (is_empty T state (slot_now state fs).0), NotEmpty)
      ∷ (too_many state fs (life_pending (life_at state.lives 0)), TooManyPending)
      ∷ (exhausted state, Exhausted)
      ∷ []) (Ok (accepts state 0 next)) (entry, new) done in
      let slot_is : rooted hs fs ≡ (slot_now state fs).0 = ap (λ m. (slot m fs).0) root_bytes in
      by_accepting 0 next (slot_state entry fs (0, 0) [] (rooted hs fs ∷ []) (bytes_in (hs 0))) entry (rooted hs fs ∷ []) u.1 refl
      (λ told. (λ i. slot_state (sym told i) fs (0, 0) [] (slot_is i ∷ []) (root_bytes i)))
      (slot_keeps fs few (0, 0) (omega arith) (omega arith) (rooted hs fs ∷ []) (λ d v ne e.
      subst (λ x. Contains (rooted hs fs ∷ []) x) (slot_is ∙ ap (λ (q : ℕ × ℕ). q.0) e) (Contains-head (rooted hs fs) [])) next refl)

-- A life begins

pub starts : (T : Types) (state : StoreState) (hs : Histories) → AreHistoriesOf state.lives hs → (b entry : ℕ) (fs : Option ℕ) (t : ℕ) (m : List ℕ) → b < length state.lives → life_at state.lives b ≡ None → entry ≡ state.next →
    Turns T state.next [] None state.lives hs (slice_set state.lives b (Some (new_life state.next fs t m))) (start_in hs b (record { fs = fs; ty = t; told = []; untold = first_state entry fs m ∷ [] }))
starts T state hs known b entry fs t m within free number c l' e = elim (cases_eq c b) [
  | inl here ↦
      let start : Life = new_life state.next fs t m in
      let begins : History = record { fs = fs; ty = t; told = []; untold = first_state entry fs m ∷ [] } in
      let is : start ≡ l' = same_Some start l' (sym (ap (life_at (slice_set state.lives b (Some start))) here ∙ set_same state.lives b (Some start) within) ∙ e) in
      let never : hs c ≡ None = unmatched (life_at state.lives c) (hs c) (known c) (ap (life_at state.lives) here ∙ free) in
      subst (λ l. Turn T state.next [] (None ≡ Some c) (life_at state.lives c) (hs c) l (cond (c == b) (Some begins) (hs c))) is (record {
        history = begins;
        is = ap (λ t. cond t (Some begins) (hs c)) (eq-eqb c b here);
        of = record { fs = refl; ty = refl; untold = ap (λ n. first_state n fs m ∷ []) number; told = refl };
        fs = λ x f. absurd (none-some x (sym never ∙ f));
        ty = λ x f. absurd (none-some x (sym never ∙ f));
        extends = λ x f. absurd (none-some x (sym never ∙ f));
        states = λ x f s i. absurd (none-some x (sym never ∙ f));
        entries = λ s i. inl (elim (Contains-cons (first_state state.next fs m) [] s i) [ inl same ↦ let e : state.next ≡ s.entry = ap (λ (z : BlockState). z.entry) same in omega arith | inr none ↦ absurd (Contains-none s none) ]);
      })
  | inr other ↦
      let alive : life_at state.lives c ≡ Some l' = sym (set_other state.lives b c (Some (new_life state.next fs t m)) other) ∙ e in
      let x = matched (life_at state.lives c) (hs c) (known c) l' alive in
      let begins : History = record { fs = fs; ty = t; told = []; untold = first_state entry fs m ∷ [] } in
      placed (λ o h. Turn T state.next [] (None ≡ Some c) o h l' (cond (c == b) (Some begins) h)) (life_at state.lives c) (hs c) l' x.0 alive x.1
      (subst (λ t. Turn T state.next [] (None ≡ Some c) (Some l') (Some x.0) l' (cond t (Some begins) (Some x.0))) (sym (ne_eqb c b other)) (turn.stays T state.next [] (None ≡ Some c) l' l' x.0 x.2 refl refl refl refl))
]

inits_at : (T : Types) (state new : StoreState) (hs : Histories) → AreHistoriesOf state.lives hs → (fs t : ℕ) (m : List ℕ) (o : Option ℕ) (made : ℕ × ℕ) → lowest_free state.lives ≡ o → init_at state fs t m o ≡ Ok (made, new) →
    Turns T state.next [] None state.lives hs new.lives (start_in hs made.0 (record { fs = Some fs; ty = t; told = []; untold = first_state made.1 (Some fs) m ∷ [] })) × (state.next ≤ new.next)
inits_at T state new hs known fs t m None made at e = absurd (never_ok NoSpace (made, new) e)
inits_at T state new hs known fs t m (Some b) made at e =
    let r = lowest_is state.lives b at in
    let after : StoreState = record { lives = slice_set state.lives b (Some (new_life state.next (Some fs) t m)); next = state.next + 1 } in
    let p = same_ok ((b, state.next), after) (made, new) e in
    let block : b ≡ made.0 = ap (λ (x : (ℕ × ℕ) × StoreState). x.0.0) p in
    let entry : state.next ≡ made.1 = ap (λ (x : (ℕ × ℕ) × StoreState). x.0.1) p in
    let lives : after.lives ≡ new.lives = ap (λ (x : (ℕ × ℕ) × StoreState). x.1.lives) p in
    let more : state.next + 1 ≡ new.next = ap (λ (x : (ℕ × ℕ) × StoreState). x.1.next) p in (
      subst (λ xs. Turns T state.next [] None state.lives hs xs (start_in hs made.0 (record { fs = Some fs; ty = t; told = []; untold = first_state made.1 (Some fs) m ∷ [] }))) lives
          (subst (λ c. Turns T state.next [] None state.lives hs after.lives (start_in hs c (record { fs = Some fs; ty = t; told = []; untold = first_state made.1 (Some fs) m ∷ [] }))) block
          (starts T state hs known b made.1 (Some fs) t m r.0 r.1 (sym entry))),
      omega arith,
    )

pub init_turns : (T : Types) (state new : StoreState) (hs : Histories) → AreHistoriesOf state.lives hs → (fs t : ℕ) (m : List ℕ) (made : ℕ × ℕ) → init_of T state fs t m ≡ Ok (made, new) →
    Turns T state.next [] None state.lives hs new.lives (start_in hs made.0 (record { fs = Some fs; ty = t; told = []; untold = first_state made.1 (Some fs) m ∷ [] })) × (state.next ≤ new.next)
init_turns T state new hs known fs t m made e =
    inits_at T state new hs known fs t m (lowest_free state.lives) made refl (given_ok (init_refusal T state fs t m) (init_at state fs t m (lowest_free state.lives)) (made, new) e)

-- A life is forgotten

pub forget_turns : (T : Types) (state new : StoreState) (hs : Histories) → AreHistoriesOf state.lives hs → (fs b : ℕ) (none : Unit {0}) → forget_of T state fs b ≡ Ok (none, new) →
    Turns T state.next [] None state.lives hs new.lives hs
forget_turns T state new hs known fs b none e =
    let r = forgets T state new fs b none e in
    all_stay T state.next [] None state.lives new.lives hs known (λ c l alive.
    let at = free_back (b ∷ []) state.lives c l (ap (λ xs. life_at xs c) (sym (freed_is state.lives (b ∷ []))) ∙ (ap (λ xs. life_at xs c) r.0 ∙ alive)) in
    (l, at.1, refl, refl, refl, refl))

pub forget_next : (T : Types) (state new : StoreState) (fs b : ℕ) (none : Unit {0}) → forget_of T state fs b ≡ Ok (none, new) → state.next ≡ new.next
forget_next T state new fs b none e =
    let own = own_then state fs b (forget_at T state b) (none, new) e in
    let given = given_ok (forget_refusal T own.0) (Ok (tt, record state { lives = slice_set state.lives b None })) (none, new) own.2 in
    ap (λ (x : Unit {0} × StoreState). x.1.next) (same_ok (tt, record state { lives = slice_set state.lives b None }) (none, new) given)
