-- What the installation of a template does to blocks and histories.
use Rattle.std.proofs.Common.{◌≡◌, ◌≢◌, ℕ, ◌+◌, ◌-◌, ◌<◌, ◌≤◌, cond, List, [], ◌∷◌, length, Some, None, refl, sym, ◌∙◌, ap, inl, inr, subst, arith}
use Rattle.std.specs.Prelude.{Contains}
use Rattle.std.proofs.lemmas.Bool.{cases_eq, eq-eqb, ne_eqb}
use Rattle.std.proofs.lemmas.Option.{same_Some, none-some}
use Rattle.xn_model.specs.Languages.{Language}
use Rattle.xn_model.specs.Types.{Types}
use Rattle.xn_model.specs.Root.{pointer, with_pointer, owned_by_root}
use Rattle.xn_model.specs.Lives.{BlockState, Life, StoreState, life_at, current}
use Rattle.xn_model.specs.Calls.{install_of, install_at, started, new_life, first_state, root_now, types_of, life_bytes}
use Rattle.xn_model.specs.Calls as model
use Rattle.xn_model.specs.Rules.{IsConsistent}
use Rattle.xn_model.proofs.ForCallers.{accepted, Contains-none, Contains-cons, accepted_is, each_forth, set_same, set_other, lowest_is, IsInstalled, begun_kept, pointer_stays, small_life}
use Rattle.xn_history.specs.Histories.{History, Histories, bytes_in, accepting, change_in, start_in, named_catalogue}
use Rattle.xn_history.specs.Moments.{IsHistoryOf, IsHistoryAt, AreHistoriesOf}
use Rattle.xn_history.proofs.Turns.{Turn, Keeps, unmatched, turn_earlier}
use Rattle.xn_history.proofs.Calls.{Turns, accepts_turn, keeps_by, root_bytes, root_long}

module _ (L : Language) (state new : StoreState) (h : IsConsistent (types_of L state.lives) state) (hs : Histories) (known : AreHistoriesOf state.lives hs)
    (bytes : List ℕ) (whole : length bytes ≡ 512) (made : ℕ × ℕ × ℕ) (x : IsInstalled L state bytes made new) where
  abbrev T : Types
  T = types_of L state.lives

  abbrev b : ℕ
  b = x.block

  abbrev begun : StoreState
  begun = started state None 1 bytes b

  within : b < length state.lives
  within = (lowest_is state.lives b x.free).0

  free : life_at state.lives b ≡ None
  free = (lowest_is state.lives b x.free).1

  abbrev start : Life
  start = new_life state.next None 1 bytes

  abbrev first : History
  first = record { fs = None; ty = 1; told = []; untold = first_state state.next None bytes ∷ [] }

  -- between its two entries
  abbrev hs1 : Histories
  hs1 = start_in hs b first

  consistent : IsConsistent T begun
  consistent = (begun_kept L state h bytes whole b x.free).consistent

  not_root : b ≢ 0
  not_root z = let r = h.lives_sound.root in none-some r.life (sym free ∙ (ap (life_at state.lives) z ∙ r.alive))

  same_life : (c : ℕ) → c ≢ b → life_at begun.lives c ≡ life_at state.lives c
  same_life c ne = set_other state.lives b c (Some start) ne

  same_history : (c : ℕ) → c ≢ b → hs1 c ≡ hs c
  same_history c ne = ap (λ t. cond t (Some first) (hs c)) (ne_eqb c b ne)

  begun_at : hs1 b ≡ Some first
  begun_at = ap (λ t. cond t (Some first) (hs b)) (eq-eqb b b refl)

  known1 : AreHistoriesOf begun.lives hs1
  known1 c = elim (cases_eq c b) [
    | inl here ↦
        let alive : life_at begun.lives c ≡ Some start = ap (life_at begun.lives) here ∙ set_same state.lives b (Some start) within in
        let told : hs1 c ≡ Some first = ap (λ t. cond t (Some first) (hs c)) (eq-eqb c b here) in
        subst (λ o. IsHistoryAt o (hs1 c)) (sym alive) (subst (IsHistoryAt (Some start)) (sym told) (record { fs = refl; ty = refl; untold = refl; told = refl }))
    | inr other ↦ subst (λ o. IsHistoryAt o (hs1 c)) (sym (same_life c other)) (subst (IsHistoryAt (life_at state.lives c)) (sym (same_history c other)) (known c))
  ]

  -- the state that block 0 accepts
  abbrev s : BlockState
  s = model.catalogue_state begun x.place b

  same_root : root_now begun ≡ root_now state
  same_root = ap life_bytes (same_life 0 (λ e. not_root (sym e)))

  keeps : (l : Life) (y : History) → life_at begun.lives 0 ≡ Some l → hs1 0 ≡ Some y → IsHistoryOf l y → Keeps T [] y s
  keeps l y alive has of =
      let r = consistent.lives_sound.root in
      let life : r.life ≡ l = same_Some r.life l (sym r.alive ∙ alive) in
      keeps_by T begun begun consistent hs1 known1 l y s [] of (λ d v names out.
      let here : Contains (T.owned r.life.ty (current r.life)) (d, v) = subst (λ (z : Life). Contains (T.owned z.ty (current z)) (d, v)) (sym life) names in
      let listed : Contains (owned_by_root (root_now begun)) (d, v) =
      subst (λ ps. Contains ps (d, v)) (consistent.built_ins.root_owns (root_now begun)) (subst (λ m. Contains (T.owned 0 m) (d, v)) (sym (ap life_bytes r.alive)) (subst (λ t. Contains (T.owned t (current r.life)) (d, v)) r.ty here)) in
      let small = (small_life T begun consistent b start (set_same state.lives b (Some start) within)).0 in
      let stays = pointer_stays (root_now begun) x.place b (root_long T begun begun consistent hs1 known1) x.few small (ap (λ m. pointer m x.place) same_root ∙ x.empty) d v listed in
      let ty : l.ty ≡ 0 = ap (λ (z : Life). z.ty) (sym life) ∙ r.ty in
      subst (λ t. Contains (T.owned t s.bytes) (d, v)) (sym ty) (subst (λ ps. Contains ps (d, v)) (sym (consistent.built_ins.root_owns s.bytes)) stays))

  -- what is heard of it
  abbrev heard_first : History
  heard_first = record { fs = None; ty = 1; told = []; untold = first_state made.2 None bytes ∷ [] }

  abbrev heard_state : BlockState
  heard_state = named_catalogue (made.2 + 1) made.0 made.1 (bytes_in (hs 0))

  abbrev hs2 : Histories
  hs2 = change_in (start_in hs made.1 heard_first) 0 (accepting heard_state)

  type_is : 3 + x.place ≡ made.0
  type_is = ap (λ (m : ℕ × ℕ × ℕ). m.0) x.made_is

  block_is : b ≡ made.1
  block_is = ap (λ (m : ℕ × ℕ × ℕ). m.1) x.made_is

  entry_is : state.next ≡ made.2
  entry_is = ap (λ (m : ℕ × ℕ × ℕ). m.2) x.made_is

  heard_is : heard_state ≡ s
  heard_is =
      let place : made.0 - 3 ≡ x.place = let e = type_is in omega arith in
      let entry : made.2 + 1 ≡ state.next + 1 = let e = entry_is in omega arith in
      let now : bytes_in (hs 0) ≡ root_now begun = root_bytes T state state h hs known ∙ sym same_root in
      λ i. record { bytes = with_pointer (now i) (place i) (block_is_back i); entry = entry i; adds = (block_is_back i, 1) ∷ []; drops = []; after = None; fs = None }
    where
      block_is_back : made.1 ≡ b
      block_is_back = sym block_is

  heard_same : hs1 ≡ start_in hs made.1 heard_first
  heard_same = λ i. start_in hs (block_is i) (record { fs = None; ty = 1; told = []; untold = first_state (entry_is i) None bytes ∷ [] })

  second_turns : Turns T (state.next + 1) [] (Some 0) begun.lives hs1 new.lives hs2
  second_turns =
      subst (λ (y : StoreState). Turns T (state.next + 1) [] (Some 0) begun.lives hs1 y.lives hs2) x.is
      (subst (λ gs. Turns T (state.next + 1) [] (Some 0) begun.lives hs1 (install_at state bytes x.place b).lives (change_in gs 0 (accepting heard_state))) heard_same
      (accepts_turn T begun.lives hs1 known1 0 s heard_state heard_is [] keeps))

  pub install_turns : Turns T state.next [] (Some 0) state.lives hs new.lives hs2
  install_turns c l at = elim (cases_eq c b) [
    | inl here ↦
        let t2 = second_turns c l at in
        let never : hs c ≡ None = unmatched (life_at state.lives c) (hs c) (known c) (ap (life_at state.lives) here ∙ free) in
        record {
          history = t2.history;
          is = t2.is;
          of = t2.of;
          fs = λ y f. absurd (none-some y (sym never ∙ f));
          ty = λ y f. absurd (none-some y (sym never ∙ f));
          extends = λ y f. absurd (none-some y (sym never ∙ f));
          states = λ y f t i. absurd (none-some y (sym never ∙ f));
          entries = λ t i. elim (t2.entries t i) [
            | inl later ↦ inl (omega arith)
            | inr old ↦ inl (first_entry c here old.0 old.1 t old.2)
          ];
        }
    | inr other ↦
        subst (λ o. Turn T state.next [] (Some 0 ≡ Some c) o (hs c) l (hs2 c)) (same_life c other)
        (subst (λ f. Turn T state.next [] (Some 0 ≡ Some c) (life_at begun.lives c) f l (hs2 c)) (same_history c other)
        (turn_earlier T state.next (state.next + 1) [] (Some 0 ≡ Some c) (life_at begun.lives c) (hs1 c) l (hs2 c) (omega arith) (second_turns c l at)))
  ]
    where
      first_entry : (c : ℕ) → c ≡ b → (m : Life) → life_at begun.lives c ≡ Some m → (t : BlockState) → Contains m.pending t → state.next ≤ t.entry
      first_entry c here m alive t i =
          let is : start ≡ m = same_Some start m (sym (ap (life_at begun.lives) here ∙ set_same state.lives b (Some start) within) ∙ alive) in
          elim (Contains-cons (first_state state.next None bytes) [] t (subst (λ (z : Life). Contains z.pending t) (sym is) i)) [
            | inl same ↦ let e : state.next ≡ t.entry = ap (λ (z : BlockState). z.entry) same in omega arith
            | inr none ↦ absurd (Contains-none t none)
          ]

  pub install_next : state.next ≤ new.next
  install_next = let e : state.next + 1 + 1 ≡ new.next = ap (λ (y : StoreState). y.next) x.is in omega arith

  -- no life ends
  pub install_survives : (c : ℕ) (l : Life) → life_at state.lives c ≡ Some l → (m : Life) × (life_at new.lives c ≡ Some m)
  install_survives c l at =
      let other : c ≢ b = λ e. none-some l (sym free ∙ (ap (life_at state.lives) (sym e) ∙ at)) in
      (accepted 0 s c l, ap (λ (y : StoreState). life_at y.lives c) (sym x.is) ∙ (ap (λ xs. life_at xs c) (accepted_is begun.lives 0 s) ∙ each_forth (accepted 0 s) begun.lives c l (same_life c other ∙ at)))
