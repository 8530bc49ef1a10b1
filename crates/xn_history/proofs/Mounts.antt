-- What a crash does to blocks and histories.
use Rattle.std.proofs.Common.{◌≡◌, ℕ, true, false, cond, List, [], ◌∷◌, ◌++◌, length, Option, Some, None, refl, sym, ◌∙◌, ap, inl, inr, subst}
use Rattle.std.specs.Prelude.{Contains, option_to_list, bytes_eq}
use Rattle.std.specs.List.{last_or}
use Rattle.std.proofs.lemmas.Bool.{cases_Bool, false≢true}
use Rattle.std.proofs.lemmas.Option.{same_Some, none-some}
use Rattle.std.proofs.lemmas.Slice.Eq.{bytes_eq-Decides}
use Rattle.std.proofs.lemmas.List.Elements.{Contains-append_cases, Contains-append_left, Contains-append_right}
use Rattle.xn_model.specs.Images.{block_of, Reach}
use Rattle.xn_model.specs.Lives.{BlockState, Life, Lives, life_at, carried, bytes_of, durable_after, on_disk}
use Rattle.xn_model.specs.Mounts.{IsRecovered}
use Rattle.xn_model.specs.Worlds.{World, MayLeave, types_now, types_on}
use Rattle.xn_model.specs.Rules.{Holds}
use Rattle.xn_model.proofs.ForCallers.{Contains-none, Contains-head, Contains-cons, Contains-tail, left_agrees, carried_pending}
use Rattle.xn_history.specs.Histories.{History, Histories, last_told, since, up_to, has_bytes, told_by, found_with}
use Rattle.xn_history.specs.Moments.{IsHistoryOf, AreHistoriesOf}
use Rattle.xn_history.proofs.Turns.{Turn, matched, living, last_append, append_nil}
use Rattle.xn_history.proofs.Owners.{same_system}

has_bytes_from : (m : List ℕ) (o : Option BlockState) → has_bytes m o ≡ true → (s : BlockState) × (o ≡ Some s) × (s.bytes ≡ m)
has_bytes_from m None e = absurd (false≢true e)
has_bytes_from m (Some s) e = (s, refl, (bytes_eq-Decides s.bytes m).0 e)

-- the states up to the first with these bytes end with one that has them
up_to_last : (m : List ℕ) (xs : List BlockState) (o : Option BlockState) (s : BlockState) → Contains xs s → s.bytes ≡ m →
    (t : BlockState) × (last_or o (up_to m xs) ≡ Some t) × (t.bytes ≡ m) × Contains xs t
up_to_last m [] o s i e = absurd (Contains-none s i)
up_to_last m (x ∷ xs) o s i e = elim (cases_Bool (bytes_eq x.bytes m)) [
  | inl equal ↦ (x, ap (λ t. last_or (Some x) (cond t [] (up_to m xs))) equal, (bytes_eq-Decides x.bytes m).0 equal, Contains-head x xs)
  | inr differs ↦
      let later : Contains xs s = elim (Contains-cons x xs s i) [
        | inl same ↦ absurd (false≢true (sym differs ∙ (bytes_eq-Decides x.bytes m).1 (ap (λ (z : BlockState). z.bytes) same ∙ e)))
        | inr k ↦ k
      ] in
      let r = up_to_last m xs (Some x) s later e in
      (r.0, ap (λ t. last_or (Some x) (cond t [] (up_to m xs))) differs ∙ r.1, r.2, Contains-tail x xs r.0 r.3)
]

-- What is told once these bytes are found ends with a state that has them.
pub record Finds (m : List ℕ) (x : History) : Type 0 where
  pub state : BlockState
  pub is_last : last_or None (told_by m x) ≡ Some state
  pub there : state.bytes ≡ m
  pub among : Contains (since x) state
  pub more : List BlockState
  pub longer : told_by m x ≡ x.told ++ more

finds_told : (m : List ℕ) (x : History) → has_bytes m (last_told x) ≡ true → Finds m x
finds_told m x equal =
    let r = has_bytes_from m (last_told x) equal in
    let same : told_by m x ≡ x.told = ap (λ t. cond t x.told (x.told ++ up_to m x.untold)) equal in
    record {
      state = r.0;
      is_last = ap (last_or None) same ∙ r.1;
      there = r.2;
      among = Contains-append_left (option_to_list (last_told x)) x.untold r.0 (subst (λ o. Contains (option_to_list o) r.0) (sym r.1) (Contains-head r.0 []));
      more = [];
      longer = same ∙ sym (append_nil x.told);
    }

finds_untold : (m : List ℕ) (x : History) → has_bytes m (last_told x) ≡ false → (s : BlockState) → Contains x.untold s → s.bytes ≡ m → Finds m x
finds_untold m x differs s i e =
    let r = up_to_last m x.untold (last_told x) s i e in
    let same : told_by m x ≡ x.told ++ up_to m x.untold = ap (λ t. cond t x.told (x.told ++ up_to m x.untold)) differs in
    record {
      state = r.0;
      is_last = ap (last_or None) same ∙ (last_append None x.told (up_to m x.untold) ∙ r.1);
      there = r.2;
      among = Contains-append_right (option_to_list (last_told x)) x.untold r.0 r.3;
      more = up_to m x.untold;
      longer = same;
    }

-- a durable state has the bytes of the last told one
durable_told : (m : List ℕ) (o : Option BlockState) (s : BlockState) → durable_after o ≡ Some s → s.bytes ≡ m → has_bytes m o ≡ true
durable_told m None s e there = absurd (none-some s e)
durable_told m (Some t) s e there = (bytes_eq-Decides t.bytes m).1 (ap (λ (z : BlockState). z.bytes) (same_Some (on_disk t.bytes) s e) ∙ there)

finds : (m : List ℕ) (l : Life) (x : History) → IsHistoryOf l x → (s : BlockState) → Contains (option_to_list l.durable ++ carried l) s → s.bytes ≡ m → Finds m x
finds m l x of s i e = elim (cases_Bool (has_bytes m (last_told x))) [
  | inl equal ↦ finds_told m x equal
  | inr differs ↦ elim (Contains-append_cases (option_to_list l.durable) (carried l) s i) [
    | inl d ↦ absurd (false≢true (sym differs ∙ durable_told m (last_told x) s (of.told ∙ only l.durable d) e))
    | inr c ↦ finds_untold m x differs s (subst (λ xs. Contains xs s) (sym of.untold) (carried_pending l s c)) e
  ]
]
  where
    only : (o : Option BlockState) → Contains (option_to_list o) s → o ≡ Some s
    only None k = absurd (Contains-none s k)
    only (Some t) k = elim (Contains-cons t [] s k) [ inl same ↦ ap Some same | inr none ↦ absurd (Contains-none s none) ]

module _ (w : World) (h : Holds w) (hs : Histories) (known : AreHistoriesOf w.state.lives hs) (image : List (List ℕ)) (may : MayLeave w image) where
  -- the bytes of a reached block are those of a state of its history
  pub reached_finds : (c u : ℕ) → Reach (types_on w image) (length image) (block_of image) c u → (x : History) × (hs c ≡ Some x) × (x.ty ≡ u) × Finds (block_of image c) x
  reached_finds c u r =
      let s = (left_agrees w h image may).states c u r in
      let x = matched (life_at w.state.lives c) (hs c) (known c) s.life s.alive in
      (x.0, x.1, x.2.ty ∙ s.holds.0, finds (block_of image c) s.life x.0 x.2 s.holds.1 s.holds.2 (sym s.holds.3))

  pub crash_turn : (lives : Lives) → IsRecovered (types_on w image) image lives → (next : ℕ) (drops : List ℕ) (Edited : Type 0) (c : ℕ) (l : Life) → life_at lives c ≡ Some l →
      Turn (types_now w) next drops Edited (life_at w.state.lives c) (hs c) l (found_with (Some l) (hs c))
  crash_turn lives rec' next drops Edited c l at =
      let found = rec'.only c l at in
      let x = reached_finds c l.ty found.reached in
      let old = living (life_at w.state.lives c) (hs c) (known c) x.0 x.1 in
      let m : block_of image c ≡ bytes_of l.durable = sym (ap bytes_of found.durable) in
      let f : Finds (bytes_of l.durable) x.0 = subst (λ m. Finds m x.0) m x.3 in
      subst (λ o. Turn (types_now w) next drops Edited (life_at w.state.lives c) o l (found_with (Some l) o)) (sym x.1) (record {
        history = record { fs = x.0.fs; ty = x.0.ty; told = told_by (bytes_of l.durable) x.0; untold = [] };
        is = refl;
        of = record {
          fs = old.2.fs ∙ sym (same_system w h image may lives rec' c l.ty found.reached l old.0 at old.1);
          ty = x.2;
          untold = sym found.nothing;
          told = ap durable_after f.is_last ∙ (ap (λ m. Some (on_disk m)) (f.there ∙ sym m) ∙ sym found.durable);
        };
        fs = λ y e. ap (λ (z : History). z.fs) (same_Some x.0 y e);
        ty = λ y e. ap (λ (z : History). z.ty) (same_Some x.0 y e);
        extends = λ y e. (f.more, f.longer ∙ ap (λ (z : History). z.told ++ f.more) (same_Some x.0 y e));
        states = λ y e s i. inl (subst (λ (z : History). Contains (since z) s) (same_Some x.0 y e) (subst (λ t. Contains (since x.0) t) (last_found f s i) f.among));
        entries = λ s i. absurd (Contains-none s (subst (λ xs. Contains xs s) found.nothing i));
      })
    where
      last_found : {m : List ℕ} {x : History} (f : Finds m x) (s : BlockState) → Contains (option_to_list (last_or None (told_by m x)) ++ []) s → f.state ≡ s
      last_found {m} {x} f s i = elim (Contains-cons f.state [] s (subst (λ o. Contains (option_to_list o ++ []) s) f.is_last i)) [ inl same ↦ same | inr none ↦ absurd (Contains-none s none) ]
