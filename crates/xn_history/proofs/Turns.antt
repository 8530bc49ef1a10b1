-- What one event may do to a block that is alive after it, and to its history.
use Rattle.std.proofs.Common.{◌≡◌, ◌⊎◌, ◌≤◌, ℕ, List, [], ◌∷◌, ◌++◌, take, drop, Option, Some, None, refl, sym, ◌∙◌, ap, inl, inr, subst, arith}
use Rattle.std.specs.Prelude.{Contains, option_to_list}
use Rattle.std.specs.List.{last_or}
use Rattle.std.proofs.lemmas.Option.{same_Some, none-some}
use Rattle.std.proofs.lemmas.List.Elements.{Contains-append_cases, Contains-append_left, Contains-append_right}
use Rattle.xn_model.specs.Types.{Types}
use Rattle.xn_model.specs.Lives.{BlockState, Life, bytes_of, current, durable_after}
use Rattle.xn_model.proofs.ForCallers.{Contains-none, Contains-cons, Contains-drop, last_of, settled_fewer}
use Rattle.xn_history.specs.Histories.{History, last_told, since, newest_bytes, accepting, telling, telling_all}
use Rattle.xn_history.specs.Moments.{IsHistoryOf, IsHistoryAt}

-- Lists

pub last_append : {A : Type 0} (o : Option A) (xs ys : List A) → last_or o (xs ++ ys) ≡ last_or (last_or o xs) ys
last_append o [] ys = refl
last_append o (x ∷ xs) ys = last_append (Some x) xs ys

pub append_nil : (xs : List BlockState) → xs ++ [] ≡ xs
append_nil [] = refl
append_nil (y ∷ ys) = ap (λ zs. y ∷ zs) (append_nil ys)

pub bare_twice : (o : Option BlockState) → durable_after (durable_after o) ≡ durable_after o
bare_twice None = refl
bare_twice (Some s) = refl

pub bare_last : (o : Option BlockState) (xs : List BlockState) → durable_after (last_or (durable_after o) xs) ≡ durable_after (last_or o xs)
bare_last o [] = bare_twice o
bare_last o (x ∷ xs) = refl

bare_bytes : (o : Option BlockState) → bytes_of (durable_after o) ≡ bytes_of o
bare_bytes None = refl
bare_bytes (Some s) = refl

bytes_last : (o : Option BlockState) (xs : List BlockState) → bytes_of (last_or (durable_after o) xs) ≡ bytes_of (last_or o xs)
bytes_last o [] = bare_bytes o
bytes_last o (x ∷ xs) = refl

-- A life and its history

pub current_is : (l : Life) (h : History) → IsHistoryOf l h → current l ≡ newest_bytes h
current_is l h m = ap (λ o. bytes_of (last_or o l.pending)) (sym m.told) ∙ (ap (λ xs. bytes_of (last_or (durable_after (last_told h)) xs)) (sym m.untold) ∙ bytes_last (last_told h) h.untold)

pub matched : (o : Option Life) (h : Option History) → IsHistoryAt o h → (l : Life) → o ≡ Some l → (x : History) × (h ≡ Some x) × IsHistoryOf l x
matched None h m l e = absurd (none-some l e)
matched (Some k) None m l e = absurd m
matched (Some k) (Some x) m l e = (x, refl, subst (λ y. IsHistoryOf y x) (same_Some k l e) m)

pub living : (o : Option Life) (h : Option History) → IsHistoryAt o h → (x : History) → h ≡ Some x → (l : Life) × (o ≡ Some l) × IsHistoryOf l x
living None None m x e = absurd (none-some x e)
living None (Some y) m x e = absurd m
living (Some l) None m x e = absurd m
living (Some l) (Some y) m x e = (l, refl, subst (IsHistoryOf l) (same_Some y x e) m)

pub unmatched : (o : Option Life) (h : Option History) → IsHistoryAt o h → o ≡ None → h ≡ None
unmatched None None m e = refl
unmatched None (Some x) m e = absurd m
unmatched (Some l) h m e = absurd (none-some l (sym e))

-- What an event does

-- a state that names what was named and is not dropped
abbrev pub Keeps : Types → List ℕ → History → BlockState → Type 0
Keeps T drops x s = (d u : ℕ) → Contains (T.owned x.ty (newest_bytes x)) (d, u) → (Contains drops d → ⊥) → Contains (T.owned x.ty s.bytes) (d, u)

pub record Turn (T : Types) (next : ℕ) (drops : List ℕ) (Edited : Type 0) (o : Option Life) (h : Option History) (l : Life) (h' : Option History) : Type 0 where
  -- it has a history
  pub history : History
  pub is : h' ≡ Some history
  pub of : IsHistoryOf l history
  -- which goes on from that before
  pub fs : (x : History) → h ≡ Some x → history.fs ≡ x.fs
  pub ty : (x : History) → h ≡ Some x → history.ty ≡ x.ty
  pub extends : (x : History) → h ≡ Some x → (more : List BlockState) × (history.told ≡ x.told ++ more)
  pub states : (x : History) → h ≡ Some x → (s : BlockState) → Contains (since history) s → Contains (since x) s ⊎ (Edited × Keeps T drops x s)
  -- what is pending was pending, or has a new number
  pub entries : (s : BlockState) → Contains l.pending s → (next ≤ s.entry) ⊎ ((m : Life) × (o ≡ Some m) × Contains m.pending s)

-- What holds of one place is put where it stands.
pub placed : (P : Option Life → Option History → Type 0) (o : Option Life) (h : Option History) (l : Life) (x : History) → o ≡ Some l → h ≡ Some x → P (Some l) (Some x) → P o h
placed P o h l x e f p = subst (λ a. P a h) (sym e) (subst (λ b. P (Some l) b) (sym f) p)

-- new numbers are above earlier ones
pub turn_earlier : (T : Types) (next later : ℕ) (drops : List ℕ) (Edited : Type 0) (o : Option Life) (h : Option History) (l : Life) (h' : Option History) → next ≤ later → Turn T later drops Edited o h l h' → Turn T next drops Edited o h l h'
turn_earlier T next later drops Edited o h l h' le t = record {
  history = t.history;
  is = t.is;
  of = t.of;
  fs = t.fs;
  ty = t.ty;
  extends = t.extends;
  states = t.states;
  entries = λ s i. elim (t.entries s i) [ inl new ↦ inl (omega arith) | inr old ↦ inr old ];
}

module _ (T : Types) (next : ℕ) (drops : List ℕ) (Edited : Type 0) where
  -- nothing
  pub stays : (l l' : Life) (x : History) → IsHistoryOf l x → l'.fs ≡ l.fs → l'.ty ≡ l.ty → l'.pending ≡ l.pending → l'.durable ≡ l.durable → Turn T next drops Edited (Some l) (Some x) l' (Some x)
  stays l l' x m fs ty pending durable = record {
    history = x;
    is = refl;
    of = record { fs = m.fs ∙ sym fs; ty = m.ty ∙ sym ty; untold = m.untold ∙ sym pending; told = m.told ∙ sym durable };
    fs = λ y e. ap (λ (z : History). z.fs) (same_Some x y e);
    ty = λ y e. ap (λ (z : History). z.ty) (same_Some x y e);
    extends = λ y e. ([], ap (λ (z : History). z.told) (same_Some x y e) ∙ sym (append_nil y.told));
    states = λ y e s i. inl (subst (λ (z : History). Contains (since z) s) (same_Some x y e) i);
    entries = λ s i. inr (l, refl, subst (λ xs. Contains xs s) pending i);
  }

  -- one more state
  pub accepts : (l l' : Life) (x : History) (s : BlockState) → IsHistoryOf l x → l'.fs ≡ l.fs → l'.ty ≡ l.ty → l'.pending ≡ l.pending ++ s ∷ [] → l'.durable ≡ l.durable → next ≤ s.entry → Edited → Keeps T drops x s →
      Turn T next drops Edited (Some l) (Some x) l' (Some (accepting s x))
  accepts l l' x s m fs ty pending durable number edited keeps = record {
    history = accepting s x;
    is = refl;
    of = record { fs = m.fs ∙ sym fs; ty = m.ty ∙ sym ty; untold = ap (λ xs. xs ++ s ∷ []) m.untold ∙ sym pending; told = m.told ∙ sym durable };
    fs = λ y e. ap (λ (z : History). z.fs) (same_Some x y e);
    ty = λ y e. ap (λ (z : History). z.ty) (same_Some x y e);
    extends = λ y e. ([], ap (λ (z : History). z.told) (same_Some x y e) ∙ sym (append_nil y.told));
    states = λ y e t i. subst (λ (z : History). Contains (since z) t ⊎ (Edited × Keeps T drops z t)) (same_Some x y e) (older t i);
    entries = λ t i. elim (Contains-append_cases l.pending (s ∷ []) t (subst (λ xs. Contains xs t) pending i)) [
      | inl old ↦ inr (l, refl, old)
      | inr new ↦ inl (elim (Contains-cons s [] t new) [ inl same ↦ subst (λ (z : BlockState). next ≤ z.entry) same number | inr none ↦ absurd (Contains-none t none) ])
    ];
  }
    where
      older : (t : BlockState) → Contains (since (accepting s x)) t → Contains (since x) t ⊎ (Edited × Keeps T drops x t)
      older t i = elim (Contains-append_cases (option_to_list (last_told x)) (x.untold ++ s ∷ []) t i) [
        | inl told ↦ inl (Contains-append_left (option_to_list (last_told x)) x.untold t told)
        | inr later ↦ elim (Contains-append_cases x.untold (s ∷ []) t later) [
          | inl old ↦ inl (Contains-append_right (option_to_list (last_told x)) x.untold t old)
          | inr new ↦ inr (edited, elim (Contains-cons s [] t new) [ inl same ↦ subst (Keeps T drops x) same keeps | inr none ↦ absurd (Contains-none t none) ])
        ]
      ]

  -- some states are told durable
  pub tells : (l l' : Life) (x : History) (k : ℕ) → IsHistoryOf l x → l'.fs ≡ l.fs → l'.ty ≡ l.ty → l'.pending ≡ drop k l.pending → l'.durable ≡ durable_after (last_or l.durable (take k l.pending)) →
      Turn T next drops Edited (Some l) (Some x) l' (Some (telling k x))
  tells l l' x k m fs ty pending durable = record {
    history = telling k x;
    is = refl;
    of = record {
      fs = m.fs ∙ sym fs;
      ty = m.ty ∙ sym ty;
      untold = ap (drop k) m.untold ∙ sym pending;
      told = ap durable_after (last_append None x.told (take k x.untold))
          ∙ (sym (bare_last (last_told x) (take k x.untold))
          ∙ (ap (λ o. durable_after (last_or o (take k x.untold))) m.told ∙ (ap (λ xs. durable_after (last_or l.durable (take k xs))) m.untold ∙ sym durable)));
    };
    fs = λ y e. ap (λ (z : History). z.fs) (same_Some x y e);
    ty = λ y e. ap (λ (z : History). z.ty) (same_Some x y e);
    extends = λ y e. (take k x.untold, ap (λ (z : History). z.told ++ take k x.untold) (same_Some x y e));
    states = λ y e s i. inl (subst (λ (z : History). Contains (since z) s) (same_Some x y e)
        (settled_fewer (last_told x) k x.untold s (subst (λ o. Contains (option_to_list o ++ drop k x.untold) s) (last_append None x.told (take k x.untold)) i)));
    entries = λ s i. inr (l, refl, Contains-drop k l.pending s (subst (λ xs. Contains xs s) pending i));
  }

  -- all are
  pub tells_all : (l l' : Life) (x : History) → IsHistoryOf l x → l'.fs ≡ l.fs → l'.ty ≡ l.ty → l'.pending ≡ [] → l'.durable ≡ durable_after (last_or l.durable l.pending) →
      Turn T next drops Edited (Some l) (Some x) l' (Some (telling_all x))
  tells_all l l' x m fs ty pending durable = record {
    history = telling_all x;
    is = refl;
    of = record {
      fs = m.fs ∙ sym fs;
      ty = m.ty ∙ sym ty;
      untold = sym pending;
      told = ap durable_after (last_append None x.told x.untold)
          ∙ (sym (bare_last (last_told x) x.untold)
          ∙ (ap (λ o. durable_after (last_or o x.untold)) m.told ∙ (ap (λ xs. durable_after (last_or l.durable xs)) m.untold ∙ sym durable)));
    };
    fs = λ y e. ap (λ (z : History). z.fs) (same_Some x y e);
    ty = λ y e. ap (λ (z : History). z.ty) (same_Some x y e);
    extends = λ y e. (x.untold, ap (λ (z : History). z.told ++ x.untold) (same_Some x y e));
    states = λ y e s i. inl (subst (λ (z : History). Contains (since z) s) (same_Some x y e)
        (last_among s (subst (λ o. Contains (option_to_list o ++ []) s) (last_append None x.told x.untold) i)));
    entries = λ s i. absurd (Contains-none s (subst (λ xs. Contains xs s) pending i));
  }
    where
      only : (o : Option BlockState) (s : BlockState) → Contains (option_to_list o ++ []) s → o ≡ Some s
      only None s i = absurd (Contains-none s i)
      only (Some t) s i = elim (Contains-cons t [] s i) [ inl e ↦ ap Some e | inr none ↦ absurd (Contains-none s none) ]

      last_among : (s : BlockState) → Contains (option_to_list (last_or (last_told x) x.untold) ++ []) s → Contains (since x) s
      last_among s i = last_of (last_told x) x.untold s (only (last_or (last_told x) x.untold) s i)
