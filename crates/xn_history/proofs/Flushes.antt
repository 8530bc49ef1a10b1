-- What the parts of a write, and a drain, do to blocks and histories.
use Rattle.std.proofs.Common.{◌≡◌, ℕ, true, false, cond, List, [], take, drop, Option, Some, None, refl, sym, ◌∙◌, ap, inl, inr, subst, Ok}
use Rattle.std.specs.Prelude.{Contains, option_map, ◌==◌, slice_get}
use Rattle.std.specs.List.{last_or}
use Rattle.std.proofs.lemmas.Bool.{cases_Bool, cases_eq, eq-eqb, ne_eqb}
use Rattle.std.proofs.lemmas.Option.{none-some}
use Rattle.xn_model.specs.Lists.{has_number}
use Rattle.xn_model.specs.Types.{Types}
use Rattle.xn_model.specs.Lives.{BlockState, Life, Lives, StoreState, life_at, newest, durable_after, begun_at, settled_at, freed, drops_of}
use Rattle.store_types.specs.declared.status.Status.TheVariants.{Owned}
use Rattle.xn_model.specs.Calls.{begun_of, begun_place, settled_of, settled_place, settled_after, settled_with, first_pending}
use Rattle.xn_model.specs.Rules.{IsConsistent}
use Rattle.xn_model.proofs.ForCallers.{of_life, with_begun, settled, bared, each, free, has_number_at, Contains-take, Contains-drop, begun_is, free_at, each_back, each_forth, free_back, free_forth, settled_is, map_ok, settled_last, owned_dropped, settles_place, drops_at}
use Rattle.xn_history.specs.Histories.{History, Histories, telling, change_in}
use Rattle.xn_history.specs.Moments.{IsHistoryOf, AreHistoriesOf}
use Rattle.xn_history.proofs.Turns as turn
use Rattle.xn_history.proofs.Turns.{Turn, placed, matched, bare_twice, bare_last}
use Rattle.xn_history.proofs.Calls.{Turns, all_stay}

-- A life goes on through writes.
pub record GoesOn (l l' : Life) : Type 0 where
  pub fs : l'.fs ≡ l.fs
  pub ty : l'.ty ≡ l.ty
  pub status : l'.status ≡ l.status
  -- its newest bytes stay
  pub newest_stays : durable_after (newest l') ≡ durable_after (newest l)
  -- of the durable state only the bytes are known
  pub bare : l.durable ≡ durable_after l.durable → l'.durable ≡ durable_after l'.durable
  -- nothing is pending that was not
  pub pending : (s : BlockState) → Contains l'.pending s → Contains l.pending s

pub goes_same : (l l' : Life) → l'.fs ≡ l.fs → l'.ty ≡ l.ty → l'.status ≡ l.status → l'.durable ≡ l.durable → l'.pending ≡ l.pending → GoesOn l l'
goes_same l l' fs ty status durable pending = record {
  fs = fs;
  ty = ty;
  status = status;
  newest_stays = λ i. durable_after (last_or (durable i) (pending i));
  bare = λ e. durable ∙ (e ∙ ap durable_after (sym durable));
  pending = λ s i. subst (λ xs. Contains xs s) pending i;
}

pub goes_further : (l m n : Life) → GoesOn l m → GoesOn m n → GoesOn l n
goes_further l m n g f = record {
  fs = f.fs ∙ g.fs;
  ty = f.ty ∙ g.ty;
  status = f.status ∙ g.status;
  newest_stays = f.newest_stays ∙ g.newest_stays;
  bare = λ e. f.bare (g.bare e);
  pending = λ s i. g.pending s (f.pending s i);
}

-- A pending state of some life drops block c.
pub record IsDroppedBefore (lives : Lives) (c : ℕ) : Type 0 where
  pub owner : ℕ
  pub life : Life
  pub alive : life_at lives owner ≡ Some life
  pub state : BlockState
  pub pending : Contains life.pending state
  pub drops : Contains state.drops c

-- Each life is one from before; those that are owned go on, and what ends was dropped.
pub record Flushes (old new : Lives) : Type 0 where
  pub back : (c : ℕ) (l' : Life) → life_at new c ≡ Some l' → (l : Life) × (life_at old c ≡ Some l) × GoesOn l l'
  pub forth : (c a : ℕ) (l : Life) → life_at old c ≡ Some l → l.status ≡ Owned a → (l' : Life) × (life_at new c ≡ Some l') × (l'.status ≡ Owned a)
  pub ends : (c : ℕ) (l : Life) → life_at old c ≡ Some l → life_at new c ≡ None → IsDroppedBefore old c

pub flushes_none : (lives : Lives) → Flushes lives lives
flushes_none lives = record { back = λ c l e. (l, e, goes_same l l refl refl refl refl refl); forth = λ c a l e s. (l, e, s); ends = λ c l e gone. absurd (none-some l (sym gone ∙ e)) }

pub flushes_both : (old mid new : Lives) → Flushes old mid → Flushes mid new → Flushes old new
flushes_both old mid new f g = record {
  back = λ c l e. let m = g.back c l e in let k = f.back c m.0 m.1 in (k.0, k.1, goes_further k.0 m.0 l k.2 m.2);
  forth = λ c a l e s. let m = f.forth c a l e s in g.forth c a m.0 m.1 m.2;
  ends = λ c l e gone. at_mid c l e gone (life_at mid c) refl;
}
  where
    at_mid : (c : ℕ) (l : Life) → life_at old c ≡ Some l → life_at new c ≡ None → (o : Option Life) → life_at mid c ≡ o → IsDroppedBefore old c
    at_mid c l e gone None at = f.ends c l e at
    at_mid c l e gone (Some m) at =
        let d = g.ends c m at gone in
        let k = f.back d.owner d.life d.alive in
        record { owner = d.owner; life = k.0; alive = k.1; state = d.state; pending = k.2.pending d.state d.pending; drops = d.drops }

-- A write begins

pub begun_life : (state new : StoreState) (b : ℕ) (given : List ℕ × ℕ) → begun_of state b ≡ Ok (given, new) → (k : ℕ) × (each (with_begun b (Some k)) state.lives ≡ new.lives) × (state.next ≡ new.next)
begun_life state new b given e =
    let m = map_ok (λ (x : List ℕ × ℕ). (x, record state { lives = begun_at state.lives b x.1 })) (begun_place state.lives (slice_get state.lives b)) (given, new) e in
    (m.0.1, sym (begun_is state.lives b m.0.1) ∙ ap (λ (x : (List ℕ × ℕ) × StoreState). x.1.lives) m.2, ap (λ (x : (List ℕ × ℕ) × StoreState). x.1.next) m.2)

begun_flushes : (lives : Lives) (b k : ℕ) → Flushes lives (each (with_begun b (Some k)) lives)
begun_flushes lives b k = record {
  back = λ c l' e. let r = each_back (with_begun b (Some k)) lives c l' e in
      (r.0, r.1, subst (GoesOn r.0) (sym r.2) (goes_same r.0 (with_begun b (Some k) c r.0) refl refl refl refl refl));
  forth = λ c a l e s. (with_begun b (Some k) c l, each_forth (with_begun b (Some k)) lives c l e, s);
  ends = λ c l e gone. absurd (none-some (with_begun b (Some k) c l) (sym gone ∙ each_forth (with_begun b (Some k)) lives c l e));
}

pub begin_flushes : (state new : StoreState) (b : ℕ) (given : List ℕ × ℕ) → begun_of state b ≡ Ok (given, new) → Flushes state.lives new.lives
begin_flushes state new b given e = let r = begun_life state new b given e in subst (Flushes state.lives) r.1 (begun_flushes state.lives b r.0)

pub begin_turns : (T : Types) (state new : StoreState) (hs : Histories) → AreHistoriesOf state.lives hs → (b : ℕ) (given : List ℕ × ℕ) → begun_of state b ≡ Ok (given, new) → Turns T state.next [] None state.lives hs new.lives hs
begin_turns T state new hs known b given e =
    let r = begun_life state new b given e in
    subst (λ xs. Turns T state.next [] None state.lives hs xs hs) r.1
    (all_stay T state.next [] None state.lives (each (with_begun b (Some r.0)) state.lives) hs known (λ c l' alive.
    let q = each_back (with_begun b (Some r.0)) state.lives c l' alive in
    (q.0, q.1, ap (λ (x : Life). x.fs) q.2, ap (λ (x : Life). x.ty) q.2, ap (λ (x : Life). x.pending) q.2, ap (λ (x : Life). x.durable) q.2)))

pub begin_lives : (state new : StoreState) (b : ℕ) (given : List ℕ × ℕ) → begun_of state b ≡ Ok (given, new) → (c : ℕ) (l : Life) → life_at state.lives c ≡ Some l → (l' : Life) × (life_at new.lives c ≡ Some l')
begin_lives state new b given e c l at =
    let r = begun_life state new b given e in
    (with_begun b (Some r.0) c l, ap (λ xs. life_at xs c) (sym r.1) ∙ each_forth (with_begun b (Some r.0)) state.lives c l at)

-- A write is read back

abbrev left : Lives → ℕ → ℕ → List ℕ → Lives
left lives b k ended = each (bared b) (free ended (each (settled b k) lives))

-- what a block that is left was
left_back : (lives : Lives) (b k : ℕ) (ended : List ℕ) (c : ℕ) (l' : Life) → life_at (left lives b k ended) c ≡ Some l' → (l : Life) × (life_at lives c ≡ Some l) × (l' ≡ bared b c (settled b k c l))
left_back lives b k ended c l' e =
    let r1 = each_back (bared b) (free ended (each (settled b k) lives)) c l' e in
    let r2 = free_back ended (each (settled b k) lives) c r1.0 r1.1 in
    let r3 = each_back (settled b k) lives c r1.0 r2.1 in
    (r3.0, r3.1, r1.2 ∙ ap (bared b c) r3.2)

module _ (b k c : ℕ) (l : Life) where
  here_pending : (c == b) ≡ true → (bared b c (settled b k c l)).pending ≡ drop k l.pending
  here_pending t = ap (λ t. cond t (drop k l.pending) l.pending) t

  here_durable : (c == b) ≡ true → (bared b c (settled b k c l)).durable ≡ durable_after (last_or l.durable (take k l.pending))
  here_durable t = ap (λ t. cond t (durable_after (cond t (last_or l.durable (take k l.pending)) l.durable)) (cond t (last_or l.durable (take k l.pending)) l.durable)) t

  there_pending : (c == b) ≡ false → (bared b c (settled b k c l)).pending ≡ l.pending
  there_pending t = ap (λ t. cond t (drop k l.pending) l.pending) t

  there_durable : (c == b) ≡ false → (bared b c (settled b k c l)).durable ≡ l.durable
  there_durable t = ap (λ t. cond t (durable_after (cond t (last_or l.durable (take k l.pending)) l.durable)) (cond t (last_or l.durable (take k l.pending)) l.durable)) t

settled_goes : (b k c : ℕ) (l : Life) → GoesOn l (bared b c (settled b k c l))
settled_goes b k c l = elim (cases_eq c b) [
  | inl here ↦
      let t = eq-eqb c b here in
      let first = last_or l.durable (take k l.pending) in
      record {
        fs = refl;
        ty = refl;
        status = refl;
        newest_stays = (λ i. durable_after (last_or (here_durable b k c l t i) (here_pending b k c l t i))) ∙ (bare_last first (drop k l.pending) ∙ ap durable_after (settled_last l.durable k l.pending));
        bare = λ e. here_durable b k c l t ∙ (sym (bare_twice first) ∙ ap durable_after (sym (here_durable b k c l t)));
        pending = λ s i. Contains-drop k l.pending s (subst (λ xs. Contains xs s) (here_pending b k c l t) i);
      }
  | inr other ↦ let t = ne_eqb c b other in goes_same l (bared b c (settled b k c l)) refl refl refl (there_durable b k c l t) (there_pending b k c l t)
]

-- what is read back: how many states are durable, and the lives that are left
pub record Settled (T : Types) (state new : StoreState) (b durable : ℕ) : Type 0 where
  pub life : Life
  pub alive : life_at state.lives b ≡ Some life
  pub lives : left state.lives b durable (drops_of (take durable life.pending)) ≡ new.lives
  pub next : state.next ≡ new.next

pub settles : (T : Types) (state new : StoreState) (b : ℕ) (bytes : List ℕ) (done : ℕ × ℕ) → settled_of state b bytes ≡ Ok (done, new) → Settled T state new b done.0
settles T state new b bytes done e =
    let m = map_ok (settled_after state b) (settled_place bytes (slice_get state.lives b)) (done, new) e in
    let s = settles_place state.lives b bytes (slice_get state.lives b) m.0 refl m.1 in
    let first : first_pending m.0 (life_at state.lives b) ≡ take m.0 s.life.pending = ap (first_pending m.0) s.alive in
    let count : m.0 ≡ done.0 = ap (λ (x : (ℕ × ℕ) × StoreState). x.0.0) m.2 in
    let is : freed (settled_at state.lives b m.0) (drops_of (take m.0 s.life.pending)) ≡ new.lives =
    ap (λ xs. (settled_with state b (drops_of xs) m.0).1.lives) (sym first) ∙ ap (λ (x : (ℕ × ℕ) × StoreState). x.1.lives) m.2 in
    subst (Settled T state new b) count (record {
      life = s.life;
      alive = s.alive;
      lives = sym (settled_is state.lives b m.0 (drops_of (take m.0 s.life.pending))) ∙ is;
      next = ap (λ (x : (ℕ × ℕ) × StoreState). x.1.next) m.2;
    })

-- what ends was dropped by a state that is durable now
pub settled_ends : (T : Types) (state new : StoreState) (b k : ℕ) (s : Settled T state new b k) (c : ℕ) (l : Life) → life_at state.lives c ≡ Some l → life_at new.lives c ≡ None →
    (t : BlockState) × Contains (take k s.life.pending) t × Contains t.drops c
settled_ends T state new b k s c l e gone =
    let ended = drops_of (take k s.life.pending) in
    let none : life_at (left state.lives b k ended) c ≡ None = ap (λ xs. life_at xs c) s.lives ∙ gone in
    elim (cases_Bool (has_number ended c)) [
      | inl t ↦ drops_at (take k s.life.pending) c (has_number_at ended c t)
      | inr f ↦ absurd (none-some (bared b c (settled b k c l)) (sym none ∙ each_forth (bared b) (free ended (each (settled b k) state.lives)) c (settled b k c l)
          (free_at ended (each (settled b k) state.lives) c ∙ (ap (λ t. cond t None (life_at (each (settled b k) state.lives) c)) f ∙ each_forth (settled b k) state.lives c l e))))
    ]

pub settled_flushes : (T : Types) (state new : StoreState) → IsConsistent T state → (b k : ℕ) → Settled T state new b k → Flushes state.lives new.lives
settled_flushes T state new h b k s = subst (Flushes state.lives) s.lives (record {
  back = λ c l' e. let r = left_back state.lives b k (drops_of (take k s.life.pending)) c l' e in (r.0, r.1, subst (GoesOn r.0) (sym r.2) (settled_goes b k c r.0));
  forth = λ c a l e owned. (
    bared b c (settled b k c l),
    each_forth (bared b) (free (drops_of (take k s.life.pending)) (each (settled b k) state.lives)) c (settled b k c l)
        (free_forth (drops_of (take k s.life.pending)) (each (settled b k) state.lives) c (settled b k c l) (λ i. never c a l e owned i) (each_forth (settled b k) state.lives c l e)),
    owned,
  );
  ends = λ c l e gone.
      let d = settled_ends T state new b k s c l e (ap (λ xs. life_at xs c) (sym s.lives) ∙ gone) in
      record { owner = b; life = s.life; alive = s.alive; state = d.0; pending = Contains-take k s.life.pending d.0 d.1; drops = d.2 };
})
  where
    never : (c a : ℕ) (l : Life) → life_at state.lives c ≡ Some l → l.status ≡ Owned a → Contains (drops_of (take k s.life.pending)) c → ⊥
    never c a l e owned i =
        let d = drops_at (take k s.life.pending) c i in
        let by = (h.linked b s.life s.alive).dropped d.0 c (Contains-take k s.life.pending d.0 d.1) d.2 in
        owned_dropped a b (sym owned ∙ of_life by l e)

pub settled_turns : (T : Types) (state new : StoreState) (hs : Histories) → AreHistoriesOf state.lives hs → (b k : ℕ) → Settled T state new b k → Turns T state.next [] None state.lives hs new.lives (change_in hs b (telling k))
settled_turns T state new hs known b k s = subst (λ xs. Turns T state.next [] None state.lives hs xs (change_in hs b (telling k))) s.lives (λ c l' e.
    let r = left_back state.lives b k (drops_of (take k s.life.pending)) c l' e in
    let x = matched (life_at state.lives c) (hs c) (known c) r.0 r.1 in
    subst (λ l. Turn T state.next [] (None ≡ Some c) (life_at state.lives c) (hs c) l (cond (c == b) (option_map (telling k) (hs c)) (hs c))) (sym r.2)
    (placed (λ o h. Turn T state.next [] (None ≡ Some c) o h (bared b c (settled b k c r.0)) (cond (c == b) (option_map (telling k) h) h)) (life_at state.lives c) (hs c) r.0 x.0 r.1 x.1
    (at c r.0 x.0 x.2)))
  where
    at : (c : ℕ) (l : Life) (x : History) → IsHistoryOf l x → Turn T state.next [] (None ≡ Some c) (Some l) (Some x) (bared b c (settled b k c l)) (cond (c == b) (option_map (telling k) (Some x)) (Some x))
    at c l x m = elim (cases_eq c b) [
      | inl here ↦
          let t = eq-eqb c b here in
          subst (λ h. Turn T state.next [] (None ≡ Some c) (Some l) (Some x) (bared b c (settled b k c l)) h) (ap (λ t. cond t (option_map (telling k) (Some x)) (Some x)) (sym t))
          (turn.tells T state.next [] (None ≡ Some c) l (bared b c (settled b k c l)) x k m refl refl (here_pending b k c l t) (here_durable b k c l t))
      | inr other ↦
          let t = ne_eqb c b other in
          subst (λ h. Turn T state.next [] (None ≡ Some c) (Some l) (Some x) (bared b c (settled b k c l)) h) (ap (λ t. cond t (option_map (telling k) (Some x)) (Some x)) (sym t))
          (turn.stays T state.next [] (None ≡ Some c) l (bared b c (settled b k c l)) x m refl refl (there_pending b k c l t) (there_durable b k c l t))
    ]
