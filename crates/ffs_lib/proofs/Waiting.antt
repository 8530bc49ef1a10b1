-- In the cuts: which edits are taken with others, after each step of a write.
use Rattle.std.proofs.Common.{◌≡◌, ◌≢◌, ℕ, zero, suc, ◌-◌, ◌/◌, ◌<◌, ◌≤◌, ◌⊎◌, Bool, cond, List, [], ◌∷◌, ◌++◌, length, take, Option, Some, None, Ok, refl, sym, ◌∙◌, ap, inl, inr, arith, subst, Contains, slice_set, eq-eqb, ne_eqb}
use Rattle.ffs_lib.proofs.Common.{BlockState, Choice, Contains-push_cases, IsChosen, IsConsistent, IsCut, IsFullAt, Life, Lives, StoreState, Takes, TakesAny}
use Rattle.ffs_lib.proofs.Common.{Types, cases_eq, inode_block_in, last_or, latest, life_at, none-some, same_Some}
use Rattle.xn_model.specs.Calls.{Edit, edited, first_state, init_of, new_life, propose_of}
use Rattle.xn_model.proofs.ForCallers.{Contains-cons, Contains-head, Contains-none, accept, accepted, below_next, each_back, set_other, set_same}
use Rattle.ffs_model.proofs.ForCallers.{Proposed, Started, cut_before, full_before, full_seen, full_took, proposed, start_cut, started, takes_before, takes_then, takes_took, took_adds, took_after, took_full, took_now}
use Rattle.ffs_lib.specs.Steps.{Stage}
use Rattle.ffs_lib.specs.WriteOrder.{ShowsWhole, no_last}
use Rattle.ffs_lib.specs.Writes.{IsFrom, Waits, WaitsOn}
use Rattle.ffs_lib.specs.declared.data.Last.{Last}

-- An edit
module _ (T : Types) (state new : StoreState) (h : IsConsistent T state) (fs b : ℕ) (edit : Edit) (entry : ℕ) (done : propose_of T state fs b edit ≡ Ok (entry, new)) where
  abbrev given : Proposed T state new fs b edit entry
  given = proposed T state new fs b edit entry done

  abbrev s : BlockState
  s = edited state.next fs edit given.life

  abbrev after : Lives
  after = accept b s state.lives

  abbrev Old : ℕ → Life → BlockState → Type 0
  Old c m t = (x : Life) × (life_at state.lives c ≡ Some x) × Contains x.pending t

  pending_was : (c : ℕ) (m : Life) (t : BlockState) → life_at after c ≡ Some m → Contains m.pending t → ((c ≡ b) × (s ≡ t)) ⊎ Old c m t
  pending_was c m t e i =
      let x = each_back (accepted b s) state.lives c m e in
      elim (cases_eq c b) [
        | inl same ↦
            let long : m.pending ≡ x.0.pending ++ s ∷ [] = ap (λ (y : Life). y.pending) x.2 ∙ ap (λ (u : Bool). cond u (x.0.pending ++ s ∷ []) x.0.pending) (eq-eqb c b same) in
            elim (Contains-push_cases x.0.pending s t (subst (λ (xs : List BlockState). Contains xs t) long i)) [
              | inl j ↦ inr (x.0, x.1, j)
              | inr is ↦ inl (same, is)
            ]
        | inr ne ↦
            let long : m.pending ≡ x.0.pending = ap (λ (y : Life). y.pending) x.2 ∙ ap (λ (u : Bool). cond u (x.0.pending ++ s ∷ []) x.0.pending) (ne_eqb c b ne) in
            inr (x.0, x.1, subst (λ (xs : List BlockState). Contains xs t) long i)
      ]

  took : (k : Choice) → Takes after k entry → length given.life.pending < k b
  took k t = takes_took T state h b given.life s given.own.alive refl k (subst (Takes after k) given.entry_is t)

  cut_then : (k : Choice) → IsCut after k → IsCut state.lives k
  cut_then k cut = cut_before T state h b given.life s given.own.alive refl k cut

  full_then : (k : Choice) (c : ℕ) → IsFullAt after k c → IsFullAt state.lives k c
  full_then k c f = full_before T state h b given.life s given.own.alive refl k c f

  any_then : (k : Choice) (o : Option ℕ) → TakesAny after k o → TakesAny state.lives k o
  any_then k None t = tt
  any_then k (Some n) t = takes_before T state h b given.life s given.own.alive refl k n t

  -- what it comes after
  any_after : (k : Choice) → IsCut after k → length given.life.pending < k b → (o : Option ℕ) → edit.after ≡ o → TakesAny state.lives k o
  any_after k cut lt None e = tt
  any_after k cut lt (Some n) e = took_after T state h b given.life s given.own.alive refl k cut lt n e

  full_here : (k : Choice) → length given.life.pending < k b → IsFullAt after k b
  full_here k lt = took_full T state h b given.life s given.own.alive refl k lt

  full_other : (k : Choice) (c : ℕ) → c ≢ b → IsFullAt state.lives k c → IsFullAt after k c
  full_other k c ne full m e =
      let x = each_back (accepted b s) state.lives c m e in
      let long : m.pending ≡ x.0.pending = ap (λ (y : Life). y.pending) x.2 ∙ ap (λ (u : Bool). cond u (x.0.pending ++ s ∷ []) x.0.pending) (ne_eqb c b ne) in
      let size = ap (λ (xs : List BlockState). length xs) long in
      omega (arith, full x.0 x.1, size)

  -- the block of the edit, and each other one with an edit from a number on, where these have all their states
  full_by : (k : Choice) (from : ℕ) → length given.life.pending < k b → ((c : ℕ) (l : Life) (t : BlockState) → c ≢ b → life_at state.lives c ≡ Some l → Contains l.pending t → from ≤ t.entry → IsFullAt state.lives k c) →
      (c : ℕ) (l : Life) (t : BlockState) → life_at after c ≡ Some l → Contains l.pending t → from ≤ t.entry → IsFullAt after k c
  full_by k from lt others c l t e i lo = elim (cases_eq c b) [
    | inl same ↦ subst (IsFullAt after k) (sym same) (full_here k lt)
    | inr ne ↦ elim (pending_was c l t e i) [ inl p ↦ absurd (ne p.0) | inr o ↦ full_other k c ne (others c o.0 t ne o.1 o.2 lo) ]
  ]

  pub put_newer : (from c : ℕ) → from ≤ state.next → IsFrom from state.lives c → IsFrom from new.lives c
  put_newer from c low older = subst (λ (y : Lives). IsFrom from y c) (sym given.lives) (λ l t e i. elim (pending_was c l t e i) [
    | inl p ↦ let is = ap (λ (x : BlockState). x.entry) p.1 in omega (arith, is, low)
    | inr o ↦ older o.0 t o.1 o.2
  ])

  -- it comes after the last one
  pub put_waits : (block from : ℕ) (last : Last) → edit.after ≡ last.edit → Waits block from state.lives last → Waits block from new.lives (record { edit = Some entry; size = Some entry })
  put_waits block from last comes w =
      let there : Waits block from after (record { edit = Some entry; size = Some entry }) = record {
        all = λ k cut full t. full_by k from (took k t) (λ c l u ne. w.all k (cut_then k cut) (full_then k block full) (any_after k cut (took k t) last.edit comes) c l u);
        size = λ k cut full t. t;
      } in
      subst (λ (y : Lives). Waits block from y (record { edit = Some entry; size = Some entry })) (sym given.lives) there

  -- an edit of the block, after the last one for the size: what takes it has all
  pub size_waits : (from : ℕ) (last : Last) → edit.after ≡ last.size → Waits b from state.lives last → (k : Choice) → IsCut new.lives k → Takes new.lives k entry →
      (c : ℕ) (l : Life) (t : BlockState) → life_at new.lives c ≡ Some l → Contains l.pending t → from ≤ t.entry → IsFullAt new.lives k c
  size_waits from last comes w k cut t =
      subst (λ (y : Lives). (c : ℕ) (l : Life) (u : BlockState) → life_at y c ≡ Some l → Contains l.pending u → from ≤ u.entry → IsFullAt y k c) (sym given.lives)
      (there (subst (λ (y : Lives). IsCut y k) given.lives cut) (subst (λ (y : Lives). Takes y k entry) given.lives t))
    where
      there : IsCut after k → Takes after k entry → (c : ℕ) (l : Life) (u : BlockState) → life_at after c ≡ Some l → Contains l.pending u → from ≤ u.entry → IsFullAt after k c
      there cut t =
          let lt = took k t in
          let full = full_then k b (full_here k lt) in
          full_by k from lt (λ c l u ne. w.all k (cut_then k cut) full (w.size k (cut_then k cut) full (any_after k cut lt last.size comes)) c l u)

-- A block is begun, and an edit attaches it
one_chosen : (n : ℕ) (x y : BlockState) → last_or None (take n (x ∷ [])) ≡ Some y → 1 ≤ n
one_chosen zero x y e = absurd (none-some y e)
one_chosen (suc n) x y e = omega arith

module _ (T : Types) (zeroth first : StoreState) (h0 : IsConsistent T zeroth) (fs ty : ℕ) (bytes : List ℕ) (block number : ℕ) (begun : init_of T zeroth fs ty bytes ≡ Ok ((block, number), first)) where
  abbrev r : Started zeroth first fs ty bytes (block, number)
  r = started T zeroth first fs ty bytes (block, number) begun

  abbrev start : Life
  start = new_life zeroth.next (Some fs) ty bytes

  abbrev grown : Lives
  grown = slice_set zeroth.lives block (Some start)

  begun_was : (c : ℕ) (y : Life) → life_at first.lives c ≡ Some y → ((c ≡ block) × (y ≡ start)) ⊎ (life_at zeroth.lives c ≡ Some y)
  begun_was c y e =
      let here : life_at grown c ≡ Some y = ap (λ (xs : Lives). life_at xs c) (sym r.lives) ∙ e in
      elim (cases_eq c block) [
        | inl same ↦ inl (same, same_Some y start (sym here ∙ (ap (life_at grown) same ∙ set_same zeroth.lives block (Some start) r.within)))
        | inr ne ↦ inr (sym (set_other zeroth.lives block c (Some start) ne) ∙ here)
      ]

  not_here : (c : ℕ) (y : Life) → life_at zeroth.lives c ≡ Some y → c ≢ block
  not_here c y e same = none-some y (sym r.free ∙ (ap (life_at zeroth.lives) (sym same) ∙ e))

  begun_forth : (c : ℕ) (y : Life) → life_at zeroth.lives c ≡ Some y → life_at first.lives c ≡ Some y
  begun_forth c y e = ap (λ (xs : Lives). life_at xs c) r.lives ∙ (set_other zeroth.lives block c (Some start) (not_here c y e) ∙ e)

  begun_entry : (t : BlockState) → Contains start.pending t → t.entry ≡ zeroth.next
  begun_entry t i = elim (Contains-cons (first_state zeroth.next (Some fs) bytes) [] t i) [ inl e ↦ ap (λ (x : BlockState). x.entry) (sym e) | inr j ↦ absurd (Contains-none t j) ]

  begun_any : (k : Choice) (o : Option ℕ) → TakesAny first.lives k o → TakesAny zeroth.lives k o
  begun_any k None t = tt
  begun_any k (Some n) t = takes_then T zeroth h0 block start r.within r.free refl k n (subst (λ (xs : Lives). Takes xs k n) r.lives t)

  begun_cut : (k : Choice) → IsCut first.lives k → IsCut zeroth.lives k
  begun_cut k cut = start_cut T zeroth h0 block start r.within r.free refl k (subst (λ (xs : Lives). IsCut xs k) r.lives cut)

  begun_full : (k : Choice) (c : ℕ) → IsFullAt first.lives k c → IsFullAt zeroth.lives k c
  begun_full k c full y e = full y (begun_forth c y e)

  begun_full_forth : (k : Choice) (c : ℕ) → c ≢ block → IsFullAt zeroth.lives k c → IsFullAt first.lives k c
  begun_full_forth k c ne full m e = elim (begun_was c m e) [ inl p ↦ absurd (ne p.0) | inr old ↦ full m old ]

  -- the new block has its one state where one is chosen
  begun_taken : (k : Choice) → IsChosen first.lives k block → IsFullAt first.lives k block
  begun_taken k chosen m e = elim (begun_was block m e) [
    | inl p ↦
        let life : chosen.life ≡ start = elim (begun_was block chosen.life chosen.alive) [ inl q ↦ q.1 | inr old ↦ absurd (not_here block chosen.life old refl) ] in
        let one = one_chosen (k block) (first_state zeroth.next (Some fs) bytes) chosen.state (subst (λ (l : Life). last_or l.durable (take (k block) l.pending) ≡ Some chosen.state) life chosen.is) in
        subst (λ (l : Life). length l.pending ≤ k block) (sym p.1) one
    | inr old ↦ absurd (not_here block m old refl)
  ]

  pub begun_newer : (from c : ℕ) → from ≤ zeroth.next → IsFrom from zeroth.lives c → IsFrom from first.lives c
  begun_newer from c low older l t e i = elim (begun_was c l e) [
    | inl p ↦ let is = begun_entry t (subst (λ (y : Life). Contains y.pending t) p.1 i) in omega (arith, is, low)
    | inr old ↦ older l t old i
  ]

  module _ (new : StoreState) (h : IsConsistent T first) (b : ℕ) (edit : Edit) (entry : ℕ) (done : propose_of T first fs b edit ≡ Ok (entry, new)) (adds : Contains edit.adds (block, ty)) (at from : ℕ) (last : Last) (comes : edit.after ≡ last.edit) (w : Waits at from zeroth.lives last) where
    abbrev g : Proposed T first new fs b edit entry
    g = proposed T first new fs b edit entry done

    abbrev news : Lives
    news = after T first new h fs b edit entry done

    abbrev state_new : BlockState
    state_new = s T first new h fs b edit entry done

    reach : (k : Choice) → IsCut news k → length g.life.pending < k b → TakesAny first.lives k last.edit → IsFullAt news k at → (c : ℕ) (l : Life) (t : BlockState) → life_at news c ≡ Some l → Contains l.pending t → from ≤ t.entry → IsFullAt news k c
    reach k cut lt any full =
        let full1 = full_then T first new h fs b edit entry done k at full in
        full_by T first new h fs b edit entry done k from lt (λ c l t ne e i lo. elim (begun_was c l e) [
          | inl p ↦ subst (IsFullAt first.lives k) (sym p.0) (begun_taken k (took_adds T first h b g.life state_new g.own.alive refl k cut lt block ty adds))
          | inr old ↦ begun_full_forth k c (not_here c l old) (w.all k (begun_cut k (cut_then T first new h fs b edit entry done k cut)) (begun_full k at full1) (begun_any k last.edit any) c l t old i lo)
        ])

    turn : (next : Last) → Waits at from news next → Waits at from new.lives next
    turn next x = subst (λ (y : Lives). Waits at from y next) (sym g.lives) x

    -- by an edit of another block
    pub attach_waits : Waits at from new.lives (record { edit = Some entry; size = Some entry })
    attach_waits = turn (record { edit = Some entry; size = Some entry }) (record {
      all = λ k cut full t. let lt = took T first new h fs b edit entry done k t in reach k cut lt (any_after T first new h fs b edit entry done k cut lt last.edit comes) full;
      size = λ k cut full t. t;
    })

    -- by one of the block
    module _ (here : at ≡ b) where
      taken_here : (k : Choice) → IsFullAt news k at → length g.life.pending < k b
      taken_here k full = full_took T first h b g.life state_new g.own.alive refl k (subst (IsFullAt news k) here full)

      comes_now : (k : Choice) → IsCut news k → length g.life.pending < k b → (o : Option ℕ) → edit.after ≡ o → TakesAny news k o
      comes_now k cut lt None e = tt
      comes_now k cut lt (Some n) e = took_now T first h b g.life state_new g.own.alive refl k cut lt n e

      pub home_waits : (next : Last) → next.edit ≡ last.edit → Waits at from new.lives next
      home_waits next same = turn next (record {
        all = λ k cut full t. reach k cut (taken_here k full) (any_then T first new h fs b edit entry done k last.edit (subst (TakesAny news k) same t)) full;
        size = λ k cut full t. comes_now k cut (taken_here k full) next.edit (comes ∙ sym same);
      })

-- One step after another

pub waits_then : (fs n : ℕ) (a b c : StoreState) (x y z : Last) → WaitsOn fs n a b x y → WaitsOn fs n b c y z → WaitsOn fs n a c x z
waits_then fs n a b c x y z one two =
    record {
      home = two.home ∙ one.home;
      waits = λ block from low at w. two.waits block from (omega (arith, low, one.later)) (at ∙ sym one.home) (one.waits block from low at w);
      newer = λ from c low older. two.newer from c (omega (arith, low, one.later)) (one.newer from c low older);
      later = omega (arith, one.later, two.later);
    }

-- nothing is pending that was not
pub lives_wait : (fs n : ℕ) (old new : StoreState) (last : Last) → new.lives ≡ old.lives → old.next ≤ new.next → WaitsOn fs n old new last last
lives_wait fs n old new last same later = record {
  home = ap (λ (xs : Lives). inode_block_in (latest xs) fs ((n - 1) / 8)) same;
  waits = λ block from low at w. subst (λ (xs : Lives). Waits block from xs last) (sym same) w;
  newer = λ from c low older. subst (λ (xs : Lives). IsFrom from xs c) (sym same) older;
  later = later;
}

pub waits_same : (fs n : ℕ) (state : StoreState) (last : Last) → WaitsOn fs n state state last last
waits_same fs n state last = lives_wait fs n state state last refl (omega arith)

-- the size is asked for last
pub size_shows : (T : Types) (fs : ℕ) (array : ℕ → Option ℕ) (zeroth old new : StoreState) → IsConsistent T zeroth → Stage T fs array old → (n home : ℕ) → Ok home ≡ inode_block_in (latest old.lives) fs ((n - 1) / 8) → (edit : Edit) (entry : ℕ) → propose_of T old fs home edit ≡ Ok (entry, new) → (last : Last) → last.size ≡ edit.after →
    WaitsOn fs n zeroth old no_last last → ShowsWhole zeroth new
size_shows T fs array zeroth old new h0 stage n home at edit entry done last comes on k cut t c either =
    let g = proposed T old new fs home edit entry done in
    let number : new.next - 1 ≡ entry = omega (arith, g.next, g.entry_is) in
    let from : ℕ = zeroth.next in
    let first : Waits home from zeroth.lives no_last = record {
      all = λ j cut0 full t0 b l u e i lo. let low = (below_next T zeroth h0).entries b l u e i in absurd (omega (arith, lo, low));
      size = λ j cut0 full t0. t0;
    } in
    let all = size_waits T old new stage.keeps.consistent fs home edit entry done from last (sym comes) (on.waits home from (omega arith) (at ∙ on.home) first) k cut (subst (Takes new.lives k) number t) in
    full_seen new.lives k c (elim either [
      | inl idle ↦
          let newer = put_newer T old new stage.keeps.consistent fs home edit entry done from c on.later (on.newer from c (omega arith) (λ l u e i. absurd (Contains-none u (subst (λ (xs : List BlockState). Contains xs u) (idle l e) i)))) in
          full_of all newer
      | inr has ↦ all c has.0 has.1 has.2 has.3 has.4
    ])
  where
    full_of : ((b : ℕ) (l : Life) (u : BlockState) → life_at new.lives b ≡ Some l → Contains l.pending u → zeroth.next ≤ u.entry → IsFullAt new.lives k b) → IsFrom zeroth.next new.lives c → IsFullAt new.lives k c
    full_of all newer m e = go m.pending refl
      where
        go : (xs : List BlockState) → m.pending ≡ xs → length m.pending ≤ k c
        go [] is = let none = ap (λ (ys : List BlockState). length ys) is in omega (arith, none)
        go (x ∷ xs) is = let i = subst (λ (ys : List BlockState). Contains ys x) (sym is) (Contains-head x xs) in all c m x e i (newer m x e i) m e

-- nothing is done
pub shows_same : (T : Types) (state : StoreState) → IsConsistent T state → ShowsWhole state state
shows_same T state h k cut t c either = full_seen state.lives k c (elim either [
  | inl idle ↦ λ m e. let none = ap (λ (xs : List BlockState). length xs) (idle m e) in omega (arith, none)
  | inr has ↦ let low = (below_next T state h).entries c has.0 has.1 has.2 has.3 in let from = has.4 in absurd (omega (arith, low, from))
])
