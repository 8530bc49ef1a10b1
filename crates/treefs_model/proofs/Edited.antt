-- What an edit that was made did.
use Rattle.std.proofs.Common.{◌≡◌, ℕ, zero, suc, ◌<◌, ◌≤◌, ◌⊎◌, List, [], ◌∷◌, ◌++◌, length, take, Option, Some, None, Result, Ok, Err, refl, sym, ◌∙◌, ap, inl, inr, arith, subst, eqb, true, false, Bool}
use Rattle.std.specs.Prelude.{Contains, ◌≢◌, ◌&&◌, option_map}
use Rattle.std.proofs.lemmas.Bool.{cases_lt, cases_eq, eq-eqb, not-false, and_parts}
use Rattle.std.proofs.lemmas.Option.{same_Some}
use Rattle.std.proofs.lemmas.List.{take_all}
use Rattle.std.proofs.lemmas.List.Elements.{Contains-append_right, Contains-push_cases}
use Rattle.xn_model.specs.Types.{Types, claims, named_once}
use Rattle.xn_model.specs.Lives.{BlockState, Life, Lives, StoreState, life_at, current}
use Rattle.xn_model.specs.Calls.{Edit, accepts, edit_tests, edited, life_bytes, may_add, patched, propose_at, propose_of}
use Rattle.store_types.specs.declared.refusal.Refusal.{Refusal}
use Rattle.xn_model.specs.Results.{Gives}
use Rattle.xn_model.specs.Rules.{IsConsistent}
use Rattle.xn_model.proofs.ForCallers.{accept, accepted, accepted_other, addable, all_at, each_at, each_back, each_forth, own_then, unless_ok, Contains-cons, Contains-head, Contains-none, Contains-tail}
use Rattle.xn_model.proofs.ForCallers.{claimed}
use Rattle.ffs_model.specs.Cuts.{Choice, IsCut, IsFullAt, Takes, TakesAny, latest, taken}
use Rattle.ffs_model.proofs.ForCallers.{proposed}
use Rattle.ffs_model.proofs.ForCallers.{cut_before, full_before, full_took, takes_before, took_full, took_adds, took_after, proposed_here, proposed_others}
use Rattle.ffs_model.proofs.ForCallers.{more, seen_other, seen_untook, took_full_before}
use Rattle.treefs_model.specs.Acts.{behind_of, edit_in}
use Rattle.treefs_model.specs.Acts.{Act}
use Rattle.treefs_model.specs.Edited.{Edited, IsCutBefore, WasPending, system_in, type_at, type_in}
use Rattle.treefs_model.proofs.Behind.{full_behind}

pub gives_ok : {A : Type 0} (called : Result (A × StoreState) Refusal) (old new : StoreState) (x : A) → Gives called old new (Ok x) → called ≡ Ok (x, new)
gives_ok {A} (Ok (y, after)) old new x h = elim h [ inl p ↦ cc | inr p ↦ absurd (cc p.0) ]
gives_ok {A} (Err first) old new x h = absurd (cc h.0)

-- the claim of a proposal that is accepted
claim_of : (T : Types) (state new : StoreState) (fs b : ℕ) (e : Edit) (entry : ℕ) → propose_of T state fs b e ≡ Ok (entry, new) →
    (l : Life) × (life_at state.lives b ≡ Some l) × (claims T l.ty (current l) (patched (current l) e.patches) e.adds e.drops ≡ true)
claim_of T state new fs b e entry done =
    let own = own_then state fs b (propose_at T state fs b e) (entry, new) done in
    let l : Life = own.0 in
    let m = patched (current l) e.patches in
    let t = (unless_ok (edit_tests T state fs b e l) (Ok (accepts state b (edited state.next fs e l))) (entry, new) own.2).0 in
    (l, own.1.alive, (and_parts (claims T l.ty (current l) m e.adds e.drops) (named_once T l.ty m) (not-false (claims T l.ty (current l) m e.adds e.drops && named_once T l.ty m) t.1.1.1.1.1.1.1.1.0)).0)

same_system : (b : ℕ) (s : BlockState) (c : ℕ) (o : Option Life) → system_in (option_map (accepted b s c) o) ≡ system_in o
same_system b s c None = refl
same_system b s c (Some l) = refl

length_snoc : (xs : List BlockState) (s : BlockState) → length (xs ++ s ∷ []) ≡ suc (length xs)
length_snoc [] s = refl
length_snoc (x ∷ xs) s = ap suc (length_snoc xs s)

more_out : (t : Bool) (s : BlockState) (xs : List BlockState) (y : BlockState) → Contains (more t s xs) y → Contains xs y ⊎ (s ≡ y)
more_out true s xs y i = Contains-push_cases xs s y i
more_out false s xs y i = inl i

take_more : (n : ℕ) (xs : List BlockState) (s y : BlockState) → Contains (take n xs) y → Contains (take n (xs ++ s ∷ [])) y
take_more zero xs s y i = absurd (Contains-none y i)
take_more (suc n) [] s y i = absurd (Contains-none y i)
take_more (suc n) (x ∷ xs) s y i = elim (Contains-cons x (take n xs) y i) [
  | inl e ↦ subst (λ z. Contains (z ∷ take n (xs ++ s ∷ [])) y) (sym e) (Contains-head y (take n (xs ++ s ∷ [])))
  | inr j ↦ Contains-tail x (take n (xs ++ s ∷ [])) y (take_more n xs s y j)
]

more_taken : (t : Bool) (s : BlockState) (n : ℕ) (xs : List BlockState) (y : BlockState) → Contains (take n xs) y → Contains (take n (more t s xs)) y
more_taken true s n xs y i = take_more n xs s y i
more_taken false s n xs y i = i

same_type : (b : ℕ) (s : BlockState) (c : ℕ) (o : Option Life) → type_in (option_map (accepted b s c) o) ≡ type_in o
same_type b s c None = refl
same_type b s c (Some l) = refl

module _ (T : Types) (fs : ℕ) (act : Act) (old new : StoreState) (number : ℕ) (h : IsConsistent T old) (done : propose_of T old fs act.block (edit_in act old) ≡ Ok (number, new)) where
  abbrev e : Edit
  e = edit_in act old

  abbrev b : ℕ
  b = act.block

  module _ (l : Life) (alive : life_at old.lives b ≡ Some l) where
    abbrev s : BlockState
    s = edited old.next fs e l

    abbrev next : Lives
    next = accept b s old.lives

    -- the new state is pending
    in_new : (k : Choice) → length l.pending < k b → Contains (taken k b (accepted b s b l)) s
    in_new k lt = rw (ap (λ t. take (k b) (more t s l.pending)) (eq-eqb b b refl) ∙ take_all (k b) (l.pending ++ s ∷ []) (let x = length_snoc l.pending s in rw x (omega arith)))
        (Contains-append_right l.pending (s ∷ []) s (Contains-head s []))

    took_drops : (k : Choice) → IsCut next k → length l.pending < k b → (c : ℕ) → Contains act.edit.drops c → IsFullAt old.lives k c
    took_drops k cut lt c i =
        let r = cut.drops b (accepted b s b l) s c (each_forth (accepted b s) old.lives b l alive) (in_new k lt) i in
        full_before T old h b l s alive refl k c (λ m f. subst (λ (x : Life). length x.pending ≤ k c) (same_Some r.life m (sym r.alive ∙ f)) r.all)

    took_behind : (k : Choice) → IsCut next k → length l.pending < k b → (o : Option ℕ) → behind_of old act.behind ≡ o → TakesAny old.lives k o
    took_behind k cut lt None at = tt
    took_behind k cut lt (Some n) at = took_after T old h b l s alive refl k cut lt n at

    takes_more : (k : Choice) (n : ℕ) → n ≢ old.next → Takes old.lives k n → Takes next k n
    takes_more k n ne t c m x f i at =
        let p = each_back (accepted b s) old.lives c m f in
        elim (more_out (eqb c b) s p.0.pending x (subst (λ (y : Life). Contains y.pending x) p.2 i)) [
          | inl j ↦ subst (λ (y : Life). Contains (taken k c y) x) (sym p.2) (more_taken (eqb c b) s (k c) p.0.pending x (t c p.0 x p.1 j at))
          | inr same ↦ absurd (ne (sym at ∙ ap (λ (y : BlockState). y.entry) (sym same)))
        ]

    pending_is : (c : ℕ) (m : Life) (t : BlockState) → life_at next c ≡ Some m → Contains m.pending t → WasPending old.lives c m t ⊎ ((c ≡ b) × (t.entry ≡ old.next))
    pending_is c m t f i =
        let p = each_back (accepted b s) old.lives c m f in
        let kept : Contains p.0.pending t → WasPending old.lives c m t = λ j. record { life = p.0; alive = p.1; there = j; took = λ k r. subst (λ (y : Life). Contains (taken k c y) t) (sym p.2) (more_taken (eqb c b) s (k c) p.0.pending t r) } in
        elim (cases_eq c b) [
          | inr ne ↦ inl (kept (subst (λ (y : Life). Contains y.pending t) (p.2 ∙ accepted_other b s c p.0 ne) i))
          | inl same ↦ elim (more_out (eqb c b) s p.0.pending t (subst (λ (y : Life). Contains y.pending t) p.2 i)) [ inl j ↦ inl (kept j) | inr e' ↦ inr (same, ap (λ (y : BlockState). y.entry) (sym e')) ]
        ]

    cut_is : (k : Choice) → IsCut next k → IsCutBefore act old.lives next old.next k
    cut_is k cut = record {
      cut = cut_before T old h b l s alive refl k cut;
      full = full_before T old h b l s alive refl k;
      takes = takes_before T old h b l s alive refl k;
      took = takes_more k;
      still = λ c ne full m f.
          let p = each_back (accepted b s) old.lives c m f in
          subst (λ (y : Life). length y.pending ≤ k c) (sym (p.2 ∙ accepted_other b s c p.0 ne)) (full p.0 p.1);
      case = elim (cases_lt (length l.pending) (k b)) [
        | inl lt ↦ inl (record {
          full = took_full_before T old h b l s alive refl k lt;
          all = took_full T old h b l s alive refl k lt;
          others = λ c. seen_other T old h b l s alive refl k c;
          adds = took_adds T old h b l s alive refl k cut lt;
          drops = took_drops k cut lt;
          behind = full_behind T old h k act.behind (took_behind k cut lt (behind_of old act.behind) refl);
        })
        | inr ge ↦ inr (record {
          short = λ f. let lt = full_took T old h b l s alive refl k f in omega arith;
          same = seen_untook T old h b l s alive refl k ge;
        })
      ];
    }

  pub edited_is : Edited T act old.lives new.lives number
  edited_is =
      let r = proposed T old new fs b e number done in
      let claim = claim_of T old new fs b e number done in
      let same : (c : ℕ) → type_at new.lives c ≡ type_at old.lives c = λ c. ap (λ xs. type_at xs c) r.lives ∙ (ap type_in (each_at (accepted b (s r.life r.own.alive)) old.lives c) ∙ same_type b (s r.life r.own.alive) c (life_at old.lives c)) in
      let ty : type_at new.lives b ≡ claim.0.ty = same b ∙ ap type_in claim.1 in
      let was : latest old.lives b ≡ current claim.0 = ap life_bytes claim.1 in
      let now : latest new.lives b ≡ patched (current claim.0) e.patches = proposed_here T old new h fs b e number done ∙ ap (λ m. patched m e.patches) was in
      record {
        cuts = subst (λ n. (k : Choice) → IsCut new.lives k → IsCutBefore act old.lives new.lives n k) (sym r.entry_is)
            (subst (λ xs. (k : Choice) → IsCut xs k → IsCutBefore act old.lives xs old.next k) (sym r.lives) (cut_is r.life r.own.alive));
        here = proposed_here T old new h fs b e number done;
        others = proposed_others T old new h fs b e number done;
        types = same;
        systems = λ c. ap (λ xs. system_in (life_at xs c)) r.lives ∙ (ap system_in (each_at (accepted b (s r.life r.own.alive)) old.lives c) ∙ same_system b (s r.life r.own.alive) c (life_at old.lives c));
        pending = subst (λ n. (c : ℕ) (m : Life) (t : BlockState) → life_at new.lives c ≡ Some m → Contains m.pending t → WasPending old.lives c m t ⊎ ((c ≡ b) × (t.entry ≡ n))) (sym r.entry_is)
            (subst (λ xs. (c : ℕ) (m : Life) (t : BlockState) → life_at xs c ≡ Some m → Contains m.pending t → WasPending old.lives c m t ⊎ ((c ≡ b) × (t.entry ≡ old.next))) (sym r.lives) (pending_is r.life r.own.alive));
        points = λ c u i. elim (claimed T claim.0.ty (current claim.0) (patched (current claim.0) e.patches) e.adds e.drops c u claim.2 (subst (λ t. Contains (T.owned t (patched (current claim.0) e.patches)) (c, u)) ty (subst (λ m. Contains (T.owned (type_at new.lives b) m) (c, u)) now i))) [
          | inl x ↦ inl (subst (λ t. Contains (T.owned t (latest old.lives b)) (c, u)) (sym (ap type_in claim.1)) (subst (λ m. Contains (T.owned claim.0.ty m) (c, u)) (sym was) x.0), x.1)
          | inr x ↦ inr x
        ];
        fresh = λ c u i. let a = addable T old h fs c u (all_at (may_add old fs) e.adds (c, u) r.adds i) in (a.life, a.alive, a.holds.1);
      }
