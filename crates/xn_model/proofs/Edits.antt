-- An edit that every test passes may be accepted.
use Rattle.std.proofs.Common.{◌≡◌, ℕ, ◌<◌, ◌≢◌, ◌⊎◌, true, false, not, ◌&&◌, List, ◌++◌, Option, Some, None, refl, sym, ◌∙◌, ap, inl, inr, subst}
use Rattle.std.specs.Prelude.{Contains, Ok, nat_lt, ◌==◌}
use Rattle.std.specs.List.{list_all}
use Rattle.std.proofs.lemmas.Bool.{false≢true, not-false, not-true, and_parts, and_from, eqb-true, ltb-true, false_from_ne_true}
use Rattle.std.proofs.lemmas.Option.{same_Some, none-some}
use Rattle.std.proofs.lemmas.List.Elements.{Contains-append_cases, Contains-append_right, Contains-append_left}
use Rattle.xn_model.proofs.Statuses.{names_none}
use Rattle.xn_model.specs.Lists.{has_number, has_pair, blocks_of, distinct}
use Rattle.xn_model.specs.Types.{Types, claims, named_once, within_size, without, inside}
use Rattle.xn_model.specs.Lives.{Fresh, Life, Lives, life_at, newest, current, bytes_of, is_fresh, is_owned_by, is_dropped, is_for, StoreState, chain_end}
use Rattle.xn_model.specs.Calls.{propose_of, edited, Edit, may_add, may_drop, is_empty, propose_at, patched, was_given, accepts, owns_nothing, edit_tests}
use Rattle.xn_model.specs.Rules.{Keeps, IsInFileSystem, IsOwnedBy, IsLinkedLife, IsConsistent, NamedIn}
use Rattle.xn_model.proofs.Lists.{all_at, has_pair_at, has_number_from, filter_at, filter_from, has_number_at, blocks_of_has}
use Rattle.xn_model.proofs.Lives.{of_life, of_root}
use Rattle.xn_model.proofs.Tests.{alive_from, fresh_from, owned_from, fs_from, unless_ok, own_then, same_ok}
use Rattle.xn_model.proofs.Chains.{ends_itself}
use Rattle.xn_model.proofs.States.{IsAddable, MayAccept}
use Rattle.xn_model.proofs.Accept.{accepts_keeps}

-- a block of a file system is not block 0
pub not_root : (T : Types) (state : StoreState) → IsConsistent T state → (fs c : ℕ) (l : Life) → life_at state.lives c ≡ Some l → l.fs ≡ Some fs → c ≢ 0
not_root T state h fs c l e mine zero' = none-some fs (sym (of_root h.lives_sound.root l (ap (life_at state.lives) (sym zero') ∙ e)).1 ∙ mine)

pub addable : (T : Types) (state : StoreState) → IsConsistent T state → (fs c u : ℕ) → may_add state fs (c, u) ≡ true → IsAddable state.lives c u
addable T state h fs c u e =
    let r = alive_from (λ l. is_fresh l.status && ((l.ty == u) && is_for fs l.fs)) (life_at state.lives c) e in
    let one = and_parts (is_fresh r.0.status) ((r.0.ty == u) && is_for fs r.0.fs) r.2 in
    let two = and_parts (r.0.ty == u) (is_for fs r.0.fs) one.1 in
    record { life = r.0; alive = r.1; holds = (eqb-true r.0.ty u two.0, fresh_from r.0.status one.0, not_root T state h fs c r.0 r.1 (fs_from fs r.0.fs two.1)) }

pub addable_system : (state : StoreState) (fs c u : ℕ) → may_add state fs (c, u) ≡ true → IsInFileSystem state.lives (Some fs) c
addable_system state fs c u e =
    let r = alive_from (λ l. is_fresh l.status && ((l.ty == u) && is_for fs l.fs)) (life_at state.lives c) e in
    let one = and_parts (is_fresh r.0.status) ((r.0.ty == u) && is_for fs r.0.fs) r.2 in
    let two = and_parts (r.0.ty == u) (is_for fs r.0.fs) one.1 in
    record { life = r.0; alive = r.1; holds = fs_from fs r.0.fs two.1 }

pub droppable : (state : StoreState) (b c : ℕ) → may_drop state b c ≡ true → IsOwnedBy state.lives b c
droppable state b c e = let r = alive_from (λ l. is_owned_by b l.status) (life_at state.lives c) e in record { life = r.0; alive = r.1; holds = owned_from b r.0.status r.2 }

-- what the current bytes name, the newest state names
pub in_newest : (T : Types) (lives : Lives) (b : ℕ) (l : Life) → IsLinkedLife T lives b l → (p : ℕ × ℕ) → Contains (T.owned l.ty (current l)) p → NamedIn T l.ty (newest l) p
in_newest T lives b l k p n =
    let here : Contains (T.owned l.ty k.last.bytes) p = subst (λ o. Contains (T.owned l.ty (bytes_of o)) p) k.is_last n in
    subst (λ o. NamedIn T l.ty o p) (sym k.is_last) here

-- what is named after a claim
pub claimed : (T : Types) (t : ℕ) (old new : List ℕ) (adds : List (ℕ × ℕ)) (drops : List ℕ) (c u : ℕ) → claims T t old new adds drops ≡ true → Contains (T.owned t new) (c, u) →
    (Contains (T.owned t old) (c, u) × (Contains drops c → ⊥)) ⊎ Contains adds (c, u)
claimed T t old new adds drops c u e n =
    let parts = and_parts (inside (T.owned t new) (without (T.owned t old) drops ++ adds)) (inside (without (T.owned t old) drops ++ adds) (T.owned t new)) e in
    let in' = has_pair_at (without (T.owned t old) drops ++ adds) (c, u) (all_at (λ p. has_pair (without (T.owned t old) drops ++ adds) p) (T.owned t new) (c, u) parts.0 n) in
    elim (Contains-append_cases (without (T.owned t old) drops) adds (c, u) in') [
      | inl before ↦ let r = filter_at (λ p. not (has_number drops p.0)) (T.owned t old) (c, u) before in
          inl (r.0, λ i. false≢true (sym (not-true (has_number drops c) r.1) ∙ has_number_from drops c i))
      | inr add ↦ inr add
    ]

-- what is added is named
pub claim_adds : (T : Types) (t : ℕ) (old new : List ℕ) (adds : List (ℕ × ℕ)) (drops : List ℕ) (c u : ℕ) → claims T t old new adds drops ≡ true → Contains adds (c, u) → Contains (T.owned t new) (c, u)
claim_adds T t old new adds drops c u e n =
    let parts = and_parts (inside (T.owned t new) (without (T.owned t old) drops ++ adds)) (inside (without (T.owned t old) drops ++ adds) (T.owned t new)) e in
    has_pair_at (T.owned t new) (c, u) (all_at (λ p. has_pair (T.owned t new) p) (without (T.owned t old) drops ++ adds) (c, u) parts.1 (Contains-append_right (without (T.owned t old) drops) adds (c, u) n))

-- what is named and not dropped stays named
pub claim_stays : (T : Types) (t : ℕ) (old new : List ℕ) (adds : List (ℕ × ℕ)) (drops : List ℕ) (c u : ℕ) → claims T t old new adds drops ≡ true → Contains (T.owned t old) (c, u) → (Contains drops c → ⊥) → Contains (T.owned t new) (c, u)
claim_stays T t old new adds drops c u e n out =
    let parts = and_parts (inside (T.owned t new) (without (T.owned t old) drops ++ adds)) (inside (without (T.owned t old) drops ++ adds) (T.owned t new)) e in
    let left : Contains (without (T.owned t old) drops) (c, u) = filter_from (λ p. not (has_number drops p.0)) (T.owned t old) (c, u) n (ap not (false_from_ne_true (has_number drops c) (λ k. out (has_number_at drops c k)))) in
    has_pair_at (T.owned t new) (c, u) (all_at (λ p. has_pair (T.owned t new) p) (without (T.owned t old) drops ++ adds) (c, u) parts.1 (Contains-append_left (without (T.owned t old) drops) adds (c, u) left))

-- what the newest state names, the current bytes name
pub from_newest : (T : Types) (lives : Lives) (b : ℕ) (l : Life) → IsLinkedLife T lives b l → (p : ℕ × ℕ) → NamedIn T l.ty (newest l) p → Contains (T.owned l.ty (current l)) p
from_newest T lives b l k p n =
    let here : Contains (T.owned l.ty k.last.bytes) p = subst (λ o. NamedIn T l.ty o p) k.is_last n in
    subst (λ o. Contains (T.owned l.ty (bytes_of o)) p) (sym k.is_last) here

pub dropped_empty : (T : Types) (state : StoreState) (c : ℕ) (m : Life) (p : ℕ × ℕ) → is_empty T state c ≡ true → life_at state.lives c ≡ Some m → NamedIn T m.ty (newest m) p → ⊥
dropped_empty T state c m p e f n =
    let r = alive_from (λ l. owns_nothing T l.ty (current l)) (life_at state.lives c) e in
    let same : r.0 ≡ m = same_Some r.0 m (sym r.1 ∙ f) in
    names_none T m p (subst (λ (x : Life). owns_nothing T x.ty (current x) ≡ true) same r.2) n

edit_may : (T : Types) (state : StoreState) → IsConsistent T state → (fs b : ℕ) (e : Edit) (l : Life) → life_at state.lives b ≡ Some l → is_dropped l.status ≡ false → l.fs ≡ Some fs →
    list_all (may_add state fs) e.adds ≡ true → list_all (may_drop state b) e.drops ≡ true →
    (claims T l.ty (current l) (patched (current l) e.patches) e.adds e.drops && named_once T l.ty (patched (current l) e.patches)) ≡ true →
    within_size T l.ty (patched (current l) e.patches) ≡ true → was_given state e.after ≡ true → list_all (is_empty T state) e.drops ≡ true → has_number (blocks_of e.adds) (chain_end state.lives b) ≡ false →
    MayAccept T state.lives b l (edited state.next fs e l)
edit_may T state h fs b e l alive in_use mine adds drops claim size given empties below =
    let new = patched (current l) e.patches in
    let parts = and_parts (claims T l.ty (current l) new e.adds e.drops) (named_once T l.ty new) claim in
    record {
      adds = λ c u i. addable T state h fs c u (all_at (may_add state fs) e.adds (c, u) adds i);
      systems = λ c u ne i. subst (λ o. IsInFileSystem state.lives o c) (sym mine) (addable_system state fs c u (all_at (may_add state fs) e.adds (c, u) adds i));
      drops = λ c i. droppable state b c (all_at (may_drop state b) e.drops c drops i);
      in_use = in_use;
      editable = λ none. absurd (none-some fs (sym none ∙ mine));
      names = λ c u n. elim (claimed T l.ty (current l) new e.adds e.drops c u parts.0 n) [
        | inl before ↦ inl (in_newest T state.lives b l (h.linked b l alive) (c, u) before.0, before.1)
        | inr add ↦ inr add
      ];
      added = λ c u i. (
        claim_adds T l.ty (current l) new e.adds e.drops c u parts.0 i,
        λ same.
            let a = addable T state h fs c u (all_at (may_add state fs) e.adds (c, u) adds i) in
            let fresh : l.status ≡ Fresh = (of_life a l (ap (life_at state.lives) same ∙ alive)).1 in
            let end : chain_end state.lives b ≡ c = ends_itself state.lives b (record { life = l; alive = alive; holds = fresh }) ∙ sym same in
            not_below (subst (λ x. Contains (blocks_of e.adds) x) (sym end) (blocks_of_has e.adds (c, u) i)),
      );
      no_cycle = not_below;
      given = given_below e.after given;
      stays = λ c u n out. claim_stays T l.ty (current l) new e.adds e.drops c u parts.0 (from_newest T state.lives b l (h.linked b l alive) (c, u) n) out;
      empty = λ c m p i f n. dropped_empty T state c m p (all_at (is_empty T state) e.drops c empties i) f n;
      fit = and_from (named_once T l.ty new) (within_size T l.ty new) parts.1 size;
    }
  where
    not_below : Contains (blocks_of e.adds) (chain_end state.lives b) → ⊥
    not_below i = false≢true (sym below ∙ has_number_from (blocks_of e.adds) (chain_end state.lives b) i)

    given_below : (o : Option ℕ) → was_given state o ≡ true → (n : ℕ) → o ≡ Some n → n < state.next
    given_below None g n f = absurd (none-some n f)
    given_below (Some x) g n f = let lt = ltb-true x state.next (and_parts (nat_lt 0 x) (nat_lt x state.next) g).1 in subst (λ y. y < state.next) (same_Some x n f) lt

pub propose_keeps : (T : Types) (state : StoreState) → IsConsistent T state → (fs b : ℕ) (e : Edit) (entry : ℕ) (new : StoreState) → propose_of T state fs b e ≡ Ok (entry, new) → Keeps T state new
propose_keeps T state h fs b e entry new done =
    let own = own_then state fs b (propose_at T state fs b e) (entry, new) done in
    let l : Life = own.0 in
    let m = patched (current l) e.patches in
    let u = unless_ok (edit_tests T state fs b e l) (Ok (accepts state b (edited state.next fs e l))) (entry, new) own.2 in
    let t = u.0 in
    subst (λ (x : ℕ × StoreState). Keeps T state x.1) (same_ok (accepts state b (edited state.next fs e l)) (entry, new) u.1)
    (accepts_keeps T state h b l (edited state.next fs e l) own.1.alive
    (edit_may T state h fs b e l own.1.alive own.1.in_use own.1.mine
    (and_parts (list_all (may_add state fs) e.adds) (distinct (blocks_of e.adds)) (not-false (list_all (may_add state fs) e.adds && distinct (blocks_of e.adds)) t.1.1.1.1.0)).0
    (and_parts (list_all (may_drop state b) e.drops) (distinct e.drops) (not-false (list_all (may_drop state b) e.drops && distinct e.drops) t.1.1.1.1.1.1.0)).0
    (not-false (claims T l.ty (current l) m e.adds e.drops && named_once T l.ty m) t.1.1.1.1.1.1.1.1.0)
    (not-false (within_size T l.ty m) t.1.1.1.1.1.1.1.1.1.0)
    (not-false (was_given state e.after) t.1.1.1.0) (not-false (list_all (is_empty T state) e.drops) t.1.1.1.1.1.1.1.0) t.1.1.1.1.1.0)
    refl
    (λ zero'. absurd (not_root T state h fs b l own.1.alive own.1.mine zero')) (λ zero'. absurd (not_root T state h fs b l own.1.alive own.1.mine zero')))
