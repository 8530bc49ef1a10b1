-- The next entry number over calls and writes, and the numbers that were given.
use Rattle.std.proofs.Common.{◌≡◌, ℕ, ◌+◌, ◌<◌, ◌≤◌, ◌≢◌, ◌⊎◌, List, [], ◌∷◌, ◌++◌, Option, Some, None, refl, sym, ◌∙◌, ap, inl, inr, arith, subst}
use Rattle.std.specs.Prelude.{Contains, IsTrue, Ok, nat_lt, slice_get, slice_set, option_to_list}
use Rattle.std.specs.List.{last_or}
use Rattle.std.proofs.lemmas.Bool.{and_from, and_parts, ltb-true, lt-ltb}
use Rattle.std.proofs.lemmas.List.Elements.{Contains-append_right, Contains-push}
use Rattle.store_types.specs.declared.refusal.Refusal.TheVariants.{NoSpace}
use Rattle.xn_model.specs.Types.{Types}
use Rattle.xn_model.specs.Languages.{Language}
use Rattle.xn_model.specs.Lives.{BlockState, Life, StoreState, life_at, states, bytes_of, lowest_free, begun_at}
use Rattle.xn_model.specs.Calls.{Edit, accepts, begun_of, begun_place, drop_root_of, drop_root_refusal, edited, forget_at, forget_of, forget_refusal, init_at, init_of, install_of, init_refusal, life_bytes, make_root_at, make_root_of, make_root_refusal, new_life, propose_of, root_state, settled_after, settled_of, settled_place, slot_now, was_given}
use Rattle.xn_model.specs.Rules.{IsConsistent, Rises, StartsPlain}
use Rattle.xn_model.proofs.ForCallers.{accept, accepted, accepted_same, each_forth, last_of, given_ok, installed_is, map_ok, never_ok, own_then, same_ok}
use Rattle.ffs_model.specs.Cuts.{latest}
use Rattle.ffs_model.proofs.Given.{proposed}

-- The next number

pub begun_next : (T : Types) (state new : StoreState) (fs t : ℕ) (bytes : List ℕ) (made : ℕ × ℕ) → init_of T state fs t bytes ≡ Ok (made, new) → new.next ≡ state.next + 1
begun_next T state new fs t bytes made e = go (lowest_free state.lives) (given_ok (init_refusal T state fs t bytes) (init_at state fs t bytes (lowest_free state.lives)) (made, new) e)
  where
    go : (o : Option ℕ) → init_at state fs t bytes o ≡ Ok (made, new) → new.next ≡ state.next + 1
    go None g = absurd (never_ok NoSpace (made, new) g)
    go (Some b) g = ap (λ (y : (ℕ × ℕ) × StoreState). y.1.next) (sym (same_ok ((b, state.next), record { lives = slice_set state.lives b (Some (new_life state.next (Some fs) t bytes)); next = state.next + 1 }) (made, new) g))

pub proposed_next : (T : Types) (state new : StoreState) (fs b : ℕ) (edit : Edit) (entry : ℕ) → propose_of T state fs b edit ≡ Ok (entry, new) → new.next ≡ state.next + 1
proposed_next T state new fs b edit entry e = (proposed T state new fs b edit entry e).next

pub rooted_next : (state new : StoreState) (fs b entry : ℕ) → make_root_of state fs b ≡ Ok (entry, new) → (entry ≡ state.next) × (new.next ≡ state.next + 1)
rooted_next state new fs b entry e =
    let own = own_then state fs b (make_root_at state fs b) (entry, new) e in
    let next = accepts state 0 (root_state state fs (b, own.0.ty) ((b, own.0.ty) ∷ []) []) in
    let same = same_ok next (entry, new) (given_ok (make_root_refusal state fs own.0) (Ok next) (entry, new) own.2) in
    (ap (λ (y : ℕ × StoreState). y.0) (sym same), ap (λ (y : ℕ × StoreState). y.1.next) (sym same))

pub drop_root_next : (T : Types) (state new : StoreState) (fs entry : ℕ) → drop_root_of T state fs ≡ Ok (entry, new) → new.next ≡ state.next + 1
drop_root_next T state new fs entry e =
    let next = accepts state 0 (root_state state fs (0, 0) [] ((slot_now state fs).0 ∷ [])) in
    ap (λ (y : ℕ × StoreState). y.1.next) (sym (same_ok next (entry, new) (given_ok (drop_root_refusal T state fs) (Ok next) (entry, new) e)))

pub forgot_next : (T : Types) (state new : StoreState) (fs b : ℕ) (done : Unit {0}) → forget_of T state fs b ≡ Ok (done, new) → new.next ≡ state.next
forgot_next T state new fs b done e =
    let own = own_then state fs b (forget_at T state b) (done, new) e in
    let next : Unit {0} × StoreState = (tt, record state { lives = slice_set state.lives b None }) in
    ap (λ (y : Unit {0} × StoreState). y.1.next) (sym (same_ok next (done, new) (given_ok (forget_refusal T own.0) (Ok next) (done, new) own.2)))

pub begin_next : (state new : StoreState) (b : ℕ) (given : List ℕ × ℕ) → begun_of state b ≡ Ok (given, new) → new.next ≡ state.next
begin_next state new b given e =
    let m = map_ok (λ (x : List ℕ × ℕ). (x, record state { lives = begun_at state.lives b x.1 })) (begun_place state.lives (slice_get state.lives b)) (given, new) e in
    ap (λ (y : (List ℕ × ℕ) × StoreState). y.1.next) (sym m.2)

pub settle_next : (state new : StoreState) (b : ℕ) (bytes : List ℕ) (done : ℕ × ℕ) → settled_of state b bytes ≡ Ok (done, new) → new.next ≡ state.next
settle_next state new b bytes done e =
    let m = map_ok (settled_after state b) (settled_place bytes (slice_get state.lives b)) (done, new) e in
    ap (λ (y : (ℕ × ℕ) × StoreState). y.1.next) (sym m.2)

pub installed_next : (L : Language) (state new : StoreState) (bytes : List ℕ) (made : ℕ × ℕ × ℕ) → install_of L state bytes ≡ Ok (made, new) → state.next ≤ new.next
installed_next L state new bytes made e =
    let x = installed_is L state bytes made new e in
    let next : state.next + 1 + 1 ≡ new.next = ap (λ (y : StoreState). y.next) x.is in
    omega arith

-- what is one more, or the same, is no less
pub one_later : (m n : ℕ) → m ≡ n + 1 → n ≤ m
one_later m n e = omega arith

pub none_later : (m n : ℕ) → m ≡ n → n ≤ m
none_later m n e = omega arith

pub later_then : (n m k : ℕ) → n ≤ m → m ≤ k → n ≤ k
later_then n m k f g = omega arith

-- A number that was given

above : (n m : ℕ) → n < m → 0 < m
above n m lt = omega arith

-- some state of block 0 has a number
pub next_some : (T : Types) (state : StoreState) → IsConsistent T state → 0 < state.next
next_some T state h =
    let r = h.lives_sound.root in
    let k = h.linked 0 r.life r.alive in
    above k.last.entry state.next (h.numbers 0 r.life k.last r.alive (last_of r.life.durable r.life.pending k.last k.is_last))

-- the number of a state that a block has accepted is below the next one
pub accepted_below : (T : Types) (state : StoreState) (b : ℕ) (l : Life) (s : BlockState) (next : ℕ) → life_at state.lives b ≡ Some l → s.entry ≡ state.next → IsConsistent T (record { lives = accept b s state.lives; next = next }) → state.next < next
accepted_below T state b l s next alive number h =
    subst (λ n. n < next) number (h.numbers b (accepted b s b l) s (each_forth (accepted b s) state.lives b l alive)
    (Contains-append_right (option_to_list l.durable) (accepted b s b l).pending s (subst (λ (m : Life). Contains m.pending s) (sym (accepted_same b s b l refl)) (Contains-push l.pending s))))

pub is_given : (state : StoreState) (n : ℕ) → 0 < n → n < state.next → IsTrue (was_given state (Some n))
is_given state n some below = and_from (nat_lt 0 n) (nat_lt n state.next) (lt-ltb 0 n some) (lt-ltb n state.next below)

-- a given number stays given
pub given_later : (old new : StoreState) → old.next ≤ new.next → (after : Option ℕ) → IsTrue (was_given old after) → IsTrue (was_given new after)
given_later old new later None given = refl
given_later old new later (Some n) given =
    let parts = and_parts (nat_lt 0 n) (nat_lt n old.next) given in
    is_given new n (ltb-true 0 n parts.0) (below n old.next new.next (ltb-true n old.next parts.1) later)
  where
    below : (n m k : ℕ) → n < m → m ≤ k → n < k
    below n m k lt le = omega arith

pub given_accepted : (T : Types) (state : StoreState) → IsConsistent T state → (b : ℕ) (l : Life) (s : BlockState) (next : ℕ) → life_at state.lives b ≡ Some l → s.entry ≡ state.next →
    IsConsistent T (record { lives = accept b s state.lives; next = next }) → (n : ℕ) → IsTrue (was_given state (Some n)) → IsTrue (was_given (record { lives = accept b s state.lives; next = next }) (Some n))
given_accepted T state h b l s next alive number h' n given =
    given_later state (record { lives = accept b s state.lives; next = next }) (weaker state.next next (accepted_below T state b l s next alive number h')) (Some n) given
  where
    weaker : (n m : ℕ) → n < m → n ≤ m
    weaker n m lt = omega arith

-- the number of a state that comes last is above 0, or no other stands before it
rises_above : (x : BlockState) (xs : List BlockState) (s : BlockState) → Rises (x ∷ (xs ++ s ∷ [])) → 0 < s.entry
rises_above x [] s r = above x.entry s.entry r.0
rises_above x (y ∷ ys) s r = rises_above y ys s r.1

last_above : (o : Option BlockState) (xs : List BlockState) (s : BlockState) → Rises (option_to_list o ++ (xs ++ s ∷ [])) → (0 < s.entry) ⊎ ((o ≡ None) × (xs ≡ []))
last_above None [] s r = inr (refl, refl)
last_above (Some x) [] s r = inl (above x.entry s.entry r.0)
last_above None (x ∷ xs) s r = inl (rises_above x xs s r)
last_above (Some y) (x ∷ xs) s r = inl (rises_above x xs s r.1)

-- an edit of a block that has bytes, or one that adds some block, has a given number
pub edit_given : (T : Types) (state new : StoreState) (fs b : ℕ) (edit : Edit) (entry : ℕ) → IsConsistent T new → (latest state.lives b ≢ []) ⊎ (edit.adds ≢ []) → propose_of T state fs b edit ≡ Ok (entry, new) →
    IsTrue (was_given new (Some entry))
edit_given T state new fs b edit entry h has done =
    let r = proposed T state new fs b edit entry done in
    let l : Life = r.life in
    let s = edited state.next fs edit l in
    let alive : life_at new.lives b ≡ Some (accepted b s b l) = ap (λ xs. life_at xs b) r.lives ∙ each_forth (accepted b s) state.lives b l r.own.alive in
    let same = accepted_same b s b l refl in
    let rises : Rises (option_to_list l.durable ++ (l.pending ++ s ∷ [])) = subst (λ (m : Life). Rises (states m)) same (h.lives_sound.each b (accepted b s b l) alive).rising in
    let starts : StartsPlain l.durable (l.pending ++ s ∷ []) = subst (λ (m : Life). StartsPlain m.durable m.pending) same (h.linked b (accepted b s b l) alive).start in
    elim (last_above l.durable l.pending s rises) [
      | inl some ↦ is_given new entry (subst (λ n. 0 < n) (sym r.entry_is) some) (next_after new.next state.next entry r.next r.entry_is)
      | inr none ↦ absurd (elim has [
        | inl bytes ↦ bytes (ap life_bytes r.own.alive ∙ (λ i. bytes_of (last_or (none.0 i) (none.1 i))))
        | inr adds ↦ adds (subst (λ xs. StartsPlain None (xs ++ s ∷ [])) none.1 (subst (λ o. StartsPlain o (l.pending ++ s ∷ [])) none.0 starts)).adds
      ])
    ]
  where
    next_after : (m n e : ℕ) → m ≡ n + 1 → e ≡ n → e < m
    next_after m n e f g = omega arith
