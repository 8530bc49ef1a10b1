-- What the tests on lives tell.
use Rattle.std.proofs.Common.{◌≡◌, ℕ, suc, ◌≤◌, ◌⊎◌, Bool, true, false, cond, not, ◌&&◌, List, [], ◌∷◌, ◌++◌, length, take, Option, Some, None, refl, sym, ◌∙◌, ap, inl, inr, arith, subst}
use Rattle.std.specs.Prelude.{◌==◌, Contains, is_some, ⊤, Result, Ok, Err, if◌then◌else◌, slice_get}
use Rattle.std.specs.List.{list_all, list_any}
use Rattle.std.proofs.lemmas.Bool.{false≢true, true≢false, and_parts, or_cases, eqb-true, not-false}
use Rattle.xn_model.specs.Lists.{blocks_of, types_of_pairs}
use Rattle.xn_model.specs.Root.{has_type}
use Rattle.xn_model.specs.Types.{Types}
use Rattle.xn_model.specs.Lives.{StoreState, BlockState, Status, Fresh, Owned, Dropped, Life, Lives, life_at, alive_and, is_fresh, is_dropped, is_owned_by, no_states, has_durable, is_all_durable, safe, safe_count, root_on_disk, is_type_met, is_after_met, is_for}
use Rattle.xn_model.specs.Results.{Refusal, NotInUse, NotYours, NoSuchBlock, first_refusal, unless, result_map, result_and_then}
use Rattle.xn_model.specs.Calls.{own_place, own_life}
use Rattle.xn_model.specs.Rules.{IsOnDisk, IsAtRest, Grows, NamedIn}
use Rattle.xn_model.proofs.Lives.{life_from}
use Rattle.xn_model.proofs.Lists.{Contains-none, Contains-head, Contains-tail, Contains-cons, all_at, blocks_of_has}

pub alive_from : (test : Life → Bool) (o : Option Life) → alive_and test o ≡ true → (l : Life) × (o ≡ Some l) × (test l ≡ true)
alive_from test None e = absurd (false≢true e)
alive_from test (Some l) e = (l, refl, e)

pub some_from : {A : Type 0} (o : Option A) → is_some o ≡ true → (x : A) × (o ≡ Some x)
some_from None e = absurd (false≢true e)
some_from (Some x) e = (x, refl)

pub none_from : {A : Type 0} (o : Option A) → is_some o ≡ false → o ≡ None
none_from None e = refl
none_from (Some x) e = absurd (true≢false e)

pub no_states_from : (xs : List BlockState) → no_states xs ≡ true → xs ≡ []
no_states_from [] e = refl
no_states_from (x ∷ xs) e = absurd (false≢true e)

pub fresh_from : (s : Status) → is_fresh s ≡ true → s ≡ Fresh
fresh_from Fresh e = refl
fresh_from (Owned a) e = absurd (false≢true e)
fresh_from (Dropped a) e = absurd (false≢true e)

pub owned_from : (b : ℕ) (s : Status) → is_owned_by b s ≡ true → s ≡ Owned b
owned_from b Fresh e = absurd (false≢true e)
owned_from b (Owned a) e = ap Owned (eqb-true a b e)
owned_from b (Dropped a) e = absurd (false≢true e)

pub fs_from : (fs : ℕ) (o : Option ℕ) → is_for fs o ≡ true → o ≡ Some fs
fs_from fs None e = absurd (false≢true e)
fs_from fs (Some x) e = ap Some (eqb-true x fs e)

pub kept_from : (lives : Lives) (c : ℕ) → has_durable lives c ≡ true → IsOnDisk lives c
kept_from lives c e =
    let r = alive_from (λ l. is_some l.durable) (life_at lives c) e in
    record { life = r.0; alive = r.1; holds = some_from r.0.durable r.2 }

pub settled_from : (lives : Lives) (c : ℕ) → is_all_durable lives c ≡ true → IsAtRest lives c
settled_from lives c e =
    let r = alive_from (λ l. is_some l.durable && no_states l.pending) (life_at lives c) e in
    record { life = r.0; alive = r.1; holds = no_states_from r.0.pending (and_parts (is_some r.0.durable) (no_states r.0.pending) r.2).1 }

-- the three tests of a pending state
abbrev adds_met : Lives → ℕ → List BlockState → BlockState → Bool
adds_met lives t earlier s = list_all (has_durable lives) (blocks_of s.adds) && list_all (is_type_met lives t earlier) (types_of_pairs s.adds)

abbrev rest_met : Lives → List BlockState → BlockState → Bool
rest_met lives earlier s = list_all (is_all_durable lives) s.drops && is_after_met lives earlier s.after

pub safe_adds : (lives : Lives) (t : ℕ) (earlier : List BlockState) (s : BlockState) (c u : ℕ) → safe lives t earlier s ≡ true → Contains s.adds (c, u) → IsOnDisk lives c
safe_adds lives t earlier s c u e m =
    let parts = and_parts (adds_met lives t earlier s) (rest_met lives earlier s) e in
    let adds = and_parts (list_all (has_durable lives) (blocks_of s.adds)) (list_all (is_type_met lives t earlier) (types_of_pairs s.adds)) parts.0 in
    kept_from lives c (all_at (has_durable lives) (blocks_of s.adds) c adds.0 (blocks_of_has s.adds (c, u) m))

-- a block that is not block 0 names types that block 0 has on the disk
pub safe_types : (lives : Lives) (t : ℕ) (earlier : List BlockState) (s : BlockState) (c u : ℕ) → (t ≡ 0 → ⊥) → safe lives t earlier s ≡ true → Contains s.adds (c, u) → has_type (root_on_disk lives) u ≡ true
safe_types lives t earlier s c u ne e m =
    let parts = and_parts (adds_met lives t earlier s) (rest_met lives earlier s) e in
    let adds = and_parts (list_all (has_durable lives) (blocks_of s.adds)) (list_all (is_type_met lives t earlier) (types_of_pairs s.adds)) parts.0 in
    elim (or_cases (has_type (root_on_disk lives) u) ((t == 0) && list_any (λ s. has_type s.bytes u) earlier) (all_at (is_type_met lives t earlier) (types_of_pairs s.adds) u adds.1 (types_have s.adds (c, u) m))) [
      | inl has ↦ has
      | inr here ↦ absurd (ne (eqb-true t 0 (and_parts (t == 0) (list_any (λ s. has_type s.bytes u) earlier) here).0))
    ]
  where
    types_have : (ps : List (ℕ × ℕ)) (p : ℕ × ℕ) → Contains ps p → Contains (types_of_pairs ps) p.1
    types_have [] p h = absurd (Contains-none p h)
    types_have (q ∷ ps) p h = elim (Contains-cons q ps p h) [
      | inl same ↦ subst (λ (x : ℕ × ℕ). Contains (q.1 ∷ types_of_pairs ps) x.1) same (Contains-head q.1 (types_of_pairs ps))
      | inr i ↦ Contains-tail q.1 (types_of_pairs ps) p.1 (types_have ps p i)
    ]

pub safe_drops : (lives : Lives) (t : ℕ) (earlier : List BlockState) (s : BlockState) (c : ℕ) → safe lives t earlier s ≡ true → Contains s.drops c → IsAtRest lives c
safe_drops lives t earlier s c e m =
    let parts = and_parts (adds_met lives t earlier s) (rest_met lives earlier s) e in
    let drops = and_parts (list_all (is_all_durable lives) s.drops) (is_after_met lives earlier s.after) parts.1 in
    settled_from lives c (all_at (is_all_durable lives) s.drops c drops.0 m)

-- The safe prefix

pub safe_count_within : (lives : Lives) (t : ℕ) (earlier xs : List BlockState) → safe_count lives t earlier xs ≤ length xs
safe_count_within lives t earlier [] = omega arith
safe_count_within lives t earlier (x ∷ xs) = within (safe lives t earlier x) (safe_count lives t (earlier ++ x ∷ []) xs) (length xs) (safe_count_within lives t (earlier ++ x ∷ []) xs)
  where
    within : (b : Bool) (n m : ℕ) → n ≤ m → cond b (suc n) 0 ≤ suc m
    within true n m h = omega arith
    within false n m h = omega arith

in_first : (b : Bool) (n : ℕ) (x : BlockState) (xs : List BlockState) (s : BlockState) → Contains (take (cond b (suc n) 0) (x ∷ xs)) s → (b ≡ true) × ((x ≡ s) ⊎ Contains (take n xs) s)
in_first true n x xs s h = (refl, Contains-cons x (take n xs) s h)
in_first false n x xs s h = absurd (Contains-none s h)

-- each state of the prefix is safe
pub prefix_safe : (lives : Lives) (t : ℕ) (earlier xs : List BlockState) (s : BlockState) → Contains (take (safe_count lives t earlier xs) xs) s → (before : List BlockState) × (safe lives t before s ≡ true)
prefix_safe lives t earlier [] s h = absurd (Contains-none s h)
prefix_safe lives t earlier (x ∷ xs) s h =
    let r = in_first (safe lives t earlier x) (safe_count lives t (earlier ++ x ∷ []) xs) x xs s h in
    elim r.1 [ inl e ↦ (earlier, ap (safe lives t earlier) (sym e) ∙ r.0) | inr i ↦ prefix_safe lives t (earlier ++ x ∷ []) xs s i ]

-- and names only what has a state on the disk
pub prefix_ready : (T : Types) (lives : Lives) (t : ℕ) (before : Option BlockState) (earlier xs : List BlockState) → Grows T t before xs →
    ((c u : ℕ) → NamedIn T t before (c, u) → IsOnDisk lives c) →
    (s : BlockState) (c u : ℕ) → Contains (take (safe_count lives t earlier xs) xs) s → Contains (T.owned t s.bytes) (c, u) → IsOnDisk lives c
prefix_ready T lives t before earlier [] g known s c u h n = absurd (Contains-none s h)
prefix_ready T lives t before earlier (x ∷ xs) g known s c u h n =
    let r = in_first (safe lives t earlier x) (safe_count lives t (earlier ++ x ∷ []) xs) x xs s h in
    let here : (c u : ℕ) → Contains (T.owned t x.bytes) (c, u) → IsOnDisk lives c = λ c u m. elim (g.0 c u m) [ inl old ↦ known c u old | inr add ↦ safe_adds lives t earlier x c u r.0 add ] in
    elim r.1 [
      | inl e ↦ here c u (rw e n)
      | inr i ↦ prefix_ready T lives t (Some x) (earlier ++ x ∷ []) xs g.1 here s c u i n
    ]

-- and, unless the block is block 0, only types that block 0 has on the disk
pub prefix_typed : (T : Types) (lives : Lives) (t : ℕ) (before : Option BlockState) (earlier xs : List BlockState) → (t ≡ 0 → ⊥) → Grows T t before xs →
    ((c u : ℕ) → NamedIn T t before (c, u) → has_type (root_on_disk lives) u ≡ true) →
    (s : BlockState) (c u : ℕ) → Contains (take (safe_count lives t earlier xs) xs) s → Contains (T.owned t s.bytes) (c, u) → has_type (root_on_disk lives) u ≡ true
prefix_typed T lives t before earlier [] ne g known s c u h n = absurd (Contains-none s h)
prefix_typed T lives t before earlier (x ∷ xs) ne g known s c u h n =
    let r = in_first (safe lives t earlier x) (safe_count lives t (earlier ++ x ∷ []) xs) x xs s h in
    let here : (c u : ℕ) → Contains (T.owned t x.bytes) (c, u) → has_type (root_on_disk lives) u ≡ true = λ c u m. elim (g.0 c u m) [ inl old ↦ known c u old | inr add ↦ safe_types lives t earlier x c u ne r.0 add ] in
    elim r.1 [
      | inl e ↦ here c u (rw e n)
      | inr i ↦ prefix_typed T lives t (Some x) (earlier ++ x ∷ []) xs ne g.1 here s c u i n
    ]

-- Refusals

abbrev pub AllFalse : List (Bool × Refusal) → Type 0
AllFalse [] = ⊤
AllFalse (t ∷ tests) = (t.0 ≡ false) × AllFalse tests

-- What a result tells

abbrev pub ok_or : {A : Type 0} → A → Result A Refusal → A
ok_or d (Ok x) = x
ok_or d (Err refusal) = d

pub same_ok : {A : Type 0} (x y : A) → ◌≡◌ {A = Result A Refusal} (Ok x) (Ok y) → x ≡ y
same_ok x y e = ap (ok_or x) e

abbrev is_given : {A : Type 0} → Result A Refusal → Bool
is_given (Ok x) = true
is_given (Err refusal) = false

pub never_ok : {A : Type 0} (refusal : Refusal) (y : A) → ◌≡◌ {A = Result A Refusal} (Err refusal) (Ok y) → ⊥
never_ok refusal y e = false≢true (ap is_given e)

-- no test held
pub unless_ok : {A : Type 0} (tests : List (Bool × Refusal)) (r : Result A Refusal) (y : A) → unless (first_refusal tests) r ≡ Ok y → AllFalse tests × (r ≡ Ok y)
unless_ok [] r y e = (tt, e)
unless_ok {A} (t ∷ tests) r y e = go t.0 refl (unless_ok tests r y) e
  where
    go : (b : Bool) → t.0 ≡ b → (unless (first_refusal tests) r ≡ Ok y → AllFalse tests × (r ≡ Ok y)) → unless {A = A} (if b then Some t.1 else first_refusal tests) r ≡ Ok y → AllFalse (t ∷ tests) × (r ≡ Ok y)
    go true f more g = absurd (never_ok t.1 y g)
    go false f more g = let rest = more g in ((f, rest.0), rest.1)

pub unless_passed : {A : Type 0} (tests : List (Bool × Refusal)) (r : Result A Refusal) → AllFalse tests → unless (first_refusal tests) r ≡ r
unless_passed [] r e = refl
unless_passed {A} (t ∷ tests) r e = ap (λ b. unless {A = A} (if b then Some t.1 else first_refusal tests) r) e.0 ∙ unless_passed tests r e.1

pub map_ok : {A B : Type 0} (f : A → B) (r : Result A Refusal) (y : B) → result_map f r ≡ Ok y → (x : A) × (r ≡ Ok x) × (f x ≡ y)
map_ok f (Ok x) y e = (x, refl, same_ok (f x) y e)
map_ok f (Err refusal) y e = absurd (never_ok refusal y e)

pub then_ok : {A B : Type 0} (f : A → Result B Refusal) (r : Result A Refusal) (y : B) → result_and_then f r ≡ Ok y → (x : A) × (r ≡ Ok x) × (f x ≡ Ok y)
then_ok f (Ok x) y e = (x, refl, e)
then_ok f (Err refusal) y e = absurd (never_ok refusal y e)

-- A file system's own block

pub record IsOwn (lives : Lives) (fs b : ℕ) (l : Life) : Type 0 where
  pub alive : life_at lives b ≡ Some l
  pub in_use : is_dropped l.status ≡ false
  pub mine : l.fs ≡ Some fs

own_is : (lives : Lives) (fs b : ℕ) (o : Option (Option Life)) (l : Life) → slice_get lives b ≡ o → own_place fs o ≡ Ok l → IsOwn lives fs b l
own_is lives fs b None l at e = absurd (never_ok NoSuchBlock l e)
own_is lives fs b (Some None) l at e = absurd (never_ok NotInUse l e)
own_is lives fs b (Some (Some m)) l at e =
    let u = unless_ok ((is_dropped m.status, NotInUse) ∷ (not (is_for fs m.fs), NotYours) ∷ []) (Ok m) l e in
    subst (IsOwn lives fs b) (same_ok m l u.1)
    (record { alive = life_from lives b m at; in_use = u.0.0; mine = fs_from fs m.fs (not-false (is_for fs m.fs) u.0.1.0) })

pub own_then : {A : Type 0} (state : StoreState) (fs b : ℕ) (go : Life → Result A Refusal) (y : A) → result_and_then go (own_life state fs b) ≡ Ok y → (l : Life) × IsOwn state.lives fs b l × (go l ≡ Ok y)
own_then state fs b go y e = let r = then_ok go (own_life state fs b) y e in (r.0, own_is state.lives fs b (slice_get state.lives b) r.0 refl r.1, r.2)

-- past the refusals
pub given_ok : {A : Type 0} (refusal : Option Refusal) (given : Result A Refusal) (y : A) → unless refusal given ≡ Ok y → given ≡ Ok y
given_ok None given y e = e
given_ok (Some refusal) given y e = absurd (never_ok refusal y e)
