-- A state that a life may accept, and lists with one state more.
use Rattle.std.proofs.Common.{◌≡◌, ℕ, ◌<◌, ◌≤◌, ◌≢◌, ◌⊎◌, Bool, false, cond, List, [], ◌∷◌, ◌++◌, length, take, drop, Option, Some, None, refl, sym, ◌∙◌, ap, inl, inr, arith, subst, length-append}
use Rattle.std.specs.Prelude.{Contains, IsTrue, option_to_list}
use Rattle.std.specs.List.{last_or}
use Rattle.std.proofs.lemmas.Bool.{cases_Bool, eq-eqb, ne_eqb, cond-true, cond-false}
use Rattle.std.proofs.lemmas.List.{take-append-le, take_all}
use Rattle.std.proofs.lemmas.List.Elements.{Contains-append_cases, Contains-append_left, Contains-append_right, Contains-push_cases}
use Rattle.xn_model.specs.Lists.{has_number, blocks_of}
use Rattle.xn_model.specs.Types.{Types, fits}
use Rattle.xn_model.specs.Root.{has_type, KeepsPointers, marked, slot, templates_of, owned_by_root}
use Rattle.xn_model.specs.Lives.{BlockState, Status, Fresh, Owned, Dropped, Life, Lives, life_at, newest, first_states, is_dropped, chain_end}
use Rattle.xn_model.specs.Rules.{At, IsTemplate, IsInFileSystem, IsRootLife, NamedIn, StartsPlain, Grows, StaysDropped, NoneNames, NoneDrops, IsCount, Rises, IsOwnedBy}
use Rattle.xn_model.proofs.Changes.{accepted, status_after}
use Rattle.xn_model.proofs.Lists.{Contains-none, Contains-head, Contains-tail, has_number_at, has_number_from}
use Rattle.xn_model.proofs.Carry.{settled_gone}

abbrev pub IsAddable : (lives : Lives) (c u : ℕ) → Type 0
IsAddable lives c u = At lives c (λ life. (life.ty ≡ u) × (life.status ≡ Fresh) × (c ≢ 0))

-- A state that block 0 may accept
pub record MayBeRoot (T : Types) (lives : Lives) (r : IsRootLife T lives) (s : BlockState) : Type 0 where
  pub mark : IsTrue (marked (length lives) s.bytes)
  pub pointers : (last : BlockState) → newest r.life ≡ Some last → KeepsPointers last.bytes s.bytes
  pub long : length s.bytes ≡ 512
  pub templates : (c u : ℕ) → Contains (templates_of s.bytes) (c, u) → IsTemplate T lives c
  pub types : (c u : ℕ) → Contains (owned_by_root s.bytes) (c, u) → IsTrue (has_type s.bytes u)
  pub all_types : (t : ℕ) → IsTrue (T.installed t) → IsTrue (has_type s.bytes t)
  pub slots : (i c : ℕ) → i < 32 → (slot s.bytes i).0 ≡ c → c ≢ 0 → IsInFileSystem lives (Some i) c

-- A state that a life may accept
pub record MayAccept (T : Types) (lives : Lives) (b : ℕ) (l : Life) (s : BlockState) : Type 0 where
  pub adds : (c u : ℕ) → Contains s.adds (c, u) → IsAddable lives c u
  pub systems : (c u : ℕ) → b ≢ 0 → Contains s.adds (c, u) → IsInFileSystem lives l.fs c
  pub drops : (c : ℕ) → Contains s.drops c → IsOwnedBy lives b c
  pub in_use : is_dropped l.status ≡ false
  pub editable : l.fs ≡ None → b ≡ 0
  pub names : (c u : ℕ) → Contains (T.owned l.ty s.bytes) (c, u) → (NamedIn T l.ty (newest l) (c, u) × (Contains s.drops c → ⊥)) ⊎ Contains s.adds (c, u)
  pub fit : IsTrue (fits T l.ty s.bytes)
  pub added : (c u : ℕ) → Contains s.adds (c, u) → Contains (T.owned l.ty s.bytes) (c, u) × (c ≢ b)
  pub given : (n : ℕ) → s.after ≡ Some n → n < s.entry
  pub stays : (c u : ℕ) → NamedIn T l.ty (newest l) (c, u) → (Contains s.drops c → ⊥) → Contains (T.owned l.ty s.bytes) (c, u)
  pub empty : (c : ℕ) (m : Life) (p : ℕ × ℕ) → Contains s.drops c → life_at lives c ≡ Some m → NamedIn T m.ty (newest m) p → ⊥
  pub no_cycle : Contains (blocks_of s.adds) (chain_end lives b) → ⊥

-- Lists with one state more

pub rises_push : (xs : List BlockState) (s : BlockState) → Rises xs → ((t : BlockState) → Contains xs t → t.entry < s.entry) → Rises (xs ++ s ∷ [])
rises_push [] s h less = tt
rises_push (x ∷ []) s h less = (less x (Contains-head x []), tt)
rises_push (x ∷ y ∷ xs) s h less = (h.0, rises_push (y ∷ xs) s h.1 (λ t m. less t (Contains-tail x (y ∷ xs) t m)))

pub last_push : (o : Option BlockState) (xs : List BlockState) (s : BlockState) → last_or o (xs ++ s ∷ []) ≡ Some s
last_push o [] s = refl
last_push o (x ∷ xs) s = last_push (Some x) xs s

pub start_push : (o : Option BlockState) (xs : List BlockState) (s last : BlockState) → last_or o xs ≡ Some last → StartsPlain o xs → StartsPlain o (xs ++ s ∷ [])
start_push None [] s last e h = absurd cc
start_push None (x ∷ xs) s last e h = h
start_push (Some d) xs s last e h = tt

pub grows_push : (T : Types) (t : ℕ) (o : Option BlockState) (xs : List BlockState) (s : BlockState) → Grows T t o xs → ((c u : ℕ) → Contains (T.owned t s.bytes) (c, u) → NamedIn T t (last_or o xs) (c, u) ⊎ Contains s.adds (c, u)) → Grows T t o (xs ++ s ∷ [])
grows_push T t o [] s h more = (more, tt)
grows_push T t o (x ∷ xs) s h more = (h.0, grows_push T t (Some x) xs s h.1 more)

pub stays_push : (T : Types) (t : ℕ) (xs : List BlockState) (s : BlockState) → StaysDropped T t xs →
    ((r : BlockState) (c : ℕ) → Contains xs r → Contains r.drops c → NoneNames T t c (s ∷ []) × NoneDrops c (s ∷ [])) →
    ((c : ℕ) → Contains s.drops c → NoneNames T t c (s ∷ [])) → StaysDropped T t (xs ++ s ∷ [])
stays_push T t [] s h old new = (λ c m. (new c m, λ r i n. Contains-none r i), tt)
stays_push T t (x ∷ xs) s h old new = (
  λ c m. let before = h.0 c m in let more = old x c (Contains-head x xs) m in (
    λ r u i n. elim (Contains-append_cases (x ∷ xs) (s ∷ []) r i) [ inl a ↦ before.0 r u a n | inr z ↦ more.0 r u z n ],
    λ r i n. elim (Contains-append_cases xs (s ∷ []) r i) [ inl a ↦ before.1 r a n | inr z ↦ more.1 r z n ],
  ),
  stays_push T t xs s h.1 (λ r c i m. old r c (Contains-tail x xs r i) m) new,
)

-- what a list of states drops, its last state doesn't name
pub stays_last : (T : Types) (t : ℕ) (o : Option BlockState) (xs : List BlockState) (r : BlockState) (c u : ℕ) → StaysDropped T t xs → Contains xs r → Contains r.drops c → NamedIn T t (last_or o xs) (c, u) → ⊥
stays_last T t o xs r c u h i m n =
    let all : take (length xs) xs ≡ xs = take_all (length xs) xs (omega arith) in
    let gone = (settled_gone T t (length xs) xs r c h (subst (λ ys. Contains ys r) (sym all) i) m o).0 in
    named_last (last_or o xs) n (λ s u' k. gone s u' (Contains-append_left (option_to_list (last_or o (take (length xs) xs))) (drop (length xs) xs) s (subst (λ ys. Contains (option_to_list (last_or o ys)) s) (sym all) k)))
  where
    named_last : (p : Option BlockState) → NamedIn T t p (c, u) → ((s : BlockState) (u' : ℕ) → Contains (option_to_list p) s → Contains (T.owned t s.bytes) (c, u') → ⊥) → ⊥
    named_last None n never = n
    named_last (Some s) n never = never s u (Contains-head s []) n

pub states_push : (o : Option BlockState) (xs : List BlockState) (s t : BlockState) → Contains (option_to_list o ++ (xs ++ s ∷ [])) t → Contains (option_to_list o ++ xs) t ⊎ (s ≡ t)
states_push o xs s t h = elim (Contains-append_cases (option_to_list o) (xs ++ s ∷ []) t h) [
  | inl d ↦ inl (Contains-append_left (option_to_list o) xs t d)
  | inr p ↦ elim (Contains-push_cases xs s t p) [ inl old ↦ inl (Contains-append_right (option_to_list o) xs t old) | inr e ↦ inr e ]
]

-- a begun write carries no new state
pub carried_still : (o : Option ℕ) (xs : List BlockState) (s : BlockState) → IsCount o (length xs) → first_states o (xs ++ s ∷ []) ≡ first_states o xs
carried_still None xs s h = refl
carried_still (Some k) xs s h = take-append-le k xs (s ∷ []) h.1

pub count_more : (o : Option ℕ) (xs : List BlockState) (s : BlockState) → IsCount o (length xs) → IsCount o (length (xs ++ s ∷ []))
count_more None xs s h = tt
count_more (Some k) xs s h = (h.0, let le : k ≤ length xs = h.1 in rw length-append (omega arith))

-- the life with one state more, and with a status
abbrev pub with_state : BlockState → Status → Life → Life
with_state s st l = record { fs = l.fs; ty = l.ty; status = st; durable = l.durable; pending = l.pending ++ s ∷ []; begun = l.begun }

abbrev pub with_status : Status → Life → Life
with_status st l = record { fs = l.fs; ty = l.ty; status = st; durable = l.durable; pending = l.pending; begun = l.begun }

abbrev pub accepted_if : Bool → ℕ → BlockState → ℕ → Life → Life
accepted_if t b s c l = record { fs = l.fs; ty = l.ty; status = status_after b s c l.status; durable = l.durable; pending = cond t (l.pending ++ s ∷ []) l.pending; begun = l.begun }

pub accepted_other : (b : ℕ) (s : BlockState) (c : ℕ) (m : Life) → (c ≡ b → ⊥) → accepted b s c m ≡ with_status (status_after b s c m.status) m
accepted_other b s c m ne = ap (λ t. accepted_if t b s c m) (ne_eqb c b ne)

pub accepted_same : (b : ℕ) (s : BlockState) (c : ℕ) (m : Life) → c ≡ b → accepted b s c m ≡ with_state s (status_after b s c m.status) m
accepted_same b s c m e = ap (λ t. accepted_if t b s c m) (eq-eqb c b e)

-- The status of a block

pub status_cases : (b : ℕ) (s : BlockState) (c : ℕ) (old : Status) →
    (Contains (blocks_of s.adds) c × (status_after b s c old ≡ Owned b)) ⊎ ((Contains s.drops c × (status_after b s c old ≡ Dropped b)) ⊎ (status_after b s c old ≡ old))
status_cases b s c old = elim (cases_Bool (has_number (blocks_of s.adds) c)) [
  | inl t ↦ inl (has_number_at (blocks_of s.adds) c t, cond-true (has_number (blocks_of s.adds) c) (Owned b) (cond (has_number s.drops c) (Dropped b) old) t)
  | inr f ↦ elim (cases_Bool (has_number s.drops c)) [
    | inl t ↦ inr (inl (has_number_at s.drops c t, cond-false (has_number (blocks_of s.adds) c) (Owned b) (cond (has_number s.drops c) (Dropped b) old) f ∙ cond-true (has_number s.drops c) (Dropped b) old t))
    | inr g ↦ inr (inr (cond-false (has_number (blocks_of s.adds) c) (Owned b) (cond (has_number s.drops c) (Dropped b) old) f ∙ cond-false (has_number s.drops c) (Dropped b) old g))
  ]
]

-- a status that stays is of a block that isn't dropped
pub status_stays : (b : ℕ) (s : BlockState) (c : ℕ) (old : Status) → Contains s.drops c → Contains (blocks_of s.adds) c ⊎ (status_after b s c old ≡ Dropped b)
status_stays b s c old i = elim (cases_Bool (has_number (blocks_of s.adds) c)) [
  | inl t ↦ inl (has_number_at (blocks_of s.adds) c t)
  | inr f ↦ inr (cond-false (has_number (blocks_of s.adds) c) (Owned b) (cond (has_number s.drops c) (Dropped b) old) f ∙ cond-true (has_number s.drops c) (Dropped b) old (has_number_from s.drops c i))
]

pub fresh_owned : (b : ℕ) → Fresh ≡ Owned b → ⊥
fresh_owned b e = absurd cc

pub same_owner : (a b : ℕ) → Owned a ≡ Owned b → a ≡ b
same_owner a b e = cc

pub fresh_dropped : (b : ℕ) → Fresh ≡ Dropped b → ⊥
fresh_dropped b e = absurd cc

pub owned_dropped : (a b : ℕ) → Owned a ≡ Dropped b → ⊥
owned_dropped a b e = absurd cc
