-- Chains of owners: the walk from owner to owner finds where a chain ends, and what a change of the lives leaves of chains.
use Rattle.std.proofs.Common.{◌≡◌, ℕ, zero, suc, ◌<◌, ◌≤◌, true, false, not, List, [], ◌∷◌, length, Option, Some, None, refl, sym, ◌∙◌, ap, inl, inr, arith, subst}
use Rattle.std.specs.Prelude.{Contains, ⊤}
use Rattle.std.proofs.lemmas.Bool.{and_from, false_from_ne_true}
use Rattle.std.proofs.lemmas.Option.{same_Some, none-some}
use Rattle.xn_model.specs.Lists.{distinct, has_number}
use Rattle.xn_model.specs.Types.{Types}
use Rattle.xn_model.specs.Lives.{Status, Fresh, Owned, Dropped, Life, Lives, life_at, newest, is_dropped, owner_of, life_owner, climb, chain_end}
use Rattle.xn_model.specs.Rules.{IsFreshBlock, IsOwnedBy, ChainsEnd, NamedIn, HasExactStatuses}
use Rattle.xn_model.proofs.Changes.{each, free}
use Rattle.xn_model.proofs.Lists.{Contains-none, Contains-cons, has_number_at}
use Rattle.xn_model.proofs.Lives.{in_lives, each_back, at_each, at_free, free_back}
use Rattle.xn_model.proofs.FoundBlocks.{few_below}

-- Block r is fresh, and n owners above block b.
abbrev pub IsAbove : Lives → ℕ → ℕ → ℕ → Type 0
IsAbove lives zero r b = (b ≡ r) × IsFreshBlock lives b
IsAbove lives (suc n) r b = (a : ℕ) × IsOwnedBy lives a b × IsAbove lives n r a

-- a chain that ends
pub record HasChain (lives : Lives) (b : ℕ) : Type 0 where
  pub owners : ℕ
  pub top : ℕ
  pub above : IsAbove lives owners top b

-- of one block, and of a block with an owner
pub alone : (lives : Lives) (b : ℕ) → IsFreshBlock lives b → HasChain lives b
alone lives b f = record { owners = 0; top = b; above = (refl, f) }

pub below : (lives : Lives) (a b : ℕ) → IsOwnedBy lives a b → HasChain lives a → HasChain lives b
below lives a b o c = record { owners = suc c.owners; top = c.top; above = (a, o, c.above) }

-- One step

fresh_owner : (lives : Lives) (b : ℕ) → IsFreshBlock lives b → life_owner (life_at lives b) ≡ None
fresh_owner lives b f = ap life_owner f.alive ∙ ap owner_of f.holds

owned_owner : (lives : Lives) (a b : ℕ) → IsOwnedBy lives a b → life_owner (life_at lives b) ≡ Some a
owned_owner lives a b o = ap life_owner o.alive ∙ ap owner_of o.holds

status_owned : (s : Status) (a : ℕ) → owner_of s ≡ Some a → s ≡ Owned a
status_owned Fresh a e = absurd (none-some a e)
status_owned (Owned x) a e = ap Owned (same_Some x a e)
status_owned (Dropped x) a e = absurd (none-some a e)

pub owner_is : (lives : Lives) (a b : ℕ) → life_owner (life_at lives b) ≡ Some a → IsOwnedBy lives a b
owner_is lives a b e = go (life_at lives b) refl e
  where
    go : (o : Option Life) → life_at lives b ≡ o → life_owner o ≡ Some a → IsOwnedBy lives a b
    go None f g = absurd (none-some a g)
    go (Some l) f g = record { life = l; alive = f; holds = status_owned l.status a g }

abbrev climb_by : ℕ → Lives → ℕ → Option ℕ → ℕ
climb_by n lives b o = elim o [ None ↦ b | Some a ↦ climb n lives a ]

climb_stays : (n : ℕ) (lives : Lives) (b : ℕ) → IsFreshBlock lives b → climb n lives b ≡ b
climb_stays zero lives b f = refl
climb_stays (suc n) lives b f = ap (climb_by n lives b) (fresh_owner lives b f)

climb_up : (n : ℕ) (lives : Lives) (a b : ℕ) → IsOwnedBy lives a b → climb (suc n) lives b ≡ climb n lives a
climb_up n lives a b o = ap (climb_by n lives b) (owned_owner lives a b o)

-- The walk finds the end

climbs : (lives : Lives) (n m r b : ℕ) → IsAbove lives n r b → n ≤ m → climb m lives b ≡ r
climbs lives zero m r b c le = climb_stays m lives b c.1 ∙ c.0
climbs lives (suc n) zero r b c le = absurd (omega arith)
climbs lives (suc n) (suc m) r b c le = climb_up m lives c.0 b c.1 ∙ climbs lives n m r c.0 c.2 (omega arith)

-- and where it ends at a fresh block there is a chain
climbed : (lives : Lives) (m b : ℕ) → IsFreshBlock lives (climb m lives b) → HasChain lives b
climbed lives zero b f = alone lives b f
climbed lives (suc m) b f = go (life_owner (life_at lives b)) refl (climbed lives m) f
  where
    go : (o : Option ℕ) → life_owner (life_at lives b) ≡ o → ((a : ℕ) → IsFreshBlock lives (climb m lives a) → HasChain lives a) → IsFreshBlock lives (climb_by m lives b o) → HasChain lives b
    go None e more g = alone lives b g
    go (Some a) e more g = below lives a b (owner_is lives a b e) (more a g)

-- A chain has no more blocks than there are

-- its blocks
abbrev path : (lives : Lives) (n r b : ℕ) → IsAbove lives n r b → List ℕ
path lives zero r b c = b ∷ []
path lives (suc n) r b c = b ∷ path lives n r c.0 c.2

path_length : (lives : Lives) (n r b : ℕ) (c : IsAbove lives n r b) → length (path lives n r b c) ≡ suc n
path_length lives zero r b c = refl
path_length lives (suc n) r b c = ap suc (path_length lives n r c.0 c.2)

-- each of them is so many owners below the end
on_path : (lives : Lives) (n r b : ℕ) (c : IsAbove lives n r b) (x : ℕ) → Contains (path lives n r b c) x → (k : ℕ) × (k ≤ n) × IsAbove lives k r x
on_path lives zero r b c x i = elim (Contains-cons b [] x i) [
  | inl e ↦ (0, omega arith, subst (λ y. IsAbove lives 0 r y) e c)
  | inr none ↦ absurd (Contains-none x none)
]
on_path lives (suc n) r b c x i = elim (Contains-cons b (path lives n r c.0 c.2) x i) [
  | inl e ↦ (suc n, omega arith, subst (λ y. IsAbove lives (suc n) r y) e c)
  | inr rest ↦ let p = on_path lives n r c.0 c.2 x rest in let le : p.0 ≤ n = p.1 in (p.0, omega arith, p.2)
]

not_both : (lives : Lives) (a b : ℕ) → IsFreshBlock lives b → IsOwnedBy lives a b → ⊥
not_both lives a b f o = none-some a (sym (fresh_owner lives b f) ∙ owned_owner lives a b o)

-- one block is as far below its end by every count
same_height : (lives : Lives) (n m r q b : ℕ) → IsAbove lives n r b → IsAbove lives m q b → n ≡ m
same_height lives zero zero r q b c d = refl
same_height lives zero (suc m) r q b c d = absurd (not_both lives d.0 b c.1 d.1)
same_height lives (suc n) zero r q b c d = absurd (not_both lives c.0 b d.1 c.1)
same_height lives (suc n) (suc m) r q b c d =
    let same : d.0 ≡ c.0 = same_Some d.0 c.0 (sym (owned_owner lives d.0 b d.1) ∙ owned_owner lives c.0 b c.1) in
    ap suc (same_height lives n m r q c.0 c.2 (subst (λ x. IsAbove lives m q x) same d.2))

path_apart : (lives : Lives) (n r b : ℕ) (c : IsAbove lives n r b) → distinct (path lives n r b c) ≡ true
path_apart lives zero r b c = refl
path_apart lives (suc n) r b c = and_from (not (has_number (path lives n r c.0 c.2) b)) (distinct (path lives n r c.0 c.2))
    (ap not (false_from_ne_true (has_number (path lives n r c.0 c.2) b) (λ t.
    let p = on_path lives n r c.0 c.2 b (has_number_at (path lives n r c.0 c.2) b t) in
    let le : p.0 ≤ n = p.1 in
    let same : p.0 ≡ suc n = same_height lives p.0 (suc n) r r b p.2 c in
    omega arith)))
    (path_apart lives n r c.0 c.2)

above_alive : (lives : Lives) (n r b : ℕ) → IsAbove lives n r b → b < length lives
above_alive lives zero r b c = in_lives lives b c.1.life c.1.alive
above_alive lives (suc n) r b c = in_lives lives b c.1.life c.1.alive

few_owners : (lives : Lives) (n r b : ℕ) → IsAbove lives n r b → n < length lives
few_owners lives n r b c =
    let few : length (path lives n r b c) ≤ length lives = few_below (path lives n r b c) (length lives) (path_apart lives n r b c)
    (λ x i. let p = on_path lives n r b c x i in above_alive lives p.0 r x p.2) in
    let long = path_length lives n r b c in
    omega arith

-- So the end is that of the walk

pub ends_at : (lives : Lives) (n r b : ℕ) → IsAbove lives n r b → chain_end lives b ≡ r
ends_at lives n r b c = let lt = few_owners lives n r b c in climbs lives n (length lives) r b c (omega arith)

pub end_fresh : (lives : Lives) (n r b : ℕ) → IsAbove lives n r b → IsFreshBlock lives r
end_fresh lives zero r b c = subst (IsFreshBlock lives) c.0 c.1
end_fresh lives (suc n) r b c = end_fresh lives n r c.0 c.2

pub chain_ends : (lives : Lives) (b : ℕ) → HasChain lives b → IsFreshBlock lives (chain_end lives b)
chain_ends lives b c = subst (IsFreshBlock lives) (sym (ends_at lives c.owners c.top b c.above)) (end_fresh lives c.owners c.top b c.above)

pub chain_of : (lives : Lives) → ChainsEnd lives → (b : ℕ) (l : Life) → life_at lives b ≡ Some l → is_dropped l.status ≡ false → HasChain lives b
chain_of lives ends b l alive in_use = climbed lives (length lives) b (ends b l alive in_use)

-- a block without an owner is where its own chain ends
pub ends_itself : (lives : Lives) (b : ℕ) → IsFreshBlock lives b → chain_end lives b ≡ b
ends_itself lives b f = climb_stays (length lives) lives b f

-- and an owned block's chain ends where its owner's does
pub same_end : (lives : Lives) → ChainsEnd lives → (a b : ℕ) → IsOwnedBy lives a b → chain_end lives b ≡ chain_end lives a
same_end lives ends a b o = let c = chain_of lives ends b o.life o.alive (ap is_dropped o.holds) in go c.owners c.top c.above
  where
    go : (n r : ℕ) → IsAbove lives n r b → chain_end lives b ≡ chain_end lives a
    go zero r c = absurd (not_both lives a b c.1 o)
    go (suc n) r c =
        let same : c.0 ≡ a = same_Some c.0 a (sym (owned_owner lives c.0 b c.1) ∙ owned_owner lives a b o) in
        ends_at lives (suc n) r b c ∙ (sym (ends_at lives n r c.0 c.2) ∙ ap (chain_end lives) same)

-- Other lives

-- A chain goes on as it was, and from its old end as it does there.
pub goes_on : (old new : Lives) (P : ℕ → Type 0) → ((a c : ℕ) → P c → IsOwnedBy old a c → IsOwnedBy new a c × P a) → (n r b : ℕ) → IsAbove old n r b → P b → (P r → IsFreshBlock old r → HasChain new r) → HasChain new b
goes_on old new P up zero r b c p more = subst (HasChain new) (sym c.0) (more (subst P c.0 p) (subst (IsFreshBlock old) c.0 c.1))
goes_on old new P up (suc n) r b c p more =
    let o = up c.0 b p c.1 in
    below new c.0 b o.0 (goes_on old new P up n r c.0 c.2 o.1 more)

-- the same statuses
pub chains_each : (lives : Lives) (g : ℕ → Life → Life) → ((c : ℕ) (l : Life) → (g c l).status ≡ l.status) → ChainsEnd lives → ChainsEnd (each g lives)
chains_each lives g same ends b m e in_use =
    let r = each_back g lives b m e in
    let was : is_dropped r.0.status ≡ false = ap is_dropped (sym (same b r.0)) ∙ (ap (λ (x : Life). is_dropped x.status) (sym r.2) ∙ in_use) in
    let c = chain_of lives ends b r.0 r.1 was in
    chain_ends (each g lives) b (goes_on lives (each g lives) (λ x. ⊤)
    (λ a x p o. (at_each g o (same x o.life ∙ o.holds), tt))
    c.owners c.top b c.above tt
    (λ p f. alone (each g lives) c.top (at_each g f (same c.top f.life ∙ f.holds))))

-- blocks that own nothing end
pub chains_free : (T : Types) (lives : Lives) (blocks : List ℕ) → ((a : ℕ) (m : Life) (p : ℕ × ℕ) → Contains blocks a → life_at lives a ≡ Some m → NamedIn T m.ty (newest m) p → ⊥) →
    HasExactStatuses T lives → ChainsEnd lives → ChainsEnd (free blocks lives)
chains_free T lives blocks empty x ends b l e in_use =
    let r = free_back blocks lives b l e in
    let c = chain_of lives ends b l r.1 in_use in
    chain_ends (free blocks lives) b (goes_on lives (free blocks lives) (λ y. Contains blocks y → ⊥)
    (λ a y out o. (at_free blocks out o, λ i. let n = x.owned y o.life a o.alive o.holds in empty a n.life (y, o.life.ty) i n.alive n.holds))
    c.owners c.top b c.above r.0
    (λ out f. alone (free blocks lives) c.top (at_free blocks out f)))
