-- Pending states wait for older ones only: what a change of the lives leaves of that.
use Rattle.std.proofs.Common.{◌≡◌, ℕ, zero, suc, ◌≤◌, ◌⊎◌, Bool, true, false, List, [], ◌∷◌, ◌<◌, take, drop, Option, Some, refl, sym, ◌∙◌, ap, inl, inr, arith, subst, eqb}
use Rattle.std.specs.Prelude.{Contains, IsTrue, option_to_list}
use Rattle.std.specs.List.{last_or}
use Rattle.std.proofs.lemmas.Option.{same_Some}
use Rattle.std.proofs.lemmas.List.Elements.{Contains-append_left, Contains-append_right}
use Rattle.xn_model.specs.Types.{Types}
use Rattle.xn_model.specs.Lives.{BlockState, Life, Lives, life_at, states}
use Rattle.xn_model.specs.Root.{has_type}
use Rattle.xn_model.specs.Rules.{IsBy, IsOlder, IsOlderType, IsRootLife, PointersStay, WaitsForOlder}
use Rattle.xn_model.proofs.Changes.{each, free, with_begun, settled}
use Rattle.xn_model.proofs.Lists.{Contains-none, Contains-head, Contains-tail, Contains-cons, Contains-drop}
use Rattle.xn_model.proofs.Lives.{each_back, at_each, at_free, free_back}
use Rattle.xn_model.proofs.Carry.{still_some, settled_if, settled_types}

-- A life with fewer pending states, those that left being on the disk
pub record Shrinks (old new : Life) : Type 0 where
  pub ty : new.ty ≡ old.ty
  pub status : new.status ≡ old.status
  pub fewer : (t : BlockState) → Contains new.pending t → Contains old.pending t
  pub stored : (s : BlockState) → old.durable ≡ Some s → (r : BlockState) × (new.durable ≡ Some r)
  pub leaves : (t : BlockState) → Contains old.pending t → ((r : BlockState) × (new.durable ≡ Some r)) ⊎ Contains new.pending t

module _ (T : Types) (lives : Lives) (g : ℕ → Life → Life) (shrinks : (c : ℕ) (l : Life) → life_at lives c ≡ Some l → Shrinks l (g c l)) (types : (u n : ℕ) → IsOlderType lives u n → IsOlderType (each g lives) u n) (q : WaitsForOlder T lives) where
  older_each : (c n : ℕ) → IsOlder lives c n → IsOlder (each g lives) c n
  older_each c n o =
      let sh = shrinks c o.life o.alive in
      at_each g o (elim o.holds [
        | inl d ↦ inl (sh.stored d.0 d.1)
        | inr t ↦ elim (sh.leaves t.0 t.1) [ inl d ↦ inl d | inr p ↦ inr (t.0, p, t.2) ]
      ])

  -- a pending state after it was one before
  was_pending : (c : ℕ) (m : Life) (s : BlockState) → life_at (each g lives) c ≡ Some m → Contains m.pending s → (l : Life) × (life_at lives c ≡ Some l) × (m ≡ g c l) × Contains l.pending s
  was_pending c m s e i = let r = each_back g lives c m e in (r.0, r.1, r.2, (shrinks c r.0 r.1).fewer s (subst (λ (x : Life). Contains x.pending s) r.2 i))

  pub queued_each : WaitsForOlder T (each g lives)
  queued_each = record {
    adds = λ b l s c u e i a. let r = was_pending b l s e i in let x = q.adds b r.0 s c u r.1 r.3 a in
        (subst (λ t. Contains (T.owned t s.bytes) (c, u)) (sym (ap (λ (y : Life). y.ty) r.2 ∙ (shrinks b r.0 r.1).ty)) x.0, older_each c s.entry x.1);
    types = λ b l s c u e i a. let r = was_pending b l s e i in types u s.entry (q.types b r.0 s c u r.1 r.3 a);
    drops = λ b l s c m t e i d f j. let r = was_pending b l s e i in let p = was_pending c m t f j in q.drops b r.0 s c p.0 t r.1 r.3 d p.1 p.3;
    after = λ b l s n e i a. let r = was_pending b l s e i in q.after b r.0 s n r.1 r.3 a;
    apart = λ b l e by. let r = each_back g lives b l e in q.apart b r.0 r.1 (subst (IsBy b) (ap (λ (y : Life). y.status) r.2 ∙ (shrinks b r.0 r.1).status) by);
  }

pub begun_shrinks : (b : ℕ) (k : Option ℕ) (c : ℕ) (l : Life) → Shrinks l (with_begun b k c l)
begun_shrinks b k c l = record { ty = refl; status = refl; fewer = λ t i. i; stored = λ s e. (s, e); leaves = λ t i. inr i }

pub begun_types : (b : ℕ) (k : Option ℕ) (lives : Lives) (u n : ℕ) → IsOlderType lives u n → IsOlderType (each (with_begun b k) lives) u n
begun_types b k lives u n o = at_each (with_begun b k) o o.holds

-- a pending state that settles leaves its types on the disk
pub settled_older : (T : Types) (b k : ℕ) (lives : Lives) → IsRootLife T lives → (u n : ℕ) → IsOlderType lives u n → IsOlderType (each (settled b k) lives) u n
settled_older T b k lives root u n o = at_each (settled b k) o (go (eqb 0 b))
  where
    rule : PointersStay (states o.life)
    rule = subst (λ x. PointersStay (states x)) (same_Some root.life o.life (sym root.alive ∙ o.alive)) root.pointers

    Older : Life → Type 0
    Older l = ((s : BlockState) × (l.durable ≡ Some s) × IsTrue (has_type s.bytes u)) ⊎ ((t : BlockState) × Contains l.pending t × (t.entry < n) × IsTrue (has_type t.bytes u))

    go : (t : Bool) → Older (settled_if t k o.life)
    go false = o.holds
    go true = elim o.holds [
      | inl d ↦
          let r = still_some o.life.durable d.0 (take k o.life.pending) d.1 in
          inl (
            r.0,
            r.1,
            settled_types true k o.life d.0 r.0 u rule r.1
                (Contains-append_left (option_to_list o.life.durable) (take k o.life.pending) d.0 (subst (λ x. Contains (option_to_list x) d.0) (sym d.1) (Contains-head d.0 []))) refl d.2,
          )
      | inr p ↦ elim (split k o.life.pending p.0 p.1) [
        | inl first ↦
            let r = some_last o.life.durable (take k o.life.pending) p.0 first in
            inl (r.0, r.1, settled_types true k o.life p.0 r.0 u rule r.1 (Contains-append_right (option_to_list o.life.durable) (take k o.life.pending) p.0 first) refl p.3)
        | inr later ↦ inr (p.0, later, p.2, p.3)
      ]
    ]
      where
        split : (k : ℕ) (xs : List BlockState) (t : BlockState) → Contains xs t → Contains (take k xs) t ⊎ Contains (drop k xs) t
        split zero xs t i = inr i
        split (suc k) [] t i = inr i
        split (suc k) (x ∷ xs) t i = elim (Contains-cons x xs t i) [
          | inl e ↦ inl (subst (λ (y : BlockState). Contains (x ∷ take k xs) y) e (Contains-head x (take k xs)))
          | inr j ↦ elim (split k xs t j) [ inl a ↦ inl (Contains-tail x (take k xs) t a) | inr b ↦ inr b ]
        ]

        some_last : (o : Option BlockState) (xs : List BlockState) (t : BlockState) → Contains xs t → (r : BlockState) × (last_or o xs ≡ Some r)
        some_last o [] t i = absurd (Contains-none t i)
        some_last o (x ∷ xs) t i = still_some (Some x) x xs refl

-- the first states that settle leave one
first_settles : (o : Option BlockState) (k : ℕ) (xs : List BlockState) (t : BlockState) → 1 ≤ k → Contains xs t → (r : BlockState) × (last_or o (take k xs) ≡ Some r)
first_settles o zero xs t le i = absurd (omega arith)
first_settles o (suc k) [] t le i = absurd (Contains-none t i)
first_settles o (suc k) (x ∷ xs) t le i = still_some (Some x) x (take k xs) refl

settled_shrinks_if : (t : Bool) (k : ℕ) (l : Life) → 1 ≤ k → Shrinks l (settled_if t k l)
settled_shrinks_if true k l le = record { ty = refl; status = refl; fewer = λ t i. Contains-drop k l.pending t i; stored = λ s e. still_some l.durable s (take k l.pending) e; leaves = λ t i. inl (first_settles l.durable k l.pending t le i) }
settled_shrinks_if false k l le = record { ty = refl; status = refl; fewer = λ t i. i; stored = λ s e. (s, e); leaves = λ t i. inr i }

pub settled_shrinks : (b k : ℕ) → 1 ≤ k → (c : ℕ) (l : Life) → Shrinks l (settled b k c l)
settled_shrinks b k le c l = settled_shrinks_if (eqb c b) k l le

-- Blocks that nothing names end
pub queued_free : (T : Types) (lives : Lives) (blocks : List ℕ) → ((c : ℕ) → Contains blocks c → (a : ℕ) (l : Life) (s : BlockState) (u : ℕ) → life_at lives a ≡ Some l → Contains l.pending s → Contains (T.owned l.ty s.bytes) (c, u) → ⊥) →
    (Contains blocks 0 → ⊥) → WaitsForOlder T lives → WaitsForOlder T (free blocks lives)
queued_free T lives blocks unnamed not_root q = record {
  adds = λ b l s c u e i a. let f = (free_back blocks lives b l e).1 in let x = q.adds b l s c u f i a in
      (x.0, at_free blocks (λ k. unnamed c k b l s u f i x.0) x.1);
  types = λ b l s c u e i a. at_free blocks not_root (q.types b l s c u (free_back blocks lives b l e).1 i a);
  drops = λ b l s c m t e i d f j. q.drops b l s c m t (free_back blocks lives b l e).1 i d (free_back blocks lives c m f).1 j;
  after = λ b l s n e i a. q.after b l s n (free_back blocks lives b l e).1 i a;
  apart = λ b l e by. q.apart b l (free_back blocks lives b l e).1 by;
}
