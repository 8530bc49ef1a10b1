-- What the statuses say of newest states, and what a change of the lives leaves of that.
use Rattle.std.proofs.Common.{◌≡◌, ℕ, Bool, true, false, List, [], ◌∷◌, Option, Some, None, refl, sym, ◌∙◌, ap, subst, eqb}
use Rattle.std.specs.Prelude.{Contains}
use Rattle.std.proofs.lemmas.Bool.{false≢true}
use Rattle.xn_model.specs.Types.{Types}
use Rattle.xn_model.specs.Lives.{BlockState, Life, Lives, life_at, newest, current, bytes_of}
use Rattle.xn_model.specs.Calls.{owns_nothing}
use Rattle.xn_model.specs.Rules.{NamedIn, HasExactStatuses}
use Rattle.xn_model.proofs.Changes.{each, free, with_begun, settled}
use Rattle.xn_model.proofs.Lists.{Contains-none}
use Rattle.xn_model.proofs.Lives.{each_back, at_each, at_free, free_back}
use Rattle.xn_model.proofs.Carry.{settled_if, settled_last}

-- a life with the same newest state
pub record SameNewest (old new : Life) : Type 0 where
  pub ty : new.ty ≡ old.ty
  pub status : new.status ≡ old.status
  pub newest : newest new ≡ newest old

pub named_same : (T : Types) (old new : Life) (p : ℕ × ℕ) → new.ty ≡ old.ty → newest new ≡ newest old → NamedIn T old.ty (newest old) p → NamedIn T new.ty (newest new) p
named_same T old new p t e n = subst (λ o. NamedIn T new.ty o p) (sym e) (subst (λ x. NamedIn T x (newest old) p) (sym t) n)

pub exact_each : (T : Types) (lives : Lives) (g : ℕ → Life → Life) → ((c : ℕ) (l : Life) → SameNewest l (g c l)) → HasExactStatuses T lives → HasExactStatuses T (each g lives)
exact_each T lives g same x = record {
  owned = λ b l a e s.
      let r = each_back g lives b l e in
      let k = same b r.0 in
      let o = x.owned b r.0 a r.1 (sym k.status ∙ (ap (λ (y : Life). y.status) (sym r.2) ∙ s)) in
      let m = same a o.life in
      let ty : r.0.ty ≡ l.ty = sym k.ty ∙ ap (λ (y : Life). y.ty) (sym r.2) in
      at_each g o (named_same T o.life (g a o.life) (b, l.ty) m.ty m.newest (subst (λ t. NamedIn T o.life.ty (newest o.life) (b, t)) ty o.holds));
  emptied = λ b l a p e s n.
      let r = each_back g lives b l e in
      let k = same b r.0 in
      let old : NamedIn T r.0.ty (newest r.0) p = named_same T l r.0 p (sym k.ty ∙ ap (λ (y : Life). y.ty) (sym r.2)) (sym k.newest ∙ ap newest (sym r.2)) n in
      x.emptied b r.0 a p r.1 (sym k.status ∙ (ap (λ (y : Life). y.status) (sym r.2) ∙ s)) old;
}

pub begun_same : (b : ℕ) (k : Option ℕ) (c : ℕ) (l : Life) → SameNewest l (with_begun b k c l)
begun_same b k c l = record { ty = refl; status = refl; newest = refl }

settled_same_if : (t : Bool) (k : ℕ) (l : Life) → SameNewest l (settled_if t k l)
settled_same_if true k l = record { ty = refl; status = refl; newest = settled_last l.durable k l.pending }
settled_same_if false k l = record { ty = refl; status = refl; newest = refl }

pub settled_newest : (b k c : ℕ) (l : Life) → SameNewest l (settled b k c l)
settled_newest b k c l = settled_same_if (eqb c b) k l

-- blocks that own nothing end
pub exact_free : (T : Types) (lives : Lives) (blocks : List ℕ) → ((a : ℕ) (m : Life) (p : ℕ × ℕ) → Contains blocks a → life_at lives a ≡ Some m → NamedIn T m.ty (newest m) p → ⊥) → HasExactStatuses T lives → HasExactStatuses T (free blocks lives)
exact_free T lives blocks empty x = record {
  owned = λ b l a e s. let o = x.owned b l a (free_back blocks lives b l e).1 s in at_free blocks (λ i. empty a o.life (b, l.ty) i o.alive o.holds) o;
  emptied = λ b l a p e s n. x.emptied b l a p (free_back blocks lives b l e).1 s n;
}

-- a life that owns nothing names nothing
pub owns_none : (T : Types) (t : ℕ) (m : List ℕ) → owns_nothing T t m ≡ true → T.owned t m ≡ []
owns_none T t m e = go (T.owned t m) e
  where
    go : (ps : List (ℕ × ℕ)) → elim ps [ [] ↦ true | p ∷ qs ↦ false ] ≡ true → ps ≡ []
    go [] e = refl
    go (p ∷ ps) e = absurd (false≢true e)

pub names_none : (T : Types) (l : Life) (p : ℕ × ℕ) → owns_nothing T l.ty (current l) ≡ true → NamedIn T l.ty (newest l) p → ⊥
names_none T l p e n = go (newest l) refl n
  where
    go : (o : Option BlockState) → newest l ≡ o → NamedIn T l.ty o p → ⊥
    go None f k = k
    go (Some s) f k = Contains-none p (subst (λ ps. Contains ps p) (ap (λ o. T.owned l.ty (bytes_of o)) (sym f) ∙ owns_none T l.ty (current l) e) k)
