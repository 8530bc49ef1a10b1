-- What lists have.
use Rattle.std.proofs.Common.{◌≡◌, List, [], ◌∷◌, inl, inr, subst}
use Rattle.std.specs.Prelude.{All, Contains, map}
use Rattle.std.proofs.lemmas.List.Elements.{All-cons, All-nil}
use Rattle.xn_model.proofs.ForCallers.{Contains-cons, Contains-head, Contains-none, Contains-tail}

pub all_in : {A : Type 0} (P : A → Type 0) (xs : List A) (x : A) → All P xs → Contains xs x → P x
all_in P xs x all has = subst P has.2 (all has.0 x has.1)

pub all_with : {A : Type 0} (P : A → Type 0) (xs : List A) → ((x : A) → Contains xs x → P x) → All P xs
all_with P [] of = All-nil P
all_with P (x ∷ xs) of = All-cons P x xs (of x (Contains-head x xs)) (all_with P xs (λ y has. of y (Contains-tail x xs y has)))

pub mapped : {A B : Type 0} (f : A → B) (xs : List A) (x : A) → Contains xs x → Contains (map f xs) (f x)
mapped f [] x has = absurd (Contains-none x has)
mapped f (y ∷ xs) x has = elim (Contains-cons y xs x has) [
  | inl same ↦ subst (λ z. Contains (f y ∷ map f xs) (f z)) same (Contains-head (f y) (map f xs))
  | inr rest ↦ Contains-tail (f y) (map f xs) (f x) (mapped f xs x rest)
]

pub mapped_from : {A B : Type 0} (f : A → B) (xs : List A) (y : B) → Contains (map f xs) y → (x : A) × Contains xs x × (f x ≡ y)
mapped_from f [] y has = absurd (Contains-none y has)
mapped_from f (x ∷ xs) y has = elim (Contains-cons (f x) (map f xs) y has) [
  | inl same ↦ (x, Contains-head x xs, same)
  | inr rest ↦ let r = mapped_from f xs y rest in (r.0, Contains-tail x xs r.0 r.1, r.2)
]
