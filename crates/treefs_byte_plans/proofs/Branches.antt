-- What is planned where a leaf is missing, and where it is there.
use Rattle.std.proofs.Common.{◌≡◌, ℕ, ◌≢◌, Bool, List, ap, eq-eqb, ne_eqb, sym, ◌∙◌, ◌==◌, if◌then◌else◌}

pub then_zero : {A : Type 0} (n leaf : ℕ) (a b r : A) → r ≡ a → n ≡ leaf → n ≡ 0 → r ≡ (if leaf == 0 then a else b)
then_zero n leaf a b r is same zero = is ∙ sym (ap (λ (t : Bool). if t then a else b) (eq-eqb leaf 0 (sym same ∙ zero)))

pub else_zero : {A : Type 0} (f : ℕ → List ℕ → A) (n leaf : ℕ) (piece first : List ℕ) (a r : A) → r ≡ f n piece → n ≡ leaf → piece ≡ first → n ≢ 0 →
    r ≡ (if leaf == 0 then a else f leaf first)
else_zero f n leaf piece first a r is same cut some =
    is ∙ (ap (λ (k : ℕ). f k piece) same ∙ (ap (f leaf) cut ∙ sym (ap (λ (t : Bool). if t then a else f leaf first) (ne_eqb leaf 0 (λ z. some (same ∙ z))))))
