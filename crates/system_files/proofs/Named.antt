-- Names of new files beside others.
use Rattle.std.proofs.Common.{◌≡◌, ℕ, ◌+◌, ◌-◌, ◌^◌, ◌<◌, ◌≤◌, List, [], ◌∷◌, ◌++◌, length, take, drop, refl, sym, ◌∙◌, ap, subst, append_assoc, take-append-drop, arith, inl, inr, lit≤, lit<}
use Rattle.std.specs.Prelude.{◌==◌, Result, Ok, Err, IfOk}
use Rattle.std.specs.Fmt.{decimal}
use Rattle.std.specs.Str.{NoCharPasses}
use Rattle.std.specs.Str.Pattern.{HasCharAt}
use Rattle.std.proofs.lemmas.Fmt.{length-decimal-le}
use Rattle.std.proofs.lemmas.Str.Pattern.{drop_at_char}
use Rattle.system_files.specs.Naming.{IsBeside, IsParted, ending}

pub short_ending : (number : ℕ) → number < 2 ^ 64 → length (ending number) ≤ 24
short_ending number small =
    let most : 2 ^ 64 ≤ 10 ^ 20 = lit≤ tt in
    let few : number < 10 ^ 20 = omega (arith, most) in
    let long : length (decimal number) ≤ 20 = length-decimal-le 20 number (lit< tt) few small in
    omega (arith, long)

pub if_ok : {A E : Type 0} (P Q : A → Type 0) (r : Result A E) → ((x : A) → P x → Q x) → IfOk r P → IfOk r Q
if_ok P Q (Ok x) f p = f x p
if_ok P Q (Err e) f p = p

-- a path that is parted at a slash
pub parted_at : (path folder own : List ℕ) (i j : ℕ) → NoCharPasses (λ d. d == 47) (drop j path) → HasCharAt 47 path i j → folder ≡ take i path → own ≡ drop j path →
    IsParted path (folder ++ 47 ∷ []) own
parted_at path folder own i j none at front back = record {
  split = sym (take-append-drop i path) ∙ ap (λ xs. take i path ++ xs) (drop_at_char 47 path i j at (lit< tt))
      ∙ sym (append_assoc (take i path) (47 ∷ []) (drop j path)) ∙ sym (ap (λ xs. (xs ++ 47 ∷ []) ++ own) front ∙ ap (λ xs. (take i path ++ 47 ∷ []) ++ xs) back);
  ends = inr (folder, refl);
  no_slash = subst (NoCharPasses (λ d. d == 47)) (sym back) none;
}

-- a path without a slash
pub parted_nowhere : (path : List ℕ) → NoCharPasses (λ d. d == 47) path → IsParted path [] path
parted_nowhere path none = record { split = refl; ends = inl refl; no_slash = none }

-- the beginning of its own name, and what a new name ends in
pub is_beside : (path folder own front end name : List ℕ) (number most : ℕ) → IsParted path folder own → front ≡ take (length front) own → length front ≤ most → most ≡ 255 - length end →
    length end ≤ 24 → end ≡ ending number → name ≡ folder ++ (front ++ end) → IsBeside path number name
is_beside path folder own front end name number most parted is fits most_is short end_is named = record {
  folder = folder;
  own = own;
  kept = length front;
  parted = parted;
  named = named ∙ ap (λ xs. folder ++ (xs ++ end)) is ∙ ap (λ xs. folder ++ (take (length front) own ++ xs)) end_is;
  fits = subst (λ xs. length xs + length (ending number) ≤ 255) is (subst (λ xs. length front + length xs ≤ 255) end_is (omega arith));
}
