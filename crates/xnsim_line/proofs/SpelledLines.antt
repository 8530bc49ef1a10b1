-- Lines that spell events, one a line.
use Rattle.std.proofs.Common.{◌≡◌, ◌<◌, ◌+◌, ℕ, zero, suc, List, [], ◌∷◌, ◌++◌, length, take, drop, get_or, ap, sym, ◌∙◌, subst}
use Rattle.std.specs.List.{AllZip}
use Rattle.std.proofs.lemmas.List.{take-append-drop, take_more}
use Rattle.xn_state.specs.declared.event.Event.{Event}
use Rattle.script.specs.Scripts.{AllSpell, LineSpells, SpellEvents}

zip_drop : {A B : Type 0} (R : A → B → Type 0) (n : ℕ) (xs : List A) (ys : List B) → AllZip R xs ys → AllZip R (drop n xs) (drop n ys)
zip_drop R zero xs ys spells = spells
zip_drop R (suc n) [] [] spells = spells
zip_drop R (suc n) [] (y ∷ ys) spells = absurd spells
zip_drop R (suc n) (x ∷ xs) [] spells = absurd spells
zip_drop R (suc n) (x ∷ xs) (y ∷ ys) spells = zip_drop R n xs ys spells.1

zip_append : {A B : Type 0} (R : A → B → Type 0) (xs us : List A) (ys vs : List B) → AllZip R xs ys → AllZip R us vs → AllZip R (xs ++ us) (ys ++ vs)
zip_append R [] us [] vs first second = second
zip_append R [] us (y ∷ ys) vs first second = absurd first
zip_append R (x ∷ xs) us [] vs first second = absurd first
zip_append R (x ∷ xs) us (y ∷ ys) vs first second = (first.0, zip_append R xs us ys vs first.1 second)

-- the events of the first lines, and those of the others
pub rest_spelled : (lines : List (List ℕ)) (place : ℕ) (first : List Event) → AllSpell (take place lines) first → (given : SpellEvents lines) → AllSpell lines (first ++ drop place given.0)
rest_spelled lines place first spelled given =
    subst (λ ls. AllSpell ls (first ++ drop place given.0)) (take-append-drop place lines)
    (zip_append LineSpells (take place lines) (drop place lines) first (drop place given.0) spelled (zip_drop LineSpells place lines given.0 given.1))

-- the lines so far and the next one are the first of all
pub front_of : (all lines : List (List ℕ)) (line : List ℕ) → lines ≡ take (length lines) all → length lines < length all → line ≡ get_or all (length lines) line →
    lines ++ line ∷ [] ≡ take (length lines + 1) all
front_of all lines line so_far within at =
    ap (λ front. front ++ line ∷ []) so_far ∙ (ap (λ next. take (length lines) all ++ next ∷ []) at ∙ sym (take_more all (length lines) line within))
