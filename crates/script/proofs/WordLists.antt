-- Lists of words: each word spells a value, and a list is cut before a word that begins with a byte.
use Rattle.std.proofs.Common.{◌≡◌, ℕ, zero, suc, ◌+◌, ◌<◌, ◌≤◌, Bool, true, false, List, [], ◌∷◌, ◌++◌, length, take, drop, map, get_or, arith, refl, sym, ap, ◌∙◌, subst, Bor}
use Rattle.std.specs.List.{All, AllZip, position, position_or_len}
use Rattle.std.specs.Option.{unwrap_or}
use Rattle.std.proofs.lemmas.Bool.{ne_eqb}
use Rattle.std.proofs.lemmas.Bool.Decides.{nat_tests}
use Rattle.std.proofs.lemmas.List.{take_more, take_all, get_or-map, length-map, length-take, length-drop, get_or-take, get_or-drop, map-append}
use Rattle.std.proofs.lemmas.List.Elements.{All-map}
use Rattle.std.proofs.lemmas.List.Sums.{fails_before_first, passes_at_first, prefix_len-le-length}
use Rattle.script.specs.Cuts.{begins_with, first_begins_with, NoneOrBegins, CutsBefore}

-- one more word, which spells one more value

pub zip_push : {A B : Type 0} (R : A → B → Type 0) (xs : List A) (ys : List B) (x : A) (y : B) → AllZip R xs ys → R x y → AllZip R (xs ++ x ∷ []) (ys ++ y ∷ [])
zip_push R [] [] x y so_far one = (one, tt)
zip_push R [] (b ∷ ys) x y so_far one = absurd so_far
zip_push R (a ∷ xs) [] x y so_far one = absurd so_far
zip_push R (a ∷ xs) (b ∷ ys) x y so_far one = (so_far.0, zip_push R xs ys x y so_far.1 one)

pub zip_more : {X : Type 0} (R : List ℕ → X → Type 0) (words : List (Bor (List ℕ))) (place : ℕ) (items more : List X) (item : X) (default : Bor (List ℕ)) → place < length words →
    R (get_or words place default).now item → more ≡ items ++ item ∷ [] → AllZip R (take place (map (λ word. word.now) words)) items →
    AllZip R (take (place + 1) (map (λ word. word.now) words)) more
zip_more R words place items more item default within spells pushed so_far =
    let texts = map (λ (word : Bor (List ℕ)). word.now) words in
    let there : place < length texts = rw length-map within in
    let next : get_or texts place [] ≡ (get_or words place default).now = get_or-map (λ word. word.now) words place default [] within in
    rw (take_more texts place [] there, pushed, next) (zip_push R (take place texts) items (get_or words place default).now item so_far spells)

-- after the last word
pub zip_all : {X : Type 0} (R : List ℕ → X → Type 0) (words : List (Bor (List ℕ))) (place : ℕ) (items : List X) → length words ≤ place →
    AllZip R (take place (map (λ word. word.now) words)) items → AllZip R (map (λ word. word.now) words) items
zip_all R words place items past so_far =
    let texts = map (λ (word : Bor (List ℕ)). word.now) words in
    let beyond : length texts ≤ place = rw length-map past in
    subst (λ all. AllZip R all items) (take_all place texts beyond) so_far

-- at a word that spells no value
pub no_zip : {X : Type 0} (R : List ℕ → X → Type 0) (words : List (Bor (List ℕ))) (place : ℕ) (default : Bor (List ℕ)) → place < length words →
    ((item : X) → R (get_or words place default).now item → ⊥) → (items : List X) → AllZip R (map (λ word. word.now) words) items → ⊥
no_zip R [] place default within none items spells = absurd (omega arith)
no_zip R (word ∷ words) place default within none [] spells = spells
no_zip R (word ∷ words) zero default within none (item ∷ items) spells = none item spells.0
no_zip R (word ∷ words) (suc place) default within none (item ∷ items) spells = no_zip R words place default (omega arith) none items spells.1

-- a word that has no such byte in front

not_begins : (byte : ℕ) (word : List ℕ) → ((rest : List ℕ) → word ≡ byte ∷ rest → ⊥) → begins_with byte word ≡ false
not_begins byte [] other = refl
not_begins byte (first ∷ rest) other = ne_eqb first byte (λ same. other rest (ap (λ b. b ∷ rest) same))

pub none_at_first : (byte : ℕ) (words : List (Bor (List ℕ))) (default : Bor (List ℕ)) → ((rest : List ℕ) → (get_or words 0 default).now ≡ byte ∷ rest → ⊥) →
    first_begins_with byte (map (λ word. word.now) words) ≡ false
none_at_first byte [] default other = refl
none_at_first byte (word ∷ words) default other = not_begins byte word.now other

-- where a list is cut

pub place_or_end : {X : Type 0} (p : X → Bool) (xs : List X) → unwrap_or (position p xs) (length xs) ≡ position_or_len p xs
place_or_end p xs = let within : position_or_len p xs ≤ length xs = prefix_len-le-length _ xs in grind (arith, nat_tests)

before_cut : (byte : ℕ) (words front : List (Bor (List ℕ))) (place : ℕ) → place ≡ position_or_len (λ word. begins_with byte word.now) words → front ≡ take place words →
    All (λ word. begins_with byte word ≡ false) (map (λ word. word.now) front)
before_cut byte words front place first cut =
    let p = λ (word : Bor (List ℕ)). begins_with byte word.now in
    All-map (λ word. begins_with byte word ≡ false) (λ word. word.now) front (λ k d h.
    let before : k < place = omega (arith, ap length cut, length-take place words) in
    let there : get_or front k d ≡ get_or words k d = ap (λ l. get_or l k d) cut ∙ get_or-take place words k d before in
    ap p there ∙ fails_before_first p words k d (subst (λ n. k < n) first before))

behind_cut : (byte : ℕ) (words back : List (Bor (List ℕ))) (place : ℕ) → place ≡ position_or_len (λ word. begins_with byte word.now) words → back ≡ drop place words →
    NoneOrBegins byte (map (λ word. word.now) back)
behind_cut byte words [] place first cut = tt
behind_cut byte words (word ∷ back) place first cut =
    let p = λ (word : Bor (List ℕ)). begins_with byte word.now in
    let within : place < length words = omega (arith, ap length cut, length-drop place words) in
    let same : place + 0 ≡ place = omega arith in
    let there : get_or words place word ≡ word = ap (λ k. get_or words k word) (sym same) ∙ (sym (get_or-drop place words 0 word) ∙ ap (λ l. get_or l 0 word) (sym cut)) in
    let found : p (get_or words place word) ≡ true = subst (λ n. p (get_or words n word) ≡ true) (sym first) (passes_at_first p words word (subst (λ n. n < length words) first within)) in
    ap p (sym there) ∙ found

pub cut_at : (byte : ℕ) (words front back : List (Bor (List ℕ))) (place : ℕ) → place ≡ unwrap_or (position (λ word. begins_with byte word.now) words) (length words) →
    words ≡ front ++ back → front ≡ take place words → back ≡ drop place words →
    CutsBefore byte (map (λ word. word.now) words) (map (λ word. word.now) front) (map (λ word. word.now) back)
cut_at byte words front back place at whole front_cut back_cut =
    let first = at ∙ place_or_end (λ (word : Bor (List ℕ)). begins_with byte word.now) words in
    record {
      whole = ap (map (λ word. word.now)) whole ∙ map-append (λ word. word.now) front back;
      before = before_cut byte words front place first front_cut;
      behind = behind_cut byte words back place first back_cut;
    }
