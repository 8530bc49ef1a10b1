-- KEEPs as claims.
use Rattle.std.proofs.Common.{◌≡◌, ℕ, zero, suc, ◌+◌, ◌<◌, ◌≤◌, List, [], ◌∷◌, ◌++◌, map, length, get_or, take, drop, length-drop, refl, sym, ap, ◌∙◌, subst, arith}
use Rattle.std.proofs.Math.Seq.{drop-cons}
use Rattle.std.proofs.lemmas.List.{get_or_default}
use Rattle.udf_code.specs.declared.word.Word.{Word}
use Rattle.udf_code.specs.declared.word.Word.TheVariants.{Keep}
use Rattle.udf_code.specs.Words.{IsPlain}
use Rattle.udf_code.specs.Tree.{Less, Equal, Claim, Tree, Stop, Plain, If, IfElse, Loop, IsTree, keep_word, words_of}
use Rattle.udf_verify.specs.Intervals.{Interval, between, high_of}

front_of : (words : List Word) (i : ℕ) (d : Word) → i < length words → drop i words ≡ get_or words i d ∷ drop (i + 1) words
front_of words i d h =
    let one : suc i ≡ i + 1 = omega arith in
    drop-cons words i d h ∙ ap (λ n. get_or words i d ∷ drop n words) one

pub drop_next : {A : Type 0} (xs : List A) (i : ℕ) (x : A) (rest : List A) → drop i xs ≡ x ∷ rest → (drop (i + 1) xs ≡ rest) × (i < length xs)
drop_next [] zero x rest e = absurd (cc)
drop_next [] (suc i) x rest e = absurd (cc)
drop_next (y ∷ xs) zero x rest e = (cc, omega arith)
drop_next (y ∷ xs) (suc i) x rest e =
    let ih = drop_next xs i x rest e in
    let one : suc i + 1 ≡ suc (i + 1) = omega arith in
    (ap (λ n. drop n (y ∷ xs)) one ∙ ih.0, let l = ih.1 in omega arith)

-- the claim whose KEEP stands at a place
claim_in : (claims : List Claim) (i : ℕ) (w d : Word) → i < length (map keep_word claims) → w ≡ get_or (map keep_word claims) i d → (claim : Claim) × (w ≡ keep_word claim) × (drop i claims ≡ claim ∷ drop (suc i) claims)
claim_in [] i w d h e = absurd (omega arith)
claim_in (claim ∷ claims) zero w d h e = (claim, e, refl)
claim_in (claim ∷ claims) (suc i) w d h e = claim_in claims i w d (omega arith) e

claim_at : (words : List Word) (claims : List Claim) (i : ℕ) (w d : Word) → words ≡ map keep_word claims → i < length words → w ≡ get_or words i d → (claim : Claim) × (w ≡ keep_word claim) × (drop i claims ≡ claim ∷ drop (i + 1) claims)
claim_at words claims i w d e h g =
    let x = claim_in claims i w d (let l = ap length e in omega arith) (g ∙ ap (λ l. get_or l i d) e) in
    let one : suc i ≡ i + 1 = omega arith in
    (x.0, x.1, x.2 ∙ ap (λ n. x.0 ∷ drop n claims) one)

pub keep_at : (words : List Word) (claims : List Claim) (i : ℕ) (w d : Word) (a n : ℕ) → words ≡ map keep_word claims → i < length words → w ≡ get_or words i d → w ≡ Keep a n → drop i claims ≡ record { register = a; most = n } ∷ drop (i + 1) claims
keep_at words claims i w d a n e h g k =
    let x = claim_at words claims i w d e h g in
    let same : keep_word x.0 ≡ Keep a n = sym x.1 ∙ k in
    let p : x.0.register ≡ a = cc in
    let q : x.0.most ≡ n = cc in
    x.2 ∙ ap (λ r. record { register = r; most = x.0.most } ∷ drop (i + 1) claims) p ∙ ap (λ m. record { register = a; most = m } ∷ drop (i + 1) claims) q

pub keep_only : (words : List Word) (claims : List Claim) (i : ℕ) (w d : Word) → words ≡ map keep_word claims → i < length words → w ≡ get_or words i d → ((a n : ℕ) → w ≡ Keep a n → ⊥) → ⊥
keep_only words claims i w d e h g other = let x = claim_at words claims i w d e h g in other x.0.register x.0.most x.1

-- where the claims before a body end

keep_first : (a n : ℕ) (ws : List Word) (claims : List Claim) (body : Tree) → IsTree body → Keep a n ∷ ws ≡ map keep_word claims ++ words_of body → (claim : Claim) × (rest : List Claim) × (claims ≡ claim ∷ rest) × (ws ≡ map keep_word rest ++ words_of body)
keep_first a n ws (claim ∷ rest) body t e = (claim, rest, refl, cc)
keep_first a n ws [] Stop t e = absurd (cc)
keep_first a n ws [] (Plain word rest) t e = absurd (let same : word ≡ Keep a n = cc in plain_keep word same t.0)
  where
    plain_keep : (w : Word) → w ≡ Keep a n → IsPlain w → ⊥
    plain_keep w s p = let q : IsPlain (Keep a n) = subst IsPlain s p in q
keep_first a n ws [] (If Less b c first rest) t e = absurd (cc)
keep_first a n ws [] (If Equal b c first rest) t e = absurd (cc)
keep_first a n ws [] (IfElse Less b c first other rest) t e = absurd (cc)
keep_first a n ws [] (IfElse Equal b c first other rest) t e = absurd (cc)
keep_first a n ws [] (Loop b m claims body rest) t e = absurd (cc)

no_keep_first : (w : Word) (ws : List Word) (claims : List Claim) (body : Tree) → ((a n : ℕ) → w ≡ Keep a n → ⊥) → w ∷ ws ≡ map keep_word claims ++ words_of body → claims ≡ []
no_keep_first w ws [] body other e = refl
no_keep_first w ws (claim ∷ claims) body other e = absurd (other claim.register claim.most (cc))

pub count_more : (words : List Word) (claims : List Claim) (body : Tree) (i : ℕ) (d : Word) (a n : ℕ) → i < length words → get_or words i d ≡ Keep a n → IsTree body → drop i words ≡ map keep_word (drop i claims) ++ words_of body → (i + 1 ≤ length claims) × (drop (i + 1) words ≡ map keep_word (drop (i + 1) claims) ++ words_of body)
count_more words claims body i d a n h g t e =
    let f = front_of words i d h in
    let k = keep_first a n (drop (i + 1) words) (drop i claims) body t (sym (ap (λ w. w ∷ drop (i + 1) words) g) ∙ sym f ∙ e) in
    let c = drop_next claims i k.0 k.1 k.2 in
    (let l = c.1 in omega arith, k.3 ∙ ap (λ l. map keep_word l ++ words_of body) (sym c.0))

pub count_ends : (words : List Word) (claims : List Claim) (body : Tree) (i : ℕ) (d : Word) → i < length words → ((a n : ℕ) → get_or words i d ≡ Keep a n → ⊥) → i ≤ length claims → drop i words ≡ map keep_word (drop i claims) ++ words_of body → i ≡ length claims
count_ends words claims body i d h other le e =
    let f = front_of words i d h in
    let none = no_keep_first (get_or words i d) (drop (i + 1) words) (drop i claims) body other (sym f ∙ e) in
    let len = ap length none in
    omega (arith, length-drop i claims)

-- the parts of a loop's words
pub split_claims : (claims : List Claim) (rest : List Word) → (take (length claims) (map keep_word claims ++ rest) ≡ map keep_word claims) × (drop (length claims) (map keep_word claims ++ rest) ≡ rest)
split_claims [] rest = (refl, refl)
split_claims (claim ∷ claims) rest = let ih = split_claims claims rest in (ap (λ l. keep_word claim ∷ l) ih.0, ih.1)

-- the end of an interval that was read
pub high_at : (ivs : List Interval) (i r : ℕ) (x : Interval) (h : ℕ) → length ivs ≡ 16 → r < 16 → i ≡ r → h ≡ (get_or ivs i x).high → h ≡ high_of ivs r
high_at ivs i r x h l b s g = g ∙ ap (λ y. y.high) (get_or_default ivs i x (between 0 0) (omega arith)) ∙ ap (λ q. high_of ivs q) s
