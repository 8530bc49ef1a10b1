-- The lives of blocks that are found, put into their places one after another.
use Rattle.std.proofs.Common.{◌≡◌, ℕ, Bool, zero, suc, ◌+◌, ◌/◌, ◌<◌, true, false, not, List, [], ◌∷◌, ◌++◌, length, map, take, get_or, drop, replicate, slice_set, Option, Some, None, refl, sym, ◌∙◌, ap, arith, subst, inl, inr}
use Rattle.std.specs.Prelude.{IsTrue, cond, find, is_none, ◌==◌, ◌||◌}
use Rattle.std.specs.List.{fold, range_with_len}
use Rattle.std.specs.Simd.{first_chunks}
use Rattle.std.proofs.lemmas.Bool.{cases_eq, eq-eqb, ne_eqb, cond-true, cond-false, and_parts, false≢true}
use Rattle.std.proofs.lemmas.List.{get_or-map, get_or-replicate, get_or-set_same, get_or-set_other, length-map, length-set, length-replicate, take_more}
use Rattle.std.proofs.lemmas.Simd.{map-map}
use Rattle.std.proofs.lemmas.List.FromFn.{fill_by_all, length-range_with_len, get_or-map-range_with_len, length-map-range_with_len}
use Rattle.std.proofs.lemmas.List.Sums.{fold-append, sum_by-cons}
use Rattle.xn_model.specs.Lists.{has_number, distinct}
use Rattle.xn_model.specs.Images.{blocks_in}
use Rattle.xn_model.specs.Lives.{Lives}
use Rattle.xn_model.specs.Mounts as model
use Rattle.xn_model.specs.Mounts.{found_life, life_found, lives_found, life_at_rest}
use Rattle.xn_model.specs.Calls.{pending_in}
use Rattle.xn_state.specs.declared.found.Found.{Found}
use Rattle.dependencies.specs.Pending.{is_dirty}
use Rattle.block_cache.specs.declared.life.FoundLife.{FoundLife}
use Rattle.block_cache.specs.Views.{rest_at, rest_in}
use Rattle.xn_state.specs.Mounts.{found_of, found_life_of, lives_in}
use Rattle.dependencies.proofs.ForCallers.{counted, marks}

pub length-blocks : (image : List ℕ) → length (blocks_in image) ≡ length image / 512
length-blocks image = go (length image / 512) image
  where
    go : (k : ℕ) (bytes : List ℕ) → length (first_chunks 512 k bytes) ≡ k
    go zero bytes = refl
    go (suc k) bytes = ap suc (go k (drop 512 bytes))

-- the place of a block that is found, and those of all
abbrev pub put_found : List (Option FoundLife) → Found → List (Option FoundLife)
put_found places f = slice_set places f.block (Some (found_life_of f))

abbrev pub all_put : List (Option FoundLife) → List Found → List (Option FoundLife)
all_put places found = fold put_found places found

abbrev pub numbers : List Found → List ℕ
numbers found = map (λ f. f.block) found

-- the one of a block, behind what was there
abbrev or_else : Option Found → Option FoundLife → Option FoundLife
or_else None old = old
or_else (Some f) old = Some (found_life_of f)

abbrev found_at : ℕ → List Found → Option Found
found_at c found = find (λ f. f.block == c) found

none_of : (found : List Found) (c : ℕ) → has_number (numbers found) c ≡ false → found_at c found ≡ None
none_of [] c h = refl
none_of (f ∷ found) c h = elim (cases_eq f.block c) [
  | inl same ↦ absurd (true_false (ap (λ t. t || has_number (numbers found) c) (eq-eqb f.block c same)) h)
  | inr ne ↦ cond-false (f.block == c) (Some f) (found_at c found) (ne_eqb f.block c ne)
      ∙ none_of found c (sym (ap (λ t. t || has_number (numbers found) c) (ne_eqb f.block c ne)) ∙ h)
]
  where
    true_false : {t : Bool} → t ≡ true → t ≡ false → ⊥
    true_false a b = false≢true (sym b ∙ a)

not_false : (t : Bool) → not t ≡ true → t ≡ false
not_false true h = absurd (false≢true h)
not_false false h = refl

place_of : (found : List Found) (places : List (Option FoundLife)) (c : ℕ) → IsTrue (distinct (numbers found)) → c < length places →
    get_or (all_put places found) c None ≡ or_else (found_at c found) (get_or places c None)
place_of [] places c once within = refl
place_of (f ∷ found) places c once within =
    let parts = and_parts (not (has_number (numbers found) f.block)) (distinct (numbers found)) once in
    let next = put_found places f in
    let kept = length-set places f.block (Some (found_life_of f)) in
    let rest = place_of found next c parts.1 (omega (arith, within, kept)) in
    elim (cases_eq f.block c) [
      | inl same ↦
          let none = none_of found c (subst (λ b. has_number (numbers found) b ≡ false) same (not_false (has_number (numbers found) f.block) parts.0)) in
          rest
          ∙ (ap (λ o. or_else o (get_or next c None)) none
          ∙ ((λ i. get_or (slice_set places (same i) (Some (found_life_of f))) c None)
          ∙ (get_or-set_same places c (Some (found_life_of f)) None within
          ∙ sym (ap (λ o. or_else o (get_or places c None)) (cond-true (f.block == c) (Some f) (found_at c found) (eq-eqb f.block c same))))))
      | inr ne ↦
          rest
          ∙ (ap (or_else (found_at c found)) (get_or-set_other places f.block c (Some (found_life_of f)) None (λ e. ne (sym e)))
          ∙ sym (ap (λ o. or_else o (get_or places c None)) (cond-false (f.block == c) (Some f) (found_at c found) (ne_eqb f.block c ne))))
    ]

pub length-all_put : (found : List Found) (places : List (Option FoundLife)) → length (all_put places found) ≡ length places
length-all_put [] places = refl
length-all_put (f ∷ found) places = length-all_put found (put_found places f) ∙ length-set places f.block (Some (found_life_of f))

-- the life of a block, first or among the others
first_rest : (blocks : List (List ℕ)) (c : ℕ) (t : Bool) (f : Found) (o : Option Found) (p : Option model.Found) → rest_in blocks c (or_else o None) ≡ found_life blocks c p →
    rest_in blocks c (or_else (cond t (Some f) o) None) ≡ found_life blocks c (cond t (Some (found_of f)) p)
first_rest blocks c true f o p same = refl
first_rest blocks c false f o p same = same

found_rest : (blocks : List (List ℕ)) (found : List Found) (c : ℕ) → rest_in blocks c (or_else (found_at c found) None) ≡ life_found blocks (map found_of found) c
found_rest blocks [] c = refl
found_rest blocks (f ∷ found) c = first_rest blocks c (f.block == c) f (found_at c found) (find (λ f. f.block == c) (map found_of found)) (found_rest blocks found c)

-- on a disk on which all was free
pub all_found : (image : List ℕ) (found : List Found) (places : List (Option FoundLife)) → IsTrue (distinct (numbers found)) →
    places ≡ all_put (replicate (length (blocks_in image)) None) found →
    map (rest_at places (blocks_in image)) (range_with_len 0 (length places)) ≡ lives_in image found
all_found image found places once is =
    let blocks = blocks_in image in
    let n = length blocks in
    let start : List (Option FoundLife) = replicate n None in
    let free = length-replicate {A = Option FoundLife} n None in
    let long = ap length is ∙ (length-all_put found start ∙ free) in
    let lives = map (rest_at places blocks) (range_with_len 0 (length places)) in
    let many = length-map-range_with_len (rest_at places blocks) 0 (length places) in
    fill_by_all (life_found blocks (map found_of found)) lives n None (many ∙ long)
    (λ c lt.
    let within : c < length start = omega (arith, lt, free) in
    get_or-map-range_with_len (rest_at places blocks) 0 (length places) c c None (omega (arith, lt, long)) (omega arith)
    ∙ (ap (rest_in blocks c) (ap (λ (ps : List (Option FoundLife)). get_or ps c None) is ∙ (place_of found start c once within ∙ ap (or_else (found_at c found)) (get_or-replicate n c None None lt)))
    ∙ found_rest blocks found c))

-- what is free has no life
pub all_marked : (blocks : List (List ℕ)) (places : List (Option FoundLife)) → map is_none places ≡ marks (map (rest_at places blocks) (range_with_len 0 (length places)))
all_marked blocks places =
    let n = length places in
    fill_by_all (λ c. is_none (rest_at places blocks c)) (map is_none places) n true (length-map places is_none)
    (λ c lt. get_or-map is_none places c None true lt ∙ same c (get_or places c None))
    ∙ sym (map-map is_none (rest_at places blocks) (range_with_len 0 n))
  where
    same : (c : ℕ) (o : Option FoundLife) → is_none o ≡ is_none (rest_in blocks c o)
    same c None = refl
    same c (Some f) = refl

-- Nothing is pending

at_rest : (image : List (List ℕ)) (fs b : ℕ) (o : Option model.Found) → pending_in fs (found_life image b o) ≡ 0
at_rest image fs b None = refl
at_rest image fs b (Some f) = refl

none_pending : (image : List (List ℕ)) (found : List model.Found) (fs : ℕ) (bs : List ℕ) → counted fs (map (life_found image found) bs) ≡ 0
none_pending image found fs [] = refl
none_pending image found fs (b ∷ bs) =
    let first = sum_by-cons (pending_in fs) (life_found image found b) (map (life_found image found) bs) in
    let here = at_rest image fs b (find (λ f. f.block == b) found) in
    let rest = none_pending image found fs bs in
    omega (arith, first, here, rest)

pub found_uncounted : (image : List (List ℕ)) (found : List model.Found) (lives : Lives) → lives ≡ lives_found image found → (fs : ℕ) → counted fs lives ≡ 0
found_uncounted image found lives e fs = ap (counted fs) e ∙ none_pending image found fs (range_with_len 0 (length image))

clean_at : (image : List (List ℕ)) (b : ℕ) (o : Option model.Found) → is_dirty (found_life image b o) ≡ false
clean_at image b None = refl
clean_at image b (Some f) = refl

none_dirty : (image : List (List ℕ)) (found : List model.Found) (bs : List ℕ) → map is_dirty (map (life_found image found) bs) ≡ replicate (length bs) false
none_dirty image found [] = refl
none_dirty image found (b ∷ bs) = λ i. clean_at image b (find (λ f. f.block == b) found) i ∷ none_dirty image found bs i

pub found_clean : (image : List (List ℕ)) (found : List model.Found) (lives : Lives) (n : ℕ) → lives ≡ lives_found image found → n ≡ length image → replicate n false ≡ map is_dirty lives
found_clean image found lives n e long =
    ap (λ m. replicate m false) (long ∙ sym (length-range_with_len 0 (length image)))
    ∙ sym (ap (map is_dirty) e ∙ none_dirty image found (range_with_len 0 (length image)))

-- one more is found
pub found_more : (places : List (Option FoundLife)) (found : List Found) (i : ℕ) (f : Found) → i < length found → f ≡ get_or found i f →
    put_found (all_put places (take i found)) f ≡ all_put places (take (i + 1) found)
found_more places found i f within is =
    sym (ap (all_put places) (take_more found i f within ∙ ap (λ x. take i found ++ x ∷ []) (sym is)) ∙ fold-append put_found places (take i found) (f ∷ []))

pub marks_more : (free : List Bool) (places : List (Option FoundLife)) (b : ℕ) (l : FoundLife) → free ≡ map is_none places → slice_set free b false ≡ map is_none (slice_set places b (Some l))
marks_more free places b l e = ap (λ ts. slice_set ts b false) e ∙ go places b
  where
    go : (ps : List (Option FoundLife)) (b : ℕ) → slice_set (map is_none ps) b false ≡ map is_none (slice_set ps b (Some l))
    go [] b = refl
    go (o ∷ os) zero = refl
    go (o ∷ os) (suc b) = ap (λ ts. is_none o ∷ ts) (go os b)

pub no_marks : (n : ℕ) → replicate n true ≡ map is_none (replicate {A = Option FoundLife} n None)
no_marks zero = refl
no_marks (suc n) = ap (λ ts. true ∷ ts) (no_marks n)
