-- The places of a directory's value, by its listing.
use Rattle.std.proofs.Common.{◌≡◌, ◌≢◌, ℕ, zero, suc, ◌+◌, ◌*◌, ◌<◌, ◌≤◌, ◌⊎◌, Bool, true, false, cond, List, [], ◌∷◌, ◌++◌, map, Option, Some, None, refl, sym, ◌∙◌, ap, inl, inr, arith, eq-eqb, subst, Contains, ◌==◌, ◌&&◌, ◌||◌, not, filter, filter_map, find, flat_map, option_map, if◌then◌else◌, eqb-true, ne_eqb}
use Rattle.ffs_lib.proofs.Common.{Slot, and_parts, cases_eq, cons_option, find-append, half_at, inode_blocks, is_at, list_any, listing, name_in, name_of_place}
use Rattle.ffs_lib.proofs.Common.{option_or, range_with_len, without_entry}
use Rattle.xn_model.proofs.ForCallers.{Contains-cons, Contains-head, Contains-none, Contains-tail}
use Rattle.ffs_lookup.proofs.ForCallers.{find_first, found_holds}
use Rattle.ffs_lib.specs.Replacing.{turned_entry}
use Rattle.ffs_lib.proofs.Tests.{and_false}
use Rattle.ffs_lib.proofs.Firsts.{find_skip}
use Rattle.ffs_lib.proofs.Frames.{listed_at, listed_blocks, listed_in}

abbrev pub Listed : Type 0
Listed = Slot × List ℕ

-- its name and the inode that it names
abbrev pub value_of_listed : Listed → List ℕ × ℕ
value_of_listed e = (e.1, e.0.inode)

pub both_true : (s t : Bool) → s ≡ true → t ≡ true → s && t ≡ true
both_true true true f g = refl
both_true true false f g = absurd (cc g)
both_true false t f g = absurd (cc f)

-- the entry of a list that stands at a place of a block
module _ (b p : ℕ) where
  abbrev pub stands_there : Listed → Bool
  stands_there e = (e.0.block == b) && (e.0.place == p)

  abbrev pub there_in : List Listed → Option (List ℕ × ℕ)
  there_in entries = option_map value_of_listed (find stands_there entries)

  skip : (empty : Bool) (e : Listed) (rest : List Listed) → stands_there e ≡ false → find stands_there (cons_option (if empty then None else Some e) rest) ≡ find stands_there rest
  skip true e rest f = refl
  skip false e rest f = ap (λ t. cond t (Some e) (find stands_there rest)) f

  keep : (empty : Bool) (e : Listed) (rest : List Listed) → stands_there e ≡ true → find stands_there rest ≡ None → find stands_there (cons_option (if empty then None else Some e) rest) ≡ (if empty then None else Some e)
  keep true e rest f none = none
  keep false e rest f none = ap (λ t. cond t (Some e) (find stands_there rest)) f

  module _ (c : ℕ) (m : List ℕ) where
    abbrev listed_here : ℕ → Listed
    listed_here x = (record { block = c; place = x; inode = half_at m (32 * x) }, name_in m (32 * x))

    other_block : c ≢ b → (xs : List ℕ) → find stands_there (filter_map (listed_at c m) xs) ≡ None
    other_block ne [] = refl
    other_block ne (x ∷ xs) =
        skip (half_at m (32 * x) == 0) (listed_here x) (filter_map (listed_at c m) xs) (ap (λ t. t && (x == p)) (ne_eqb c b ne)) ∙ other_block ne xs

    -- past the place
    none_past : (n a : ℕ) → p < a → find stands_there (filter_map (listed_at c m) (range_with_len a n)) ≡ None
    none_past zero a past = refl
    none_past (suc n) a past =
        skip (half_at m (32 * a) == 0) (listed_here a) (filter_map (listed_at c m) (range_with_len (a + 1) n)) (ap (λ t. (c == b) && t) (ne_eqb a p (λ z. omega (arith, past, z))) ∙ and_false (c == b)) ∙ none_past n (a + 1) (omega (arith, past))

    at_place : c ≡ b → (n a : ℕ) → a ≤ p → p < a + n → find stands_there (filter_map (listed_at c m) (range_with_len a n)) ≡ listed_at c m p
    at_place e zero a low high = absurd (omega (arith, low, high))
    at_place e (suc n) a low high = elim (cases_eq a p) [
      | inr ne ↦
          skip (half_at m (32 * a) == 0) (listed_here a) (filter_map (listed_at c m) (range_with_len (a + 1) n)) (ap (λ t. (c == b) && t) (ne_eqb a p ne) ∙ and_false (c == b))
          ∙ at_place e n (a + 1) (omega (arith, low, ne)) (omega (arith, high))
      | inl is ↦
          keep (half_at m (32 * a) == 0) (listed_here a) (filter_map (listed_at c m) (range_with_len (a + 1) n)) (both_true (c == b) (a == p) (eq-eqb c b e) (eq-eqb a p is)) (none_past n (a + 1) (omega (arith, is)))
          ∙ ap (listed_at c m) is
    ]

  module _ (content : ℕ → List ℕ) where
    none_in : (bs : List ℕ) → (Contains bs b → ⊥) → find stands_there (flat_map (listed_in content) bs) ≡ None
    none_in [] lacks = refl
    none_in (c ∷ bs) lacks =
        find-append stands_there (listed_in content c) (flat_map (listed_in content) bs)
        ∙ (ap (λ o. option_or o (find stands_there (flat_map (listed_in content) bs))) (other_block c (content c) (λ e. lacks (subst (λ x. Contains (x ∷ bs) b) (sym e) (Contains-head b bs))) (range_with_len 0 16))
        ∙ none_in bs (λ i. lacks (Contains-tail c bs b i)))

    module _ (few : p < 16) where
      one : (c : ℕ) → c ≡ b → find stands_there (listed_in content c) ≡ listed_at b (content b) p
      one c e = at_place c (content c) e 16 0 (omega arith) (omega (arith, few)) ∙ ap (λ x. listed_at x (content x) p) e

      again_none : listed_at b (content b) p ≡ None → (bs : List ℕ) → find stands_there (flat_map (listed_in content) bs) ≡ None
      again_none none [] = refl
      again_none none (c ∷ bs) =
          find-append stands_there (listed_in content c) (flat_map (listed_in content) bs)
          ∙ (ap (λ o. option_or o (find stands_there (flat_map (listed_in content) bs))) (elim (cases_eq c b) [ inl e ↦ one c e ∙ none | inr ne ↦ other_block c (content c) ne (range_with_len 0 16) ])
          ∙ again_none none bs)

      in_blocks : (bs : List ℕ) → Contains bs b → find stands_there (flat_map (listed_in content) bs) ≡ listed_at b (content b) p
      in_blocks [] has = absurd (Contains-none b has)
      in_blocks (c ∷ bs) has =
          find-append stands_there (listed_in content c) (flat_map (listed_in content) bs)
          ∙ elim (cases_eq c b) [
            | inl e ↦ ap (λ o. option_or o (find stands_there (flat_map (listed_in content) bs))) (one c e) ∙ go (listed_at b (content b) p) refl
            | inr ne ↦
                ap (λ o. option_or o (find stands_there (flat_map (listed_in content) bs))) (other_block c (content c) ne (range_with_len 0 16))
                ∙ in_blocks bs (elim (Contains-cons c bs b has) [ inl e ↦ absurd (ne e) | inr i ↦ i ])
          ]
        where
          go : (o : Option Listed) → listed_at b (content b) p ≡ o → option_or o (find stands_there (flat_map (listed_in content) bs)) ≡ o
          go None e = again_none e bs
          go (Some x) e = refl

      place_of : option_map value_of_listed (listed_at b (content b) p) ≡ name_of_place (content b) p
      place_of = go (half_at (content b) (32 * p) == 0)
        where
          go : (t : Bool) → option_map value_of_listed (if t then None else Some (record { block = b; place = p; inode = half_at (content b) (32 * p) }, name_in (content b) (32 * p)))
              ≡ (if t then None else Some (name_in (content b) (32 * p), half_at (content b) (32 * p)))
          go true = refl
          go false = refl

      -- what stands at a place of a block that an inode points to
      pub place_listed : (inode : List ℕ) → Contains (inode_blocks inode) b → name_of_place (content b) p ≡ there_in (listing content inode)
      place_listed inode has =
          sym place_of ∙ ap (option_map value_of_listed) (sym (in_blocks (inode_blocks inode) has) ∙ ap (find stands_there) (sym (listed_blocks content (inode_blocks inode))))

    -- nothing of another block
    pub none_listed_there : (inode : List ℕ) → (Contains (inode_blocks inode) b → ⊥) → find stands_there (listing content inode) ≡ None
    none_listed_there inode lacks = ap (find stands_there) (listed_blocks content (inode_blocks inode)) ∙ none_in (inode_blocks inode) lacks

any_front : (test : Listed → Bool) (xs ys : List Listed) → list_any test (xs ++ ys) ≡ false → list_any test xs ≡ false
any_front test [] ys e = refl
any_front test (x ∷ xs) ys e = go (test x) e (any_front test xs ys)
  where
    go : (t : Bool) → t || list_any test (xs ++ ys) ≡ false → (list_any test (xs ++ ys) ≡ false → list_any test xs ≡ false) → t || list_any test xs ≡ false
    go true f rest = absurd (cc f)
    go false f rest = rest f

-- One more
module _ (entry : Slot) (name : List ℕ) (front back all : List Listed) (was : all ≡ front ++ back) (alone : list_any (λ (p : Listed). is_at entry p.0) all ≡ false) where
  more_apart : (b p : ℕ) → (entry.block ≡ b → entry.place ≡ p → ⊥) → there_in b p (front ++ (entry, name) ∷ back) ≡ there_in b p all
  more_apart b p ne =
      ap (option_map value_of_listed) (find_skip (stands_there b p) front back (entry, name) (two (cases_eq entry.block b) (cases_eq entry.place p)) ∙ ap (find (stands_there b p)) (sym was))
    where
      two : (entry.block ≡ b) ⊎ (entry.block ≢ b) → (entry.place ≡ p) ⊎ (entry.place ≢ p) → (entry.block == b) && (entry.place == p) ≡ false
      two (inr away) c = ap (λ t. t && (entry.place == p)) (ne_eqb entry.block b away)
      two (inl e) (inr away) = ap (λ t. (entry.block == b) && t) (ne_eqb entry.place p away) ∙ and_false (entry.block == b)
      two (inl e) (inl f) = absurd (ne e f)

  more_here : there_in entry.block entry.place (front ++ (entry, name) ∷ back) ≡ Some (name, entry.inode)
  more_here =
      ap (option_map value_of_listed)
      (find_first (stands_there entry.block entry.place) front back (entry, name) (any_front (stands_there entry.block entry.place) front back (ap (list_any (stands_there entry.block entry.place)) (sym was) ∙ alone))
      (both_true (entry.block == entry.block) (entry.place == entry.place) (eq-eqb entry.block entry.block refl) (eq-eqb entry.place entry.place refl)))

  -- with one more at a place where none stood
  pub there_more : (b p : ℕ) → there_in b p (front ++ (entry, name) ∷ back) ≡ (if (entry.block == b) && (entry.place == p) then Some (name, entry.inode) else there_in b p all)
  there_more b p = go ((entry.block == b) && (entry.place == p)) refl
    where
      go : (t : Bool) → (entry.block == b) && (entry.place == p) ≡ t → there_in b p (front ++ (entry, name) ∷ back) ≡ (if t then Some (name, entry.inode) else there_in b p all)
      go true e =
          let k = and_parts (entry.block == b) (entry.place == p) e in
          ap (λ x. there_in x p (front ++ (entry, name) ∷ back)) (sym (eqb-true entry.block b k.0)) ∙ (ap (λ x. there_in entry.block x (front ++ (entry, name) ∷ back)) (sym (eqb-true entry.place p k.1)) ∙ more_here)
      go false e = more_apart b p (λ f g. cc (sym (both_true (entry.block == b) (entry.place == p) (eq-eqb entry.block b f) (eq-eqb entry.place p g)) ∙ e))

-- One less
pub there_without : (entry : Slot) (b p : ℕ) (all : List Listed) → there_in b p (without_entry entry all) ≡ (if (entry.block == b) && (entry.place == p) then None else there_in b p all)
there_without entry b p all = go ((entry.block == b) && (entry.place == p)) refl
  where
    apart : (e : Listed) → (entry.block == b) && (entry.place == p) ≡ false → stands_there b p e ≡ true → is_at entry e.0 ≡ false
    apart e f g =
        let k = and_parts (e.0.block == b) (e.0.place == p) g in
        let ep = eqb-true e.0.place p k.1 in
        ap (λ x. (x == entry.block) && (e.0.place == entry.place)) (eqb-true e.0.block b k.0) ∙ (ap (λ x. (b == entry.block) && (x == entry.place)) ep ∙ turned (cases_eq entry.block b) (cases_eq entry.place p))
      where
        turned : (entry.block ≡ b) ⊎ (entry.block ≢ b) → (entry.place ≡ p) ⊎ (entry.place ≢ p) → (b == entry.block) && (p == entry.place) ≡ false
        turned (inr away) c = ap (λ t. t && (p == entry.place)) (ne_eqb b entry.block (λ z. away (sym z)))
        turned (inl x) (inr away) = ap (λ t. (b == entry.block) && t) (ne_eqb p entry.place (λ z. away (sym z))) ∙ and_false (b == entry.block)
        turned (inl x) (inl y) = absurd (cc (sym (both_true (entry.block == b) (entry.place == p) (eq-eqb entry.block b x) (eq-eqb entry.place p y)) ∙ f))

    kept : (entry.block == b) && (entry.place == p) ≡ false → (xs : List Listed) → find (stands_there b p) (filter (λ e. not (is_at entry e.0)) xs) ≡ find (stands_there b p) xs
    kept f [] = refl
    kept f (x ∷ xs) = step (stands_there b p x) (is_at entry x.0) refl refl (kept f xs)
      where
        step : (s t : Bool) → stands_there b p x ≡ s → is_at entry x.0 ≡ t → find (stands_there b p) (filter (λ e. not (is_at entry e.0)) xs) ≡ find (stands_there b p) xs →
            find (stands_there b p) (cond (not t) (x ∷ filter (λ e. not (is_at entry e.0)) xs) (filter (λ e. not (is_at entry e.0)) xs)) ≡ cond s (Some x) (find (stands_there b p) xs)
        step s false i j r = ap (λ u. cond u (Some x) (find (stands_there b p) (filter (λ e. not (is_at entry e.0)) xs))) i ∙ ap (λ o. cond s (Some x) o) r
        step true true i j r = absurd (cc (sym j ∙ apart x f i))
        step false true i j r = r

    gone : entry.block ≡ b → entry.place ≡ p → (xs : List Listed) → find (stands_there b p) (filter (λ e. not (is_at entry e.0)) xs) ≡ None
    gone eb ep [] = refl
    gone eb ep (x ∷ xs) = step (is_at entry x.0) refl (gone eb ep xs)
      where
        step : (t : Bool) → is_at entry x.0 ≡ t → find (stands_there b p) (filter (λ e. not (is_at entry e.0)) xs) ≡ None →
            find (stands_there b p) (cond (not t) (x ∷ filter (λ e. not (is_at entry e.0)) xs) (filter (λ e. not (is_at entry e.0)) xs)) ≡ None
        step true j r = r
        step false j r =
            ap (λ u. cond u (Some x) (find (stands_there b p) (filter (λ e. not (is_at entry e.0)) xs)))
            (ap (λ y. (x.0.block == y) && (x.0.place == p)) (sym eb) ∙ (ap (λ y. (x.0.block == entry.block) && (x.0.place == y)) (sym ep) ∙ j)) ∙ r

    go : (t : Bool) → (entry.block == b) && (entry.place == p) ≡ t → there_in b p (without_entry entry all) ≡ (if t then None else there_in b p all)
    go true e =
        let k = and_parts (entry.block == b) (entry.place == p) e in
        ap (option_map value_of_listed) (gone (eqb-true entry.block b k.0) (eqb-true entry.place p k.1) all)
    go false e = ap (option_map value_of_listed) (kept e all)

-- One that names another inode

pub find_map : {A : Type 0} (test : A → Bool) (f : A → A) → ((x : A) → test (f x) ≡ test x) → (xs : List A) → find test (map f xs) ≡ option_map f (find test xs)
find_map test f same [] = refl
find_map {A} test f same (x ∷ xs) = ap (λ t. cond t (Some (f x)) (find test (map f xs))) (same x) ∙ (ap (cond (test x) (Some (f x))) (find_map test f same xs) ∙ one (test x))
  where
    one : (t : Bool) → cond t (Some (f x)) (option_map f (find test xs)) ≡ option_map f (cond t (Some x) (find test xs))
    one true = refl
    one false = refl

abbrev pub naming : ℕ → List ℕ × ℕ → List ℕ × ℕ
naming n e = (e.0, n)

pub there_turned : (entry : Slot) (n b p : ℕ) (all : List Listed) → there_in b p (map (turned_entry entry n) all) ≡ (if (entry.block == b) && (entry.place == p) then option_map (naming n) (there_in b p all) else there_in b p all)
there_turned entry n b p all = ap (option_map value_of_listed) (find_map (stands_there b p) (turned_entry entry n) place all) ∙ go (find (stands_there b p) all) (λ e is. found_holds (stands_there b p) all e is)
  where
    place : (e : Listed) → stands_there b p (turned_entry entry n e) ≡ stands_there b p e
    place e = at (is_at entry e.0)
      where
        at : (t : Bool) → stands_there b p (if t then (record e.0 { inode = n }, e.1) else e) ≡ stands_there b p e
        at true = refl
        at false = refl

    both_ways : (x y : ℕ) → (x == y) ≡ (y == x)
    both_ways x y = elim (cases_eq x y) [ inl e ↦ eq-eqb x y e ∙ sym (eq-eqb y x (sym e)) | inr ne ↦ ne_eqb x y ne ∙ sym (ne_eqb y x (λ z. ne (sym z))) ]

    same_test : (e : Listed) → stands_there b p e ≡ true → is_at entry e.0 ≡ (entry.block == b) && (entry.place == p)
    same_test e is =
        let k = and_parts (e.0.block == b) (e.0.place == p) is in
        ap (λ x. (x == entry.block) && (e.0.place == entry.place)) (eqb-true e.0.block b k.0)
        ∙ (ap (λ x. (b == entry.block) && (x == entry.place)) (eqb-true e.0.place p k.1) ∙ (ap (λ t. t && (p == entry.place)) (both_ways b entry.block) ∙ ap (λ t. (entry.block == b) && t) (both_ways p entry.place)))

    one : (e : Listed) (t : Bool) → value_of_listed (if t then (record e.0 { inode = n }, e.1) else e) ≡ (if t then (e.1, n) else value_of_listed e)
    one e true = refl
    one e false = refl

    some : (x y : List ℕ × ℕ) (t : Bool) → ◌≡◌ {A = Option (List ℕ × ℕ)} (Some (if t then x else y)) (if t then Some x else Some y)
    some x y true = refl
    some x y false = refl

    neither : (t : Bool) → ◌≡◌ {A = Option (List ℕ × ℕ)} None (if t then None else None)
    neither true = refl
    neither false = refl

    go : (o : Option Listed) → ((e : Listed) → o ≡ Some e → stands_there b p e ≡ true) →
        option_map value_of_listed (option_map (turned_entry entry n) o) ≡ (if (entry.block == b) && (entry.place == p) then option_map (naming n) (option_map value_of_listed o) else option_map value_of_listed o)
    go None h = neither ((entry.block == b) && (entry.place == p))
    go (Some e) h =
        ap (λ t. Some (value_of_listed (if t then (record e.0 { inode = n }, e.1) else e))) (same_test e (h e refl))
        ∙ (ap (λ x. Some x) (one e ((entry.block == b) && (entry.place == p))) ∙ some (e.1, n) (value_of_listed e) ((entry.block == b) && (entry.place == p)))
