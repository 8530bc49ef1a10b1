-- A list with one element more, and a directory with one entry more.
use Rattle.std.proofs.Common.{◌≡◌, ◌≢◌, ℕ, zero, suc, ◌+◌, ◌-◌, ◌*◌, ◌<◌, ◌≤◌, Bool, true, false, cond, not, ◌&&◌, List, [], ◌∷◌, ◌++◌, length, take, drop, get_or, replicate, Option, Some, None, refl, sym, ◌∙◌, ap, inl, inr, arith, subst, append_assoc, eq-eqb, Contains, ◌==◌, min, nat_le, filter_map, flat_map, slice_set, if◌then◌else◌, IsTrue, leb-true, ne_eqb}
use Rattle.ffs_lib.proofs.Common.{and_parts, blocks_of, cases_eq, cons_option, distinct, entry_of, false≢true, half_at, has_number, is_dots, is_name}
use Rattle.ffs_lib.proofs.Common.{is_name_byte, is_name_length, list_all, min-eq_left, name_in, not-true, put, range_with_len, take-append_seam, unless_empty}
use Rattle.ffs_lib.proofs.Common.{zero_block}
use Rattle.std.proofs.lemmas.List.Concat.{flat_map-append}
use Rattle.xn_model.proofs.ForCallers.{Contains-cons, Contains-head, Contains-none, Contains-tail, has_number_from}
use Rattle.ffs_model.proofs.ForCallers.{bytes_within, half_within, zero_half}
use Rattle.ffs_lib.proofs.Fields.{set_words}
use Rattle.ffs_lib.proofs.Frames.{byte_within, half_stays, listed_at, name_stays}

-- The second list is the first one with an element more.
pub record OneMore {A : Type 0} (old new : List A) (y : A) : Type 0 where
  pub front : List A
  pub back : List A
  pub was : old ≡ front ++ back
  pub is : new ≡ front ++ y ∷ back

pub behind_more : {A : Type 0} (xs old new : List A) (y : A) → OneMore old new y → OneMore (xs ++ old) (xs ++ new) y
behind_more xs old new y o = record {
  front = xs ++ o.front;
  back = o.back;
  was = ap (λ z. xs ++ z) o.was ∙ sym (append_assoc xs o.front o.back);
  is = ap (λ z. xs ++ z) o.is ∙ sym (append_assoc xs o.front (y ∷ o.back));
}

pub before_more : {A : Type 0} (xs old new : List A) (y : A) → OneMore old new y → OneMore (old ++ xs) (new ++ xs) y
before_more xs old new y o = record {
  front = o.front;
  back = o.back ++ xs;
  was = ap (λ z. z ++ xs) o.was ∙ append_assoc o.front o.back xs;
  is = ap (λ z. z ++ xs) o.is ∙ append_assoc o.front (y ∷ o.back) xs;
}

pub more_by : {A : Type 0} (old new old' new' : List A) (y : A) → old' ≡ old → new' ≡ new → OneMore old new y → OneMore old' new' y
more_by old new old' new' y e f o = record { front = o.front; back = o.back; was = e ∙ o.was; is = f ∙ o.is }

option_more : {A : Type 0} (o : Option A) (old new : List A) (y : A) → OneMore old new y → OneMore (cons_option o old) (cons_option o new) y
option_more None old new y m = m
option_more (Some x) old new y m = behind_more (x ∷ []) old new y m

first_more : {A : Type 0} (o p : Option A) (old new : List A) (y : A) → o ≡ None → p ≡ Some y → new ≡ old → OneMore (cons_option o old) (cons_option p new) y
first_more o p old new y e f s = record { front = []; back = old; was = ap (λ x. cons_option x old) e; is = ap (λ x. cons_option x new) f ∙ ap (λ x. y ∷ x) s }

-- one more place of a range
module _ {A : Type 0} (f h : ℕ → Option A) (p : ℕ) (y : A) (none : f p ≡ None) (some : h p ≡ Some y) (others : (x : ℕ) → x ≢ p → h x ≡ f x) where
  past_same : (n a : ℕ) → p < a → filter_map h (range_with_len a n) ≡ filter_map f (range_with_len a n)
  past_same zero a lt = refl
  past_same (suc n) a lt = ap (λ o. cons_option o (filter_map h (range_with_len (a + 1) n))) (others a (λ e. omega (arith, e, lt))) ∙ ap (cons_option (f a)) (past_same n (a + 1) (omega (arith, lt)))

  pub places_more : (n a : ℕ) → a ≤ p → p < a + n → OneMore (filter_map f (range_with_len a n)) (filter_map h (range_with_len a n)) y
  places_more zero a lo hi = absurd (omega (arith, lo, hi))
  places_more (suc n) a lo hi = elim (cases_eq p a) [
    | inl e ↦ first_more (f a) (h a) (filter_map f (range_with_len (a + 1) n)) (filter_map h (range_with_len (a + 1) n)) y (ap f (sym e) ∙ none) (ap h (sym e) ∙ some) (past_same n (a + 1) (omega (arith, e)))
    | inr ne ↦
        let rest = places_more n (a + 1) (omega (arith, lo, ne)) (omega (arith, hi)) in
        more_by _ _ _ _ y refl (ap (λ o. cons_option o (filter_map h (range_with_len (a + 1) n))) (others a (λ e. ne (sym e))))
        (option_more (f a) (filter_map f (range_with_len (a + 1) n)) (filter_map h (range_with_len (a + 1) n)) y rest)
  ]

-- one more in one of several lists
module _ {A : Type 0} (F H : ℕ → List A) (b : ℕ) (y : A) (here : OneMore (F b) (H b) y) where
  rest_same : (cs : List ℕ) → ((c : ℕ) → Contains cs c → c ≢ b → H c ≡ F c) → (Contains cs b → ⊥) → flat_map H cs ≡ flat_map F cs
  rest_same [] same none = refl
  rest_same (c ∷ cs) same none =
      ap (λ x. x ++ flat_map H cs) (same c (Contains-head c cs) (λ e. none (subst (λ z. Contains (c ∷ cs) z) e (Contains-head c cs))))
      ∙ ap (λ x. F c ++ x) (rest_same cs (λ d i. same d (Contains-tail c cs d i)) (λ i. none (Contains-tail c cs b i)))

  pub blocks_more : (cs : List ℕ) → Contains cs b → distinct cs ≡ true → ((c : ℕ) → Contains cs c → c ≢ b → H c ≡ F c) → OneMore (flat_map F cs) (flat_map H cs) y
  blocks_more [] i d same = absurd (Contains-none b i)
  blocks_more (c ∷ cs) i d same =
      let parts = and_parts (not (has_number cs c)) (distinct cs) d in
      elim (cases_eq c b) [
        | inl e ↦
            let once : Contains cs b → ⊥ = λ k. false≢true (sym (not-true (has_number cs c) parts.0) ∙ has_number_from cs c (subst (λ z. Contains cs z) (sym e) k)) in
            let rest = rest_same cs (λ x k. same x (Contains-tail c cs x k)) once in
            more_by _ _ _ _ y refl (ap (λ x. H c ++ x) rest) (before_more (flat_map F cs) (F c) (H c) y (subst (λ z. OneMore (F z) (H z) y) (sym e) here))
        | inr ne ↦
            let within : Contains cs b = elim (Contains-cons c cs b i) [ inl e ↦ absurd (ne e) | inr k ↦ k ] in
            more_by _ _ _ _ y refl (ap (λ x. x ++ flat_map H cs) (same c (Contains-head c cs) ne))
            (behind_more (F c) (flat_map F cs) (flat_map H cs) y (blocks_more cs within parts.1 (λ x k. same x (Contains-tail c cs x k))))
      ]

-- one more list
pub lists_more : {A : Type 0} (F : ℕ → List A) (bs cs : List ℕ) (b : ℕ) (y : A) → OneMore bs cs b → F b ≡ y ∷ [] → OneMore (flat_map F bs) (flat_map F cs) y
lists_more F bs cs b y o one = record {
  front = flat_map F o.front;
  back = flat_map F o.back;
  was = ap (flat_map F) o.was ∙ flat_map-append F o.front o.back;
  is = ap (flat_map F) o.is ∙ (flat_map-append F o.front (b ∷ o.back) ∙ ap (λ x. flat_map F o.front ++ (x ++ flat_map F o.back)) one);
}

-- one more word that is set
set_pairs : (w : ℕ) (ps qs : List (ℕ × ℕ)) (b : ℕ) → OneMore (blocks_of ps) (blocks_of qs) b → OneMore (blocks_of (cons_option (unless_empty (w, 2)) ps)) (blocks_of (cons_option (unless_empty (w, 2)) qs)) b
set_pairs w ps qs b o = go (w == 0)
  where
    go : (t : Bool) → OneMore (blocks_of (cons_option (cond t None (Some (w, 2))) ps)) (blocks_of (cons_option (cond t None (Some (w, 2))) qs)) b
    go true = o
    go false = behind_more (w ∷ []) (blocks_of ps) (blocks_of qs) b o

pub words_more : (ws : List ℕ) (k b : ℕ) → k < length ws → get_or ws k 0 ≡ 0 → b ≢ 0 → OneMore (set_words ws) (set_words (slice_set ws k b)) b
words_more [] k b low e ne = absurd (omega (arith, low))
words_more (w ∷ ws) zero b low e ne = record {
  front = [];
  back = set_words ws;
  was = ap (λ (t : Bool). blocks_of (cons_option (cond t None (Some (w, 2))) (filter_map (λ x. unless_empty (x, 2)) ws))) (eq-eqb w 0 e);
  is = ap (λ (t : Bool). blocks_of (cons_option (cond t None (Some (b, 2))) (filter_map (λ x. unless_empty (x, 2)) ws))) (ne_eqb b 0 ne);
}
words_more (w ∷ ws) (suc k) b low e ne =
    set_pairs w (filter_map (λ x. unless_empty (x, 2)) ws) (filter_map (λ x. unless_empty (x, 2)) (slice_set ws k b)) b (words_more ws k b (omega (arith, low)) e ne)

-- An entry's bytes

short : (name : List ℕ) → IsTrue (is_name name) → length name ≤ 28
short name named =
    let tests = (and_parts (is_name_length (length name) && list_all is_name_byte name) (not (is_dots name)) named).0 in
    leb-true (length name) 28 (and_parts (nat_le 1 (length name)) (nat_le (length name) 28) ((and_parts (is_name_length (length name)) (list_all is_name_byte name) tests).0)).1

entry_name : (n : ℕ) (name : List ℕ) → IsTrue (is_name name) → name_in (entry_of n name) 0 ≡ name
entry_name n name named =
    let pad = replicate {A = ℕ} (28 - length name) 0 in
    ap (λ k. take k (name ++ pad)) (min-eq_left (short name named)) ∙ take-append_seam name pad

module _ (m : List ℕ) (long : length m ≡ 512) (p : ℕ) (few : p < 16) (n : ℕ) (name bs : List ℕ) (is : bs ≡ entry_of n name) (whole : length bs ≡ 32) (named : IsTrue (is_name name)) (half : half_at bs 0 ≡ n) where
  fits : 32 * p + length bs ≤ length m
  fits = omega (arith, long, few, whole)

  half_here : half_at (put m (32 * p) bs) (32 * p) ≡ n
  half_here = let e : 32 * p ≡ 32 * p + 0 = omega arith in half_within m (32 * p) bs fits (32 * p) 0 e (omega (arith, whole)) ∙ half

  pub name_here : name_in (put m (32 * p) bs) (32 * p) ≡ name
  name_here =
      ap (λ x. take (min x 28) (drop (32 * p + 4) (put m (32 * p) bs))) (byte_within m (32 * p) bs fits 2 (omega (arith, whole)))
      ∙ (bytes_within m (32 * p) bs fits (min (get_or bs 2 0) 28) 4 (omega (arith, whole)) ∙ (ap (λ x. name_in x 0) is ∙ entry_name n name named))

  module _ (some : n ≢ 0) (b : ℕ) where
    pub listed_here : listed_at b (put m (32 * p) bs) p ≡ Some (record { block = b; place = p; inode = n }, name)
    listed_here =
        ap (λ x. if x == 0 then None else Some (record { block = b; place = p; inode = x }, name_in (put m (32 * p) bs) (32 * p))) half_here
        ∙ (ap (λ (t : Bool). if t then None else Some (record { block = b; place = p; inode = n }, name_in (put m (32 * p) bs) (32 * p))) (ne_eqb n 0 some)
        ∙ ap (λ x. Some (record { block = b; place = p; inode = n }, x)) name_here)

    pub listed_apart : (x : ℕ) → x ≢ p → listed_at b (put m (32 * p) bs) x ≡ listed_at b m x
    listed_apart x ne =
        ap (λ h. if h == 0 then None else Some (record { block = b; place = x; inode = h }, name_in (put m (32 * p) bs) (32 * x))) (half_stays m long p few bs whole x ne)
        ∙ ap (λ k. if half_at m (32 * x) == 0 then None else Some (record { block = b; place = x; inode = half_at m (32 * x) }, k)) (name_stays m long p few bs whole x ne)

    -- a block with one entry more
    pub block_more : half_at m (32 * p) ≡ 0 → OneMore (filter_map (listed_at b m) (range_with_len 0 16)) (filter_map (listed_at b (put m (32 * p) bs)) (range_with_len 0 16)) (record { block = b; place = p; inode = n }, name)
    block_more empty =
        places_more (listed_at b m) (listed_at b (put m (32 * p) bs)) p (record { block = b; place = p; inode = n }, name)
        (ap (λ (t : Bool). if t then None else Some (record { block = b; place = p; inode = half_at m (32 * p) }, name_in m (32 * p))) (eq-eqb (half_at m (32 * p)) 0 empty))
        listed_here listed_apart 16 0 (omega arith) (omega (arith, few))

-- no entry in zeros
none_listed : (b : ℕ) (xs : List ℕ) → filter_map (listed_at b zero_block) xs ≡ []
none_listed b [] = refl
none_listed b (x ∷ xs) =
    ap (λ (t : Bool). cons_option (if t then None else Some (record { block = b; place = x; inode = half_at zero_block (32 * x) }, name_in zero_block (32 * x))) (filter_map (listed_at b zero_block) xs)) (eq-eqb (half_at zero_block (32 * x)) 0 (zero_half (32 * x)))
    ∙ none_listed b xs

only_one : {A : Type 0} (front back new : List A) (y : A) → [] ≡ front ++ back → new ≡ front ++ y ∷ back → new ≡ y ∷ []
only_one [] [] new y e f = f
only_one [] (x ∷ xs) new y e f = absurd (cc e)
only_one (x ∷ xs) back new y e f = absurd (cc e)

-- a directory's first entry in a block
pub one_listed : (n : ℕ) (name bs : List ℕ) → bs ≡ entry_of n name → length bs ≡ 32 → IsTrue (is_name name) → half_at bs 0 ≡ n → n ≢ 0 → (b : ℕ) →
    filter_map (listed_at b (put zero_block 0 bs)) (range_with_len 0 16) ≡ (record { block = b; place = 0; inode = n }, name) ∷ []
one_listed n name bs is whole named half some b =
    let more = block_more zero_block refl 0 (omega arith) n name bs is whole named half some b (zero_half 0) in
    only_one more.front more.back _ (record { block = b; place = 0; inode = n }, name) (sym (none_listed b (range_with_len 0 16)) ∙ more.was) more.is
