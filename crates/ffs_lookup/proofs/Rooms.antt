-- Where there is room for an entry, or a free inode.
use Rattle.std.proofs.Common.{◌≡◌, ℕ, zero, suc, ◌+◌, ◌-◌, ◌*◌, ◌<◌, ◌≤◌, ◌≢◌, Bool, true, false, cond, List, [], ◌∷◌, ◌++◌, Option, Some, None, refl, sym, ◌∙◌, ap, append_assoc, arith, eq-eqb, ◌==◌, ◌&&◌, ◌||◌, not, find, option_map, ne_eqb}
use Rattle.std.specs.List.{list_any, range_with_len}
use Rattle.std.proofs.lemmas.Option.{none-some}
use Rattle.ffs_model.specs.Library.{half_at, inode_at, inode_blocks, pointer_word}
use Rattle.ffs_format.specs.Fields.{direct_in}
use Rattle.ffs_lookup.specs.Newest.{has_free_at, has_free_inode, has_gap, has_room, is_free_inode, number_from, number_in, room_from, room_in}
use Rattle.ffs_lookup.specs.declared.places.Room.TheVariants.{Entry, Pointer}
use Rattle.ffs_lookup.proofs.Walks.{blocks_front, blocks_one, blocks_past, first_blocks, range_more}

-- Tests of lists

or_true : (t : Bool) → t || true ≡ true
or_true true = refl
or_true false = refl

or_false : (t : Bool) → t || false ≡ t
or_false true = refl
or_false false = refl

found_step : {A : Type 0} (x y : A) (t any : Bool) (rest : Option A) → (Some x ≡ rest → any ≡ true) → Some x ≡ cond t (Some y) rest → t || any ≡ true
found_step x y true any rest f e = refl
found_step x y false any rest f e = f e

none_step : {A : Type 0} (y : A) (t any : Bool) (rest : Option A) → (None ≡ rest → any ≡ false) → None ≡ cond t (Some y) rest → t || any ≡ false
none_step y true any rest f e = absurd (none-some y e)
none_step y false any rest f e = f e

-- the first of a list
pub find_first : {A : Type 0} (p : A → Bool) (xs ys : List A) (y : A) → list_any p xs ≡ false → p y ≡ true → find p (xs ++ y ∷ ys) ≡ Some y
find_first p [] ys y none e = ap (λ t. cond t (Some y) (find p ys)) e
find_first {A} p (x ∷ xs) ys y none e = go (p x) none (find_first p xs ys y)
  where
    go : (t : Bool) → t || list_any p xs ≡ false → (list_any p xs ≡ false → p y ≡ true → find p (xs ++ y ∷ ys) ≡ Some y) → cond t (Some x) (find p (xs ++ y ∷ ys)) ≡ Some y
    go true f rest = absurd (cc f)
    go false f rest = rest f e

pub find_none : {A : Type 0} (p : A → Bool) (xs : List A) → list_any p xs ≡ false → find p xs ≡ None
find_none p [] none = refl
find_none {A} p (x ∷ xs) none = go (p x) none (find_none p xs)
  where
    go : (t : Bool) → t || list_any p xs ≡ false → (list_any p xs ≡ false → find p xs ≡ None) → cond t (Some x) (find p xs) ≡ None
    go true f rest = absurd (cc f)
    go false f rest = rest f

pub first_in_range : (p : ℕ → Bool) (k rest : ℕ) (a : ℕ) → list_any p (range_with_len a k) ≡ false → p (a + k) ≡ true → find p (range_with_len a (k + suc rest)) ≡ Some (a + k)
first_in_range p k rest a none e =
    ap (find p) (range_split a k rest) ∙ find_first p (range_with_len a k) (range_with_len (a + k + 1) rest) (a + k) none e
  where
    range_split : (a k rest : ℕ) → range_with_len a (k + suc rest) ≡ range_with_len a k ++ (a + k) ∷ range_with_len (a + k + 1) rest
    range_split a zero rest =
        let z : a ≡ a + 0 = omega arith in
        let n : zero + suc rest ≡ suc rest = omega arith in
        ap (range_with_len a) n ∙ ap (λ b. b ∷ range_with_len (b + 1) rest) z
    range_split a (suc k) rest =
        let n : suc k + suc rest ≡ suc (k + suc rest) = omega arith in
        let up : a + 1 + k ≡ a + suc k = omega arith in
        ap (range_with_len a) n ∙ (ap (λ xs. a ∷ xs) (range_split (a + 1) k rest) ∙ ap (λ b. a ∷ (range_with_len (a + 1) k ++ b ∷ range_with_len (b + 1) rest)) up)

append_step : (t a b c : Bool) → a ≡ b || c → t || a ≡ (t || b) || c
append_step true a b c e = refl
append_step false a b c e = e

pub any_found : {A : Type 0} (p : A → Bool) (x : A) (xs : List A) → Some x ≡ find p xs → list_any p xs ≡ true
any_found p x [] e = absurd (none-some x (sym e))
any_found p x (y ∷ ys) e = found_step x y (p y) (list_any p ys) (find p ys) (any_found p x ys) e

pub any_none : {A : Type 0} (p : A → Bool) (xs : List A) → None ≡ find p xs → list_any p xs ≡ false
any_none p [] e = refl
any_none p (y ∷ ys) e = none_step y (p y) (list_any p ys) (find p ys) (any_none p ys) e

any_append : {A : Type 0} (p : A → Bool) (xs ys : List A) → list_any p (xs ++ ys) ≡ list_any p xs || list_any p ys
any_append p [] ys = refl
any_append p (x ∷ xs) ys = append_step (p x) (list_any p (xs ++ ys)) (list_any p xs) (list_any p ys) (any_append p xs ys)

pub any_range : (p : ℕ → Bool) (a n k : ℕ) → k < n → p (a + k) ≡ true → list_any p (range_with_len a n) ≡ true
any_range p a zero k low e = absurd (omega arith)
any_range p a (suc n) zero low e = let z : a + 0 ≡ a = omega arith in ap (λ t. t || list_any p (range_with_len (a + 1) n)) (ap p (sym z) ∙ e)
any_range p a (suc n) (suc k) low e =
    let s : a + 1 + k ≡ a + suc k = omega arith in
    ap (λ t. p a || t) (any_range p (a + 1) n k (omega arith) (ap p s ∙ e)) ∙ or_true (p a)

pub none_in_range : (p : ℕ → Bool) (n m : ℕ) → n + 1 ≡ m → list_any p (range_with_len 0 n) ≡ false → p n ≡ false → list_any p (range_with_len 0 m) ≡ false
none_in_range p n m s none e =
    let up : m ≡ suc n = omega arith in
    let z : 0 + n ≡ n = omega arith in
    ap (λ x. list_any p (range_with_len 0 x)) up ∙ (ap (list_any p) (range_more 0 n ∙ ap (λ x. range_with_len 0 n ++ x ∷ []) z) ∙ (any_append p (range_with_len 0 n) (n ∷ []) ∙ (ap (λ t. t || (p n || false)) none ∙ (or_false (p n) ∙ e))))

-- Gaps in a directory's blocks

abbrev pub gap_in_first : (ℕ → List ℕ) → List ℕ → ℕ → Bool
gap_in_first content inode n = list_any (λ block. has_gap (content block)) (first_blocks inode n)

module _ (content : ℕ → List ℕ) (inode : List ℕ) (n m : ℕ) (s : n + 1 ≡ m) where
  pub gap_past : gap_in_first content inode n ≡ false → direct_in inode n ≡ 0 → gap_in_first content inode m ≡ false
  gap_past none e = ap (list_any (λ block. has_gap (content block))) (blocks_past inode n m s e) ∙ none

  module _ (b : ℕ) (bytes : List ℕ) (e : direct_in inode n ≡ b) (there : b ≢ 0) (are : content b ≡ bytes) where
    more : gap_in_first content inode m ≡ gap_in_first content inode n || (has_gap bytes || false)
    more =
        ap (list_any (λ block. has_gap (content block))) (blocks_one inode n m b s e there)
        ∙ (any_append (λ block. has_gap (content block)) (first_blocks inode n) (b ∷ []) ∙ ap (λ x. gap_in_first content inode n || (has_gap x || false)) are)

    pub gap_none : gap_in_first content inode n ≡ false → None ≡ find (λ place. half_at bytes (32 * place) == 0) (range_with_len 0 16) → gap_in_first content inode m ≡ false
    gap_none none f = more ∙ (ap (λ t. t || (has_gap bytes || false)) none ∙ (or_false (has_gap bytes) ∙ any_none (λ place. half_at bytes (32 * place) == 0) (range_with_len 0 16) f))

    pub gap_found : m ≤ 12 → (place : ℕ) → Some place ≡ find (λ place. half_at bytes (32 * place) == 0) (range_with_len 0 16) → has_room content inode ≡ true
    gap_found few place f =
        let rest = blocks_front inode m few in
        let here : gap_in_first content inode m ≡ true =
        more ∙ (ap (λ t. gap_in_first content inode n || (t || false)) (any_found (λ place. half_at bytes (32 * place) == 0) place (range_with_len 0 16) f) ∙ or_true (gap_in_first content inode n)) in
        ap (λ bs. list_any (λ block. has_gap (content block)) bs || list_any (λ index. direct_in inode index == 0) (range_with_len 0 12)) rest.1
        ∙ ap (λ t. t || list_any (λ index. direct_in inode index == 0) (range_with_len 0 12)) (any_append (λ block. has_gap (content block)) (first_blocks inode m) rest.0
        ∙ ap (λ t. t || list_any (λ block. has_gap (content block)) rest.0) here)

    -- the first one
    pub gap_place : m ≤ 12 → gap_in_first content inode n ≡ false → (place : ℕ) → Some place ≡ find (λ place. half_at bytes (32 * place) == 0) (range_with_len 0 16) → Some (Entry b place) ≡ room_in content inode
    gap_place few none place f =
        let gap = λ (block : ℕ). has_gap (content block) in
        let rest = blocks_front inode m few in
        let has : gap b ≡ true = ap has_gap are ∙ any_found (λ place. half_at bytes (32 * place) == 0) place (range_with_len 0 16) f in
        let split : inode_blocks inode ≡ first_blocks inode n ++ b ∷ rest.0 = rest.1 ∙ (ap (λ xs. xs ++ rest.0) (blocks_one inode n m b s e there) ∙ append_assoc (first_blocks inode n) (b ∷ []) rest.0) in
        let first : find gap (inode_blocks inode) ≡ Some b = ap (find gap) split ∙ find_first gap (first_blocks inode n) rest.0 b none has in
        ap (option_map (Entry b)) (f ∙ ap (λ x. find (λ place. half_at x (32 * place) == 0) (range_with_len 0 16)) (sym are)) ∙ ap (room_from content inode) (sym first)

module _ (content : ℕ → List ℕ) (inode : List ℕ) (n : ℕ) (all : n ≡ 12) (none : gap_in_first content inode n ≡ false) where
  pub pointer_left : (index : ℕ) → Some index ≡ find (λ index. direct_in inode index == 0) (range_with_len 0 12) → has_room content inode ≡ true
  pointer_left index f =
      ap (λ t. list_any (λ block. has_gap (content block)) (inode_blocks inode) || t) (any_found (λ index. direct_in inode index == 0) index (range_with_len 0 12) f)
      ∙ or_true (list_any (λ block. has_gap (content block)) (inode_blocks inode))

  pub pointer_place : (index : ℕ) → Some index ≡ find (λ index. direct_in inode index == 0) (range_with_len 0 12) → Some (Pointer index) ≡ room_in content inode
  pointer_place index f =
      let gap = λ (block : ℕ). has_gap (content block) in
      let no_gap : find gap (inode_blocks inode) ≡ None = find_none gap (inode_blocks inode) (ap (gap_in_first content inode) (sym all) ∙ none) in
      ap (option_map Pointer) f ∙ ap (room_from content inode) (sym no_gap)

  pub no_room : None ≡ find (λ index. direct_in inode index == 0) (range_with_len 0 12) → has_room content inode ≡ false
  no_room f =
      ap (λ t. t || list_any (λ index. direct_in inode index == 0) (range_with_len 0 12)) (ap (gap_in_first content inode) (sym all) ∙ none)
      ∙ any_none (λ index. direct_in inode index == 0) (range_with_len 0 12) f

-- Free inodes

module _ (content : ℕ → List ℕ) (b : ℕ) (bytes : List ℕ) (are : content b ≡ bytes) where
  pub free_at_none : b ≡ 0 → has_free_at content b ≡ false
  free_at_none e = ap (λ t. not t && list_any (λ place. is_free_inode (inode_at (content b) place)) (range_with_len 0 8)) (eq-eqb b 0 e)

  at_block : b ≢ 0 → has_free_at content b ≡ list_any (λ place. is_free_inode (inode_at bytes place)) (range_with_len 0 8)
  at_block ne =
      ap (λ t. not t && list_any (λ place. is_free_inode (inode_at (content b) place)) (range_with_len 0 8)) (ne_eqb b 0 ne)
      ∙ ap (λ m. list_any (λ place. is_free_inode (inode_at m place)) (range_with_len 0 8)) are

  pub free_at_found : b ≢ 0 → (place : ℕ) → Some place ≡ find (λ place. is_free_inode (inode_at bytes place)) (range_with_len 0 8) → has_free_at content b ≡ true
  free_at_found ne place f = at_block ne ∙ any_found (λ place. is_free_inode (inode_at bytes place)) place (range_with_len 0 8) f

  pub free_at_full : b ≢ 0 → None ≡ find (λ place. is_free_inode (inode_at bytes place)) (range_with_len 0 8) → has_free_at content b ≡ false
  free_at_full ne f = at_block ne ∙ any_none (λ place. is_free_inode (inode_at bytes place)) (range_with_len 0 8) f

module _ (content : ℕ → List ℕ) (root index b : ℕ) (top : List ℕ) (are : content root ≡ top) (points : b ≡ pointer_word top index) where
  same_word : pointer_word (content root) index ≡ b
  same_word = ap (λ m. pointer_word m index) are ∙ sym points

  pub free_more : (m : ℕ) → index + 1 ≡ m → list_any (λ i. has_free_at content (pointer_word (content root) i)) (range_with_len 0 index) ≡ false → has_free_at content b ≡ false →
      list_any (λ i. has_free_at content (pointer_word (content root) i)) (range_with_len 0 m) ≡ false
  free_more m s none e = none_in_range (λ i. has_free_at content (pointer_word (content root) i)) index m s none (ap (has_free_at content) same_word ∙ e)

  -- the lowest one
  pub free_lowest : index < 16 → list_any (λ i. has_free_at content (pointer_word (content root) i)) (range_with_len 0 index) ≡ false → has_free_at content b ≡ true → (bytes : List ℕ) → content b ≡ bytes → (place : ℕ) →
      Some place ≡ find (λ place. is_free_inode (inode_at bytes place)) (range_with_len 0 8) → Some (8 * index + place + 1) ≡ number_in content root
  free_lowest low none here bytes is place f =
      let free = λ (i : ℕ). has_free_at content (pointer_word (content root) i) in
      let rest = 15 - index in
      let all : index + suc rest ≡ 16 = omega (arith, low) in
      let z : 0 + index ≡ index = omega arith in
      let first : find free (range_with_len 0 16) ≡ Some index =
      ap (λ n. find free (range_with_len 0 n)) (sym all) ∙ (first_in_range free index rest 0 none (ap free z ∙ (ap (has_free_at content) same_word ∙ here)) ∙ ap (λ i. Some i) z) in
      let found = f ∙ ap (λ (m : List ℕ). find (λ place. is_free_inode (inode_at m place)) (range_with_len 0 8)) (sym is ∙ ap content (sym same_word)) in
      ap (option_map (λ place. 8 * index + place + 1)) found ∙ ap (number_from content root) (sym first)

  pub free_here : index < 16 → has_free_at content b ≡ true → true ≡ has_free_inode content root
  free_here low e =
      let z : 0 + index ≡ index = omega arith in
      sym (any_range (λ i. has_free_at content (pointer_word (content root) i)) 0 16 index low (ap (λ i. has_free_at content (pointer_word (content root) i)) z ∙ (ap (has_free_at content) same_word ∙ e)))
