-- In bytes that fit, no block is pointed to from two places.
use Rattle.std.proofs.Common.{◌≡◌, ℕ, zero, suc, ◌+◌, ◌*◌, ◌<◌, ◌≤◌, ◌≢◌, Bool, true, false, List, [], ◌∷◌, ◌++◌, refl, sym, ◌∙◌, ap, inl, inr, arith, subst}
use Rattle.std.specs.Prelude.{Contains, ◌&&◌, not, flat_map, option_to_list, IsTrue}
use Rattle.std.specs.List.{range_with_len}
use Rattle.std.proofs.lemmas.Bool.{cases_eq, false≢true, not-true, and_parts}
use Rattle.std.proofs.lemmas.List.{map-append}
use Rattle.std.proofs.lemmas.List.Elements.{Contains-append_left, Contains-append_right}
use Rattle.xn_model.specs.Lists.{has_number, blocks_of, distinct}
use Rattle.xn_model.specs.Types.{Types, fits, named_once, within_size}
use Rattle.xn_model.specs.Root.{word_at, unless_empty}
use Rattle.xn_model.proofs.ForCallers.{Contains-head, blocks_of_at, blocks_of_has, has_number_at, has_number_from, not_empty, range_at}
use Rattle.ffs_model.specs.Library.{direct_word, inode_blocks, inode_pairs, pointed, pointer_word, IsLibrary}
use Rattle.ffs_model.proofs.Library.{distinct_behind, flat_once, inode_has, is_not_empty, map_at, pointed_from, pointed_once}

-- Lists without repetition

none_here : (xs ys : List ℕ) (x : ℕ) → has_number (xs ++ ys) x ≡ false → has_number xs x ≡ false
none_here xs ys x none = go (has_number xs x) refl
  where
    go : (t : Bool) → has_number xs x ≡ t → t ≡ false
    go false e = refl
    go true e = absurd (false≢true (sym none ∙ has_number_from (xs ++ ys) x (Contains-append_left xs ys x (has_number_at xs x e))))

pub distinct_front : (xs ys : List ℕ) → distinct (xs ++ ys) ≡ true → distinct xs ≡ true
distinct_front [] ys d = refl
distinct_front (x ∷ xs) ys d =
    let parts = and_parts (not (has_number (xs ++ ys) x)) (distinct (xs ++ ys)) d in
    let none = none_here xs ys x (not-true (has_number (xs ++ ys) x) parts.0) in
    ap (λ t. not t && distinct xs) none ∙ distinct_front xs ys parts.1

flat_part : (F : ℕ → List (ℕ × ℕ)) (n a p : ℕ) → distinct (blocks_of (flat_map F (range_with_len a n))) ≡ true → a ≤ p → p < a + n → distinct (blocks_of (F p)) ≡ true
flat_part F zero a p d lo hi = absurd (omega arith)
flat_part F (suc n) a p d lo hi =
    let rest = flat_map F (range_with_len (a + 1) n) in
    let apart : distinct (blocks_of (F a) ++ blocks_of rest) ≡ true = ap distinct (sym (map-append (λ (x : ℕ × ℕ). x.0) (F a) rest)) ∙ d in
    elim (cases_eq a p) [
      | inl e ↦ ap (λ x. distinct (blocks_of (F x))) (sym e) ∙ distinct_front (blocks_of (F a)) (blocks_of rest) apart
      | inr ne ↦ flat_part F n (a + 1) p (distinct_behind (blocks_of (F a)) (blocks_of rest) apart) (omega arith) (omega arith)
    ]

-- where a block stands among the pointers of an inode
pub direct_where : (bytes : List ℕ) (b : ℕ) → Contains (inode_blocks bytes) b → (i : ℕ) × (i < 12) × (word_at bytes (8 + 4 * i) ≡ b) × (b ≢ 0)
direct_where bytes b h =
    let word = λ (i : ℕ). word_at bytes (8 + 4 * i) in
    let r = blocks_of_at (pointed word 12 2) b h in
    let x = map_at (λ (i : ℕ). unless_empty (word i, 2)) (range_with_len 0 12) (b, r.0) r.1 in
    let q = not_empty (word x.0, 2) (b, r.0) x.2 in
    let same : word x.0 ≡ b = ap (λ (p : ℕ × ℕ). p.0) q.0 in
    let hi : x.0 < 0 + 12 = (range_at 0 12 x.0 x.1).1 in
    (x.0, omega arith, same, λ z. q.1 (same ∙ z))

module _ (T : Types) (lib : IsLibrary T) where
  inodes_distinct : (m : List ℕ) → IsTrue (fits T 4 m) → distinct (blocks_of (flat_map (inode_pairs m) (range_with_len 0 8))) ≡ true
  inodes_distinct m fit = ap (λ ps. distinct (blocks_of ps)) (sym (lib.inodes m)) ∙ (and_parts (named_once T 4 m) (within_size T 4 m) fit).0

  -- an inode's own blocks
  pub direct_distinct : (m : List ℕ) (p : ℕ) → IsTrue (fits T 4 m) → p < 8 → distinct (blocks_of (pointed (direct_word m p) 12 2)) ≡ true
  direct_distinct m p fit low =
      let last = option_to_list (unless_empty (word_at m (64 * p + 56), 5)) in
      let own = flat_part (inode_pairs m) 8 0 p (inodes_distinct m fit) (omega arith) (omega arith) in
      distinct_front (blocks_of (pointed (direct_word m p) 12 2)) (blocks_of last) (ap distinct (sym (map-append (λ (x : ℕ × ℕ). x.0) (pointed (direct_word m p) 12 2) last)) ∙ own)

  direct_pair : (m : List ℕ) (p i b : ℕ) → i < 12 → direct_word m p i ≡ b → b ≢ 0 → Contains (blocks_of (inode_pairs m p)) b
  direct_pair m p i b few e ne =
      blocks_of_has (inode_pairs m p) (b, 2) (inode_has T lib m p b (blocks_of_has (pointed (direct_word m p) 12 2) (b, 2) (pointed_from (direct_word m p) 2 12 i b few e ne)))

  pub direct_once : (m : List ℕ) (p q i j b : ℕ) → IsTrue (fits T 4 m) → p < 8 → q < 8 → i < 12 → j < 12 → direct_word m p i ≡ b → direct_word m q j ≡ b → b ≢ 0 → (p ≡ q) × (i ≡ j)
  direct_once m p q i j b fit low low' few few' e f ne =
      let place : p ≡ q = flat_once (inode_pairs m) 8 0 p q b (inodes_distinct m fit) (omega arith) (omega arith) (omega arith) (omega arith) (direct_pair m p i b few e ne) (direct_pair m q j b few' f ne) in
      let here : direct_word m p j ≡ b = ap (λ x. direct_word m x j) place ∙ f in
      (place, pointed_once (direct_word m p) 2 12 0 i j b (direct_distinct m p fit low) (omega arith) (omega arith) (omega arith) (omega arith) e here ne)

  -- its block of pointers
  last_pair : (m : List ℕ) (p b : ℕ) → word_at m (64 * p + 56) ≡ b → b ≢ 0 → Contains (blocks_of (inode_pairs m p)) b
  last_pair m p b e ne =
      let one : Contains (option_to_list (unless_empty (word_at m (64 * p + 56), 5))) (b, 5) =
      subst (λ o. Contains (option_to_list o) (b, 5)) (sym (ap (λ w. unless_empty (w, 5)) e ∙ is_not_empty (b, 5) ne)) (Contains-head (b, 5) []) in
      blocks_of_has (inode_pairs m p) (b, 5) (Contains-append_right (pointed (direct_word m p) 12 2) (option_to_list (unless_empty (word_at m (64 * p + 56), 5))) (b, 5) one)

  pub indirect_once : (m : List ℕ) (p q b : ℕ) → IsTrue (fits T 4 m) → p < 8 → q < 8 → word_at m (64 * p + 56) ≡ b → word_at m (64 * q + 56) ≡ b → b ≢ 0 → p ≡ q
  indirect_once m p q b fit low low' e f ne =
      flat_once (inode_pairs m) 8 0 p q b (inodes_distinct m fit) (omega arith) (omega arith) (omega arith) (omega arith) (last_pair m p b e ne) (last_pair m q b f ne)

  -- and the blocks in that
  pub data_once : (m : List ℕ) (i j b : ℕ) → IsTrue (fits T 5 m) → i < 128 → j < 128 → pointer_word m i ≡ b → pointer_word m j ≡ b → b ≢ 0 → i ≡ j
  data_once m i j b fit low low' e f ne =
      let once = (and_parts (named_once T 5 m) (within_size T 5 m) fit).0 in
      pointed_once (pointer_word m) 2 128 0 i j b (ap (λ ps. distinct (blocks_of ps)) (sym (lib.indirect m)) ∙ once) (omega arith) (omega arith) (omega arith) (omega arith) e f ne
