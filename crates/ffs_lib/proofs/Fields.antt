-- The blocks of an inode whose fields were set.
use Rattle.std.proofs.Common.{◌≡◌, ℕ, zero, suc, ◌+◌, ◌-◌, ◌*◌, ◌<◌, ◌^◌, ◌⊎◌, Bool, true, false, cond, List, [], ◌∷◌, Some, None, refl, sym, ◌∙◌, ap, inl, inr, subst, replicate, arith, get_or, take, Contains, filter_map, map, slice_set, ◌==◌}
use Rattle.ffs_lib.proofs.Common.{blocks_of, cons_option, direct_in, drop-replicate, entry_of, fields_of, from_le_bytes-to_le_bytes_2, half_at, inode_at}
use Rattle.ffs_lib.proofs.Common.{inode_blocks, inode_mode, range_with_len, take-replicate, unless_empty, word_at, zero_block}
use Rattle.xn_model.proofs.ForCallers.{Contains-cons, Contains-head, Contains-tail}

-- the words that are not 0
abbrev pub set_words : List ℕ → List ℕ
set_words ws = blocks_of (filter_map (λ w. unless_empty (w, 2)) ws)

words_of : (f : ℕ → ℕ) (xs : List ℕ) → filter_map (λ i. unless_empty (f i, 2)) xs ≡ filter_map (λ w. unless_empty (w, 2)) (map f xs)
words_of f [] = refl
words_of f (x ∷ xs) = ap (cons_option (unless_empty (f x, 2))) (words_of f xs)

pub blocks_are : (bytes : List ℕ) → inode_blocks bytes ≡ set_words (fields_of bytes).direct
blocks_are bytes = ap blocks_of (words_of (direct_in bytes) (range_with_len 0 12))

pub same_blocks : (a b : List ℕ) → (fields_of b).direct ≡ (fields_of a).direct → inode_blocks b ≡ inode_blocks a
same_blocks a b e = blocks_are b ∙ (ap set_words e ∙ sym (blocks_are a))

head_case : (b : Bool) (w : ℕ) (ps : List (ℕ × ℕ)) (c : ℕ) → Contains (blocks_of (cons_option (cond b None (Some (w, 2))) ps)) c → (c ≡ w) ⊎ Contains (blocks_of ps) c
head_case true w ps c h = inr h
head_case false w ps c h = elim (Contains-cons w (blocks_of ps) c h) [ inl e ↦ inl (sym e) | inr i ↦ inr i ]

head_tail : (b : Bool) (w : ℕ) (ps : List (ℕ × ℕ)) (c : ℕ) → Contains (blocks_of ps) c → Contains (blocks_of (cons_option (cond b None (Some (w, 2))) ps)) c
head_tail true w ps c h = h
head_tail false w ps c h = Contains-tail w (blocks_of ps) c h

head_both : (b : Bool) (w : ℕ) (ps qs : List (ℕ × ℕ)) (c v : ℕ) → (Contains (blocks_of ps) c → Contains (blocks_of qs) c ⊎ (c ≡ v)) →
    Contains (blocks_of (cons_option (cond b None (Some (w, 2))) ps)) c → Contains (blocks_of (cons_option (cond b None (Some (w, 2))) qs)) c ⊎ (c ≡ v)
head_both true w ps qs c v f h = f h
head_both false w ps qs c v f h = elim (Contains-cons w (blocks_of ps) c h) [
  | inl e ↦ inl (subst (λ x. Contains (w ∷ blocks_of qs) x) e (Contains-head w (blocks_of qs)))
  | inr i ↦ elim (f i) [ inl j ↦ inl (Contains-tail w (blocks_of qs) c j) | inr e ↦ inr e ]
]

set_one : (ws : List ℕ) (i v c : ℕ) → Contains (set_words (slice_set ws i v)) c → Contains (set_words ws) c ⊎ (c ≡ v)
set_one [] i v c h = inl h
set_one (w ∷ ws) zero v c h = elim (head_case (v == 0) v (filter_map (λ x. unless_empty (x, 2)) ws) c h) [
  | inl e ↦ inr e
  | inr i ↦ inl (head_tail (w == 0) w (filter_map (λ x. unless_empty (x, 2)) ws) c i)
]
set_one (w ∷ ws) (suc i) v c h =
    head_both (w == 0) w (filter_map (λ x. unless_empty (x, 2)) (slice_set ws i v)) (filter_map (λ x. unless_empty (x, 2)) ws) c v (set_one ws i v c) h

-- one pointer was set
pub one_more : (a b : List ℕ) (i v c : ℕ) → (fields_of b).direct ≡ slice_set (fields_of a).direct i v → Contains (inode_blocks b) c → Contains (inode_blocks a) c ⊎ (c ≡ v)
one_more a b i v c e h = elim (set_one (fields_of a).direct i v c (subst (λ xs. Contains xs c) (blocks_are b ∙ ap set_words e) h)) [
  | inl j ↦ inl (subst (λ xs. Contains xs c) (sym (blocks_are a)) j)
  | inr e ↦ inr e
]

-- a free inode
pub free_blocks : inode_blocks (replicate 64 0) ≡ []
unfolding word_at
free_blocks = refl

pub free_mode : inode_mode (replicate 64 0) ≡ 0
unfolding half_at
free_mode = refl

-- the inodes of a block of zeros
pub zeros_inode : (p : ℕ) → p < 8 → inode_at zero_block p ≡ replicate 64 0
zeros_inode p few = ap (take 64) (drop-replicate (64 * p) 512 0) ∙ take-replicate 64 (512 - 64 * p) 0 (omega (arith, few))

-- the inode of an entry
pub entry_names : (inode : ℕ) (name : List ℕ) → inode < 2 ^ 16 → half_at (entry_of inode name) 0 ≡ inode
unfolding half_at
entry_names inode name few = from_le_bytes-to_le_bytes_2 inode few

-- a pointer is read
pub get_mapped : (f : ℕ → ℕ) (n a k : ℕ) → k < n → get_or (map f (range_with_len a n)) k 0 ≡ f (a + k)
get_mapped f zero a k lt = absurd (omega (arith, lt))
get_mapped f (suc n) a zero lt = let z : a ≡ a + 0 = omega arith in ap f z
get_mapped f (suc n) a (suc k) lt = let z : a + 1 + k ≡ a + suc k = omega arith in get_mapped f n (a + 1) k (omega (arith, lt)) ∙ ap f z

pub direct_get : (bytes : List ℕ) (i : ℕ) → i < 12 → direct_in bytes i ≡ get_or (fields_of bytes).direct i 0
direct_get bytes i lt = let z : 0 + i ≡ i = omega arith in ap (λ k. direct_in bytes k) (sym z) ∙ sym (get_mapped (direct_in bytes) 12 0 i lt)
