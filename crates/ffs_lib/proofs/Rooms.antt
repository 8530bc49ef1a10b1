-- Whether a directory has room, by what is read of its blocks.
use Rattle.std.proofs.Common.{◌≡◌, ◌≢◌, ℕ, zero, suc, ◌+◌, ◌*◌, ◌/◌, ◌%◌, ◌<◌, Bool, true, false, cond, List, [], ◌∷◌, Some, inl, inr, take, drop, get_or, refl, sym, ◌∙◌, ap, arith, get_or-take, get_or-drop, Contains, ◌==◌, ◌||◌, find, if◌then◌else◌, option_map, slice_set, ne_eqb, w16}
use Rattle.ffs_lib.proofs.Common.{Slot, byte_in, byte_of, direct_in, fields_of, file_block, from_le_bytes, half_at, has_gap, has_room, inode_blocks, list_any}
use Rattle.ffs_lib.proofs.Common.{most_bytes, range_with_len, room_from, room_in, word_at}
use Rattle.xn_model.proofs.ForCallers.{Contains-head, Contains-tail}
use Rattle.ffs_model.proofs.ForCallers.{direct_where}
use Rattle.ffs_lookup.specs.declared.places.Room.TheVariants.{Entry, Pointer}
use Rattle.ffs_lib.specs.Results.{IsPlaced}
use Rattle.ffs_lib.proofs.Fields.{direct_get, same_blocks}
use Rattle.ffs_lib.proofs.Owners.{direct_block}

-- a number of two bytes

pair_of : (bs : List ℕ) → from_le_bytes w16 bs ≡ from_le_bytes w16 (get_or bs 0 0 ∷ get_or bs 1 0 ∷ [])
pair_of [] = refl
pair_of (x ∷ []) = refl
pair_of (x ∷ y ∷ rest) = refl

byte_taken : (m : List ℕ) (j i : ℕ) → i < 2 → get_or (take 2 (drop j m)) i 0 ≡ get_or m (j + i) 0
byte_taken m j i low = get_or-take 2 (drop j m) i 0 low ∙ get_or-drop j m i 0

half_by : (m k : List ℕ) (j : ℕ) → ((i : ℕ) → i < 2 → get_or k (j + i) 0 ≡ get_or m (j + i) 0) → half_at k j ≡ half_at m j
unfolding half_at
half_by m k j same =
    let one : (i : ℕ) → i < 2 → get_or (take 2 (drop j k)) i 0 ≡ get_or (take 2 (drop j m)) i 0 = λ i low. byte_taken k j i low ∙ (same i low ∙ sym (byte_taken m j i low)) in
    pair_of (take 2 (drop j k))
    ∙ (ap (λ x. from_le_bytes w16 (x ∷ get_or (take 2 (drop j k)) 1 0 ∷ [])) (one 0 (omega arith))
    ∙ (ap (λ x. from_le_bytes w16 (get_or (take 2 (drop j m)) 0 0 ∷ x ∷ [])) (one 1 (omega arith)) ∙ sym (pair_of (take 2 (drop j m)))))

-- a test of all elements

any_by : {A : Type 0} (p q : A → Bool) (xs : List A) → ((x : A) → Contains xs x → q x ≡ p x) → list_any q xs ≡ list_any p xs
any_by p q [] same = refl
any_by p q (x ∷ xs) same = ap (λ t. t || list_any q xs) (same x (Contains-head x xs)) ∙ ap (λ t. p x || t) (any_by p q xs (λ y i. same y (Contains-tail x xs y i)))

any_below : (p q : ℕ → Bool) (n a : ℕ) → ((i : ℕ) → i < a + n → q i ≡ p i) → list_any q (range_with_len a n) ≡ list_any p (range_with_len a n)
any_below p q zero a same = refl
any_below p q (suc n) a same = ap (λ t. t || list_any q (range_with_len (a + 1) n)) (same a (omega arith)) ∙ ap (λ t. p a || t) (any_below p q n (a + 1) (λ i low. same i (omega (arith, low))))

pub gap_by : (m k : List ℕ) → ((i : ℕ) → i < 512 → get_or k i 0 ≡ get_or m i 0) → has_gap k ≡ has_gap m
gap_by m k same = any_below (λ place. half_at m (32 * place) == 0) (λ place. half_at k (32 * place) == 0) 16 0 (λ place low.
    ap (λ h. h == 0) (half_by m k (32 * place) (λ i few. same (32 * place + i) (omega (arith, low, few)))))

-- the first of all elements

find_below : (p q : ℕ → Bool) (n a : ℕ) → ((i : ℕ) → i < a + n → q i ≡ p i) → find q (range_with_len a n) ≡ find p (range_with_len a n)
find_below p q zero a same = refl
find_below p q (suc n) a same = ap (λ t. cond t (Some a) (find q (range_with_len (a + 1) n))) (same a (omega arith)) ∙ ap (cond (p a) (Some a)) (find_below p q n (a + 1) (λ i low. same i (omega (arith, low))))

gap_at : (m k : List ℕ) → ((i : ℕ) → i < 512 → get_or k i 0 ≡ get_or m i 0) → find (λ place. half_at k (32 * place) == 0) (range_with_len 0 16) ≡ find (λ place. half_at m (32 * place) == 0) (range_with_len 0 16)
gap_at m k same = find_below (λ place. half_at m (32 * place) == 0) (λ place. half_at k (32 * place) == 0) 16 0 (λ place low.
    ap (λ h. h == 0) (half_by m k (32 * place) (λ i few. same (32 * place + i) (omega (arith, low, few)))))

room_among : (v w : ℕ → List ℕ) (inode after : List ℕ) → ((i : ℕ) → i < 12 → direct_in after i ≡ direct_in inode i) → (bs : List ℕ) → ((b : ℕ) → Contains bs b → (k : ℕ) → k < 512 → get_or (w b) k 0 ≡ get_or (v b) k 0) →
    room_from w after (find (λ block. has_gap (w block)) bs) ≡ room_from v inode (find (λ block. has_gap (v block)) bs)
room_among v w inode after pointer [] same = ap (option_map Pointer) (find_below (λ i. direct_in inode i == 0) (λ i. direct_in after i == 0) 12 0 (λ i low. ap (λ b. b == 0) (pointer i low)))
room_among v w inode after pointer (b ∷ bs) same =
    ap (λ t. room_from w after (cond t (Some b) (find (λ block. has_gap (w block)) bs))) (gap_by (v b) (w b) (same b (Contains-head b bs)))
    ∙ go (has_gap (v b)) (room_among v w inode after pointer bs (λ c i. same c (Contains-tail b bs c i)))
  where
    go : (t : Bool) → room_from w after (find (λ block. has_gap (w block)) bs) ≡ room_from v inode (find (λ block. has_gap (v block)) bs) →
        room_from w after (cond t (Some b) (find (λ block. has_gap (w block)) bs)) ≡ room_from v inode (cond t (Some b) (find (λ block. has_gap (v block)) bs))
    go true rest = ap (option_map (Entry b)) (gap_at (v b) (w b) (same b (Contains-head b bs)))
    go false rest = rest

-- a directory whose pointers and bytes are as before has room as before
module _ (v w : ℕ → List ℕ) (inode after : List ℕ) (direct : (fields_of after).direct ≡ (fields_of inode).direct) (each : (at : ℕ) → at < most_bytes → byte_of w after at ≡ byte_of v inode at) where
  pointer : (i : ℕ) → i < 12 → direct_in after i ≡ direct_in inode i
  pointer i low = direct_get after i low ∙ (ap (λ ws. get_or ws i 0) direct ∙ sym (direct_get inode i low))

  read : (content : ℕ → List ℕ) (x : List ℕ) (i b k : ℕ) → i < 12 → direct_in x i ≡ b → b ≢ 0 → k < 512 → byte_of content x (512 * i + k) ≡ get_or (content b) k 0
  read content x i b k low is ne few =
      let at : (512 * i + k) / 512 ≡ i = omega (arith, few) in
      let rest : (512 * i + k) % 512 ≡ k = omega (arith, few) in
      ap (λ j. byte_in content (file_block content x j) ((512 * i + k) % 512)) at
      ∙ (ap (λ j. byte_in content (file_block content x i) j) rest
      ∙ (ap (λ c. byte_in content c k) (direct_block content x i low ∙ is) ∙ ap (λ (t : Bool). if t then 0 else get_or (content b) k 0) (ne_eqb b 0 ne)))

  bytes_by : (b : ℕ) → Contains (inode_blocks inode) b → (k : ℕ) → k < 512 → get_or (w b) k 0 ≡ get_or (v b) k 0
  bytes_by b has k few =
      let x = direct_where inode b has in
      let lt = x.1 in
      sym (read w after x.0 b k lt (pointer x.0 lt ∙ x.2) x.3 few) ∙ (each (512 * x.0 + k) (omega (arith, lt, few)) ∙ read v inode x.0 b k lt x.2 x.3 few)

  pub place_by : room_in w after ≡ room_in v inode
  place_by = ap (λ bs. room_from w after (find (λ block. has_gap (w block)) bs)) (same_blocks inode after direct) ∙ room_among v w inode after pointer (inode_blocks inode) bytes_by

  pub room_by : has_room w after ≡ has_room v inode
  room_by =
      let gaps : list_any (λ block. has_gap (w block)) (inode_blocks after) ≡ list_any (λ block. has_gap (v block)) (inode_blocks inode) =
      ap (list_any (λ block. has_gap (w block))) (same_blocks inode after direct)
      ∙ any_by (λ block. has_gap (v block)) (λ block. has_gap (w block)) (inode_blocks inode) (λ b has. gap_by (v b) (w b) (bytes_by b has)) in
      ap (λ t. t || list_any (λ index. direct_in after index == 0) (range_with_len 0 12)) gaps
      ∙ ap (λ t. list_any (λ block. has_gap (v block)) (inode_blocks inode) || t) (any_below (λ i. direct_in inode i == 0) (λ i. direct_in after i == 0) 12 0 (λ i low. ap (λ b. b == 0) (pointer i low)))

-- Where an entry is placed

pub placed_before : (u v : ℕ → List ℕ) (first inode after : List ℕ) (entry : Slot) → room_in v inode ≡ room_in u first → (fields_of inode).direct ≡ (fields_of first).direct → word_at inode 4 ≡ word_at first 4 → IsPlaced v inode after entry → IsPlaced u first after entry
placed_before u v first inode after entry room direct size p = elim p [
  | inl x ↦ inl (x.0 ∙ room, x.1 ∙ direct, x.2 ∙ size)
  | inr x ↦ inr (x.0, x.1 ∙ room, x.2, x.3 ∙ ap (λ ws. slice_set ws x.0 entry.block) direct, x.4)
]
