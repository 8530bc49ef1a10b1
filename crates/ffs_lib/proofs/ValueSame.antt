-- An inode that is as before has its value, and what a new block of inodes is in the files.
use Rattle.std.proofs.Common.{◌≡◌, ◌≢◌, ℕ, ◌-◌, ◌/◌, ◌%◌, ◌<◌, ◌≤◌, Bool, true, false, List, map, Some, None, Ok, Err, refl, sym, ◌∙◌, ap, inl, inr, arith, eq-eqb, Contains, Result, ◌==◌, ◌&&◌, ◌||◌, not, min, nat_lt, if◌then◌else◌, eqb-true, ne_eqb}
use Rattle.ffs_lib.proofs.Common.{FfsFault, NoEntry, and_then, block_value, blocks_value, byte_of, bytes_value, cases_eq, direct_in, eqb-false, file_end}
use Rattle.ffs_lib.proofs.Common.{files_of, inode_at, inode_block_in, inode_blocks, inode_in, inode_links, inode_mode, inode_value, is_free_inode, listing}
use Rattle.ffs_lib.proofs.Common.{most_bytes, name_of_place, place_in, range_with_len, unless_unused, value_in, word_at}
use Rattle.ffs_lookup.specs.Files.{Free, Unusable, File, Directory, is_absent, with_block}
use Rattle.ffs_lookup.proofs.ForCallers.{direct_has, good_number, map_on, used_is, value_by_place, value_outside, value_there}
use Rattle.ffs_lib.specs.Results.{SameContents, SameInode}
use Rattle.ffs_lib.proofs.Owners.{number_from}
use Rattle.ffs_lib.proofs.ValueLists.{place_listed, there_in}

-- one in use, whose pointers, size, entries and bytes are as before
module _ (v w : ℕ → List ℕ) (inode after : List ℕ) (direct : (i : ℕ) → i < 12 → direct_in after i ≡ direct_in inode i) (entries : listing w after ≡ listing v inode) (size : word_at after 4 ≡ word_at inode 4)
    (each : (at : ℕ) → at < most_bytes → byte_of w after at ≡ byte_of v inode at) where
  pub blocks_same : blocks_value w after ≡ blocks_value v inode
  blocks_same = map_on (λ i. block_value w (direct_in after i)) (λ i. block_value v (direct_in inode i)) 0 12 (λ i low high. ap (block_value w) (direct i (omega (arith, high))) ∙ one i (omega (arith, high)) (direct_in inode i == 0) refl)
    where
      one : (i : ℕ) → i < 12 → (t : Bool) → (direct_in inode i == 0) ≡ t →
          (if t then None else Some (map (name_of_place (w (direct_in inode i))) (range_with_len 0 16))) ≡ (if t then None else Some (map (name_of_place (v (direct_in inode i))) (range_with_len 0 16)))
      one i lt true e = refl
      one i lt false e =
          let b = direct_in inode i in
          let some : b ≢ 0 = λ z. eqb-false b 0 e z in
          let has : Contains (inode_blocks inode) b = direct_has inode i b lt refl some in
          let has' : Contains (inode_blocks after) b = direct_has after i b lt (direct i lt) some in
          ap (λ ps. Some ps) (map_on (name_of_place (w b)) (name_of_place (v b)) 0 16 (λ p low high.
          let few : p < 16 = omega (arith, high) in
          place_listed b p w few after has' ∙ (ap (there_in b p) entries ∙ sym (place_listed b p v few inode has))))

  pub bytes_same : bytes_value w after ≡ bytes_value v inode
  bytes_same = ap (λ e. map (byte_of w after) (range_with_len 0 (min e most_bytes))) size ∙ map_on (byte_of w after) (byte_of v inode) 0 (file_end inode) (λ at low high. each at (omega (arith, high)))

-- one whose entries and bytes are as before
value_same : (v w : ℕ → List ℕ) (inode : List ℕ) → SameContents v w inode → inode_value w inode ≡ inode_value v inode
value_same v w inode same =
    let bs = blocks_same v w inode inode (λ i lt. refl) same.0 refl same.1 in
    let m = bytes_same v w inode inode (λ i lt. refl) same.0 refl same.1 in
    ap (λ bs. if is_free_inode inode then Free else if inode_mode inode == 0 then Unusable else if inode_mode inode == 2 then Directory (inode_links inode) bs else File (inode_links inode) (bytes_value w inode)) bs
    ∙ ap (λ m. if is_free_inode inode then Free else if inode_mode inode == 0 then Unusable else if inode_mode inode == 2 then Directory (inode_links inode) (blocks_value v inode) else File (inode_links inode) m) m

-- one that is not in use has one value in all bytes
unused_value : (v w : ℕ → List ℕ) (m : List ℕ) → inode_mode m ≡ 0 → inode_value w m ≡ inode_value v m
unused_value v w m e =
    ap (λ (t : Bool). if is_free_inode m then Free else if t then Unusable else if inode_mode m == 2 then Directory (inode_links m) (blocks_value w m) else File (inode_links m) (bytes_value w m)) (eq-eqb (inode_mode m) 0 e)
    ∙ sym (ap (λ (t : Bool). if is_free_inode m then Free else if t then Unusable else if inode_mode m == 2 then Directory (inode_links m) (blocks_value v m) else File (inode_links m) (bytes_value v m)) (eq-eqb (inode_mode m) 0 e))

-- the inode in use at a place
inode_of_place : (content : ℕ → List ℕ) (fs n : ℕ) (m : List ℕ) → (n == 0) || nat_lt 128 n ≡ false → Ok m ≡ place_in content fs n → inode_mode m ≢ 0 → Ok m ≡ inode_in content fs n
unfolding inode_in
inode_of_place content fs n m right e ne = go ((n == 0) || nat_lt 128 n) right (inode_block_in content fs ((n - 1) / 8)) e
  where
    go : (t : Bool) → t ≡ false → (r : Result ℕ FfsFault) → Ok m ≡ and_then r (λ b. Ok (inode_at (content b) ((n - 1) % 8))) →
        Ok m ≡ (if t then Err NoEntry else and_then r (λ b. unless_unused (inode_at (content b) ((n - 1) % 8))))
    go true f r e = absurd (cc f)
    go false f (Err fault) e = absurd (cc e)
    go false f (Ok b) e = let same : m ≡ inode_at (content b) ((n - 1) % 8) = cc e in used_is m ne ∙ ap unless_unused same

module _ (v w : ℕ → List ℕ) (fs x : ℕ) where
  -- an inode whose place and, where it is in use, whose contents are as before
  pub stays_value : (x ≢ 0 → x ≤ 128 → place_in w fs x ≡ place_in v fs x) → ((inode : List ℕ) → Ok inode ≡ inode_in v fs x → SameContents v w inode) → files_of w fs x ≡ files_of v fs x
  stays_value place contents = go ((x == 0) || nat_lt 128 x) refl
    where
      at : (x == 0) || nat_lt 128 x ≡ false → (r : Result (List ℕ) FfsFault) → r ≡ place_in v fs x → value_in w r ≡ value_in v r
      at e (Err fault) is = refl
      at e (Ok m) is = elim (cases_eq (inode_mode m) 0) [
        | inl z ↦ unused_value v w m z
        | inr ne ↦ value_same v w m (contents m (inode_of_place v fs x m e is ne))
      ]

      go : (t : Bool) → ((x == 0) || nat_lt 128 x) ≡ t → files_of w fs x ≡ files_of v fs x
      go true e = value_outside w fs x e ∙ sym (value_outside v fs x e)
      go false e =
          let n = number_from x e in
          value_by_place w fs x e ∙ (ap (value_in w) (place n.0 n.1) ∙ (at e (place_in v fs x) refl ∙ sym (value_by_place v fs x e)))

pub same_value : (v w : ℕ → List ℕ) (fs x : ℕ) → SameInode v w fs x → files_of w fs x ≡ files_of v fs x
same_value v w fs x s = stays_value v w fs x s.2 s.1

-- Blocks of inodes

abbrev pub no_block : Result ℕ FfsFault → Bool
no_block (Ok b) = false
no_block (Err fault) = true

module _ (content : ℕ → List ℕ) (fs : ℕ) where
  pub absent_is : (y : ℕ) → (y == 0) || nat_lt 128 y ≡ false → is_absent (files_of content fs y) ≡ no_block (inode_block_in content fs ((y - 1) / 8))
  absent_is y e = ap is_absent (value_by_place content fs y e) ∙ go (inode_block_in content fs ((y - 1) / 8))
    where
      go : (r : Result ℕ FfsFault) → is_absent (value_in content (and_then r (λ b. Ok (inode_at (content b) ((y - 1) % 8))))) ≡ no_block r
      go (Ok b) = value_there content (inode_at (content b) ((y - 1) % 8))
      go (Err fault) = refl

  -- inodes of one block are absent together
  pub together : (x y : ℕ) → (x == 0) || nat_lt 128 x ≡ false → (y == 0) || nat_lt 128 y ≡ false → (x - 1) / 8 ≡ (y - 1) / 8 → is_absent (files_of content fs x) ≡ is_absent (files_of content fs y)
  together x y e f same = absent_is x e ∙ (ap (λ j. no_block (inode_block_in content fs j)) same ∙ sym (absent_is y f))

  -- one that is not absent is as before where a block is added, and so is one of another block
  pub block_apart : (n x : ℕ) → (n == 0) || nat_lt 128 n ≡ false → (is_absent (files_of content fs x) ≡ true → (x - 1) / 8 ≡ (n - 1) / 8 → is_absent (files_of content fs n) ≡ true → x ≢ 0 → ⊥) →
      with_block (files_of content fs) n x ≡ files_of content fs x
  block_apart n x right apart = go (is_absent (files_of content fs n)) (x == 0) ((x - 1) / 8 == (n - 1) / 8) refl refl refl
    where
      all : is_absent (files_of content fs n) ≡ true → x == 0 ≡ false → (x - 1) / 8 == (n - 1) / 8 ≡ true → ⊥
      all a z s =
          let some : x ≢ 0 = eqb-false x 0 z in
          let same = eqb-true ((x - 1) / 8) ((n - 1) / 8) s in
          let low = (number_from n right).1 in
          apart (together x n (good_number x some (omega (arith, same, low))) right same ∙ a) same a some

      go : (a z s : Bool) → is_absent (files_of content fs n) ≡ a → (x == 0) ≡ z → ((x - 1) / 8 == (n - 1) / 8) ≡ s → (if a && (not z && s) then Free else files_of content fs x) ≡ files_of content fs x
      go false z s p q r = refl
      go true true s p q r = refl
      go true false false p q r = refl
      go true false true p q r = absurd (all p q r)

  pub block_here_free : (n x : ℕ) → is_absent (files_of content fs n) ≡ true → x ≢ 0 → (x - 1) / 8 ≡ (n - 1) / 8 → with_block (files_of content fs) n x ≡ Free
  block_here_free n x a some same = go (is_absent (files_of content fs n)) (x == 0) ((x - 1) / 8 == (n - 1) / 8) a (ne_eqb x 0 some) (eq-eqb ((x - 1) / 8) ((n - 1) / 8) same)
    where
      go : (a z s : Bool) → a ≡ true → z ≡ false → s ≡ true → (if a && (not z && s) then Free else files_of content fs x) ≡ Free
      go true false true p q r = refl
      go false z s p q r = absurd (cc p)
      go true true s p q r = absurd (cc q)
      go true false false p q r = absurd (cc r)
