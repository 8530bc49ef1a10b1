-- Entries, inodes and pointers written into blocks.
use Rattle.std.proofs.Common.{◌≡◌, ℕ, ◌+◌, ◌*◌, ◌-◌, ◌<◌, ◌≤◌, ◌≢◌, ◌⊎◌, ◌^◌, List, ◌++◌, length, take, drop, replicate, get_or, refl, sym, ◌∙◌, ap, inl, inr, arith, not, ◌&&◌, get_or-take, get_or-drop, length-append}
use Rattle.std.specs.Prelude.{IsTrue, min, nat_le}
use Rattle.std.specs.Int.{w32, to_le_bytes}
use Rattle.std.specs.List.{list_all}
use Rattle.std.proofs.Math.Nat.{min-eq_left}
use Rattle.std.proofs.Math.Seq.{take-append_seam, take-length}
use Rattle.std.proofs.lemmas.Bool.{and_parts, cases_lt, leb-true}
use Rattle.std.proofs.lemmas.Nat.{from_le_bytes-to_le_bytes_2, from_le_bytes-to_le_bytes_4}
use Rattle.std.proofs.lemmas.List.{length-replicate}
use Rattle.xn_model.specs.Lists.{put}
use Rattle.xn_model.specs.Root.{word_at}
use Rattle.ffs_model.specs.Library.{half_at, inode_at, pointer_word}
use Rattle.ffs_model.proofs.ForCallers.{bytes_apart, bytes_within, half_apart, half_within, word_apart, word_within}
use Rattle.ffs_format.specs.Entries.{entry_of, is_dots, is_name, is_name_byte, is_name_length, name_in}

pub short : (name : List ℕ) → IsTrue (is_name name) → length name ≤ 28
short name named =
    let tests = (and_parts (is_name_length (length name) && list_all is_name_byte name) (not (is_dots name)) named).0 in
    let long = (and_parts (is_name_length (length name)) (list_all is_name_byte name) tests).0 in
    leb-true (length name) 28 (and_parts (nat_le 1 (length name)) (nat_le (length name) 28) long).1

pub name_alone : (n : ℕ) (name : List ℕ) → IsTrue (is_name name) → name_in (entry_of n name) 0 ≡ name
name_alone n name named =
    let pad = replicate {A = ℕ} (28 - length name) 0 in
    ap (λ k. take k (name ++ pad)) (min-eq_left (short name named)) ∙ take-append_seam name pad

pub inode_alone : (n : ℕ) (name : List ℕ) → n < 2 ^ 16 → half_at (entry_of n name) 0 ≡ n
unfolding half_at
inode_alone n name few = from_le_bytes-to_le_bytes_2 n few

pub long_entry : (n : ℕ) (name : List ℕ) → IsTrue (is_name name) → length (entry_of n name) ≡ 32
long_entry n name named =
    let s = short name named in
    let l = length-append name (replicate {A = ℕ} (28 - length name) 0) in
    let r = length-replicate {A = ℕ} (28 - length name) 0 in
    omega arith

module _ (m : List ℕ) (at : ℕ) (bs : List ℕ) (within : at + length bs ≤ length m) where
  byte_apart : (j : ℕ) → (j + 1 ≤ at) ⊎ (at + length bs ≤ j) → get_or (put m at bs) j 0 ≡ get_or m j 0
  byte_apart j h =
      let z : j + 0 ≡ j = omega arith in
      let one = λ (xs : List ℕ). get_or-take 1 (drop j xs) 0 0 (omega arith) ∙ (get_or-drop j xs 0 0 ∙ ap (λ k. get_or xs k 0) z) in
      sym (one (put m at bs)) ∙ (ap (λ xs. get_or xs 0 0) (bytes_apart m at bs within 1 j h) ∙ one m)

  byte_within : (j : ℕ) → j < length bs → get_or (put m at bs) (at + j) 0 ≡ get_or bs j 0
  byte_within j low =
      let z : at + j + 0 ≡ at + j = omega arith in
      let y : j + 0 ≡ j = omega arith in
      let one = λ (xs : List ℕ) (k : ℕ). get_or-take 1 (drop k xs) 0 0 (omega arith) ∙ get_or-drop k xs 0 0 in
      ap (λ k. get_or (put m at bs) k 0) (sym z)
      ∙ (sym (one (put m at bs) (at + j)) ∙ (ap (λ xs. get_or xs 0 0) (bytes_within m at bs within 1 j (omega (arith, low))) ∙ (one bs j ∙ ap (λ k. get_or bs k 0) y)))

module _ (m : List ℕ) (long : length m ≡ 512) (p : ℕ) (few : p < 16) (bs : List ℕ) (whole : length bs ≡ 32) (q : ℕ) (ne : q ≢ p) where
  within : 32 * p + length bs ≤ length m
  within = omega arith

  apart : (j n : ℕ) → 32 * q ≤ j → j + n ≤ 32 * q + 32 → (j + n ≤ 32 * p) ⊎ (32 * p + length bs ≤ j)
  apart j n low high = elim (cases_lt q p) [ inl lt ↦ inl (omega arith) | inr ge ↦ inr (omega arith) ]

  pub half_stays : half_at (put m (32 * p) bs) (32 * q) ≡ half_at m (32 * q)
  half_stays = half_apart m (32 * p) bs within (32 * q) (apart (32 * q) 2 (omega arith) (omega arith))

  pub name_stays : name_in (put m (32 * p) bs) (32 * q) ≡ name_in m (32 * q)
  name_stays =
      let k = min (get_or m (32 * q + 2) 0) 28 in
      ap (λ n. take (min n 28) (drop (32 * q + 4) (put m (32 * p) bs))) (byte_apart m (32 * p) bs within (32 * q + 2) (apart (32 * q + 2) 1 (omega arith) (omega arith)))
      ∙ bytes_apart m (32 * p) bs within k (32 * q + 4) (apart (32 * q + 4) k (omega arith) (omega arith))

module _ (m : List ℕ) (long : length m ≡ 512) (p : ℕ) (few : p < 16) (n : ℕ) (name : List ℕ) (named : IsTrue (is_name name)) where
  whole : length (entry_of n name) ≡ 32
  whole = long_entry n name named

  fits : 32 * p + length (entry_of n name) ≤ length m
  fits = omega (arith, long, few, whole)

  pub half_here : n < 2 ^ 16 → half_at (put m (32 * p) (entry_of n name)) (32 * p) ≡ n
  half_here low = let e : 32 * p ≡ 32 * p + 0 = omega arith in half_within m (32 * p) (entry_of n name) fits (32 * p) 0 e (omega (arith, whole)) ∙ inode_alone n name low

  pub name_here : name_in (put m (32 * p) (entry_of n name)) (32 * p) ≡ name
  name_here =
      let bs = entry_of n name in
      let k = min (get_or bs 2 0) 28 in
      ap (λ x. take (min x 28) (drop (32 * p + 4) (put m (32 * p) bs))) (byte_within m (32 * p) bs fits 2 (omega (arith, whole)))
      ∙ (bytes_within m (32 * p) bs fits k 4 (omega (arith, whole)) ∙ name_alone n name named)

-- inodes

module _ (m bs : List ℕ) (p : ℕ) (long : length m ≡ 512) (few : p < 8) (whole : length bs ≡ 64) where
  inode_fits : 64 * p + length bs ≤ length m
  inode_fits = omega arith

  pub inode_here : inode_at (put m (64 * p) bs) p ≡ bs
  inode_here =
      let e : 64 * p ≡ 64 * p + 0 = omega arith in
      let n : 64 ≡ length bs = sym whole in
      ap (λ k. take 64 (drop k (put m (64 * p) bs))) e
      ∙ (bytes_within m (64 * p) bs inode_fits 64 0 (omega (arith, whole)) ∙ (ap (λ k. take k bs) n ∙ take-length bs))

  pub inode_stays : (q : ℕ) → q ≢ p → inode_at (put m (64 * p) bs) q ≡ inode_at m q
  inode_stays q ne = bytes_apart m (64 * p) bs inode_fits 64 (64 * q) (elim (cases_lt q p) [ inl lt ↦ inl (omega arith) | inr ge ↦ inr (omega arith) ])

-- pointers

word_alone : (v : ℕ) → v < 2 ^ 32 → word_at (to_le_bytes w32 v) 0 ≡ v
unfolding word_at
word_alone v few = from_le_bytes-to_le_bytes_4 v few

module _ (m : List ℕ) (j v : ℕ) (long : length m ≡ 512) (few : j < 128) where
  pointer_whole : length (to_le_bytes w32 v) ≡ 4
  pointer_whole = refl

  pointer_fits : 4 * j + length (to_le_bytes w32 v) ≤ length m
  pointer_fits = omega (arith, pointer_whole)

  pub pointer_here : v < 2 ^ 32 → pointer_word (put m (4 * j) (to_le_bytes w32 v)) j ≡ v
  pointer_here low = word_within m (4 * j) (to_le_bytes w32 v) pointer_fits (4 * j) 0 (omega arith) (omega (arith, pointer_whole)) ∙ word_alone v low

  pub pointer_stays : (i : ℕ) → i ≢ j → pointer_word (put m (4 * j) (to_le_bytes w32 v)) i ≡ pointer_word m i
  pointer_stays i ne = word_apart m (4 * j) (to_le_bytes w32 v) pointer_fits (4 * i)
      (elim (cases_lt i j) [ inl lt ↦ inl (omega arith) | inr ge ↦ inr (omega (arith, pointer_whole)) ])
