-- What an inode's fields are once one of them is written.
use Rattle.std.proofs.Common.{◌≡◌, ℕ, zero, suc, ◌+◌, ◌*◌, ◌^◌, ◌<◌, ◌≤◌, ◌≢◌, ◌⊎◌, List, ◌∷◌, ◌++◌, length, take, drop, refl, sym, ◌∙◌, ap, inl, inr, arith}
use Rattle.std.specs.Prelude.{map, slice_set}
use Rattle.std.specs.Int.{w16, w32, to_le_bytes}
use Rattle.std.specs.List.{range_with_len}
use Rattle.std.proofs.lemmas.Bool.{cases_lt}
use Rattle.std.proofs.lemmas.Grind.{common_steps}
use Rattle.std.proofs.lemmas.Nat.{from_le_bytes-to_le_bytes_2, from_le_bytes-to_le_bytes_4}
use borrow.Rule.Slice.PartMut.{put_mid}
use Rattle.xn_model.specs.Lists.{put}
use Rattle.xn_model.specs.Root.{word_at}
use Rattle.ffs_model.specs.Library.{half_at}
use Rattle.ffs_model.proofs.ForCallers.{half_apart, word_apart, half_within, word_within}
use Rattle.ffs_format.specs.Fields.{Fields, direct_in, fields_of}

-- bytes that are written into a part of an inode, which they fill
pub put_part : {m old ys : List ℕ} (bs : List ℕ) (at k : ℕ) → m ≡ old → length m ≡ 64 → ys ≡ bs ++ drop (length bs) (take k (drop at m)) → k ≡ length bs → at + k ≤ 64 →
    put_mid at k m ys ≡ put old at bs
put_part bs at k same whole is long fits = grind (arith, common_steps)

same_fields : {x y : Fields} → x.mode ≡ y.mode → x.links ≡ y.links → x.size ≡ y.size → x.direct ≡ y.direct → x.indirect ≡ y.indirect → x ≡ y
same_fields mode links size direct indirect = λ i. record { mode = mode i; links = links i; size = size i; direct = direct i; indirect = indirect i }

-- a function of a range of numbers that differs at one of them
map_set : (f g : ℕ → ℕ) (a n i v : ℕ) → i < n → g (a + i) ≡ v → ((k : ℕ) → k < a + n → k ≢ a + i → g k ≡ f k) → map g (range_with_len a n) ≡ slice_set (map f (range_with_len a n)) i v
map_set f g a zero i v lt at rest = absurd (omega arith)
map_set f g a (suc n) zero v lt at rest = λ j. at' j ∷ others n (a + 1) (omega arith) (omega arith) j
  where
    at' : g a ≡ v
    at' = ap g (omega arith) ∙ at

    others : (m b : ℕ) → a < b → b + m ≤ a + suc n → map g (range_with_len b m) ≡ map f (range_with_len b m)
    others zero b low high = refl
    others (suc m) b low high = λ j. rest b (omega arith) (λ e. absurd (omega (arith, e))) j ∷ others m (b + 1) (omega arith) (omega arith) j
map_set f g a (suc n) (suc i) v lt at rest = λ j. rest a (omega arith) (λ e. absurd (omega (arith, e))) j
    ∷ map_set f g (a + 1) n i v (omega arith) (ap g (omega arith) ∙ at) (λ k few ne. rest k (omega arith) (λ e. ne (e ∙ omega arith))) j

map_same : (f g : ℕ → ℕ) (a n : ℕ) → ((k : ℕ) → k < a + n → g k ≡ f k) → map g (range_with_len a n) ≡ map f (range_with_len a n)
map_same f g a zero h = refl
map_same f g a (suc n) h = λ j. h a (omega arith) j ∷ map_same f g (a + 1) n (λ k few. h k (omega arith)) j

half_read : (v : ℕ) → v < 2 ^ 16 → half_at (to_le_bytes w16 v) 0 ≡ v
unfolding half_at
half_read v few = from_le_bytes-to_le_bytes_2 v few

word_read : (v : ℕ) → v < 2 ^ 32 → word_at (to_le_bytes w32 v) 0 ≡ v
unfolding word_at
word_read v few = from_le_bytes-to_le_bytes_4 v few

module _ (m : List ℕ) (long : length m ≡ 64) where
  directs_apart : (at : ℕ) (bs : List ℕ) → at + length bs ≤ 64 → ((k : ℕ) → k < 12 → (8 + 4 * k + 4 ≤ at) ⊎ (at + length bs ≤ 8 + 4 * k)) →
      map (direct_in (put m at bs)) (range_with_len 0 12) ≡ map (direct_in m) (range_with_len 0 12)
  directs_apart at bs fits apart = map_same (direct_in m) (direct_in (put m at bs)) 0 12 (λ k few. word_apart m at bs (omega (arith, long)) (8 + 4 * k) (apart k few))

  pub mode_written : (v : ℕ) → v < 2 ^ 16 → fields_of (put m 0 (to_le_bytes w16 v)) ≡ record (fields_of m) { mode = v }
  mode_written v few =
      let bs = to_le_bytes w16 v in
      let fits : 0 + length bs ≤ length m = omega (arith, long) in
      same_fields
      (half_within m 0 bs fits 0 0 refl (omega arith) ∙ half_read v few)
      (half_apart m 0 bs fits 2 (inr (omega arith)))
      (word_apart m 0 bs fits 4 (inr (omega arith)))
      (directs_apart 0 bs (omega arith) (λ k lt. inr (omega arith)))
      (word_apart m 0 bs fits 56 (inr (omega arith)))

  pub links_written : (v : ℕ) → v < 2 ^ 16 → fields_of (put m 2 (to_le_bytes w16 v)) ≡ record (fields_of m) { links = v }
  links_written v few =
      let bs = to_le_bytes w16 v in
      let fits : 2 + length bs ≤ length m = omega (arith, long) in
      same_fields
      (half_apart m 2 bs fits 0 (inl (omega arith)))
      (half_within m 2 bs fits 2 0 refl (omega arith) ∙ half_read v few)
      (word_apart m 2 bs fits 4 (inr (omega arith)))
      (directs_apart 2 bs (omega arith) (λ k lt. inr (omega arith)))
      (word_apart m 2 bs fits 56 (inr (omega arith)))

  pub size_written : (v : ℕ) → v < 2 ^ 32 → fields_of (put m 4 (to_le_bytes w32 v)) ≡ record (fields_of m) { size = v }
  size_written v few =
      let bs = to_le_bytes w32 v in
      let fits : 4 + length bs ≤ length m = omega (arith, long) in
      same_fields
      (half_apart m 4 bs fits 0 (inl (omega arith)))
      (half_apart m 4 bs fits 2 (inl (omega arith)))
      (word_within m 4 bs fits 4 0 refl (omega arith) ∙ word_read v few)
      (directs_apart 4 bs (omega arith) (λ k lt. inr (omega arith)))
      (word_apart m 4 bs fits 56 (inr (omega arith)))

  pub direct_written : (i v : ℕ) → i < 12 → v < 2 ^ 32 → fields_of (put m (8 + 4 * i) (to_le_bytes w32 v)) ≡ record (fields_of m) { direct = slice_set (fields_of m).direct i v }
  direct_written i v within few =
      let at = 8 + 4 * i in
      let bs = to_le_bytes w32 v in
      let fits : at + length bs ≤ length m = omega (arith, long, within) in
      let first : 0 + i ≡ i = omega arith in
      same_fields
      (half_apart m at bs fits 0 (inl (omega arith)))
      (half_apart m at bs fits 2 (inl (omega arith)))
      (word_apart m at bs fits 4 (inl (omega arith)))
      (map_set (direct_in m) (direct_in (put m at bs)) 0 12 i v within
      (ap (direct_in (put m at bs)) first ∙ (word_within m at bs fits at 0 (omega arith) (omega arith) ∙ word_read v few))
      (λ k lt ne. word_apart m at bs fits (8 + 4 * k) (apart k (λ e. ne (e ∙ sym first)))))
      (word_apart m at bs fits 56 (inr (omega (arith, within))))
    where
      apart : (k : ℕ) → k ≢ i → (8 + 4 * k + 4 ≤ 8 + 4 * i) ⊎ (8 + 4 * i + 4 ≤ 8 + 4 * k)
      apart k ne = elim (cases_lt k i) [ inl lt ↦ inl (omega arith) | inr ge ↦ inr (omega (arith, ge, ne)) ]

  pub indirect_written : (v : ℕ) → v < 2 ^ 32 → fields_of (put m 56 (to_le_bytes w32 v)) ≡ record (fields_of m) { indirect = v }
  indirect_written v few =
      let bs = to_le_bytes w32 v in
      let fits : 56 + length bs ≤ length m = omega (arith, long) in
      same_fields
      (half_apart m 56 bs fits 0 (inl (omega arith)))
      (half_apart m 56 bs fits 2 (inl (omega arith)))
      (word_apart m 56 bs fits 4 (inl (omega arith)))
      (directs_apart 56 bs (omega arith) (λ k lt. inl (omega (arith, lt))))
      (word_within m 56 bs fits 56 0 refl (omega arith) ∙ word_read v few)
