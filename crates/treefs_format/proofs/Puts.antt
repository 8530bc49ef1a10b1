-- Bytes that are written at a place, a part at a time, and words that are read and written.
use Rattle.std.proofs.Common.{◌≡◌, ℕ, suc, ◌+◌, ◌*◌, ◌<◌, ◌≤◌, ◌^◌, ◌⊎◌, List, [], ◌∷◌, ◌++◌, length, take, drop, get_or, set, refl, sym, ◌∙◌, ap, inl, inr, arith, append_assoc, length-append}
use Rattle.std.specs.Prelude.{All}
use Rattle.std.specs.Int.{w32, from_le_bytes, to_le_bytes}
use Rattle.std.specs.List.{range_with_len}
use Rattle.std.proofs.lemmas.Bool.{cases_eq, cases_lt}
use Rattle.std.proofs.lemmas.List.{append-nil, drop-drop, drop_at, get_or-set_other, get_or-set_same, length-set, length-take-le, same_lists, set_split, take_at, take-append-drop}
use Rattle.std.proofs.lemmas.List.Elements.{All-head, All-tail}
use Rattle.std.proofs.lemmas.List.FromFn.{get_or-map-range_with_len, length-range_with_len}
use Rattle.std.proofs.lemmas.Nat.{from_le_bytes-to_le_bytes_4}
use Rattle.std.proofs.lemmas.List.{length-map}
use Rattle.xn_model.specs.Lists.{put}
use Rattle.xn_model.specs.Root.{word_at}
use Rattle.xn_model.proofs.ForCallers.{bytes_apart, bytes_within, length_put}
use Rattle.treefs_format.specs.Numbers.{word_bytes, words_at}

pub put_none : {A : Type 0} (m : List A) (at : ℕ) → take at m ++ [] ++ drop (at + 0) m ≡ m
put_none m at = let z : at + 0 ≡ at = omega arith in ap (λ l. l ++ drop (at + 0) m) (append-nil (take at m)) ∙ (ap (λ k. take at m ++ drop k m) z ∙ take-append-drop at m)

module _ (m : List ℕ) (at : ℕ) (bs : List ℕ) (fits : at + length bs ≤ length m) where
  front_long : length (take at m ++ bs) ≡ at + length bs
  front_long = let front = length-take-le at m (omega arith) in length-append (take at m) bs ∙ omega arith

  put_front : take (at + length bs) (put m at bs) ≡ take at m ++ bs
  put_front = take_at (take at m ++ bs) (drop (at + length bs) m) (at + length bs) front_long

  put_back : drop (at + length bs) (put m at bs) ≡ drop (at + length bs) m
  put_back = drop_at (take at m ++ bs) (drop (at + length bs) m) (at + length bs) front_long

  -- bytes are written in two parts
  pub put_parts : (more : List ℕ) → put m at (bs ++ more) ≡ put (put m at bs) (at + length bs) more
  put_parts more =
      let all : at + length (bs ++ more) ≡ (at + length bs) + length more = (let both = length-append bs more in omega arith) in
      ap (λ l. l ++ drop (at + length (bs ++ more)) m) (sym (append_assoc (take at m) bs more))
      ∙ (ap (λ k. ((take at m ++ bs) ++ more) ++ drop k m) all
      ∙ (ap (λ l. (l ++ more) ++ drop ((at + length bs) + length more) m) (sym put_front)
      ∙ ap (λ l. (take (at + length bs) (put m at bs) ++ more) ++ l)
      (sym (drop-drop (length more) (at + length bs) m) ∙ (ap (drop (length more)) (sym put_back) ∙ drop-drop (length more) (at + length bs) (put m at bs)))))

  pub word_apart : (j : ℕ) → (j + 4 ≤ at) ⊎ (at + length bs ≤ j) → word_at (put m at bs) j ≡ word_at m j
  unfolding word_at
  word_apart j h = ap (from_le_bytes w32) (bytes_apart m at bs fits 4 j h)

  pub word_within : (j y : ℕ) → j ≡ at + y → y + 4 ≤ length bs → word_at (put m at bs) j ≡ word_at bs y
  unfolding word_at
  word_within j y e le = ap (λ n. from_le_bytes w32 (take 4 (drop n (put m at bs)))) e ∙ ap (from_le_bytes w32) (bytes_within m at bs fits 4 y le)

word_alone : (v : ℕ) → v < 2 ^ 32 → word_at (to_le_bytes w32 v) 0 ≡ v
unfolding word_at
word_alone v few = from_le_bytes-to_le_bytes_4 v few

-- Words one behind the other

pub length-words_at : (m : List ℕ) (at n : ℕ) → length (words_at m at n) ≡ n
unfolding words_at
length-words_at m at n = length-map (range_with_len 0 n) (λ i. word_at m (at + 4 * i)) ∙ length-range_with_len 0 n

pub words_get : (m : List ℕ) (at n k d : ℕ) → k < n → get_or (words_at m at n) k d ≡ word_at m (at + 4 * k)
unfolding words_at
words_get m at n k d lt = get_or-map-range_with_len (λ i. word_at m (at + 4 * i)) 0 n k k d lt (omega arith)

-- other bytes leave them
pub words_apart : (m : List ℕ) (at : ℕ) (bs : List ℕ) → at + length bs ≤ length m → (from n : ℕ) → (from + 4 * n ≤ at) ⊎ (at + length bs ≤ from) → words_at (put m at bs) from n ≡ words_at m from n
words_apart m at bs fits from n apart =
    same_lists _ _ (length-words_at (put m at bs) from n ∙ sym (length-words_at m from n))
    (λ k d lt. let few : k < n = (let long = length-words_at (put m at bs) from n in omega arith) in
    words_get (put m at bs) from n k d few ∙ (word_apart m at bs fits (from + 4 * k) (elim apart [ inl low ↦ inl (omega arith) | inr high ↦ inr (omega arith) ]) ∙ sym (words_get m from n k d few)))

-- one of them is written
word_set : (m : List ℕ) (at n i v : ℕ) → at + 4 * n ≤ length m → i < n → v < 2 ^ 32 → words_at (put m (at + 4 * i) (to_le_bytes w32 v)) at n ≡ set (words_at m at n) i v
word_set m at n i v fits few small = same_lists _ _ (length-words_at (put m (at + 4 * i) (to_le_bytes w32 v)) at n ∙ sym (length-set (words_at m at n) i v ∙ length-words_at m at n)) each
  where
    each : (k d : ℕ) → k < length (words_at (put m (at + 4 * i) (to_le_bytes w32 v)) at n) → get_or (words_at (put m (at + 4 * i) (to_le_bytes w32 v)) at n) k d ≡ get_or (set (words_at m at n) i v) k d
    each k d lt =
        let long = length-words_at (put m (at + 4 * i) (to_le_bytes w32 v)) at n in
        let old = length-words_at m at n in
        let four : length (to_le_bytes w32 v) ≡ 4 = refl in
        let within : at + 4 * i + length (to_le_bytes w32 v) ≤ length m = omega (arith, four) in
        words_get (put m (at + 4 * i) (to_le_bytes w32 v)) at n k d (omega arith)
        ∙ elim (cases_eq k i) [
          | inl e ↦ word_within m (at + 4 * i) (to_le_bytes w32 v) within (at + 4 * k) 0 (omega (arith, e)) (omega (arith, four))
              ∙ (word_alone v small ∙ sym (ap (λ j. get_or (set (words_at m at n) i v) j d) e ∙ get_or-set_same (words_at m at n) i v d (omega arith)))
          | inr ne ↦ word_apart m (at + 4 * i) (to_le_bytes w32 v) within (at + 4 * k)
              (elim (cases_lt k i) [ inl less ↦ inl (omega arith) | inr ge ↦ inr (omega (arith, four, ge, ne)) ])
              ∙ (sym (words_get m at n k d (omega arith)) ∙ sym (get_or-set_other (words_at m at n) i k v d ne))
        ]

put_one : (xs : List ℕ) (i v : ℕ) → i < length xs → put xs i (v ∷ []) ≡ set xs i v
put_one xs i v lt = let next : i + 1 ≡ suc i = omega arith in append_assoc (take i xs) (v ∷ []) (drop (i + 1) xs) ∙ (ap (λ k. take i xs ++ v ∷ drop k xs) next ∙ sym (set_split xs i v lt))

-- some of them are written, side by side
pub words_written : (blocks m : List ℕ) (at n i : ℕ) → at + 4 * n ≤ length m → i + length blocks ≤ n → All (λ b. b < 2 ^ 32) blocks →
    words_at (put m (at + 4 * i) (word_bytes blocks)) at n ≡ put (words_at m at n) i blocks
words_written [] m at n i fits few small = ap (λ l. words_at l at n) (put_none m (at + 4 * i)) ∙ sym (put_none (words_at m at n) i)
words_written (b ∷ blocks) m at n i fits few small =
    let bs = to_le_bytes w32 b in
    let four : length bs ≡ 4 = refl in
    let within : at + 4 * i + length bs ≤ length m = omega (arith, four) in
    let next : at + 4 * i + length bs ≡ at + 4 * (i + 1) = omega (arith, four) in
    let more = words_written blocks (put m (at + 4 * i) bs) at n (i + 1) (let long = length_put m (at + 4 * i) bs within in omega arith) (omega arith) (All-tail (λ b. b < 2 ^ 32) b blocks small) in
    let old = length-words_at m at n in
    ap (λ l. words_at l at n) (put_parts m (at + 4 * i) bs within (word_bytes blocks))
    ∙ (ap (λ k. words_at (put (put m (at + 4 * i) bs) k (word_bytes blocks)) at n) next
    ∙ (more
    ∙ (ap (λ l. put l (i + 1) blocks) (word_set m at n i b fits (omega arith) (All-head (λ b. b < 2 ^ 32) b blocks small) ∙ sym (put_one (words_at m at n) i b (omega arith)))
    ∙ sym (put_parts (words_at m at n) i (b ∷ []) (omega arith) blocks))))

pub length-word_bytes : (blocks : List ℕ) → length (word_bytes blocks) ≡ 4 * length blocks
length-word_bytes [] = refl
length-word_bytes (b ∷ blocks) = let rest = length-word_bytes blocks in let both = length-append (to_le_bytes w32 b) (word_bytes blocks) in omega arith
