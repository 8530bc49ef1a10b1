-- The fields of block 0 of a fresh disk: its first n pointers name the blocks from 1 on, and all other fields are 0.
use Rattle.std.proofs.Common.{◌≡◌, ℕ, zero, suc, ◌+◌, ◌-◌, ◌*◌, ◌^◌, ◌≤◌, ◌<◌, ◌∙◌, ap, sym, refl, true, false, cond, not, ◌||◌, List, [], ◌∷◌, ◌++◌, map, length, get_or, take, drop, length-append, lit<, arith}
use Rattle.std.specs.Prelude.{Option, Some, None, filter_map}
use Rattle.std.specs.Int.{w32, to_le_bytes, from_le_bytes}
use Rattle.std.specs.List.{flat_map, range_with_len, cons_option}
use Rattle.std.specs.Option.{option_to_list}
use Rattle.std.proofs.lemmas.Bool.{eq-eqb, ne_eqb, and_from}
use Rattle.std.proofs.lemmas.Nat.{from_le_bytes-to_le_bytes_4}
use Rattle.std.proofs.lemmas.List.{append-nil, get_or-take, length-replicate}
use Rattle.std.proofs.lemmas.List.FromFn.{length-range_with_len, get_or-range_with_len, length-map-range_with_len, get_or-map-range_with_len, map-range_with_len_more}
use Rattle.xn_model.specs.Lists.{has_number, distinct, blank, blocks_of}
use Rattle.xn_model.specs.BareDisks.{zeros}
use Rattle.xn_model.specs.Root.{word_at, marked, pointer, slot, unless_empty, templates_of, roots_of, owned_by_root}
use Rattle.templates.specs.Formats.{pointer_bytes, formatted_root}
use Rattle.templates.proofs.WordsWritten.{drop-zeros}
use Rattle.templates.proofs.FreshImages.{length-pointer_bytes}
use Rattle.templates.proofs.OneSpelling.{blank-zeros}
use Rattle.templates.proofs.Ranges.{upto-more}

-- Numbers of four bytes, one after another, and then zeros

number_in : (ns tail : List ℕ) (i : ℕ) → i < length ns → take 4 (drop (4 * i) (flat_map (to_le_bytes w32) ns ++ tail)) ≡ to_le_bytes w32 (get_or ns i 0)
number_in [] tail i lt = absurd (omega arith)
number_in (n ∷ ns) tail zero lt = refl
number_in (n ∷ ns) tail (suc i) lt =
    let at : 4 * suc i ≡ suc (suc (suc (suc (4 * i)))) = omega arith in
    ap (λ k. take 4 (drop k (flat_map (to_le_bytes w32) (n ∷ ns) ++ tail))) at ∙ number_in ns tail i (omega arith)

behind_numbers : (ns tail : List ℕ) (i : ℕ) → length ns ≤ i → drop (4 * i) (flat_map (to_le_bytes w32) ns ++ tail) ≡ drop (4 * (i - length ns)) tail
behind_numbers [] tail i h = let n : 4 * i ≡ 4 * (i - 0) = omega arith in ap (λ k. drop k tail) n
behind_numbers (n ∷ ns) tail zero h = absurd (omega arith)
behind_numbers (n ∷ ns) tail (suc i) h =
    let at : 4 * suc i ≡ suc (suc (suc (suc (4 * i)))) = omega arith in
    let left : 4 * (i - length ns) ≡ 4 * (suc i - suc (length ns)) = omega arith in
    ap (λ k. drop k (flat_map (to_le_bytes w32) (n ∷ ns) ++ tail)) at ∙ (behind_numbers ns tail i (omega arith) ∙ ap (λ k. drop k tail) left)

get_or-zeros : (n i : ℕ) → get_or (zeros n) i 0 ≡ 0
get_or-zeros zero i = refl
get_or-zeros (suc n) zero = refl
get_or-zeros (suc n) (suc i) = get_or-zeros n i

zero_number : (n : ℕ) → from_le_bytes w32 (take 4 (zeros n)) ≡ 0
zero_number n =
    let a = get_or-take 4 (zeros n) 0 0 (lit< tt) ∙ get_or-zeros n 0 in
    let b = get_or-take 4 (zeros n) 1 0 (lit< tt) ∙ get_or-zeros n 1 in
    let c = get_or-take 4 (zeros n) 2 0 (lit< tt) ∙ get_or-zeros n 2 in
    let d = get_or-take 4 (zeros n) 3 0 (lit< tt) ∙ get_or-zeros n 3 in
    omega arith

-- The blocks from 1 on, each a template's

abbrev pub named : ℕ → List (ℕ × ℕ)
named k = map (λ i. (1 + i, 1)) (range_with_len 0 k)

pub length-named : (n : ℕ) → length (named n) ≡ n
length-named n = length-map-range_with_len (λ i. (1 + i, 1)) 0 n

pub get_or-named : (n i : ℕ) (d : ℕ × ℕ) → i < n → get_or (named n) i d ≡ (1 + i, 1)
get_or-named n i d lt = get_or-map-range_with_len (λ i. (1 + i, 1)) 0 n i i d lt (omega arith)

not_later : (k a x : ℕ) → x < a → has_number (blocks_of (map (λ i. (1 + i, 1)) (range_with_len a k))) (1 + x) ≡ false
not_later zero a x lt = refl
not_later (suc k) a x lt =
    ap (λ t. t || has_number (blocks_of (map (λ i. (1 + i, 1)) (range_with_len (a + 1) k))) (1 + x)) (ne_eqb (1 + a) (1 + x) (λ e. absurd (omega arith)))
    ∙ not_later k (a + 1) x (omega arith)

distinct_from : (k a : ℕ) → distinct (blocks_of (map (λ i. (1 + i, 1)) (range_with_len a k))) ≡ true
distinct_from zero a = refl
distinct_from (suc k) a = and_from _ _ (ap not (not_later k (a + 1) a (omega arith))) (distinct_from k (a + 1))

pub distinct_named : (n : ℕ) → distinct (blocks_of (named n)) ≡ true
distinct_named n = distinct_from n 0

-- The words of block 0 behind the count

module _ (count n : ℕ) (few : n ≤ 16) where
  abbrev tail : List ℕ
  tail = zeros (504 - 4 * n)

  behind_count : (i : ℕ) → drop (8 + 4 * i) (formatted_root count n) ≡ drop (4 * i) (pointer_bytes n ++ tail)
  unfolding formatted_root
  behind_count i =
      let at : 8 + 4 * i ≡ suc (suc (suc (suc (suc (suc (suc (suc (4 * i)))))))) = omega arith in
      ap (λ k. drop k (formatted_root count n)) at

  word_named : (i : ℕ) → i < n → word_at (formatted_root count n) (8 + 4 * i) ≡ 1 + i
  unfolding word_at
  word_named i lt =
      let long = length-range_with_len 1 n in
      ap (λ l. from_le_bytes w32 (take 4 l)) (behind_count i)
      ∙ (ap (from_le_bytes w32) (number_in (range_with_len 1 n) tail i (omega arith) ∙ ap (to_le_bytes w32) (get_or-range_with_len 1 n i 0 lt))
      ∙ from_le_bytes-to_le_bytes_4 (1 + i) (omega arith))

  word_blank : (i : ℕ) → n ≤ i → word_at (formatted_root count n) (8 + 4 * i) ≡ 0
  unfolding word_at
  word_blank i past =
      let long = length-range_with_len 1 n in
      ap (λ l. from_le_bytes w32 (take 4 l)) (behind_count i ∙ (behind_numbers (range_with_len 1 n) tail i (omega arith) ∙ drop-zeros (4 * (i - length (range_with_len 1 n))) (504 - 4 * n)))
      ∙ zero_number (504 - 4 * n - 4 * (i - length (range_with_len 1 n)))

  pub pointer_named : (i : ℕ) → i < n → pointer (formatted_root count n) i ≡ 1 + i
  unfolding pointer
  pointer_named = word_named

  pub pointer_blank : (i : ℕ) → n ≤ i → pointer (formatted_root count n) i ≡ 0
  unfolding pointer
  pointer_blank = word_blank

  pub slot_blank : (i : ℕ) → slot (formatted_root count n) i ≡ (0, 0)
  unfolding slot
  slot_blank i =
      let block : 72 + 8 * i ≡ 8 + 4 * (16 + 2 * i) = omega arith in
      let ty : 76 + 8 * i ≡ 8 + 4 * (17 + 2 * i) = omega arith in
      λ j. (
        (ap (word_at (formatted_root count n)) block ∙ word_blank (16 + 2 * i) (omega arith)) j,
        (ap (word_at (formatted_root count n)) ty ∙ word_blank (17 + 2 * i) (omega arith)) j,
      )

  pub root_marked : count < 2 ^ 32 → marked count (formatted_root count n) ≡ true
  unfolding marked formatted_root word_at
  root_marked small = eq-eqb (word_at (formatted_root count n) 4) count (from_le_bytes-to_le_bytes_4 count small)

  pub root_clear : blank (drop 328 (formatted_root count n)) ≡ true
  root_clear =
      let long = length-range_with_len 1 n in
      ap blank (behind_count 80 ∙ (behind_numbers (range_with_len 1 n) tail 80 (omega arith) ∙ drop-zeros (4 * (80 - length (range_with_len 1 n))) (504 - 4 * n)))
      ∙ blank-zeros (504 - 4 * n - 4 * (80 - length (range_with_len 1 n)))

  pub root_length : length (formatted_root count n) ≡ 512
  unfolding formatted_root
  root_length =
      let pointers = length-pointer_bytes n in
      let blank = length-replicate {A = ℕ} (504 - 4 * n) 0 in
      let all = length-append (pointer_bytes n) tail in
      omega arith

  -- What they name

  abbrev pointer_pair : ℕ → Option (ℕ × ℕ)
  pointer_pair i = unless_empty (pointer (formatted_root count n) i, 1)

  pair_named : (i : ℕ) → i < n → pointer_pair i ≡ Some (1 + i, 1)
  pair_named i lt =
      ap (λ b. unless_empty (b, 1)) (pointer_named i lt)
      ∙ ap (λ t. cond t None (Some (1 + i, 1))) (ne_eqb (1 + i) 0 (λ e. absurd (omega arith)))

  pair_blank : (i : ℕ) → n ≤ i → pointer_pair i ≡ None
  pair_blank i past = ap (λ b. unless_empty (b, 1)) (pointer_blank i past)

  first_named : (k : ℕ) → k ≤ n → filter_map pointer_pair (range_with_len 0 k) ≡ named k
  first_named zero h = refl
  first_named (suc k) h =
      let next : k + 1 ≡ suc k = omega arith in
      let start : 0 + k ≡ k = omega arith in
      upto-more pointer_pair k
      ∙ ((λ i. first_named k (omega arith) i ++ option_to_list (pair_named k (omega arith) i))
      ∙ (sym (map-range_with_len_more (λ i. (1 + i, 1)) 0 k k start) ∙ ap named next))

  then_none : (k d : ℕ) → k ≡ n + d → filter_map pointer_pair (range_with_len 0 k) ≡ named n
  then_none k zero e =
      let whole : k ≡ n = omega arith in
      ap (λ j. filter_map pointer_pair (range_with_len 0 j)) whole ∙ first_named n (omega arith)
  then_none k (suc d) e =
      let next : k ≡ suc (n + d) = omega arith in
      ap (λ j. filter_map pointer_pair (range_with_len 0 j)) next
      ∙ (upto-more pointer_pair (n + d)
      ∙ ((λ i. then_none (n + d) d refl i ++ option_to_list (pair_blank (n + d) (omega arith) i)) ∙ append-nil (named n)))

  templates_named : (k : ℕ) → k ≡ 16 → templates_of (formatted_root count n) ≡ named n
  unfolding templates_of
  templates_named k e = ap (λ j. filter_map pointer_pair (range_with_len 0 j)) (sym e) ∙ then_none k (16 - n) (omega arith)

  pub root_templates : templates_of (formatted_root count n) ≡ named n
  root_templates = templates_named 16 refl

  no_roots : (is : List ℕ) → filter_map (λ i. unless_empty (slot (formatted_root count n) i)) is ≡ []
  no_roots [] = refl
  no_roots (i ∷ is) = (λ j. cons_option (unless_empty (slot_blank i j)) (no_roots is j))

  pub root_owns : owned_by_root (formatted_root count n) ≡ named n
  unfolding owned_by_root roots_of
  root_owns = (λ j. root_templates j ++ no_roots (range_with_len 0 32) j) ∙ append-nil (named n)
