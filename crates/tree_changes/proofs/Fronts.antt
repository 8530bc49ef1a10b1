-- What stands before the slashes of a path, one after another.
use Rattle.std.proofs.Common.{◌≡◌, ◌∙◌, ℕ, zero, suc, ◌+◌, ◌-◌, ◌<◌, Bool, true, false, cond, List, [], ◌∷◌, ◌++◌, length, map, take, get_or}
use Rattle.std.proofs.Common.{ap, arith, refl, sym}
use Rattle.std.specs.Prelude.{◌==◌, ◌&&◌, nat_lt, slice_index}
use Rattle.std.specs.List.{enumerate_from, filter, range_with_len}
use Rattle.std.proofs.lemmas.Bool.Decides.{nat_tests}
use Rattle.std.proofs.lemmas.List.{append-nil, append_assoc, get_or_default, map-append}
use Rattle.std.proofs.lemmas.List.Elements.{filter-append}
use Rattle.std.proofs.lemmas.List.FromFn.{get_or-enumerate_from, length-enumerate_from}
use Rattle.tree_changes.specs.Making.{fronts, fronts_below, is_front_end}

range_parts : (a n b m whole : ℕ) → n + m ≡ whole → a + n ≡ b → range_with_len a whole ≡ range_with_len a n ++ range_with_len b m
range_parts a zero b m whole all at =
    let whole_is : whole ≡ m = omega (arith, all) in
    let start_is : b ≡ a = omega (arith, at) in
    ap (λ (n : ℕ). range_with_len a n) whole_is ∙ ap (λ (n : ℕ). range_with_len n m) (sym start_is)
range_parts a (suc n) b m zero all at = absurd (omega (arith, all))
range_parts a (suc n) b m (suc whole) all at =
    ap (λ (ns : List ℕ). a ∷ ns) (range_parts (a + 1) n b m whole (omega (arith, all)) (omega (arith, at)))

-- those of some places
fronts_at : List ℕ → List ℕ → List (List ℕ)
fronts_at path places = map (λ n. take n path) (filter (is_front_end path) places)

module _ (path : List ℕ) (n : ℕ) where
  fronts_parts : (m whole : ℕ) → n + m ≡ whole → fronts_below path whole ≡ fronts_below path n ++ fronts_at path (range_with_len n m)
  unfolding fronts_at
  fronts_parts m whole all =
      ap (λ (ns : List ℕ). map (λ k. take k path) (filter (is_front_end path) ns)) (range_parts 0 n n m whole all (omega arith))
      ∙ (ap (λ (ns : List ℕ). map (λ k. take k path) ns) (filter-append (is_front_end path) (range_with_len 0 n) (range_with_len n m))
      ∙ map-append (λ k. take k path) (filter (is_front_end path) (range_with_len 0 n)) (filter (is_front_end path) (range_with_len n m)))

  first_front : (rest : List ℕ) → is_front_end path n ≡ true → fronts_at path (n ∷ rest) ≡ take n path ∷ fronts_at path rest
  unfolding fronts_at
  first_front rest is =
      ap (λ (b : Bool). map (λ k. take k path) (cond b (n ∷ filter (is_front_end path) rest) (filter (is_front_end path) rest))) is

  no_front : (rest : List ℕ) → is_front_end path n ≡ false → fronts_at path (n ∷ rest) ≡ fronts_at path rest
  unfolding fronts_at
  no_front rest is =
      ap (λ (b : Bool). map (λ k. take k path) (cond b (n ∷ filter (is_front_end path) rest) (filter (is_front_end path) rest))) is

  pub front_more : is_front_end path n ≡ true → fronts_below path (n + 1) ≡ fronts_below path n ++ take n path ∷ []
  unfolding fronts_at
  front_more is =
      let one : fronts_below path (n + 1) ≡ fronts_below path n ++ fronts_at path (n ∷ []) = fronts_parts 1 (n + 1) refl in
      one ∙ ap (λ (l : List (List ℕ)). fronts_below path n ++ l) (first_front [] is)

  pub front_none : is_front_end path n ≡ false → fronts_below path (n + 1) ≡ fronts_below path n
  unfolding fronts_at
  front_none is =
      let one : fronts_below path (n + 1) ≡ fronts_below path n ++ fronts_at path (n ∷ []) = fronts_parts 1 (n + 1) refl in
      one ∙ (ap (λ (l : List (List ℕ)). fronts_below path n ++ l) (no_front [] is) ∙ append-nil (fronts_below path n))

  -- those behind it, and the path
  pub front_behind : n < length path → is_front_end path n ≡ true →
      (behind : List (List ℕ)) × (fronts path ++ path ∷ [] ≡ fronts_below path n ++ take n path ∷ behind)
  front_behind within is =
      let left = length path - (n + 1) in
      let rest = fronts_at path (range_with_len (n + 1) left) in
      let all : fronts path ≡ fronts_below path n ++ fronts_at path (n ∷ range_with_len (n + 1) left) = fronts_parts (suc left) (length path) (omega arith) in
      let parts = all ∙ ap (λ (l : List (List ℕ)). fronts_below path n ++ l) (first_front (range_with_len (n + 1) left) is) in
      (rest ++ path ∷ [], ap (λ (l : List (List ℕ)). l ++ path ∷ []) parts ∙ append_assoc (fronts_below path n) (take n path ∷ rest) (path ∷ []))

-- a byte of the path and where it stands, as they are met
pub record IsByteAt (path : List ℕ) (n end byte : ℕ) : Type 0 where
  pub within : n < length path
  pub counted : end ≡ n
  pub at : slice_index path n ≡ byte

pub byte_at : (path : List ℕ) (n end byte : ℕ) →
    (n < length (enumerate_from 0 path)) × ((end, byte) ≡ get_or (enumerate_from 0 path) n (end, byte)) → IsByteAt path n end byte
byte_at path n end byte turn =
    let within : n < length path = omega (arith, turn.0, length-enumerate_from 0 path) in
    let pair = turn.1 ∙ get_or-enumerate_from 0 path n (end, byte) within in
    record {
      within = within;
      counted = let same = ap (λ p. p.0) pair in omega (arith, same);
      at = get_or_default path n 0 byte within ∙ sym (ap (λ p. p.1) pair);
    }

is_end : (path : List ℕ) (n end byte : ℕ) (b : Bool) → IsByteAt path n end byte → (byte == 47) && nat_lt 0 end ≡ b → is_front_end path n ≡ b
is_end path n end byte b met is =
    ap (λ (x : ℕ). (x == 47) && nat_lt 0 n) met.at ∙ (ap (λ (m : ℕ). (byte == 47) && nat_lt 0 m) (sym met.counted) ∙ is)

pub ends_front : (path : List ℕ) (n end byte : ℕ) → IsByteAt path n end byte → byte ≡ 47 → 0 < end → is_front_end path n ≡ true
ends_front path n end byte met slash some = is_end path n end byte true met (grind (arith, nat_tests))

pub ends_none : (path : List ℕ) (n end byte : ℕ) → IsByteAt path n end byte → (byte ≡ 47 → end ≡ 0) → is_front_end path n ≡ false
ends_none path n end byte met none = is_end path n end byte false met (grind (arith, nat_tests))

-- all of them were met
pub all_fronts : (path : List ℕ) (n : ℕ) → n ≡ length (enumerate_from 0 path) → fronts_below path n ≡ fronts path
all_fronts path n is = ap (λ (m : ℕ). fronts_below path m) (is ∙ length-enumerate_from 0 path)
