-- A set of numbers below n, as a row of truth values.
use Rattle.std.specs.Prelude.{◌≡◌, ℕ, ◌*◌, ◌<◌, ◌≤◌, ◌^◌, Bool, true, false, List, length, map, count_by, nat_lt, slice_index, slice_index_or}
use Rattle.std.specs.List.{range_with_len}
use Rattle.free_map.specs.Bits.{has_bit}

abbrev pub members_of : ℕ → List ℕ → List Bool
members_of n words = map (has_bit words) (range_with_len 0 n)

abbrev pub is_member : Bool → Bool
is_member b = b

-- the least member that is not below a number
pub record IsLeastFrom (members : List Bool) (from at : ℕ) : Type 0 where
  pub past : from ≤ at
  pub within : at < length members
  pub member : slice_index_or members at false ≡ true
  pub least : (k : ℕ) → from ≤ k → k < at → slice_index_or members k false ≡ false

abbrev pub HasNoneFrom : List Bool → ℕ → Type 0
HasNoneFrom members from = (k : ℕ) → from ≤ k → slice_index_or members k false ≡ false

-- a bit of `filled` for each word that has some bit
pub record AreMembers (n : ℕ) (words filled : List ℕ) (count : ℕ) : Type 0 where
  pub past : (k : ℕ) → n ≤ k → has_bit words k ≡ false
  pub room : n ≤ 64 * length words
  pub summed : length words ≤ 64 * length filled
  pub few : length words ≤ 2 ^ 26
  pub few_sums : length filled ≤ 2 ^ 26
  pub sums : (w : ℕ) → has_bit filled w ≡ nat_lt 0 (slice_index words w)
  pub counted : count ≡ count_by is_member (members_of n words)
