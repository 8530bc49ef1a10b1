-- The names of a directory, as the entries of its buckets.
--     first_number entries name     the number of the first live entry of a name
--     first_number_in                     that of the first of some buckets that has one
--     HasNamesOnce                  a name has one record at most, live or dead, in all buckets of a directory
use Rattle.std.specs.Prelude.{◌≡◌, ℕ, ◌≤◌, ◌&&◌, List, [], ◌∷◌, Option, None, Some, IsTrue, bytes_eq, if◌then◌else◌}
use Rattle.std.specs.Option.{option_or}
use Rattle.treefs_format.specs.Paths.{leaf_count}
use Rattle.treefs_format.specs.Records.{Entry, entries_of, is_live}
use Rattle.treefs_model.specs.Reading.{bucket_of}
use Rattle.treefs_model.specs.Trees.{has_name, names_once}

abbrev pub first_number : List Entry → List ℕ → Option ℕ
first_number [] name = None
first_number (e ∷ entries) name = if is_live e && bytes_eq e.name name then Some e.number else first_number entries name

-- of the inode in a block
abbrev pub bucket_entries : (ℕ → List ℕ) → ℕ → ℕ → List Entry
bucket_entries content c k = entries_of (bucket_of content c k)

abbrev pub first_number_in : (ℕ → List ℕ) → ℕ → List ℕ → List ℕ → Option ℕ
first_number_in content c name [] = None
first_number_in content c name (k ∷ buckets) = option_or (first_number (bucket_entries content c k) name) (first_number_in content c name buckets)

pub record HasNamesOnce (content : ℕ → List ℕ) (c : ℕ) : Type 0 where
  pub once : (k : ℕ) → k ≤ leaf_count → IsTrue (names_once (bucket_entries content c k))
  pub apart : (j k : ℕ) (name : List ℕ) → j ≤ leaf_count → k ≤ leaf_count → IsTrue (has_name (bucket_entries content c j) name) →
      IsTrue (has_name (bucket_entries content c k) name) → j ≡ k
