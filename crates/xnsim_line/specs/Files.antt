-- What files hold, where that is known.
use Rattle.std.specs.Prelude.{◌≡◌, ℕ, bytes_eq, if◌then◌else◌, List, length, map, take, Option, Some, IfSome, IsSomeAnd, find, option_map}

-- for each name the bytes of its file, if there is one
abbrev pub Held : Type 0
Held = Option (List ℕ → Option (List ℕ))

-- the file of this name holds these bytes, where it is known what files hold
abbrev pub IsHeld : Held → List ℕ → List ℕ → Type 0
IsHeld held name bytes = IfSome held (λ files. files name ≡ Some bytes)

-- the file of this name begins with these bytes, which are so many or all that it holds, where it is known what files hold
abbrev pub IsStartHeld : Held → List ℕ → ℕ → List ℕ → Type 0
IsStartHeld held name limit bytes = IfSome held (λ files. IsSomeAnd (files name) (λ whole. bytes ≡ take limit whole))

-- the files of these names hold these bytes, each its own
pub record AreHeld (held : Held) (names contents : List (List ℕ)) : Type 0 where
  pub counted : length contents ≡ length names
  pub each : IfSome held (λ files. map files names ≡ map Some contents)

-- with the file of one name written
abbrev pub with_file : Held → List ℕ → List ℕ → Held
with_file held name bytes = option_map (λ files. λ other. if bytes_eq other name then Some bytes else files other) held

-- what named files hold; of several with one name the first counts
abbrev pub held_in : {A : Type 0} → (A → List ℕ) → (A → List ℕ) → List A → List ℕ → Option (List ℕ)
held_in name_of bytes_of files name = option_map bytes_of (find (λ file. bytes_eq (name_of file) name) files)
