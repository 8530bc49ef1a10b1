-- Which block each block waits for, and how the lists of waiters are linked.
use Rattle.std.specs.Prelude.{◌≡◌, ℕ, Contains, List, [], ◌∷◌, length, Option, Some, None, slice_index_or, slice_set}

-- the number at a place of a row; past the end there is none
abbrev pub at : List (Option ℕ) → ℕ → Option ℕ
at row k = slice_index_or row k None

-- block b waited for another one, and waits no longer
pub record Releases (old new : List (Option ℕ)) (other b : ℕ) : Type 0 where
  pub waited : at old b ≡ Some other
  pub now : new ≡ slice_set old b None

-- From its start, and from each one by its next, these come, each once.
abbrev pub IsChain : List (Option ℕ) → Option ℕ → List ℕ → Type 0
IsChain next start [] = start ≡ None
IsChain next start (x ∷ xs) = (start ≡ Some x) × (Contains xs x → ⊥) × IsChain next (at next x) xs

-- From its start the list has the blocks that wait for one, and no others.
pub record IsListOf (waits next : List (Option ℕ)) (other : ℕ) (start : Option ℕ) : Type 0 where
  pub blocks : List ℕ
  pub chain : IsChain next start blocks
  pub each : (b : ℕ) → Contains blocks b → at waits b ≡ Some other
  pub all : (b : ℕ) → at waits b ≡ Some other → Contains blocks b

pub record AreLists (waits first next : List (Option ℕ)) : Type 0 where
  -- each block has a first waiter and a next one
  pub firsts : length first ≡ length waits
  pub nexts : length next ≡ length waits
  pub lists : (other : ℕ) → IsListOf waits next other (at first other)
