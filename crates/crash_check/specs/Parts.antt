-- A part of the list of named blocks.
use Rattle.std.specs.Prelude.{ℕ, ◌-◌, List, take, drop}

-- the items from one place on, before another
abbrev pub part : {A : Type 0} → List A → ℕ → ℕ → List A
part xs from to = take (to - from) (drop from xs)
