-- Blocks that are begun.
--     with_block     a function of blocks, with another value for one of them
use Rattle.std.specs.Prelude.{ℕ, ◌==◌, if◌then◌else◌}

abbrev pub with_block : {A : Type 0} → (ℕ → A) → ℕ → A → ℕ → A
with_block old b x c = if c == b then x else old c
