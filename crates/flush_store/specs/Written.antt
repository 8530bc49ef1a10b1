-- All is written: no block in use has a pending entry.
use Rattle.std.specs.Prelude.{◌≡◌, ℕ, [], Some}
use Rattle.xn_model.specs.Lives.{Life, Lives, life_at}

abbrev pub AllWritten : Lives → Type 0
AllWritten lives = (b : ℕ) (l : Life) → life_at lives b ≡ Some l → l.pending ≡ []
