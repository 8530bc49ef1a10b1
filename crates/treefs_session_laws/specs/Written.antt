-- Bytes that a session writes piece by piece, and of which not all are written.
--     ArePartlyWritten     the first of the bytes are written, so many, or none; and some of the first are put, by a write that was refused
use Rattle.std.specs.Prelude.{◌≡◌, ◌⊎◌, ℕ, ℤ, ◌≤◌, List, length, Ok}
use Rattle.treefs_model.specs.Changes.{written}
use Rattle.treefs_model.specs.Files.{Files}
use Rattle.treefs_laws.specs.Overwriting.{IsPartlyPut}

-- n: of the file; at: where the first of the bytes stands; taken: how many are written
pub record ArePartlyWritten (old : Files) (time : ℤ) (n at : ℕ) (bytes : List ℕ) (taken : ℕ) (new : Files) : Type 0 where
  pub few : taken ≤ length bytes
  pub files : Files
  pub first : ((taken ≡ 0) × (files ≡ old)) ⊎ (written old time n at bytes taken ≡ Ok files)
  pub put : IsPartlyPut files n at bytes new
