-- What a write that is refused leaves of a file.
--     IsPartlyPut     some of the first of the bytes stand over those that the file has from a byte on; no file else changes, nor a time or a size
use Rattle.std.specs.Prelude.{◌≡◌, ℕ, ◌≤◌, List, length, take}
use Rattle.treefs_model.specs.Files.{Files, changed_at}
use Rattle.treefs_values.specs.Bytes.{with_put}

abbrev pub IsPartlyPut : Files → ℕ → ℕ → List ℕ → Files → Type 0
IsPartlyPut files n at bytes files' = (count : ℕ) × (count ≤ length bytes) × (files' ≡ changed_at files n (with_put at (take count bytes)))
