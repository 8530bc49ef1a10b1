-- What a call answers and leaves, by its function of the files.
--     Leads        the function answers this, and the files are those that it says
use Rattle.std.specs.Prelude.{◌≡◌, ℕ, List, Ok, Err}
use Rattle.ffs_lookup.specs.Files.{Answer}
use Rattle.ffs_lookup.specs.FileValues.{files_of}

abbrev pub Leads : {A : Type 0} → Answer A → (ℕ → List ℕ) → ℕ → A → Type 0
Leads (Err fault) content fs x = ⊥
Leads (Ok next) content fs x = (x ≡ next.0) × ((n : ℕ) → files_of content fs n ≡ next.1 n)
