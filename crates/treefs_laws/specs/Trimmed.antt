-- What a trim keeps of a file.
--     IsKeptOf     of a file or a symbolic link of the volume: its block, and all up to its size
--     AreKeptOf    where something is to be trimmed
use Rattle.std.specs.Prelude.{◌≡◌, ⊤, ℕ, Option, None, Some, Ok}
use Rattle.xn_model.specs.Lives.{StoreState}
use Rattle.treefs_lookup.specs.Inodes.{file_found}
use Rattle.treefs_lookup.specs.Readable.{readable}
use Rattle.treefs_lookup.specs.declared.inodes.Found.{Found}
use Rattle.treefs_byte_plans.specs.Kept.{kept_of}
use Rattle.treefs_byte_plans.specs.declared.kept.Kept.{Kept}
use Rattle.treefs.specs.declared.volume.Volume.{Volume}

abbrev pub IsKeptOf : StoreState → Volume → Kept → Type 0
IsKeptOf state volume kept = (number : ℕ) × (found : Found) × (file_found (readable state volume.tree.fs.number) volume.tree.top number ≡ Ok found)
    × (kept ≡ kept_of found)

abbrev pub AreKeptOf : StoreState → Volume → Option Kept → Type 0
AreKeptOf state volume None = ⊤
AreKeptOf state volume (Some kept) = IsKeptOf state volume kept
