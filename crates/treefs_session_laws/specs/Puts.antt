-- What a put makes of the files.
--     GetsName     an inode got a number that none had, and its first name, which none had, or which what had it has lost
use Rattle.std.specs.Prelude.{◌≡◌, ℕ, ℤ, Bool, true, false, List, None, Ok}
use Rattle.treefs_model.specs.Changes.{made, new_name, replaced}
use Rattle.treefs_model.specs.Files.{Files, Inode}

abbrev pub GetsName : Files → Files → ℤ → ℕ → List ℕ → Bool → ℕ → Inode → Type 0
GetsName old new time d name false n inode = (new_name old d name ≡ Ok tt) × (old n ≡ None) × (new ≡ made old time d name n inode)
GetsName old new time d name true n inode = (old n ≡ None) × (replaced old time d name n inode ≡ Ok new)
