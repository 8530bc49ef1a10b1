-- The name of a new file beside another one.
use Rattle.std.specs.Prelude.{◌≡◌, ◌≤◌, ◌⊎◌, ◌==◌, ℕ, ◌+◌, List, [], ◌∷◌, ◌++◌, length, take, codes}
use Rattle.std.specs.Fmt.{decimal}
use Rattle.std.specs.Str.{NoCharPasses}

-- a path is a folder, up to its last slash, and an own name behind that
pub record IsParted (path folder own : List ℕ) : Type 0 where
  pub split : path ≡ folder ++ own
  pub ends : (folder ≡ []) ⊎ ((before : List ℕ) × (folder ≡ before ++ 47 ∷ []))
  pub no_slash : NoCharPasses (λ d. d == 47) own

-- what a new name ends in
abbrev pub ending : ℕ → List ℕ
ending number = codes ".new" ++ decimal number

-- It is in the folder of the path, its own name begins as that of the path, as far as that fits, and ends in `.new` and the number. A folder takes names of at
-- most 255 bytes.
pub record IsBeside (path : List ℕ) (number : ℕ) (name : List ℕ) : Type 0 where
  pub folder : List ℕ
  pub own : List ℕ
  pub kept : ℕ
  pub parted : IsParted path folder own
  pub named : name ≡ folder ++ (take kept own ++ ending number)
  pub fits : length (take kept own) + length (ending number) ≤ 255
