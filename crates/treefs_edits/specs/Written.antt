-- The newest bytes of each block once acts are made, one after another.
use Rattle.std.specs.Prelude.{ℕ, ◌==◌, List, [], ◌∷◌, if◌then◌else◌}
use Rattle.xn_model.specs.Calls.{patched}
use Rattle.treefs_model.specs.Acts.{Act}

-- with the patches of an act
abbrev pub written : Act → (ℕ → List ℕ) → ℕ → List ℕ
written act content b = if b == act.block then patched (content b) act.edit.patches else content b

abbrev pub all_written : List Act → (ℕ → List ℕ) → ℕ → List ℕ
all_written [] content = content
all_written (act ∷ rest) content = all_written rest (written act content)
