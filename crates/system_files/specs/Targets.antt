-- The file that is to be written.
use Rattle.std.specs.Prelude.{◌≡◌, ⊤, ℕ, List, Some, None, string_bytes}
use Rattle.system_files.specs.declared.taking.Target.{Target}
use Rattle.system_files.specs.declared.taking.Target.TheVariants.{Replaced, InPlace}
use Rattle.system_files.specs.Calls.{Calls, IsLocked}

-- the file of a path, locked
abbrev pub IsLockedTarget : {H : Type 0} → Calls → Calls → Target H → Type 0
IsLockedTarget old new (Replaced path (Some file)) = IsLocked (string_bytes path) old new
IsLockedTarget old new (Replaced path None) = ⊥
IsLockedTarget old new (InPlace file) = ⊥

-- the same, or a new file of this name, or what is no regular file
abbrev pub IsTarget : {H : Type 0} → List ℕ → Calls → Calls → Target H → Type 0
IsTarget name old new (Replaced path (Some file)) = IsLocked (string_bytes path) old new
IsTarget name old new (Replaced path None) = string_bytes path ≡ name
IsTarget name old new (InPlace file) = ⊤
