-- Files that are to be written, found after calls that change nothing.
use Rattle.std.proofs.Common.{ℕ, List, Some, None, string_bytes}
use Rattle.system_files.specs.declared.taking.Target.{Target}
use Rattle.system_files.specs.declared.taking.Target.TheVariants.{Replaced, InPlace}
use Rattle.system_files.specs.Calls.{Calls, Looked}
use Rattle.system_files.specs.Targets.{IsTarget}
use Rattle.system_files.proofs.Made.{locked_after}

pub target_after : {H : Type 0} (name : List ℕ) (old mid new : Calls) (t : Target H) → Looked old mid → IsTarget name mid new t → IsTarget name old new t
target_after name old mid new (Replaced path (Some file)) first is = locked_after old mid new (string_bytes path) first is
target_after name old mid new (Replaced path None) first is = is
target_after name old mid new (InPlace file) first is = is
