use Rattle.std.proofs.Common.{◌≡◌, take}
use Rattle.edit_list.specs.Undo.{undo_of}
use Rattle.edit_list.proofs.patches.undo_of_any.Given as goal

abbrev pub invariant-loop-patch : goal.invariant-loop-patch
invariant-loop-patch l = l.undo ≡ undo_of l.bytes (take l.patch-index l.patches)
