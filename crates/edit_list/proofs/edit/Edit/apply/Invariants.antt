use Rattle.std.proofs.Common.{◌≡◌, take}
use Rattle.xn_model.specs.Calls.{patched}
use Rattle.edit_list.proofs.edit.Edit.apply.Given as goal

abbrev pub invariant-loop-patch : goal.invariant-loop-patch
invariant-loop-patch l = l.bytes ≡ patched l.fn.bytes (take l.patch-index l.fn.self.patches)
