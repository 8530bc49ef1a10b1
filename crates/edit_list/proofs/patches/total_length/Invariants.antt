use Rattle.std.proofs.Common.{◌≡◌, ◌≤◌, ◌*◌, take, length}
use Rattle.std.specs.Prelude.{sum_by}
use Rattle.edit_list.proofs.patches.total_length.Given as goal

abbrev pub invariant-loop-patch : goal.invariant-loop-patch
invariant-loop-patch l = (l.total ≡ sum_by (λ p. length p.bytes) (take l.patch-index l.patches)) × (l.total ≤ 512 * l.patch-index)
