use Rattle.std.proofs.Common.{ℕ, List, ap, arith, length}
use Rattle.edit_list.proofs.Undoing.{length-there, patch_at}
use Rattle.edit_list.proofs.Totals.{bytes_in, pieces_fit}
use Rattle.edit_list.proofs.patches.undo_of_any.Goals as goal

pub push-requires-clause-short : goal.push-requires-clause-short
push-requires-clause-short c =
    let patches = c.args.patches.now in
    let patch = c.patch-item.result in
    let is = patch_at patches c.loop-patch.patch-index patch c.loop-patch-test.true c.patch-item.is c.requires.are_patches in
    let fit = pieces_fit c.args.bytes.now patches c.loop-patch.patch-index patch c.told-bytes c.requires.are_patches c.loop-patch-test.true c.patch-item.is in
    omega (arith, fit, length-there c.args.bytes.now patch c.told-bytes is, c.requires.short, ap bytes_in c.loop-patch.invariant, ap (λ (bs : List ℕ). length bs) c.overwritten.ensures)
