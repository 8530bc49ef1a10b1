use Rattle.std.proofs.Common.{◌∙◌, ℕ, List, [], ◌∷◌, None, ap, length, subst, sym}
use Rattle.ffs_lib.proofs.Common.{latest, root}
use Rattle.ffs_lookup.proofs.ForCallers.{not_ok, root_again}
use Rattle.ffs_lib.specs.Edits.{edit_at}
use Rattle.ffs_lib.specs.Making.{first_pointer}
use Rattle.ffs_lib.specs.Steps.{Proposed}
use Rattle.ffs_lib.proofs.Tests.{never}
use Rattle.ffs_lib.proofs.Edited.{same_root}
use Rattle.ffs_lib.proofs.setup.put_pointer.Goals as goal

pub returns-in_err-root-clause-put : goal.returns-in_err-root-clause-put
returns-in_err-root-clause-put g c = λ T r e at.
    absurd (never r _ (root_again (latest (g.S.Store.state_of c.args.store.now).lives) c.args.fs.number r at ∙ sym c.in_err-root.ensures.exact))

pub returns-in_err-read_block-clause-put : goal.returns-in_err-read_block-clause-put
returns-in_err-read_block-clause-put g c = λ T r e at.
    absurd (not_ok (c.in_err-read_block.ensures.reached 3 (root c.in_ok-root.ensures.root.at c.in_ok-root.ensures.root.there)))

pub returns-clause-put : goal.returns-clause-put
returns-clause-put g c = λ T r e at.
    let old = g.S.Store.state_of c.args.store.now in
    let new = g.S.Store.state_of c.put.new.store in
    let same = same_root (latest old.lives) _ c.in_ok-root.root r c.in_ok-root.ensures.root at in
    let read = c.in_ok-read_block.ensures in (
      ap (λ (b : ℕ). length (latest old.lives b)) (sym same) ∙ (ap length read.bytes ∙ read.whole),
      subst (λ (b : ℕ). Proposed T c.args.fs.number b (first_pointer c.args.block) old new c.put.result) same
          (subst (λ (bs : List ℕ). Proposed T c.args.fs.number c.in_ok-root.root (edit_at 0 bs ((c.args.block, 4) ∷ []) [] None) old new c.put.result) c.pointer_bytes-bytes.ensures.bytes (c.put.ensures.put T e)),
    )
