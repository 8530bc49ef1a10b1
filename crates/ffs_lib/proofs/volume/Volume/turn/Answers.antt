use Rattle.std.proofs.Common.{◌≡◌, ◌∙◌, ◌*◌, ℕ, List, [], Some, ap, subst, sym, w16}
use Rattle.ffs_lib.proofs.Common.{IsLibrary, Slot, latest, to_le_bytes}
use Rattle.ffs_lookup.proofs.ForCallers.{same_ok}
use Rattle.ffs_lib.specs.Edits.{edit_at}
use Rattle.ffs_lib.specs.Orders.{Orders, turned_edits}
use Rattle.ffs_lib.specs.Replacing.{Turned}
use Rattle.ffs_lib.specs.Steps.{Ends, MayLose, Proposed, Wants}
use Rattle.ffs_lib.proofs.Tests.{never}
use Rattle.ffs_lib.proofs.Laws.{finishes}
use Rattle.ffs_lib.proofs.Orders.{numbered, one_order}
use Rattle.ffs_lib.proofs.PairLaws.{pairs_put_turned}
use Rattle.ffs_lib.proofs.TurnLaws.{turns, turns_short}
use Rattle.ffs_lib.proofs.volume.Volume.turn.Goals as goal

pub returns-in_err-slot-clause-ends : goal.returns-in_err-slot-clause-ends
returns-in_err-slot-clause-ends g c = λ T array slot e s named apart m. absurd (never slot _ (named ∙ sym (c.in_err-slot.ensures.exact (subst IsLibrary (sym e) s.library))))

pub returns-clause-ends : goal.returns-clause-ends
returns-clause-ends g c = λ T array slot e s named apart m.
    let old = g.S.Store.state_of c.args.store.now in
    let new = g.S.Store.state_of c.put.new.store in
    let fs = c.args.self.now.fs.number in
    let at = c.in_ok-slot.slot in
    let same : at ≡ slot = same_ok at slot (c.in_ok-slot.ensures.exact (subst IsLibrary (sym e) s.library) ∙ sym named) in
    let is = c.in_ok-slot.ensures.slot in
    let edit = edit_at (32 * at.place) (to_le_bytes w16 _) [] [] (Some c.args.after) in
    subst (λ (y : Slot). Ends T fs array new c.put.result (λ d. Turned (latest old.lives) (latest new.lives) fs y c.args.inode × MayLose new fs y.inode d) (λ fault. (new ≡ old) × Wants T old fs y.block fault)) same
    (finishes T fs at.block edit array old new _ _ s c.put.result
    (subst (λ (bytes : List ℕ). Proposed T fs at.block (edit_at (32 * at.place) bytes [] [] (Some c.args.after)) old new c.put.result) c.to_le_bytes-number.ensures (c.put.ensures.put T e)) (turns_short T fs array old s at is _ c.args.after c.ranges.inode.fits m)
    (turns T fs array old s at is _ c.args.after c.ranges.inode.fits m new (λ z. apart (sym (ap (λ (y : Slot). y.inode) same) ∙ z))) (λ fault left told. (left, (edit, told))))

pub returns-in_err-slot-clause-pairs : goal.returns-in_err-slot-clause-pairs
returns-in_err-slot-clause-pairs g c = λ T array first from slot e s named same x. absurd (never slot _ (named ∙ sym (c.in_err-slot.ensures.exact (subst IsLibrary (sym e) s.library))))

pub returns-clause-pairs : goal.returns-clause-pairs
returns-clause-pairs g c = λ T array first from slot e s named same x.
    let old = g.S.Store.state_of c.args.store.now in
    let new = g.S.Store.state_of c.put.new.store in
    let fs = c.args.self.now.fs.number in
    let at = c.in_ok-slot.slot in
    let one : at ≡ slot = same_ok at slot (c.in_ok-slot.ensures.exact (subst IsLibrary (sym e) s.library) ∙ sym named) in
    let put = subst (λ (bytes : List ℕ). Proposed T fs at.block (edit_at (32 * at.place) bytes [] [] (Some c.args.after)) old new c.put.result) c.to_le_bytes-number.ensures (c.put.ensures.put T e) in
    pairs_put_turned T fs array old s at c.in_ok-slot.ensures.slot new first from c.args.inode c.ranges.inode.fits same (Some c.args.after) c.put.result put slot one x

pub returns-in_err-slot-clause-order : goal.returns-in_err-slot-clause-order
returns-in_err-slot-clause-order g c = λ T array slot e s named. absurd (never slot _ (named ∙ sym (c.in_err-slot.ensures.exact (subst IsLibrary (sym e) s.library))))

pub returns-clause-order : goal.returns-clause-order
returns-clause-order g c = λ T array slot e s named.
    let old = g.S.Store.state_of c.args.store.now in
    let new = g.S.Store.state_of c.put.new.store in
    let fs = c.args.self.now.fs.number in
    let at = c.in_ok-slot.slot in
    let same : at ≡ slot = same_ok at slot (c.in_ok-slot.ensures.exact (subst IsLibrary (sym e) s.library) ∙ sym named) in
    let edit = edit_at (32 * at.place) (to_le_bytes w16 c.args.inode) [] [] (Some c.args.after) in
    let done = subst (λ (bytes : List ℕ). Proposed T fs at.block (edit_at (32 * at.place) bytes [] [] (Some c.args.after)) old new c.put.result) c.to_le_bytes-number.ensures (c.put.ensures.put T e) in (
      subst (λ (y : Slot). Orders T fs (turned_edits y c.args.inode c.args.after) old new c.put.result) same (one_order T fs at.block edit old new c.put.result done),
      numbered T fs at.block edit old new c.put.result done,
    )
