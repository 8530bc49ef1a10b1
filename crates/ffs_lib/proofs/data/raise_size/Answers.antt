use Rattle.std.proofs.Common.{◌∙◌, ◌*◌, ◌<◌, ◌≤◌, ℕ, List, [], Err, Ok, ap, arith, subst, sym, w32}
use Rattle.std.specs.Prelude.{⊤}
use Rattle.ffs_lib.proofs.Common.{IsLibrary, latest, propose_of, put, to_le_bytes, word_at}
use Rattle.ffs_lookup.proofs.ForCallers.{same_ok}
use Rattle.ffs_lib.specs.Edits.{edit_at}
use Rattle.ffs_lib.specs.Outcomes.{IsRaised}
use Rattle.ffs_lib.proofs.Tests.{never}
use Rattle.ffs_lib.proofs.DataLaws.{raises, size_short}
use Rattle.ffs_lib.specs.WriteOrder.{size_action}
use Rattle.ffs_lib.proofs.Actions.{size_acts, size_stays}
use Rattle.ffs_lib.proofs.Orders.{act_err}
use Rattle.ffs_lib.proofs.Laws.{at_home, fails, home_of, same_stage, short_told}
use Rattle.ffs_lib.proofs.Waiting.{size_shows}
use Rattle.ffs_lib.proofs.data.raise_size.Goals as goal

pub returns-in_err-block-clause-ends : goal.returns-in_err-block-clause-ends
returns-in_err-block-clause-ends g c = λ T array inode e s is given.
    absurd (never inode _ (is ∙ sym (c.in_err-block.ensures.exact (subst IsLibrary (sym e) s.library))))

pub returns-in_err-put_inode-clause-ends : goal.returns-in_err-put_inode-clause-ends
returns-in_err-put_inode-clause-ends g c = λ T array inode e s is given.
    let found = c.in_ok-block.field-0 in
    let exact = c.in_ok-block.ensures.exact (subst IsLibrary (sym e) s.library) in
    let edit = edit_at (64 * found.place) c.set_size.new.self [] [] c.args.after in
    let p = c.in_err-put_inode.ensures.put T e in
    let less : word_at found.inode 4 < c.args.size = omega arith in
    fails _ _ (same_stage s p.0) c.from_residual-in_err-put_inode.result _ c.from_residual-in_err-put_inode.ensures.1 (
      short_told (propose_of T _ _ found.block edit) (size_short T _ array _ s c.args.number found c.in_ok-block.ensures.found exact c.set_size.new.self c.put_inode.ensures.whole c.args.size c.set_size.ensures.fields c.args.after given) _ p.1,
      (subst (λ (m : List ℕ). word_at m 4 < c.args.size) (same_ok found.inode inode (exact ∙ sym is)) less, at_home T _ _ _ c.args.number found.block found.place c.in_ok-block.ensures.found.is.stands p.0 _ (edit, p.1)),
    )

pub returns-in_ok-put_inode-clause-ends : goal.returns-in_ok-put_inode-clause-ends
returns-in_ok-put_inode-clause-ends g c = λ T array inode e s is given.
    let old = g.S.Store.state_of c.args.store.now in
    let new = g.S.Store.state_of c.put_inode.new.store in
    let exact = c.in_ok-block.ensures.exact (subst IsLibrary (sym e) s.library) in
    let less : word_at c.in_ok-block.field-0.inode 4 < c.args.size = omega arith in
    let x = raises T c.args.fs.number array old s c.args.number _ c.in_ok-block.ensures.found exact c.set_size.new.self c.put_inode.ensures.whole c.args.size c.set_size.ensures.fields c.args.after new _ less (c.in_ok-put_inode.ensures.put T e) in
    (x.0, (subst (λ (m : List ℕ). IsRaised (latest old.lives) (latest new.lives) c.args.fs.number c.args.number m c.args.size) (same_ok c.in_ok-block.field-0.inode inode (exact ∙ sym is)) x.1, x.2))

pub returns-in_err-block-clause-order : goal.returns-in_err-block-clause-order
returns-in_err-block-clause-order g c = λ T array inode e s is.
    absurd (never inode _ (is ∙ sym (c.in_err-block.ensures.exact (subst IsLibrary (sym e) s.library))))

pub returns-in_err-put_inode-clause-order : goal.returns-in_err-put_inode-clause-order
returns-in_err-put_inode-clause-order g c = λ T array inode e s is.
    let old = g.S.Store.state_of c.args.store.now in
    let found = c.in_ok-block.field-0 in
    let at = c.in_ok-block.ensures.found.is.stands in
    let mine = same_ok found.inode inode (c.in_ok-block.ensures.exact (subst IsLibrary (sym e) s.library) ∙ sym is) in
    let less : word_at found.inode 4 < c.args.size = omega arith in
    let acts = size_acts T _ c.args.number old _ inode c.args.size c.args.after is found.block found.place c.set_size.new.self (home_of old _ c.args.number found.block found.place at) at.at
    (c.set_size.ensures.bytes ∙ ap (λ (m : List ℕ). put m 4 (to_le_bytes w32 c.args.size)) mine) (subst (λ (m : List ℕ). word_at m 4 < c.args.size) mine less) (Err c.in_err-put_inode.field-0.0) (c.in_err-put_inode.ensures.put T e) in
    (act_err T _ (size_action (latest old.lives) _ c.args.number c.args.size c.args.after) old _ acts (λ x. ⊤) _ c.from_residual-in_err-put_inode.result c.from_residual-in_err-put_inode.ensures.1).0

pub returns-in_ok-put_inode-clause-order : goal.returns-in_ok-put_inode-clause-order
returns-in_ok-put_inode-clause-order g c = λ T array inode e s is.
    let found = c.in_ok-block.field-0 in
    let at = c.in_ok-block.ensures.found.is.stands in
    let mine = same_ok found.inode inode (c.in_ok-block.ensures.exact (subst IsLibrary (sym e) s.library) ∙ sym is) in
    let less : word_at found.inode 4 < c.args.size = omega arith in
    size_acts T _ c.args.number _ _ inode c.args.size c.args.after is found.block found.place c.set_size.new.self (home_of _ _ c.args.number found.block found.place at) at.at
    (c.set_size.ensures.bytes ∙ ap (λ (m : List ℕ). put m 4 (to_le_bytes w32 c.args.size)) mine) (subst (λ (m : List ℕ). word_at m 4 < c.args.size) mine less) (Ok c.in_ok-put_inode.field-0) (c.in_ok-put_inode.ensures.put T e)

pub returns-else-size-clause-order : goal.returns-else-size-clause-order
returns-else-size-clause-order g c = λ T array inode e s is.
    let mine = same_ok c.in_ok-block.field-0.inode inode (c.in_ok-block.ensures.exact (subst IsLibrary (sym e) s.library) ∙ sym is) in
    let more : c.args.size ≤ word_at c.in_ok-block.field-0.inode 4 = omega arith in
    size_stays T c.args.fs.number c.args.number (g.S.Store.state_of c.args.store.now) (g.S.Store.state_of c.args.store.now) inode c.args.size c.args.after is (subst (λ (m : List ℕ). c.args.size ≤ word_at m 4) mine more)

pub returns-in_ok-put_inode-clause-cuts : goal.returns-in_ok-put_inode-clause-cuts
returns-in_ok-put_inode-clause-cuts g c = λ T array inode last zeroth e s is less same h on.
    let found = c.in_ok-block.field-0 in
    size_shows T _ array zeroth _ (g.S.Store.state_of c.put_inode.new.store) h s _ found.block (home_of _ _ _ found.block found.place c.in_ok-block.ensures.found.is.stands) (edit_at (64 * found.place) c.set_size.new.self [] [] c.args.after) c.in_ok-put_inode.field-0 (c.in_ok-put_inode.ensures.put T e) last same on

pub returns-else-size-clause-cuts : goal.returns-else-size-clause-cuts
returns-else-size-clause-cuts g c = λ T array inode last zeroth e s is less same h on.
    let mine = same_ok c.in_ok-block.field-0.inode inode (c.in_ok-block.ensures.exact (subst IsLibrary (sym e) s.library) ∙ sym is) in
    let more : c.args.size ≤ word_at c.in_ok-block.field-0.inode 4 = omega arith in
    let most = subst (λ (m : List ℕ). c.args.size ≤ word_at m 4) mine more in
    absurd (omega (arith, less, most))
