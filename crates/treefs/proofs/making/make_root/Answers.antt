use Rattle.std.proofs.Common.{ℕ, List, Err, Ok, inl, inr, subst}
use Rattle.xn_model.specs.Types.{Types}
use Rattle.treefs.specs.Committing.{BeginsOne}
use Rattle.treefs.specs.Making.{SetsRoot}
use Rattle.treefs.proofs.making.make_root.Goals as goal

pub returns-in-Ok-clause-makes : goal.returns-in-Ok-clause-makes
returns-in-Ok-clause-makes g c =
    let T = g.S.Store.types_of c.args.store.now in
    let fs = c.args.fs.number in
    let state = g.S.Store.state_of c.args.store.now in
    let middle = g.S.Store.state_of c.begin_one.new.store in
    let new = g.S.Store.state_of c.set_root.new.store in
    inr (
      c.in-Ok.block,
      middle,
      subst (λ (m : List ℕ). BeginsOne T fs (record { ty = c.args.types.inode; bytes = m }) state middle (Ok c.in-Ok.block)) c.root_block-root.ensures c.in-Ok.ensures.begins,
      subst (λ (t : Types). SetsRoot t fs c.in-Ok.block middle new c.set_root.result) c.begin_one.ensures.types c.set_root.ensures.sets,
    )

pub returns-in-Err-clause-makes : goal.returns-in-Err-clause-makes
returns-in-Err-clause-makes g c =
    let T = g.S.Store.types_of c.args.store.now in
    let fs = c.args.fs.number in
    let state = g.S.Store.state_of c.args.store.now in
    let middle = g.S.Store.state_of c.begin_one.new.store in
    inl (subst (λ (m : List ℕ). BeginsOne T fs (record { ty = c.args.types.inode; bytes = m }) state middle (Err c.in-Err.fault)) c.root_block-root.ensures c.in-Err.ensures.begins)
