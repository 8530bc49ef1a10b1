use Rattle.std.proofs.Common.{ℕ, List, Err, Ok, refl, subst}
use Rattle.treefs.specs.Creating.{NewDoes}
use Rattle.treefs.proofs.volume.Volume.create.Goals as goal

pub returns-in-Ok-clause-does : goal.returns-in-Ok-clause-does
returns-in-Ok-clause-does g c =
    let T = g.S.Store.types_of c.args.store.now in
    let state = g.S.Store.state_of c.args.store.now in
    let state' = g.S.Store.state_of c.make.new.store in (
      Ok c.in-Ok.plan,
      subst (λ (i : List ℕ). NewDoes T state state' c.args.self.now c.make.new.self c.args.directory c.args.name.now i (Ok c.in-Ok.plan)) c.new_block-inode.ensures c.in-Ok.ensures.does,
      refl,
    )

pub returns-in-Err-clause-does : goal.returns-in-Err-clause-does
returns-in-Err-clause-does g c =
    let T = g.S.Store.types_of c.args.store.now in
    let state = g.S.Store.state_of c.args.store.now in
    let state' = g.S.Store.state_of c.make.new.store in (
      Err c.in-Err.fault,
      subst (λ (i : List ℕ). NewDoes T state state' c.args.self.now c.make.new.self c.args.directory c.args.name.now i (Err c.in-Err.fault)) c.new_block-inode.ensures c.in-Err.ensures.does,
      refl,
    )
