use Rattle.std.proofs.Common.{◌≡◌, [], ◌∷◌, Err}
use Rattle.xn_model.specs.Lives.{StoreState}
use Rattle.treefs_session.specs.Values.{Volume}
use Rattle.treefs_session.specs.Freeing.{Syncs}
use Rattle.tree_lines.proofs.Answered.{kept}
use Rattle.tree_lines.proofs.opened.Opened.sync.Goals as goal

pub returns-in-Ok-clause-written : goal.returns-in-Ok-clause-written
returns-in-Ok-clause-written g c =
    let old = c.args.self.now.session in
    let new = c.sync.new.self in
    c.closes_and_syncs_write.ensures.syncs (g.S.Store.types_of old.store) (c.args.self.now.folder ∷ []) (g.S.Store.state_of old.store)
    (g.S.Store.state_of new.store) old.volume new.volume c.in-Ok.ensures.does

pub returns-in-Err-clause-does : goal.returns-in-Err-clause-does
returns-in-Err-clause-does g c =
    let self = c.args.self.now in
    let T = g.S.Store.types_of self.session.store in
    let old = g.S.Store.state_of self.session.store in
    let after = c.sync.new.self in
    let told = c.fault_at.new.self.session in
    let state_is : g.S.Store.state_of told.store ≡ g.S.Store.state_of after.store = rw c.fault_at.ensures.session in
    let volume_is : told.volume ≡ after.volume = rw c.fault_at.ensures.session in (
      c.in-Err.fault,
      kept (λ (new : StoreState) (volume : Volume). Syncs T (self.folder ∷ []) old new self.session.volume volume (Err c.in-Err.fault))
          (g.S.Store.state_of after.store) (g.S.Store.state_of told.store) after.volume told.volume state_is volume_is c.in-Err.ensures.does,
    )
