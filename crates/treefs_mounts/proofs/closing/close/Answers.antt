use Rattle.std.proofs.Common.{◌≡◌, ◌∙◌, Err, Ok, inl, inr, subst, true}
use Rattle.xn_model.specs.Types.{Types}
use Rattle.treefs_mounts.specs.Flushing.{FlushesVolume, Marks}
use Rattle.treefs_mounts.proofs.closing.close.Goals as goal

pub returns-in-Err-flush_volume-clause-does : goal.returns-in-Err-flush_volume-clause-does
returns-in-Err-flush_volume-clause-does g c =
    let reaped = g.S.Store.state_of c.reap_orphans.new.store in
    let between = c.reap_orphans.new.volume in
    let new = g.S.Store.state_of c.flush_volume.new.store in
    let volume = c.flush_volume.new.volume in
    let flushes = subst (λ (t : Types). FlushesVolume t reaped new between volume (Err c.in-Err-flush_volume.fault)) c.reap_orphans.ensures.types c.in-Err-flush_volume.ensures.does in
    inr (reaped, between, c.in_default.ensures.does, inl flushes)

pub returns-clause-does : goal.returns-clause-does
returns-clause-does g c =
    let T = g.S.Store.types_of c.args.store.now in
    let reaped = g.S.Store.state_of c.reap_orphans.new.store in
    let between = c.reap_orphans.new.volume in
    let written = g.S.Store.state_of c.flush_volume.new.store in
    let volume = c.flush_volume.new.volume in
    let new = g.S.Store.state_of c.mark.new.store in
    let types : g.S.Store.types_of c.flush_volume.new.store ≡ T = c.flush_volume.ensures.types ∙ c.reap_orphans.ensures.types in
    let flushes = subst (λ (t : Types). FlushesVolume t reaped written between volume (Ok tt)) c.reap_orphans.ensures.types c.in_default-flush_volume.ensures.does in
    let marks = subst (λ (t : Types). Marks t written new volume true c.mark.result) types c.mark.ensures.does in
    inr (reaped, between, c.in_default.ensures.does, inr (written, flushes, marks))
