use Rattle.std.proofs.Common.{◌≡◌}
use Rattle.xn_kernel.specs.States.{own_types}
use Rattle.xn_model.specs.Worlds.{all_pending}
use Rattle.xn_kernel.proofs.ForCallers.{nothing_left, refused_goes, refused_state, waves_go, waves_of_state}
use Rattle.flush_store.specs.Written.{AllWritten}
use Rattle.flush_store.proofs.Kept.{always}
use Rattle.flush_store.proofs.Told.{if_err, if_ok, on_ok}
use Rattle.flush_store.proofs.flushing.KernelFlushStore.flush.Goals as goal

pub returns-clause-waves : goal.returns-clause-waves
returns-clause-waves g c =
    if_ok (λ stop. stop.refusal) c.waves_of.result c.flush-flushed.result _ _ c.waves_of.ensures c.flush-flushed.ensures.waves
    (λ n w. waves_of_state g.L.Lane.bytes_of g.L.Lane.faults_of g.L.Lane.write_gives g.L.Lane.sync_gives g.L.Lane.read_gives n c.args.self.now c.flush-flushed.new.self w)

pub returns-clause-err : goal.returns-clause-err
returns-clause-err g c =
    if_err (λ stop. stop.refusal) c.waves_of.result c.flush-flushed.result _ _ c.waves_of.ensures c.flush-flushed.ensures.err
    (λ stop r. refused_state g.L.Lane.bytes_of g.L.Lane.faults_of g.L.Lane.write_gives g.L.Lane.sync_gives g.L.Lane.read_gives c.args.self.now c.flush-flushed.new.self
    stop.waves stop.tickets.items stop.refusal r)

pub returns-clause-types : goal.returns-clause-types
returns-clause-types g c =
    let old = c.args.self.now.state in
    let new = c.flush-flushed.new.self.state in
    always c.waves_of.result old new (own_types new ≡ own_types old) (returns-clause-waves g c) (returns-clause-err g c)
    (λ n w. (waves_go (own_types old) n old new c.keeps_rules.ensures.rules w).types)
    (λ r s. (refused_goes (own_types old) old new r c.keeps_rules.ensures.rules s).types)

pub returns-clause-done : goal.returns-clause-done
returns-clause-done g c =
    on_ok (λ stop. stop.refusal) c.waves_of.result c.flush-flushed.result (all_pending _ ≡ 0) (AllWritten _) c.waves_of.ensures c.flush-flushed.ensures.done (nothing_left _)
