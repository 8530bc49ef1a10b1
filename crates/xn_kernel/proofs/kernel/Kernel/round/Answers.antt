use Rattle.std.proofs.Common.{refl, inl, inr, arith}
use Rattle.xn_model.specs.Calls.{begun_of}
use Rattle.xn_model.proofs.ForCallers.{picked_begins}
use Rattle.xn_kernel.proofs.Draining.{wrote, never_err, ends_unsynced, finish_refused, finish_done}
use Rattle.xn_kernel.proofs.kernel.Kernel.round.Goals as goal

pub unreachable-requires : goal.unreachable-requires
unreachable-requires g c =
    let store = c.args.self.now.state in
    let picked = picked_begins store c.args.block c.requires.picked in
    never_err (begun_of store c.args.block) _ store c.begin.new.self.state c.in_default.field-0 picked.3 c.in_default.ensures.state

pub returns-in_default-sync-clause-err : goal.returns-in_default-sync-clause-err
returns-in_default-sync-clause-err g c =
    let w = wrote _ _ _ _ _ _ c.args.block c.in-Ok.ticket _ _ c.keeps_rules.ensures c.requires.picked c.in-Ok.ensures.state c.in-Ok.ensures.ticket c.in-Ok.ensures.lanes
    c.land-landed.ensures.ticket c.land-landed.ensures.landed c.land-landed.ensures.old_or_new c.land-landed.ensures.faults_err c.land-landed.ensures.gives in
    (refl, inl (ends_unsynced _ _ _ _ _ _ _ _ _ _ w c.in_default-sync.field-0 c.sync.new.self c.in_default-sync.ensures.gives c.in_default-sync.ensures.faults_err c.in_default-sync.ensures.bytes c.in_default-sync.ensures.err))

pub returns-in-Err-clause-err : goal.returns-in-Err-clause-err
returns-in-Err-clause-err g c =
    let w = wrote _ _ _ _ _ _ c.args.block c.in-Ok.ticket _ _ c.keeps_rules.ensures c.requires.picked c.in-Ok.ensures.state c.in-Ok.ensures.ticket c.in-Ok.ensures.lanes
    c.land-landed.ensures.ticket c.land-landed.ensures.landed c.land-landed.ensures.old_or_new c.land-landed.ensures.faults_err c.land-landed.ensures.gives in (
      refl,
      inr (finish_refused _ _ _ _ _ _ _ _ _ _ w c.sync.new.self.lane c.in-Ok-sync.ensures.gives c.in-Ok-sync.ensures.bytes c.sync.new.self c.in-Ok-sync.ensures.ok
          c.finish.new.self c.in-Err.ticket c.in-Err.field-0-1 c.in-Err.ensures.mine c.in-Err.ensures.unread c.in-Err.ensures.back.0 c.in-Err.ensures.back.1 c.in-Err.ensures.err),
    )

pub returns-then-landed-gt0-clause-ok : goal.returns-then-landed-gt0-clause-ok
returns-then-landed-gt0-clause-ok g c =
    let w = wrote _ _ _ _ _ _ c.args.block c.in-Ok.ticket _ _ c.keeps_rules.ensures c.requires.picked c.in-Ok.ensures.state c.in-Ok.ensures.ticket c.in-Ok.ensures.lanes
    c.land-landed.ensures.ticket c.land-landed.ensures.landed c.land-landed.ensures.old_or_new c.land-landed.ensures.faults_err c.land-landed.ensures.gives in
    let given = c.in-Ok-finish.ensures.given in
    let done = finish_done _ _ _ _ _ _ _ _ _ _ w c.sync.new.self.lane c.in-Ok-sync.ensures.gives c.in-Ok-sync.ensures.bytes c.sync.new.self c.in-Ok-sync.ensures.ok
    c.finish.new.self c.in-Ok-finish.landed.durable c.in-Ok-finish.landed.freed c.in-Ok-finish.ensures.mine given.0 given.1 given.3 given.4 in
    done.0 c.if-landed-gt0.true

pub returns-else-landed-gt0-clause-err : goal.returns-else-landed-gt0-clause-err
returns-else-landed-gt0-clause-err g c =
    let w = wrote _ _ _ _ _ _ c.args.block c.in-Ok.ticket _ _ c.keeps_rules.ensures c.requires.picked c.in-Ok.ensures.state c.in-Ok.ensures.ticket c.in-Ok.ensures.lanes
    c.land-landed.ensures.ticket c.land-landed.ensures.landed c.land-landed.ensures.old_or_new c.land-landed.ensures.faults_err c.land-landed.ensures.gives in
    let given = c.in-Ok-finish.ensures.given in
    let done = finish_done _ _ _ _ _ _ _ _ _ _ w c.sync.new.self.lane c.in-Ok-sync.ensures.gives c.in-Ok-sync.ensures.bytes c.sync.new.self c.in-Ok-sync.ensures.ok
    c.finish.new.self c.in-Ok-finish.landed.durable c.in-Ok-finish.landed.freed c.in-Ok-finish.ensures.mine given.0 given.1 given.3 given.4 in
    (refl, done.1 (omega (arith, c.if-landed-gt0.false)))
