use Rattle.std.proofs.Common.{◌∙◌, sym, inl, inr, refl}
use Rattle.shared.proofs.Turns.{has_written, has_synced, turn_unsynced}
use Rattle.shared.proofs.flusher.Flusher+Hub+L+K+G.turn.Goals as goal

pub returns-then-is_err-clause-err : goal.returns-then-is_err-clause-err
returns-then-is_err-clause-err g c =
    let written = has_written g.L.Lane.bytes_of g.L.Lane.crash_leaves g.L.Lane.faults_of g.L.Lane.write_gives g.L.Lane.sync_gives g.L.Lane.read_gives
    c.args.ticket c.land-written.new.self c.land-written.result c.requires c.land-written.ensures.ticket c.land-written.ensures.gives c.land-written.ensures.faults_err in
    inl (
      refl,
      turn_unsynced g.L.Lane.bytes_of g.L.Lane.crash_leaves g.L.Lane.faults_of g.L.Lane.write_gives g.L.Lane.sync_gives g.L.Lane.read_gives
          c.land-written.new.self c.sync.new.self c.land-written.result c.sync.result
          (sym c.is_err.ensures.value ∙ c.if-is_err.true) written c.sync.ensures.gives c.sync.ensures.bytes c.sync.ensures.err,
    )

pub returns-in-Ok-clause-ok : goal.returns-in-Ok-clause-ok
returns-in-Ok-clause-ok g c =
    let written = has_written g.L.Lane.bytes_of g.L.Lane.crash_leaves g.L.Lane.faults_of g.L.Lane.write_gives g.L.Lane.sync_gives g.L.Lane.read_gives
    c.args.ticket c.land-written.new.self c.land-written.result c.requires c.land-written.ensures.ticket c.land-written.ensures.gives c.land-written.ensures.faults_err in
    record {
      ticket = c.sync.new.self;
      synced = has_synced g.L.Lane.bytes_of g.L.Lane.crash_leaves g.L.Lane.faults_of g.L.Lane.write_gives g.L.Lane.sync_gives g.L.Lane.read_gives
          c.land-written.new.self c.sync.new.self c.land-written.result c.sync.result
          (sym c.is_err.ensures.value ∙ c.if-is_err.false) written c.sync.ensures.gives c.sync.ensures.bytes c.sync.ensures.ok;
      finished = c.in-Ok.ensures.ok;
    }

pub returns-in-Err-clause-err : goal.returns-in-Err-clause-err
returns-in-Err-clause-err g c =
    let written = has_written g.L.Lane.bytes_of g.L.Lane.crash_leaves g.L.Lane.faults_of g.L.Lane.write_gives g.L.Lane.sync_gives g.L.Lane.read_gives
    c.args.ticket c.land-written.new.self c.land-written.result c.requires c.land-written.ensures.ticket c.land-written.ensures.gives c.land-written.ensures.faults_err in
    inr (record {
      answer = c.land-written.result;
      ticket = c.sync.new.self;
      synced = has_synced g.L.Lane.bytes_of g.L.Lane.crash_leaves g.L.Lane.faults_of g.L.Lane.write_gives g.L.Lane.sync_gives g.L.Lane.read_gives
          c.land-written.new.self c.sync.new.self c.land-written.result c.sync.result
          (sym c.is_err.ensures.value ∙ c.if-is_err.false) written c.sync.ensures.gives c.sync.ensures.bytes c.sync.ensures.ok;
      refused = c.in-Err.ensures.err;
    })
