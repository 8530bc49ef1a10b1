use Rattle.std.proofs.Common.{inl, refl, subst}
use Rattle.xnfs_line.specs.Shells.{ShellLineDoes, ended_status}
use Rattle.xnfs_line.proofs.ShellTurns.{at_time}
use Rattle.xnfs_line.proofs.shell.run_next.Goals as goal

-- nothing is done
pub returns-in-TooLong-clause-does : goal.returns-in-TooLong-clause-does
returns-in-TooLong-clause-does g c = (c.args.opened.now.session.volume.memory.clock, inl (refl, (refl, refl)))

-- the line is done, at the time of the clock
pub returns-in_ok-time_of-in-Line-clause-does : goal.returns-in_ok-time_of-in-Line-clause-does
returns-in_ok-time_of-in-Line-clause-does g c =
    let first = c.args.opened.now in
    let before = c.set_clock.new.self in
    let after = c.run_bytes.new.opened in
    let lazy = c.args.asked.0.is_lazy in
    let status = ended_status c.run_bytes.result in
    at_time (g.S.Store.types_of first.session.store) lazy status first.folder after.folder (g.S.Store.state_of first.session.store)
    (g.S.Store.state_of after.session.store) first.session.volume before.volume after.session.volume _ c.set_clock.ensures.volume
    (subst (λ store. ShellLineDoes (g.S.Store.types_of store) lazy status first.folder after.folder (g.S.Store.state_of store)
    (g.S.Store.state_of after.session.store) before.volume after.session.volume) c.set_clock.ensures.store c.run_bytes.ensures.does)
