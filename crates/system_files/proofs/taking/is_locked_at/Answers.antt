use Rattle.std.proofs.Common.{is_ok}
use Rattle.system_files.specs.Calls.{Compare, Lock, is_yes}
use Rattle.system_files.proofs.Made.{looked_on, looked_once, looked_same}
use Rattle.system_files.proofs.taking.is_locked_at.Goals as goal

pub returns-in_err-lock-clause-looked : goal.returns-in_err-lock-clause-looked
returns-in_err-lock-clause-looked g c =
    let old = g.Y.System.calls c.args.system.now in
    let mid = g.Y.System.calls c.kind.new.self in
    looked_on old mid (g.Y.System.calls c.lock.new.self) (looked_same old mid c.kind.ensures) (looked_once mid _ (Lock, is_ok c.lock.result) tt c.lock.ensures)

pub returns-clause-looked : goal.returns-clause-looked
returns-clause-looked g c =
    let old = g.Y.System.calls c.args.system.now in
    let mid = g.Y.System.calls c.kind.new.self in
    let last = g.Y.System.calls c.lock.new.self in
    looked_on old last (g.Y.System.calls c.is_at.new.self)
    (looked_on old mid last (looked_same old mid c.kind.ensures) (looked_once mid last (Lock, is_ok c.lock.result) tt c.lock.ensures))
    (looked_once last _ (Compare c.args.path.now, is_yes c.is_at.result) tt c.is_at.ensures)
