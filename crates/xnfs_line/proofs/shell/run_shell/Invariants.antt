use Rattle.std.proofs.Common.{◌≡◌}
use Rattle.xnfs_line.specs.Shells.{ShellRuns}
use Rattle.xnfs_line.proofs.shell.run_shell.Given as goal

abbrev pub invariant-loop-number : goal.invariant-loop-number
invariant-loop-number g l =
    let T = g.S.Store.types_of l.fn.opened.session.store in
    record {
      types : g.S.Store.types_of l.opened.session.store ≡ T;
      runs : ShellRuns T l.fn.shell.is_lazy l.status l.fn.opened.folder l.opened.folder (g.S.Store.state_of l.fn.opened.session.store)
          (g.S.Store.state_of l.opened.session.store) l.fn.opened.session.volume l.opened.session.volume;
    }
