use Rattle.std.proofs.Common.{rules}
use Rattle.xnfs_line.proofs.Statuses.{nothing_left}
use Rattle.xnfs_line.proofs.lines.run_alone.Goals as goal

-- the word had a fault
pub returns-in_err-done-clause-does : goal.returns-in_err-done-clause-does
returns-in_err-done-clause-does g c =
    let ran = c.run_word-done in (ran.new.opened.told, ran.result, ran.ensures.folder, ran.ensures.does, search rules)

-- it is done, but for what was left out
pub returns-clause-does : goal.returns-clause-does
returns-clause-does g c =
    let ran = c.run_word-done in (
      ran.new.opened.told,
      ran.result,
      ran.ensures.folder,
      ran.ensures.does,
      (
        search rules,
        nothing_left c.status_of-status.result ran.new.opened.told.faults.items c.take.result.items c.deref.result.now c.deref.ensures.value
            c.take.ensures c.status_of-status.ensures,
      ),
    )
