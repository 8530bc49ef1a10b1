use Rattle.std.proofs.Common.{rules, ◌≡◌, ◌∙◌, refl}
use Rattle.std.specs.Prelude.{max}
use Rattle.xnfs_line.specs.Shells.{ended_status}
use Rattle.xnfs_line.specs.Shells.ShellRuns.{begins}
use Rattle.xnfs_line.proofs.ShellTurns.{nothing_told, one_more}
use Rattle.xnfs_line.proofs.shell.run_shell.Goals as goal

pub loop-number-init : goal.loop-number-init
loop-number-init g c = record { types = refl; runs = begins }

-- one more line
pub loop-number-preserved : goal.loop-number-preserved
loop-number-preserved g c =
    let greatest : c.max-status.result ≡ max c.loop-number.status (ended_status c.in-Some.ended) = search rules in
    record {
      types = c.in_ok-ended.ensures.types ∙ c.loop-number.invariant.types;
      runs = one_more _ _ c.loop-number.invariant.types _ _ _ _ _ _ _ _ _ _ _ c.loop-number.invariant.runs c.in_ok-ended.field-0 c.in-Some.ended
          c.max-status.result c.in-Some.is greatest c.in_ok-ended.ensures.does;
    }

-- and then a stream fails
pub returns-in_err-flush-clause-does : goal.returns-in_err-flush-clause-does
returns-in_err-flush-clause-does g c =
    let greatest : c.max-status.result ≡ max c.loop-number.status (ended_status c.in-Some.ended) = search rules in (
      c.max-status.result,
      one_more _ _ c.loop-number.invariant.types _ _ _ _ _ _ _ _ _ _ _ c.loop-number.invariant.runs c.in_ok-ended.field-0 c.in-Some.ended
          c.max-status.result c.in-Some.is greatest c.in_ok-ended.ensures.does,
      nothing_told _ _ c.from_residual-in_err-flush.ensures.0,
    )

-- no further line is read
pub returns-then-not-goes_on-clause-does : goal.returns-then-not-goes_on-clause-does
returns-then-not-goes_on-clause-does g c =
    let greatest : c.max-status.result ≡ max c.loop-number.status (ended_status c.in-Some.ended) = search rules in (
      c.max-status.result,
      one_more _ _ c.loop-number.invariant.types _ _ _ _ _ _ _ _ _ _ _ c.loop-number.invariant.runs c.in_ok-ended.field-0 c.in-Some.ended
          c.max-status.result c.in-Some.is greatest c.in_ok-ended.ensures.does,
      refl,
    )
