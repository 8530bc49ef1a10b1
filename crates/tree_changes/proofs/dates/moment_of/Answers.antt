use Rattle.std.proofs.Common.{rules}
use Rattle.tree_changes.proofs.Moments.{civil_told, no_civil}
use Rattle.tree_changes.proofs.dates.moment_of.Goals as goal

pub returns-in-Ok : goal.returns-in-Ok
returns-in-Ok c =
    civil_told c.args.day c.args.clock c.args.nanoseconds c.in-Ok.moment c.in_ok-ok.field-0 c.in_ok-ok-2.field-0 c.in_ok-ok-3.field-0 c.in_ok-ok-4.field-0
    c.in_ok-ok-5.field-0 c.in_ok-ok-6.field-0 c.in_ok-ok-7.field-0 (search rules) (search rules) (search rules) (search rules) (search rules) (search rules)
    (search rules) (search rules) (search rules) (search rules) (search rules)

pub returns-in-Err : goal.returns-in-Err
returns-in-Err c =
    no_civil c.args.day c.args.clock c.args.nanoseconds c.in_ok-ok.field-0 c.in_ok-ok-2.field-0 c.in_ok-ok-3.field-0 c.in_ok-ok-4.field-0
    c.in_ok-ok-5.field-0 c.in_ok-ok-6.field-0 c.in_ok-ok-7.field-0 (search rules) (search rules) (search rules) (search rules) (search rules) (search rules)
    (search rules) (λ date time. search rules)
