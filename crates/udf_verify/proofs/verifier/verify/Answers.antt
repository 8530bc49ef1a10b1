use Rattle.std.proofs.Common.{sym, subst}
use Rattle.udf_verify.specs.Program.{IsChecked}
use Rattle.udf_verify.proofs.Judged.{spelled}
use Rattle.udf_verify.proofs.verifier.verify.Goals as goal

pub new-requires-clause-checked : goal.new-requires-clause-checked
new-requires-clause-checked c =
    let words = c.in-Ok.ensures.items in
    subst (λ w. IsChecked (record { words = w; role = c.args.role })) (sym words) (record { spelled = spelled c.args.words.now c.requires; in_range = c.judge_into.ensures.in_range; accepted = c.in_ok-counts.ensures.accepts })
