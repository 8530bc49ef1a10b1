use Rattle.std.proofs.Common.{◌∙◌, Some, ap, refl, sym}
use Rattle.templates.specs.Meaning.{answer_of}
use Rattle.templates.specs.Tables.{table_types}
use Rattle.templates.proofs.ForCallers.{tells}
use Rattle.crash_check.proofs.LookedUp.{size-told}
use Rattle.crash_check.proofs.known.size_of_all.Goals as goal

pub returns-in-Some : goal.returns-in-Some
unfolding answer_of
returns-in-Some c =
    let T = table_types c.args.table.now in
    let told = tells c.args.table.now T c.args.ty (Some c.in-Some.template.now) c.in-Some.ensures.value refl in
    size-told c.constant_size.result (T.size c.args.ty) _ c.constant_size.ensures.small c.constant_size.ensures.answer
    (λ m. told.size m ∙ ap (λ p. answer_of p m) (sym c.size.ensures.value))
