use Rattle.std.proofs.Common.{◌∙◌, ap, refl, subst, sym}
use Rattle.xn_model.specs.Calls.{pick_of}
use Rattle.xn_state.specs.Answers.{StateAnswers}
use Rattle.xn_state.specs.States.{own_types}
use Rattle.xn_state.specs.declared.answer.Answer.TheVariants as answer
use Rattle.xn_kernel.proofs.kernel.Kernel.call_into.Goals as goal

pub returns-in-Pick-clause-answer : goal.returns-in-Pick-clause-answer
returns-in-Pick-clause-answer g c =
    let state = c.args.self.now.state in
    subst (λ call. StateAnswers (own_types state) state c.args.fs.number call state (answer.Pick c.pick.result)) (sym c.in-Pick.is)
    (ap answer.Pick (c.pick.ensures ∙ ap pick_of c.state-in-Pick.ensures), refl)
