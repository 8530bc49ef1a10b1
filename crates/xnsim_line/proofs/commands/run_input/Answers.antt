use Rattle.std.proofs.Common.{rules, subst}
use Rattle.xn_model.specs.Images.{joined}
use Rattle.script.specs.Scripts.{AllSpell}
use Rattle.xnsim_line.proofs.commands.run_input.Goals as goal

pub returns-clause-told : goal.returns-clause-told
returns-clause-told g c =
    let run = c.in_ok-run_script.ensures.run in
    record {
      text = c.in_ok-text_of.field-0.now;
      events = run.0;
      image = joined c.in_ok-run_script.field-0.image;
      read = search rules;
      short = search rules;
      script = subst (λ lines. AllSpell lines run.0) c.in_ok-lines.ensures.lines run.1;
      run = run.2;
    }
