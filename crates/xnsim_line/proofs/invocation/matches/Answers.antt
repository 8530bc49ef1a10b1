use Rattle.std.proofs.Common.{◌∙◌, map, ap, string_bytes}
use Rattle.std.proofs.lemmas.Result.{IfErr-weaker}
use Rattle.clap.specs.Words.{takes}
use Rattle.xnsim_line.proofs.invocation.matches.Goals as goal

pub returns-clause-refused : goal.returns-clause-refused
returns-clause-refused c =
    let parse = c.try_get_matches_from in
    IfErr-weaker parse.result _ _ (λ error wants taken. wants (ap (λ app. takes app (map string_bytes c.args.words.now)) c.in_ok-program.ensures ∙ taken)) parse.ensures.passes
