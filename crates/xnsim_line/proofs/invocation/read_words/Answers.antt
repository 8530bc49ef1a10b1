use Rattle.std.proofs.Common.{◌≡◌, List, ℕ, length, map, string_bytes}
use Rattle.std.proofs.lemmas.List.{length-map}
use Rattle.clap.specs.Words.{kind_of}
use Rattle.xnsim_line.proofs.CommandLines.{refused_is_no_line}
use Rattle.xnsim_line.proofs.invocation.read_words.Goals as goal

pub returns-in_err-matches-clause-usage : goal.returns-in_err-matches-clause-usage
returns-in_err-matches-clause-usage c =
    let start : List (List ℕ) = map string_bytes c.args.start.now in
    let rest : List (List ℕ) = map string_bytes c.args.rest.now in
    let three : length start ≡ 3 = rw length-map c.requires in
    refused_is_no_line start rest (kind_of c.in_err-matches.field-0.0) c.from_residual.result three c.in_err-matches.ensures.refused c.from_residual.ensures.1
