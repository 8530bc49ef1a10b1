use Rattle.std.proofs.Common.{◌∙◌}
use Rattle.std.proofs.lemmas.Option.{none-some, same_Some}
use Rattle.xnsim_line.proofs.CommandLines.{shows_line, name_met, first_met, second_met}
use Rattle.xnsim_line.proofs.invocation.three_words.Goals as goal

pub returns-in_err-name : goal.returns-in_err-name
returns-in_err-name c = λ words found three.
    let line = shows_line words c.args.matches.now found three in
    absurd (none-some line.name (c.in_err-name.ensures.name ∙ name_met words c.args.matches.now line))

pub returns-in_err-get_str : goal.returns-in_err-get_str
returns-in_err-get_str c = λ words found three.
    let line = shows_line words c.args.matches.now found three in
    absurd (none-some line.first (c.in_err-get_str.ensures ∙ first_met words c.args.matches.now line c.in_ok-name.behind.now c.in_ok-name.ensures.rows))

pub returns-in_err-get_str-2 : goal.returns-in_err-get_str-2
returns-in_err-get_str-2 c = λ words found three.
    let line = shows_line words c.args.matches.now found three in
    absurd (none-some line.second (c.in_err-get_str-2.ensures ∙ second_met words c.args.matches.now line c.in_ok-name.behind.now c.in_ok-name.ensures.rows))

pub returns : goal.returns
returns c = λ words found three.
    let m = c.args.matches.now in
    let line = shows_line words m found three in
    let name = same_Some c.in_ok-name.name.now line.name (c.in_ok-name.ensures.name ∙ name_met words m line) in
    let first = same_Some c.in_ok-get_str.field-0.now line.first (c.in_ok-get_str.ensures ∙ first_met words m line c.in_ok-name.behind.now c.in_ok-name.ensures.rows) in
    let second = same_Some c.in_ok-get_str-2.field-0.now line.second (c.in_ok-get_str-2.ensures ∙ second_met words m line c.in_ok-name.behind.now c.in_ok-name.ensures.rows) in
    rw (name, first, second) line.line
