use Rattle.std.proofs.Common.{◌≡◌, List, ℕ, length, map, string_bytes}
use Rattle.std.proofs.lemmas.Bool.{false≢true}
use Rattle.std.proofs.lemmas.List.{length-map}
use Rattle.xnsim_line.proofs.CommandLines.{line_is_three}
use Rattle.xnsim_line.proofs.invocation.line_of.Goals as goal

pub returns-in_err-name-clause-none : goal.returns-in_err-name-clause-none
returns-in_err-name-clause-none c =
    let start : List (List ℕ) = map string_bytes c.args.start.now in
    let rest : List (List ℕ) = map string_bytes c.args.rest.now in
    let three : length start ≡ 3 = rw length-map c.requires.three in
    rw c.from_residual.ensures (λ asked line. c.in_err-name.ensures start c.requires.found (line_is_three start rest three asked line))

pub returns-then-not-are_words-clause-none : goal.returns-then-not-are_words-clause-none
returns-then-not-are_words-clause-none c = λ asked line.
    let start : List (List ℕ) = map string_bytes c.args.start.now in
    let rest : List (List ℕ) = map string_bytes c.args.rest.now in
    let three : length start ≡ 3 = rw length-map c.requires.three in
    absurd (false≢true (c.if-not-are_words.ensures.1 (c.in_ok-name.ensures start c.requires.found (line_is_three start rest three asked line))))
