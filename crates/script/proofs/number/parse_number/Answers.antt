use Rattle.std.proofs.Common.{Some, rules, arith, refl, ap}
use Rattle.std.proofs.lemmas.Bool.{false≢true}
use Rattle.script.proofs.Decimals.{parsed_none, parsed_some, parsed_spelled}
use Rattle.script.proofs.number.parse_number.Goals as goal
use Rattle.script.proofs.number.parse_number.Goals.{then-not-is_plain-via-then-not-is_plain, then-not-is_plain-via-else-not-is_plain+then-number-greatest}

pub returns-in_err-number-clause-readable : goal.returns-in_err-number-clause-readable
returns-in_err-number-clause-readable c = λ n few spelled.
    absurd (parsed_none c.args.text.now c.parse.result n c.parse.ensures.value.0 (search rules) (omega arith) spelled)

pub returns-then-not-is_plain-clause-readable : goal.returns-then-not-is_plain-clause-readable
returns-then-not-is_plain-clause-readable c = λ n few spelled.
    let p = parsed_some c.args.text.now c.parse.result c.in_ok-number.number n c.parse.ensures.value.0 (search rules) (omega arith) spelled in
    elim c.then-not-is_plain.branch [
      | then-not-is_plain-via-then-not-is_plain w ↦ absurd (false≢true (w.if-not-is_plain.ensures.1 p.1))
      | then-not-is_plain-via-else-not-is_plain+then-number-greatest w ↦ absurd (omega arith)
    ]

pub returns-clause-spelled : goal.returns-clause-spelled
returns-clause-spelled c =
    (parsed_spelled c.args.text.now c.parse.result c.in_ok-number.number c.parse.ensures.value.0 (search rules) (c.if-not-is_plain.ensures.0 refl), omega arith)

pub returns-clause-readable : goal.returns-clause-readable
returns-clause-readable c = λ n few spelled.
    ap Some (parsed_some c.args.text.now c.parse.result c.in_ok-number.number n c.parse.ensures.value.0 (search rules) (omega arith) spelled).0
