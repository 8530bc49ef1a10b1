use Rattle.std.proofs.Common.{◌<◌, arith}
use Rattle.std.proofs.lemmas.List.Elements.{All-from_get_or}
use Rattle.std.proofs.lemmas.Result.{err_from_is_err_and}
use Rattle.udf_code.proofs.Coding.{code_length, fault_refuses, whole_is_code}
use Rattle.udf_code.proofs.bytes.decode_into.Goals as goal

pub returns-then-rest-ne0-clause-refused : goal.returns-then-rest-ne0-clause-refused
returns-then-rest-ne0-clause-refused c = λ words code. let n = code_length c.args.bytes.now words code in absurd (omega arith)

pub returns-then-bytes-gt-MAX_WORDS-clause-refused :
    goal.returns-then-bytes-gt-MAX_WORDS-clause-refused
returns-then-bytes-gt-MAX_WORDS-clause-refused c = λ words code. let n = code_length c.args.bytes.now words code in absurd (omega arith)

pub returns-in_err-read_words-clause-refused : goal.returns-in_err-read_words-clause-refused
returns-in_err-read_words-clause-refused c =
    let p = err_from_is_err_and c.from_residual.result c.from_residual.ensures.1 in
    rw p.1 (fault_refuses c.args.bytes.now _ c.in_err-read_words.ensures)

pub returns-clause-accepted : goal.returns-clause-accepted
returns-clause-accepted c =
    whole_is_code c.args.bytes.now _ (All-from_get_or (λ byte. byte < 256) c.args.bytes.now 0 (λ i h. let f = c.type_inv.bytes i in omega arith)) (omega arith) (omega arith) c.in_ok-read_words.ensures
