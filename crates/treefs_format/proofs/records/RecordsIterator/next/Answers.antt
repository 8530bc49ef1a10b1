use Rattle.std.proofs.Common.{◌+◌, ap, arith, drop, length, sym, take, ◌∙◌}
use Rattle.std.proofs.lemmas.List.{take_rest}
use Rattle.treefs_format.proofs.Entries.{entries_none, first_left}
use Rattle.treefs_format.specs.Records.{placed}
use Rattle.treefs_format.proofs.records.RecordsIterator.next.Goals as goal

pub returns-then-not-begins_record-clause-steps : goal.returns-then-not-begins_record-clause-steps
returns-then-not-begins_record-clause-steps c =
    let left = c.args.self.now in
    let none = ap (placed left.offset) (entries_none left.rest.now (sym c.begins_record.ensures ∙ c.if-not-begins_record.true)) in
    (none, none)

pub returns-clause-steps : goal.returns-clause-steps
returns-clause-steps c =
    let left = c.args.self.now in
    first_left left.offset left.rest.now c.from-end.result c.first_number.result _ _ (sym c.begins_record.ensures ∙ c.if-not-begins_record.false) c.from-end.ensures c.first_number.ensures
    (ap (λ k. take k (drop 5 left.rest.now)) (omega arith)) (take_rest left.rest.now (5 + c.from-end.result))

pub returns-clause-goes : goal.returns-clause-goes
returns-clause-goes c = let steps = ap length (returns-clause-steps c) in record {
  on = λ _. (tt, tt, omega (arith, steps));
  keeps = tt;
  rests = λ _. tt;
}
