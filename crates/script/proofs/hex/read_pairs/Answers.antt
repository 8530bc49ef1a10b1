use Rattle.std.proofs.Common.{◌≡◌, ℕ, ◌+◌, ◌*◌, slice_index, slice_set, IsTrue, rules, arith, refl, ◌∙◌}
use Rattle.std.proofs.lemmas.List.{get_or-set_same, get_or-set_other}
use borrow.Author.Count.{below_more}
use Rattle.script.specs.Hex.{is_hex_digit, hex_byte}
use Rattle.script.proofs.hex.read_pairs.Goals as goal

pub loop-place-init : goal.loop-place-init
loop-place-init c = record {
  digits = λ k h. absurd (omega arith);
  set = λ k h. absurd (omega arith);
  rest = λ k h. refl;
}

pub loop-place-preserved : goal.loop-place-preserved
loop-place-preserved c =
    let digits = c.args.digits.now in
    let place = c.loop-place.place in
    let bytes = c.loop-place.bytes in
    let byte = c.in-Some.byte in
    let both = c.in-Some.ensures.digits.0 (search rules) in
    let IsDigit : ℕ → Type 0 = λ k. IsTrue (is_hex_digit (slice_index digits k)) in
    let IsSet : ℕ → Type 0 = λ k. slice_index (slice_set bytes place byte) k ≡ hex_byte digits k in
    record {
      digits = λ k h. below_more IsDigit (2 * place + 1) (below_more IsDigit (2 * place) c.loop-place.invariant.digits both.0) both.1 k (omega arith);
      set = below_more IsSet place
          (λ k h. get_or-set_other bytes place k byte 0 (λ e. absurd (omega arith)) ∙ c.loop-place.invariant.set k h)
          (get_or-set_same bytes place byte 0 (omega (arith, c.requires.room, c.loop-place.auto.bytes)) ∙ c.in-Some.ensures.value);
      rest = λ k h. get_or-set_other bytes place k byte 0 (λ e. absurd (omega arith)) ∙ c.loop-place.invariant.rest k (omega arith);
    }

pub returns-clause-readable : goal.returns-clause-readable
returns-clause-readable c = (λ yes k h. c.loop-place.invariant.digits k (omega (arith, c.requires.pairs)), λ all. refl)

pub returns-clause-read : goal.returns-clause-read
returns-clause-read c = λ yes k h. c.loop-place.invariant.set k (omega arith)

pub returns-clause-rest : goal.returns-clause-rest
returns-clause-rest c = λ k h. c.loop-place.invariant.rest k (omega arith)

pub returns-in_default-clause-rest : goal.returns-in_default-clause-rest
returns-in_default-clause-rest c = λ k h. c.loop-place.invariant.rest k (omega arith)
