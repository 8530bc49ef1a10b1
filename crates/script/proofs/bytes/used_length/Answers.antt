use Rattle.std.proofs.Common.{◌≡◌, ◌∙◌, ◌<◌, sym, arith, get_or, length, true, false, length-take}
use Rattle.std.proofs.lemmas.Bool.{eq-eqb, ne_eqb}
use Rattle.std.proofs.lemmas.List.{get_or_default}
use Rattle.script.proofs.PrintedBytes.{used_more}
use Rattle.script.proofs.bytes.used_length.Goals as goal
use Rattle.script.proofs.bytes.used_length.Goals.{then-bytes-place-ne0, else-bytes-place-ne0}

pub loop-place-preserved : goal.loop-place-preserved
loop-place-preserved c =
    let bytes = c.args.bytes.now in
    let byte = get_or bytes c.loop-place.place 0 in
    let within : c.loop-place.place < length bytes = omega (arith, c.loop-place-test.true, c.told-bytes) in
    let same : byte ≡ get_or bytes c.loop-place.place byte = get_or_default bytes c.loop-place.place 0 byte within in
    elim c.if-bytes-place-ne0.branch [
      | then-bytes-place-ne0 w ↦
          let more = used_more bytes c.loop-place.place byte within same false (ne_eqb byte 0 w.if-bytes-place-ne0.true) in
          let long = length-take c.loop-place.place bytes in
          (w.used-is ∙ (omega (arith, long, c.loop-place-test.true, c.told-bytes) ∙ sym more), omega (arith, w.used-is))
      | else-bytes-place-ne0 w ↦
          let more = used_more bytes c.loop-place.place byte within same true (eq-eqb byte 0 w.if-bytes-place-ne0.false) in
          (w.used-is ∙ (c.loop-place.invariant.0 ∙ sym more), omega (arith, w.used-is, c.loop-place.invariant.1))
    ]
