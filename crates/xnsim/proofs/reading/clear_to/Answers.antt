use Rattle.std.proofs.Common.{◌∙◌, ◌≤◌, length, take, ap, arith}
use Rattle.std.proofs.lemmas.List.{take_all}
use Rattle.xnsim.proofs.Front.{front-kept}
use Rattle.xnsim.proofs.reading.clear_to.Goals as goal

pub loop-end-init : goal.loop-end-init
loop-end-init c = record { begun = omega arith; long = omega arith; front = take_all (length c.args.bytes.now.items) c.args.bytes.now.items (omega arith) }

pub loop-end-preserved : goal.loop-end-preserved
loop-end-preserved c =
    let old = c.args.bytes.now.items in
    let to = c.min.result in
    let was = c.args.bytes.now.ok.0 in
    let is = c.resize.new.self.ok.0 in
    let fits : length old ≤ to = omega (arith, c.requires, was, c.len-end.ensures, c.min.ensures, c.loop-end.invariant.begun) in
    record {
      begun = omega (arith, c.loop-end.invariant.begun);
      long = omega (arith, fits, is, c.in_ok-resize.ensures.len);
      front = ap (take (length old)) c.in_ok-resize.ensures.items ∙ front-kept old c.loop-end.bytes.items _ to fits c.loop-end.invariant.long c.loop-end.invariant.front;
    }

pub returns-clause-front : goal.returns-clause-front
returns-clause-front c =
    let old = c.args.bytes.now.items in
    let was = c.args.bytes.now.ok.0 in
    let fits : length old ≤ c.args.length = omega (arith, c.requires, was) in
    let front = ap (take (length old)) c.in_ok-resize-2.ensures.items ∙ front-kept old c.loop-end.bytes.items _ c.args.length fits c.loop-end.invariant.long c.loop-end.invariant.front in
    ap (λ k. take k c.resize-2.new.self.items) was ∙ front
