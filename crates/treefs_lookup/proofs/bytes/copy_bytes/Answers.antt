use Rattle.std.proofs.Common.{◌∙◌, ◌-◌, ◌+◌, ◌≡◌, ap, arith, drop, length, take}
use Rattle.treefs_lookup.proofs.ReadParts.{part_of}
use Rattle.treefs_lookup.proofs.bytes.copy_bytes.Goals as goal

pub returns : goal.returns
returns c =
    let n = length c.args.part.now in
    let e : c.args.at + n - c.args.at ≡ n = omega arith in
    c.copy_from_slice.ensures.after
    ∙ (ap (λ x. take x (drop c.args.at c.args.bytes.now)) e ∙ part_of c.args.bytes.now c.args.at n (omega arith))
