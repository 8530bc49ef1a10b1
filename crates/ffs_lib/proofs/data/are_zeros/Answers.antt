use Rattle.std.proofs.Common.{◌≡◌, ◌∙◌, length, replicate, sym, take}
use Rattle.ffs_lib.proofs.Common.{bytes_eq-Decides, take-replicate}
use Rattle.ffs_lib.proofs.data.are_zeros.Goals as goal

pub returns : goal.returns
returns c =
    let same : take (length c.args.bytes.now) (replicate 512 0) ≡ replicate (length c.args.bytes.now) 0 = take-replicate (length c.args.bytes.now) 512 0 c.requires in
    let d = bytes_eq-Decides c.args.bytes.now (take (length c.args.bytes.now) (replicate 512 0)) in
    (λ t. d.0 (sym c.eq.ensures ∙ t) ∙ same, λ e. c.eq.ensures ∙ d.1 (e ∙ sym same))
