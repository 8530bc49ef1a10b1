use Rattle.std.proofs.Common.{◌∙◌, ◌-◌, ◌+◌, ◌≡◌, ap, arith, drop, length, map, take}
use Rattle.ffs_lib.proofs.Common.{byte_in, latest, range_with_len}
use Rattle.ffs_lib.proofs.Parts.{part_of, zero_part}
use Rattle.ffs_lib.proofs.data.copy_block.Goals as goal

pub returns-then-block-eq0-clause-bytes : goal.returns-then-block-eq0-clause-bytes
returns-then-block-eq0-clause-bytes g c =
    zero_part (latest (g.S.Store.state_of c.args.store.now).lives) c.args.block c.fill.new.self c.args.at c.if-block-eq0.true (λ k low. c.fill.ensures.clones k 0 (omega arith) (λ i. 0))
    ∙ ap (λ n. map (byte_in (latest (g.S.Store.state_of c.args.store.now).lives) c.args.block) (range_with_len c.args.at n)) c.fill.ensures.len

pub returns-clause-bytes : goal.returns-clause-bytes
returns-clause-bytes g c =
    let n = length c.args.bytes.now in
    let e : c.args.at + n - c.args.at ≡ n = omega arith in
    let whole = c.in_ok-data.ensures.whole in
    c.copy_from_slice.ensures.after
    ∙ (ap (λ x. take x (drop c.args.at c.in_ok-data.data.now)) e
    ∙ part_of (latest (g.S.Store.state_of c.args.store.now).lives) c.args.block c.args.at n c.in_ok-data.data.now c.in_ok-data.ensures.bytes c.if-block-eq0.false (omega (arith, c.requires, whole)))
