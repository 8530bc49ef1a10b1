use Rattle.std.proofs.Common.{◌+◌, ◌≤◌, length, sym, arith}
use Rattle.xn_model.specs.Lists.{put}
use Rattle.templates.proofs.FilledRows.{rows_decide, rows_insert}
use Rattle.templates.proofs.Written.{written_at, written_block}
use Rattle.templates.proofs.table.Table.filled.Goals as goal

pub returns-then-is_fill-clause-pairs : goal.returns-then-is_fill-clause-pairs
returns-then-is_fill-clause-pairs c =
    let table = c.args.self.now in
    let old = c.args.old.now in
    let bytes = c.args.bytes.now in
    let fit : c.args.at + length bytes ≤ length old = omega (arith, c.requires, c.told-old) in
    let now = written_block old c.args.at bytes fit c.fits-old (λ i. let fits = c.type_inv.bytes i in omega (arith, fits)) in
    rows_insert table c.args.ty c.in_ok-get.field-0.now (sym c.in_ok-get.ensures.value) c.in_ok-rows.rows.now c.in_ok-rows.ensures old (put old c.args.at bytes) c.args.adds.now c.fits-old now
    (c.is_fill.ensures c.if-is_fill.true (put old c.args.at bytes) (written_at old c.args.at bytes fit))

pub returns-then-is_fill-clause-reads : goal.returns-then-is_fill-clause-reads
returns-then-is_fill-clause-reads c =
    let old = c.args.old.now in
    let bytes = c.args.bytes.now in
    let fit : c.args.at + length bytes ≤ length old = omega (arith, c.requires, c.told-old) in
    let now = written_block old c.args.at bytes fit c.fits-old (λ i. let fits = c.type_inv.bytes i in omega (arith, fits)) in
    rows_decide c.args.self.now c.args.ty c.in_ok-get.field-0.now (sym c.in_ok-get.ensures.value) c.in_ok-rows.rows.now c.in_ok-rows.ensures (put old c.args.at bytes)
    c.reads.result.chunks now c.reads.ensures
