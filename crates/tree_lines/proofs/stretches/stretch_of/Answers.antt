use Rattle.std.proofs.Common.{◌≡◌, ◌+◌, arith, min}
use Rattle.treefs_lookup.specs.Readable.{readable}
use Rattle.treefs_model.specs.Reading.{leaf_block}
use Rattle.tree_lines.proofs.StandingBytes.{no_stretch, stretch}
use Rattle.tree_lines.proofs.stretches.stretch_of.Goals as goal

pub returns-then-first-end : goal.returns-then-first-end
returns-then-first-end g c =
    let blocks = leaf_block (readable (g.S.Store.state_of c.args.store.now) c.args.fs.number) c.args.file.0 in
    let first = c.in_ok-first in
    let last = c.last_from in
    let limit_is : c.min-limit.result ≡ min c.args.file.1 (min (first.first + c.args.most) 18446744073709551615) =
    omega (arith, c.min-limit.ensures, c.saturating_add.ensures) in
    let end_is = c.min-end.ensures in
    stretch blocks c.args.file.1 c.args.at c.args.most first.first first.next c.min-limit.result last.result c.min-end.result first.ensures limit_is
    last.ensures.past (last.ensures.few first.ensures.few) last.ensures.there last.ensures.ends (omega (arith, end_is, c.end_before.ensures))
    c.if-first-end.true

pub returns-else-first-end : goal.returns-else-first-end
returns-else-first-end g c =
    let blocks = leaf_block (readable (g.S.Store.state_of c.args.store.now) c.args.fs.number) c.args.file.0 in
    let first = c.in_ok-first in
    let last = c.last_from in
    let limit_is : c.min-limit.result ≡ min c.args.file.1 (min (first.first + c.args.most) 18446744073709551615) =
    omega (arith, c.min-limit.ensures, c.saturating_add.ensures) in
    let end_is = c.min-end.ensures in
    no_stretch blocks c.args.file.1 c.args.at c.args.most first.first first.next c.min-limit.result last.result c.min-end.result first.ensures limit_is
    last.ensures.past (last.ensures.few first.ensures.few) last.ensures.there last.ensures.ends (omega (arith, end_is, c.end_before.ensures))
    c.if-first-end.false
