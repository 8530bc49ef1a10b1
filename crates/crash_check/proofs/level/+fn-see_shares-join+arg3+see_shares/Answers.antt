use Rattle.std.proofs.Common.{◌-◌, ◌/◌, arith}
use Rattle.xn_model.specs.Images.{block_of}
use Rattle.image_model.specs.Walk.{visit_sees_at}
use Rattle.templates.specs.Tables.{table_types}
use Rattle.crash_check.proofs.Levels.{parts_joined}
use Rattle.crash_check.proofs.level.+fn-see_shares-join+arg3+see_shares.Goals as goal

pub returns : goal.returns
returns g t c =
    let from = c.args.from in
    let to = c.args.to in
    let order = c.requires.order in
    parts_joined (λ s. s.pairs.items) (λ s. s.counts.items) (visit_sees_at (table_types c.args.table.now) (block_of c.args.blocks.now)) c.args.named.now.entries
    from (to - (to - from) / c.args.shares) to (omega arith) (omega arith) c.joined.result c.join-back.result.1 c.join-back.result.0
    c.joined.ensures.pairs c.joined.ensures.counts c.joined.ensures.both c.join-back.ensures.second c.join-back.ensures.first
