use Rattle.std.proofs.Common.{◌≡◌, ◌∙◌, ◌++◌, ap}
use Rattle.std.specs.Prelude.{filter, map}
use Rattle.treefs_format.specs.Left.{records_left}
use Rattle.treefs_format.specs.Records.{is_live, joined, records_of}
use Rattle.treefs_format.proofs.Loops.{entries_begun, entry_of, filled}
use Rattle.treefs_format.proofs.buckets.rewrite.Goals as goal

pub loop-record-init : goal.loop-record-init
loop-record-init c =
    let all = c.args.bucket.now in
    let left : records_left c.into_iter-record-iterator.result ≡ records_of all = ap records_left c.into_iter-record-iterator.ensures.into_iter_gives ∙ c.new-record-items.ensures in
    ap (λ l. l ++ joined (filter is_live (map entry_of (records_left c.into_iter-record-iterator.result)))) c.new-bytes.ensures.items
    ∙ ap (λ l. joined (filter is_live l)) (entries_begun (records_left c.into_iter-record-iterator.result) all left)

pub returns : goal.returns
returns c =
    let written = filled c.args.bucket.now c.loop-record.bytes.items c.resize.new.self.items _ c.end.result _ c.end.ensures.end c.loop-record.bytes.ok.0 c.in-None.ensures.steps.0 c.loop-record.invariant c.in_ok-resize.ensures.items in
    λ i. record { offset = c.args.offset; bytes = written i }
