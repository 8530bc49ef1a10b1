use Rattle.std.proofs.Common.{arith}
use Rattle.treefs_format.specs.Left.{record_of, records_left}
use Rattle.treefs_format.specs.Records.{entries_of}
use Rattle.treefs_mending.proofs.LiveNames.{first_offset}
use Rattle.treefs_mending.proofs.names.push_bucket.Goals as goal

pub overflow_add-name : goal.overflow_add-name
overflow_add-name c =
    let left = c.loop-record.record-iterator in
    let same = first_offset left.offset (entries_of left.rest.now) (record_of c.in-Some.record) (records_left c.next.new.self) c.in-Some.ensures.steps in
    omega (arith, c.args.bucket.now.within, left.within, same)

pub overflow_cast-name : goal.overflow_cast-name
overflow_cast-name c =
    let left = c.loop-record.record-iterator in
    let same = first_offset left.offset (entries_of left.rest.now) (record_of c.in-Some.record) (records_left c.next.new.self) c.in-Some.ensures.steps in
    omega (arith, c.args.bucket.now.within, left.within, same)
