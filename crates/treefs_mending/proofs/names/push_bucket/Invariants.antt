use Rattle.std.proofs.Common.{◌≡◌, ◌++◌}
use Rattle.std.specs.Prelude.{filter, map}
use Rattle.treefs_format.specs.Left.{records_left}
use Rattle.treefs_format.specs.Records.{is_live}
use Rattle.treefs_mending.specs.Names.{name_of, names_in}
use Rattle.treefs_mending.proofs.names.push_bucket.Given as goal

abbrev pub invariant-loop-record : goal.invariant-loop-record
invariant-loop-record l =
    l.names.items ++ map (name_of l.bucket.block l.bucket.start) (filter (λ r. is_live r.entry) (records_left l.record-iterator))
    ≡ l.fn.names.items ++ names_in l.bucket.block l.bucket.start l.bucket.bytes.now
