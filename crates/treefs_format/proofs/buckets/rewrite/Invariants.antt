use Rattle.std.proofs.Common.{◌≡◌, ◌++◌}
use Rattle.std.specs.Prelude.{filter, map}
use Rattle.treefs_format.specs.Buckets.{live_entries}
use Rattle.treefs_format.specs.Left.{records_left}
use Rattle.treefs_format.specs.Records.{is_live, joined}
use Rattle.treefs_format.proofs.Loops.{entry_of}
use Rattle.treefs_format.proofs.buckets.rewrite.Given as goal

abbrev pub invariant-loop-record : goal.invariant-loop-record
invariant-loop-record l = l.bytes.items ++ joined (filter is_live (map entry_of (records_left l.record-iterator))) ≡ joined (live_entries l.bucket)
