use Rattle.std.proofs.Common.{◌≡◌, ◌+◌}
use Rattle.std.specs.Prelude.{filter, map}
use Rattle.treefs_format.specs.Buckets.{live_entries}
use Rattle.treefs_format.specs.Left.{records_left}
use Rattle.treefs_format.specs.Records.{end_of, is_live, total_length}
use Rattle.treefs_format.proofs.Loops.{entry_of}
use Rattle.treefs_format.proofs.buckets.record_lengths.Given as goal

abbrev pub invariant-loop-record : goal.invariant-loop-record
invariant-loop-record l = record {
  all : l.all + total_length (map entry_of (records_left l.record-iterator)) ≡ end_of l.bucket;
  live : l.live + total_length (filter is_live (map entry_of (records_left l.record-iterator))) ≡ total_length (live_entries l.bucket);
}
