use Rattle.std.proofs.Common.{◌≡◌, ◌+◌}
use Rattle.std.specs.Prelude.{◌&&◌, filter, find, map, not, option_map}
use Rattle.std.specs.Option.{option_or}
use Rattle.treefs_format.specs.Buckets.{dead_record, has_name, live_entries, live_record}
use Rattle.treefs_format.specs.Left.{record_of, records_left}
use Rattle.treefs_format.specs.Records.{end_of, is_live, total_length}
use Rattle.treefs_format.proofs.Loops.{entry_of}
use Rattle.treefs_format.proofs.buckets.look_for.Given as goal

abbrev pub invariant-loop-record : goal.invariant-loop-record
invariant-loop-record l =
    let rest = records_left l.record-iterator in
    record {
      live : option_or (option_map record_of l.live) (find (λ r. is_live r.entry && has_name l.name r) rest) ≡ live_record l.bucket l.name;
      dead : option_or (option_map record_of l.dead) (find (λ r. not (is_live r.entry) && has_name l.name r) rest) ≡ dead_record l.bucket l.name;
      all : l.all + total_length (map entry_of rest) ≡ end_of l.bucket;
      living : l.living + total_length (filter is_live (map entry_of rest)) ≡ total_length (live_entries l.bucket);
    }
