use Rattle.std.proofs.Common.{◌≡◌, ◌++◌}
use Rattle.std.specs.Prelude.{filter, map}
use Rattle.treefs_format.specs.Left.{records_left}
use Rattle.treefs_format.specs.Records.{is_live}
use Rattle.tree_lines.specs.Listing.{live_names}
use Rattle.tree_lines.specs.Walks.{entry_of}
use Rattle.tree_lines.proofs.trees.push_names.Given as goal

abbrev pub invariant-loop-record : goal.invariant-loop-record
invariant-loop-record l =
    map entry_of l.names.items ++ map (λ r. (r.entry.name, r.entry.number)) (filter (λ r. is_live r.entry) (records_left l.record-iterator))
    ≡ map entry_of l.fn.names.items ++ live_names l.bucket.bytes.now
