use Rattle.std.proofs.Common.{◌≡◌, ◌++◌}
use Rattle.std.specs.Prelude.{filter, map}
use Rattle.treefs_format.specs.Left.{records_left}
use Rattle.treefs_lookup.specs.Readable.{readable}
use Rattle.treefs_check.specs.Names.{is_unfound_in, not_found, unfound_in}
use Rattle.treefs_check.proofs.names.push_unfound_in.Given as goal

abbrev pub invariant-loop-record : goal.invariant-loop-record
invariant-loop-record g l =
    let content = readable (g.S.Store.state_of l.store) l.tree.fs.number in
    l.findings.items
    ++ map (not_found l.bucket.block l.bucket.start)
    (filter (is_unfound_in content l.tree.top l.directory l.bucket.block l.bucket.start) (records_left l.record-iterator))
    ≡ l.fn.findings.items ++ unfound_in content l.tree.top l.directory l.bucket.block l.bucket.start l.bucket.bytes.now
