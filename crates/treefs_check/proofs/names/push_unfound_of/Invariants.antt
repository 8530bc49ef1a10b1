use Rattle.std.proofs.Common.{◌≡◌, ◌+◌, ◌-◌, ◌≤◌, ◌++◌, List}
use Rattle.treefs_format.specs.Paths.{leaf_count}
use Rattle.treefs_check.specs.Findings.{Finding}
use Rattle.treefs_check.specs.Names.{AreUnfoundFrom}
use Rattle.treefs_check.proofs.names.push_unfound_of.Given as goal

-- what comes from the buckets that are left comes behind what came so far
abbrev pub invariant-loop-bucket : goal.invariant-loop-bucket
invariant-loop-bucket g l =
    let state = g.S.Store.state_of l.store in
    record {
      few : l.next ≤ leaf_count + 1;
      goes : (rest : List Finding) → AreUnfoundFrom state l.tree l.directory l.next rest →
          (unfound : List Finding) × AreUnfoundFrom state l.tree l.directory 0 unfound × (l.findings.items ++ rest ≡ l.fn.findings.items ++ unfound);
    }

abbrev pub decreases-loop-bucket : goal.decreases-loop-bucket
decreases-loop-bucket g l = leaf_count + 1 - l.next
