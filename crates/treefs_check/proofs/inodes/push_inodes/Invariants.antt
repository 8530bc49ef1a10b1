use Rattle.std.proofs.Common.{◌≡◌, ◌+◌, ◌-◌, ◌≤◌, ◌++◌, List}
use Rattle.treefs_format.specs.Paths.{leaf_count}
use Rattle.treefs_lookup.specs.Readable.{readable}
use Rattle.treefs_check.specs.Findings.{Finding}
use Rattle.treefs_check.specs.Inodes.{AreInodeFindings}
use Rattle.treefs_check.proofs.inodes.push_inodes.Given as goal

-- what comes from the inodes that are left comes behind what came so far
abbrev pub invariant-loop-numbered : goal.invariant-loop-numbered
invariant-loop-numbered g l =
    let content = readable (g.S.Store.state_of l.store) l.tree.fs.number in
    record {
      few : l.from ≤ leaf_count + 1;
      goes : (rest : List Finding) → AreInodeFindings content l.tree.top l.survey l.from rest →
          (found : List Finding) × AreInodeFindings content l.tree.top l.survey 1 found × (l.findings.items ++ rest ≡ l.fn.findings.items ++ found);
    }

abbrev pub decreases-loop-numbered : goal.decreases-loop-numbered
decreases-loop-numbered g l = leaf_count + 1 - l.from
