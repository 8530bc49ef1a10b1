use Rattle.std.proofs.Common.{◌≡◌, ◌++◌, drop, List}
use Rattle.treefs_check.specs.Findings.{Finding}
use Rattle.treefs_check.specs.Names.{AreUnfound}
use Rattle.treefs_check.proofs.names.push_unfound.Given as goal

-- what comes from the directories that are left comes behind what came so far
abbrev pub invariant-loop-directory : goal.invariant-loop-directory
invariant-loop-directory g l =
    let state = g.S.Store.state_of l.store in
    (rest : List Finding) → AreUnfound state l.tree (drop l.directory-index l.directories) rest →
    (unfound : List Finding) × AreUnfound state l.tree l.directories unfound × (l.findings.items ++ rest ≡ l.fn.findings.items ++ unfound)
