use Rattle.std.proofs.Common.{◌≢◌, ◌-◌, All, drop, length}
use Rattle.treefs_paths.proofs.components.name_start.Given as goal

abbrev pub invariant-loop-passed : goal.invariant-loop-passed
invariant-loop-passed l = All (λ byte. byte ≢ 47) (drop (length l.path - l.passed) l.path)
