use Rattle.std.specs.Prelude.{count_by}
use Rattle.free_map.specs.Members.{is_member}
use Rattle.dependencies.specs.Candidates.{AddsNone, AreCandidates}
use Rattle.dependencies.proofs.candidates.Candidates.park_all.Given as goal

abbrev pub invariant-loop : goal.invariant-loop
invariant-loop l = AreCandidates l.cache l.self × AddsNone l.initial.self l.self

-- each turn takes one out
abbrev pub decreases-loop : goal.decreases-loop
decreases-loop l = count_by is_member l.self.blocks
