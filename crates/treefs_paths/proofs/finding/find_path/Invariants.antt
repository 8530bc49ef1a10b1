use Rattle.std.proofs.Common.{ℕ, ◌+◌, ◌*◌, ◌^◌, length, Result}
use Rattle.treefs_lookup.specs.Readable.{readable}
use Rattle.treefs_model.specs.declared.fault.Fault.{Fault}
use Rattle.treefs_paths.specs.Ways.{Leads, first_way}
use Rattle.treefs_paths.proofs.finding.find_path.Given as goal

-- where what is left leads, the whole path leads
abbrev pub invariant-loop-alloc : goal.invariant-loop-alloc
invariant-loop-alloc g l =
    let content = readable (g.S.Store.state_of l.store) l.tree.fs.number in
    (result : Result ℕ Fault) → Leads content l.tree.top l.is_last_followed l.way result →
    Leads content l.tree.top l.is_last_followed (first_way l.directory l.path) result

abbrev pub decreases-loop-alloc : goal.decreases-loop-alloc
decreases-loop-alloc g l = l.way.links * 2 ^ 64 + length l.way.rest
