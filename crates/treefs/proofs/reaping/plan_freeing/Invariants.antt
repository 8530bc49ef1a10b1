use Rattle.std.proofs.Common.{◌≡◌, ◌≤◌, ◌+◌, ◌-◌, ◌++◌, length}
use Rattle.treefs_format.specs.Paths.{last_beside}
use Rattle.treefs_lookup.specs.Readable.{readable}
use Rattle.treefs.specs.Reaping.{cleared, first_beside, freed_among, freed_beside}
use Rattle.treefs.proofs.reaping.plan_freeing.Given as goal

-- those from here on are still to be added
abbrev pub invariant-loop-beside : goal.invariant-loop-beside
invariant-loop-beside g l =
    let content = readable (g.S.Store.state_of l.store) l.tree.fs.number in
    let here = freed_among content l.tree.top l.numbers l.beside (last_beside l.leaf + 1) in
    let all = freed_beside content l.tree.top l.numbers l.leaf in
    record {
      few : length l.freed.items ≤ l.beside - first_beside l.leaf;
      joined : all ≡ l.freed.items ++ here;
      written : cleared l.initial.bytes all ≡ cleared l.bytes here;
    }
