use Rattle.std.proofs.Common.{◌≡◌, ◌<◌, ◌≤◌, Ok}
use Rattle.treefs_lookup.specs.declared.inodes.Found.{Found}
use Rattle.tree_lines.proofs.NamesRead.{GoOn, directory_of}
use Rattle.tree_lines.proofs.trees.read_names.Given as goal

abbrev pub invariant-loop-bucket : goal.invariant-loop-bucket
invariant-loop-bucket g l =
    let state = g.S.Store.state_of l.session.store in
    record {
      passed : l._bucket ≤ l.from;
      there : 0 < l._bucket → (d : Found) × (directory_of state l.session.volume l.folder ≡ Ok d);
      goes : GoOn state l.session.volume l.folder l.from l.names.items;
    }
