use Rattle.std.proofs.Common.{◌≡◌, ◌+◌, ◌-◌, ◌≤◌, ◌++◌}
use Rattle.treefs_format.specs.Paths.{leaf_count}
use Rattle.treefs_lookup.specs.Readable.{readable}
use Rattle.treefs_mending.specs.Surveys.{inode_count, unreached_from}
use Rattle.treefs_mending.proofs.survey.Survey.note_unreached.Given as goal

abbrev pub invariant-loop-leaf : goal.invariant-loop-leaf
invariant-loop-leaf g l =
    let content = readable (g.S.Store.state_of l.store) l.tree.fs.number in
    record {
      few : l.from ≤ leaf_count;
      rest : l.self ≡ record l.fn.self { surplus = l.self.surplus };
      so_far : l.self.surplus ++ unreached_from content l.tree.top l.fn.self.tallies (l.from + 1) (inode_count - l.from)
          ≡ l.fn.self.surplus ++ unreached_from content l.tree.top l.fn.self.tallies 1 inode_count;
    }

abbrev pub decreases-loop-leaf : goal.decreases-loop-leaf
decreases-loop-leaf g l = leaf_count - l.from
