use Rattle.tree_changes.specs.CopiedFolders.{Climbs}
use Rattle.tree_changes.proofs.copying.is_below.Given as goal

abbrev pub invariant-loop-folder : goal.invariant-loop-folder
invariant-loop-folder g l = Climbs (g.V.View.leads l.view) l.above l.fn.folder l._folder l.number
