use Rattle.host_trees.proofs.naming.trimmed.Goals as goal
use Rattle.host_trees.proofs.Slashes.{trimmed_is}

pub returns : goal.returns
returns c = let h = c.trim_end_matches.ensures in trimmed_is c.args.path.now _ h.value h.matches
