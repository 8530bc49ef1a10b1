use Rattle.host_trees.proofs.Slashes.{part_behind, part_whole}
use Rattle.host_trees.proofs.naming.last_part.Goals as goal

pub returns-in-Some : goal.returns-in-Some
returns-in-Some c =
    let h = c.in-Some.ensures.cases in
    part_behind c.args.path.now c.in-Some.name.now h.0 h.1 h.2 h.4 h.7

pub returns-in-None : goal.returns-in-None
returns-in-None c = part_whole c.args.path.now c.in-None.ensures.cases
