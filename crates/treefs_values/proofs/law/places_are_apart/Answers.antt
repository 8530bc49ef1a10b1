use Rattle.treefs_values.proofs.Apart.{inodes_apart, leaves_apart}
use Rattle.treefs_values.proofs.law.places_are_apart.Goals as goal

pub returns-clause-inodes : goal.returns-clause-inodes
returns-clause-inodes c = inodes_apart

pub returns-clause-leaves : goal.returns-clause-leaves
returns-clause-leaves c = leaves_apart
