use Rattle.treefs_values.proofs.ManyChanges.{fields_changed}
use Rattle.treefs_values.proofs.law.inodes_change.Goals as goal

pub returns : goal.returns
returns c = λ node inode top type content v n changes behind some there fine size kind change makes.
    fields_changed node inode top type content v n some there changes fine behind size kind change makes
