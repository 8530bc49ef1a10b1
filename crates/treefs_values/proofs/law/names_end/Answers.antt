use Rattle.treefs_values.proofs.NamesEnd.{name_ended}
use Rattle.treefs_values.proofs.law.names_end.Goals as goal

pub returns : goal.returns
returns c = λ node inode top type content v d links name slot found times parent behind behind' is found_is fine.
    name_ended node inode top type content v d name slot is found found_is links times parent fine behind behind'
