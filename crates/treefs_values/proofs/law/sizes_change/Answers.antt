use Rattle.treefs_model.specs.Reading.{byte_of}
use Rattle.treefs_values.proofs.BytesWritten.{listed_resized}
use Rattle.treefs_values.proofs.ManyChanges.{file_resized}
use Rattle.treefs_values.proofs.law.sizes_change.Goals as goal

pub returns-clause-change : goal.returns-clause-change
returns-clause-change c = λ node inode top type content v n changes behind kind some there fine is other same_kind parent change makes.
    file_resized node inode top type content v n some there changes fine behind kind is other same_kind parent change makes

pub returns-clause-bytes : goal.returns-clause-bytes
returns-clause-bytes c = λ content inode size size' zero. listed_resized (byte_of content inode) size size' zero
