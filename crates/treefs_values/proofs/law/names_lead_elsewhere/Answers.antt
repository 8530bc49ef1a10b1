use Rattle.treefs_values.proofs.Numbered.{files_set, volume_set}
use Rattle.treefs_values.proofs.law.names_lead_elsewhere.Goals as goal

pub returns : goal.returns
returns c = λ node inode top type content v n k number r behind some there few directory has short. (
  volume_set node inode top type content v n some there k few r has number short behind directory,
  files_set node inode top type content v n some there k few r has number short behind directory,
)
