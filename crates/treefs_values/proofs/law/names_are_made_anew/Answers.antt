use Rattle.treefs_values.proofs.Anew.{files_anew, volume_anew}
use Rattle.treefs_values.proofs.law.names_are_made_anew.Goals as goal

pub returns : goal.returns
returns c = λ node inode top type content v n k number r behind some there few directory has short. (
  volume_anew node inode top type content v n some there k few r has number behind short directory,
  files_anew node inode top type content v n some there k few r has number behind short directory,
)
