use Rattle.treefs_values.proofs.Making.{files_made, volume_made}
use Rattle.treefs_values.proofs.law.names_are_made.Goals as goal

pub returns : goal.returns
returns c = λ node inode top type content v n k e behind some there few directory short named range long room candidate none. (
  volume_made node inode top type content v n some there k few e short named range long room behind directory candidate none,
  files_made node inode top type content v n some there k few e short named range long room behind directory candidate none,
)
