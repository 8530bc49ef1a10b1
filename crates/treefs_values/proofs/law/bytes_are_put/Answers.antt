use Rattle.treefs_values.proofs.BytesWritten.{files_put, volume_put}
use Rattle.treefs_values.proofs.law.bytes_are_put.Goals as goal

pub returns : goal.returns
returns c = λ node inode top type content v n first bytes behind kind some there is other size range some_bytes fits few block. (
  volume_put node inode top type content v n some there bytes range some_bytes first few fits block behind size kind is other,
  files_put node inode top type content v n some there bytes range some_bytes first few fits block behind size kind is other,
)
