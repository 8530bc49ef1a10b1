use Rattle.treefs_values.proofs.Owners.{store_apart}
use Rattle.treefs_values.proofs.law.readable_blocks_are_apart.Goals as goal

pub returns : goal.returns
returns c = λ T state node inode fs top h tree other some some' few root. store_apart T state h node inode tree other some some' fs few top root
