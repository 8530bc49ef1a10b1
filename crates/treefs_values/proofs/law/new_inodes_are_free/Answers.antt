use Rattle.treefs_values.proofs.NewInodes.{new_free, new_value}
use Rattle.treefs_values.proofs.law.new_inodes_are_free.Goals as goal

pub returns : goal.returns
returns c = λ node inode type content key block fields head k is range short size kind_is empty there typed. (
  new_free node inode type content key block fields head is range short size k kind_is empty there typed,
  new_value node inode type content key block fields head is range short size k kind_is empty,
)
