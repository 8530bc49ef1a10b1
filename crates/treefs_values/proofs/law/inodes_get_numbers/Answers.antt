use Rattle.treefs_values.proofs.Attaching.{files_attached, volume_attached, was_free}
use Rattle.treefs_values.proofs.law.inodes_get_numbers.Goals as goal

pub returns : goal.returns
returns c = λ node inode top type content new v n offset block above some few steps_are there set free alone below apart is_block. (
  was_free node inode top type content new v n some few offset above steps_are there block set,
  volume_attached node inode top type content new v n some few offset above steps_are there block set free alone below apart is_block,
  files_attached node inode top type content new v n some few offset above steps_are there block set free alone below,
)
