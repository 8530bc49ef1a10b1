use Rattle.treefs_values.proofs.Dropping.{dropped_files, dropped_volume}
use Rattle.treefs_values.proofs.law.dropped_blocks_change_no_file.Goals as goal

pub returns : goal.returns
returns c = λ node inode top type type' old new v n q places k number is_kind no_directory way there gone whole past. (
  dropped_volume node inode top type type' old new v n number q way there places gone k is_kind no_directory past whole,
  dropped_files node inode top type type' old new v n number q way there places gone k is_kind no_directory past,
)
