use Rattle.treefs_laws.proofs.MovedVolume.{renamed_law}
use Rattle.treefs_laws.proofs.law.rename_moves_a_name.Goals as goal

pub returns : goal.returns
returns c = λ T state state' volume volume' d name to new is_open place wide does. renamed_law T state state' volume d name to new is_open wide place volume' does
