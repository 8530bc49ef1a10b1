use Rattle.xn_model.proofs.Bytes.{length-joined, blocks_read}
use Rattle.xn_model.proofs.blocks_are_read.Goals as goal

pub returns-clause-blocks : goal.returns-clause-blocks
returns-clause-blocks c = blocks_read

pub returns-clause-bytes : goal.returns-clause-bytes
returns-clause-bytes c = length-joined
