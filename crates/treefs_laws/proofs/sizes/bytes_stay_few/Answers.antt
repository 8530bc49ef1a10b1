use Rattle.treefs_laws.proofs.FewBytes.{put_few, truncated_few, written_few}
use Rattle.treefs_laws.proofs.sizes.bytes_stay_few.Goals as goal

pub returns-clause-truncated : goal.returns-clause-truncated
returns-clause-truncated c = truncated_few

pub returns-clause-written : goal.returns-clause-written
returns-clause-written c = written_few

pub returns-clause-put : goal.returns-clause-put
returns-clause-put c = put_few
