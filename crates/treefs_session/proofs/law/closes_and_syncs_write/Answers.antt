use Rattle.treefs_session.proofs.Written.{closes_write, syncs_write}
use Rattle.treefs_session.proofs.law.closes_and_syncs_write.Goals as goal

pub returns-clause-closes : goal.returns-clause-closes
returns-clause-closes g = closes_write

pub returns-clause-syncs : goal.returns-clause-syncs
returns-clause-syncs g = syncs_write
