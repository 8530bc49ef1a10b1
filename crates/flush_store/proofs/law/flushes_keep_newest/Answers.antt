use Rattle.flush_store.proofs.Kept.{refused_keep, waves_keep}
use Rattle.flush_store.proofs.law.flushes_keep_newest.Goals as goal

pub returns-clause-waves : goal.returns-clause-waves
returns-clause-waves g = waves_keep

pub returns-clause-refused : goal.returns-clause-refused
returns-clause-refused g = refused_keep
