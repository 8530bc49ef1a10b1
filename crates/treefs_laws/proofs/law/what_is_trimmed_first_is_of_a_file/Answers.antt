use Rattle.treefs_laws.proofs.TrimSought.{truncate_sought, write_sought}
use Rattle.treefs_laws.proofs.law.what_is_trimmed_first_is_of_a_file.Goals as goal

pub returns-clause-truncate : goal.returns-clause-truncate
returns-clause-truncate c = truncate_sought

pub returns-clause-write : goal.returns-clause-write
returns-clause-write c = write_sought
