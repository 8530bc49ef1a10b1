use Rattle.treefs_format.proofs.Stated.{records_made, records_whole}
use Rattle.treefs_format.proofs.law.records_are_made.Goals as goal

pub returns-clause-record : goal.returns-clause-record
returns-clause-record c = records_made

pub returns-clause-whole : goal.returns-clause-whole
returns-clause-whole c = records_whole
