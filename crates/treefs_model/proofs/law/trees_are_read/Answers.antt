use Rattle.treefs_model.proofs.Trees.{bare_pointer, bare_records, reads_types}
use Rattle.treefs_model.proofs.law.trees_are_read.Goals as goal

pub returns-clause-pointers : goal.returns-clause-pointers
returns-clause-pointers c = reads_types

pub returns-clause-bare : goal.returns-clause-bare
returns-clause-bare c = bare_pointer

pub returns-clause-empty : goal.returns-clause-empty
returns-clause-empty c = bare_records
