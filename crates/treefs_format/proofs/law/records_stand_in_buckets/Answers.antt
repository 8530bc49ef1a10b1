use Rattle.treefs_format.proofs.Loops.{ends_within}
use Rattle.treefs_format.proofs.Made.{zeros_none}
use Rattle.treefs_format.proofs.law.records_stand_in_buckets.Goals as goal

pub returns-clause-within : goal.returns-clause-within
returns-clause-within c = ends_within

pub returns-clause-none : goal.returns-clause-none
returns-clause-none c = zeros_none
