use Rattle.treefs_format.proofs.Made.{length-rewritten, rewritten_read, rewritten_whole}
use Rattle.treefs_format.proofs.law.buckets_are_rewritten.Goals as goal

pub returns-clause-records : goal.returns-clause-records
returns-clause-records c = λ bytes range. rewritten_read bytes range

pub returns-clause-long : goal.returns-clause-long
returns-clause-long c = length-rewritten

pub returns-clause-whole : goal.returns-clause-whole
returns-clause-whole c = λ bytes range clear. rewritten_whole bytes range clear
