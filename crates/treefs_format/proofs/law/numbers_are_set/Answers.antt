use Rattle.treefs_format.proofs.Made.{made_anew, renumbered_read, renumbered_whole}
use Rattle.treefs_format.proofs.law.numbers_are_set.Goals as goal

pub returns-clause-records : goal.returns-clause-records
returns-clause-records c = λ bytes r number range there few. renumbered_read bytes r number range there few

pub returns-clause-whole : goal.returns-clause-whole
returns-clause-whole c = λ bytes r number range there few clear. renumbered_whole bytes r number range there few clear

pub returns-clause-made_anew : goal.returns-clause-made_anew
returns-clause-made_anew c = λ bytes r number range there. made_anew bytes r number range there
