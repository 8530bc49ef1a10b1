use Rattle.ffs_lookup.proofs.ValueCalls.{count_told, created_told, into_told, listed_told, written_told}
use Rattle.ffs_lookup.proofs.ValueNames.{removed_told, renamed_told, unlinked_told}
use Rattle.ffs_lookup.proofs.law.look_ups_are_of_files.Goals as goal

pub returns-clause-created : goal.returns-clause-created
returns-clause-created c = λ content fs d name value. created_told content fs value d name

pub returns-clause-written : goal.returns-clause-written
returns-clause-written c = written_told

pub returns-clause-unlinked : goal.returns-clause-unlinked
returns-clause-unlinked c = unlinked_told

pub returns-clause-removed : goal.returns-clause-removed
returns-clause-removed c = removed_told

pub returns-clause-renamed : goal.returns-clause-renamed
returns-clause-renamed c = renamed_told

pub returns-clause-listed : goal.returns-clause-listed
returns-clause-listed c = listed_told

pub returns-clause-count : goal.returns-clause-count
returns-clause-count c = count_told

pub returns-clause-bytes : goal.returns-clause-bytes
returns-clause-bytes c = into_told
