use Rattle.ffs_lookup.proofs.Single.{created_single, made_single, removed_single, renamed_single, replaced_single, unlinked_single, written_single}
use Rattle.ffs_lookup.proofs.law.names_stand_once.Goals as goal

pub returns-clause-made : goal.returns-clause-made
returns-clause-made c = made_single

pub returns-clause-created : goal.returns-clause-created
returns-clause-created c = λ files d name value next kind is single. created_single files single d name value next kind is

pub returns-clause-written : goal.returns-clause-written
returns-clause-written c = λ files n offset bytes next is single. written_single files single n offset bytes next is

pub returns-clause-unlinked : goal.returns-clause-unlinked
returns-clause-unlinked c = λ files d name next is single. unlinked_single files single d name next is

pub returns-clause-removed : goal.returns-clause-removed
returns-clause-removed c = λ files d name next is single. removed_single files single d name next is

pub returns-clause-renamed : goal.returns-clause-renamed
returns-clause-renamed c = λ files d name other new_name next is single. renamed_single files single d name other new_name next is

pub returns-clause-replaced : goal.returns-clause-replaced
returns-clause-replaced c = λ files d name other other_name next is single. replaced_single files single d name other other_name next is
