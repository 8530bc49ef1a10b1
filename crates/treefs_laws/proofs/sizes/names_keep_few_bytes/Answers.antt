use Rattle.treefs_laws.proofs.FewBytes.{linked_few, made_few, removed_few, renamed_few, replaced_few, unlinked_few}
use Rattle.treefs_laws.proofs.sizes.names_keep_few_bytes.Goals as goal

pub returns-clause-made : goal.returns-clause-made
returns-clause-made c = made_few

pub returns-clause-replaced : goal.returns-clause-replaced
returns-clause-replaced c = replaced_few

pub returns-clause-linked : goal.returns-clause-linked
returns-clause-linked c = linked_few

pub returns-clause-unlinked : goal.returns-clause-unlinked
returns-clause-unlinked c = unlinked_few

pub returns-clause-removed : goal.returns-clause-removed
returns-clause-removed c = removed_few

pub returns-clause-renamed : goal.returns-clause-renamed
returns-clause-renamed c = renamed_few
