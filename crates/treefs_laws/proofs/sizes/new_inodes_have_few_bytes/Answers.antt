use Rattle.treefs_laws.proofs.FewBytes.{begun_few, directory_few, empty_few, link_few}
use Rattle.treefs_laws.proofs.sizes.new_inodes_have_few_bytes.Goals as goal

pub returns-clause-file : goal.returns-clause-file
returns-clause-file c = empty_few

pub returns-clause-link : goal.returns-clause-link
returns-clause-link c = link_few

pub returns-clause-directory : goal.returns-clause-directory
returns-clause-directory c = directory_few

pub returns-clause-begun : goal.returns-clause-begun
returns-clause-begun c = begun_few
