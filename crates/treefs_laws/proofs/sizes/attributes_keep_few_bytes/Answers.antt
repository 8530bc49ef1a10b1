use Rattle.treefs_laws.proofs.FewBytes.{attributes_few, mtime_few}
use Rattle.treefs_laws.proofs.sizes.attributes_keep_few_bytes.Goals as goal

pub returns-clause-attributes : goal.returns-clause-attributes
returns-clause-attributes c = attributes_few

pub returns-clause-times : goal.returns-clause-times
returns-clause-times c = mtime_few
