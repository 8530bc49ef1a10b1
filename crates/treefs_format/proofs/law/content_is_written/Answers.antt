use Rattle.treefs_format.proofs.Stated.{content_others, content_written}
use Rattle.treefs_format.proofs.law.content_is_written.Goals as goal

pub returns-clause-content : goal.returns-clause-content
returns-clause-content c = content_written

pub returns-clause-others : goal.returns-clause-others
returns-clause-others c = content_others
