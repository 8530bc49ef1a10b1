use Rattle.templates.proofs.OneSpelling.{blocks_want_no_memory}
use Rattle.templates.proofs.law.blocks_want_no_memory.Goals as goal

pub returns : goal.returns
returns c = blocks_want_no_memory
