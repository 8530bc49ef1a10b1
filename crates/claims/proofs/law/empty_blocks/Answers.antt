use Rattle.claims.proofs.OwnedPairs.{empty_block}
use Rattle.claims.proofs.law.empty_blocks.Goals as goal

pub returns : goal.returns
returns c = λ T state b l ok alive. empty_block T state b l ok alive
