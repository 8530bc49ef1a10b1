use Rattle.std.proofs.Common.{rules}
use Rattle.xn_model.specs.Root.{word_at}
use Rattle.templates.proofs.root.word_at.Goals as goal

pub returns : goal.returns
unfolding word_at
returns c = search rules
