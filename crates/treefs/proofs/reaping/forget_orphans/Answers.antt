use Rattle.std.proofs.Common.{ℕ, not, rules}
use Rattle.std.proofs.lemmas.Fn.{filter_same}
use Rattle.treefs.specs.Reaping.{is_freed}
use Rattle.treefs.proofs.reaping.forget_orphans.Goals as goal

pub returns : goal.returns
returns c = filter_same _ (λ (number : ℕ). not (is_freed c.args.freed.now number)) _ (λ x b f h. search rules) _ _ c.retain.ensures.filtered
