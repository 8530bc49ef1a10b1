use Rattle.std.proofs.Common.{not, rules}
use Rattle.std.proofs.lemmas.Fn.{filter_same}
use Rattle.treefs_edits.specs.declared.memory.Touched.{Touched}
use Rattle.treefs.specs.Reaping.{is_freed}
use Rattle.treefs.proofs.reaping.forget_touches.Goals as goal

pub returns : goal.returns
returns c = filter_same _ (λ (touch : Touched). not (is_freed c.args.freed.now touch.number)) _ (λ x b f h. search rules) _ _ c.retain.ensures.filtered
