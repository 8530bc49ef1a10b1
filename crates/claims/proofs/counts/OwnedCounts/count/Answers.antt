use Rattle.std.proofs.Common.{◌∙◌, ap, ℕ, List}
use Rattle.std.specs.Prelude.{slice_get}
use Rattle.claims.proofs.Counted.{none_past}
use Rattle.claims.proofs.counts.OwnedCounts.count.Goals as goal

pub returns-in-None : goal.returns-in-None
returns-in-None c =
    none_past c.args.self.now c.args.block c.get.result (c.get.ensures ∙ ap (λ (counts : List ℕ). slice_get counts c.args.block) c.self.view_is) c.in-None.is
