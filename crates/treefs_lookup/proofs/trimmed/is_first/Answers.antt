use Rattle.std.proofs.Common.{◌∙◌, ◌-◌, ◌+◌, ◌/◌, ◌%◌, ap}
use Rattle.std.specs.Prelude.{◌&&◌}
use Rattle.std.proofs.lemmas.Bool.{eq-eqb}
use Rattle.treefs_lookup.specs.Trimmed.{is_first}
use Rattle.treefs_lookup.proofs.FirstBlocks.{first_step}
use Rattle.treefs_lookup.proofs.trimmed.is_first.Goals as goal

pub loop-level-preserved : goal.loop-level-preserved
loop-level-preserved c =
    c.loop-level.invariant ∙ (first_step c.args.levels c.loop-level._level c.loop-level.place c.loop-level-test.true
    ∙ ap (λ t. t && is_first (c.args.levels - (c.loop-level._level + 1)) (c.loop-level.place / 127)) (eq-eqb (c.loop-level.place % 127) 0 c.if-place-ne0.false))
