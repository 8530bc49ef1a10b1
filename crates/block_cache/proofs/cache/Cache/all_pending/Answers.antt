use Rattle.std.proofs.Common.{◌∙◌, ap, arith, length}
use Rattle.std.proofs.lemmas.List.{length-map}
use Rattle.std.specs.Prelude.{option_map, sum_by}
use Rattle.xn_model.specs.Lives.{Lives}
use Rattle.xn_model.specs.Worlds.{all_pending}
use Rattle.block_cache.specs.Totals.{pending_count}
use Rattle.block_cache.specs.Undone.{life_of}
use Rattle.block_cache.specs.declared.totals.Totals.{Totals}
use Rattle.block_cache.proofs.Counting.{all_pending_is, few_of_all}
use Rattle.block_cache.proofs.cache.Cache.all_pending.Goals as goal

pub returns-clause-count : goal.returns-clause-count
returns-clause-count c =
    ap (λ (t : Totals). t.pending) c.lives.invariant.counted
    ∙ (ap (sum_by pending_count) c.lives.view_is
    ∙ (all_pending_is c.self.inside.entries c.self.inside.lives c.self.invariant.kept ∙ ap (λ (ls : Lives). all_pending ls) c.self.view_is))

pub returns-clause-few : goal.returns-clause-few
returns-clause-few c =
    omega (
      arith,
      ap (λ (t : Totals). t.pending) c.lives.invariant.counted,
      ap (sum_by pending_count) c.lives.view_is,
      few_of_all c.self.inside.entries c.self.inside.lives c.self.invariant.kept,
      ap (λ (ls : Lives). length ls) c.self.view_is,
      length-map c.self.inside.lives (option_map (life_of c.self.inside.entries)),
    )
