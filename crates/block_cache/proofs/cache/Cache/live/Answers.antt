use Rattle.std.proofs.Common.{◌∙◌, Some, ap, sym}
use Rattle.block_cache.proofs.Changes.{place_kept}
use Rattle.block_cache.proofs.Steps.{life_there}
use Rattle.block_cache.proofs.cache.Cache.live.Goals as goal

pub of-requires : goal.of-requires
of-requires c = (c.args.block, place_kept c.self.inside.entries c.self.inside.lives c.args.block c.in_ok-life.life.now c.self.invariant.kept (sym c.in_ok-life.ensures))

pub returns : goal.returns
returns c =
    ap (λ l. Some l) c.of.ensures ∙ sym (life_there c.self.inside.entries c.self.inside.lives c.args.self.now c.args.block c.in_ok-life.life.now c.self.view_is c.in_ok-life.ensures)
