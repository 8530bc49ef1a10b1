use Rattle.std.proofs.Common.{◌∙◌, ap, sym}
use Rattle.xn_model.specs.Lives.{Life, current}
use Rattle.block_cache.specs.Cached.{CachedLife}
use Rattle.block_cache.proofs.Changes.{current_of_life}
use Rattle.block_cache.proofs.live_block.LiveBlock.current.Goals as goal

pub returns : goal.returns
returns c =
    ap (λ (l : CachedLife). l.current) c.life.view_is
    ∙ (sym (current_of_life c.self.inside.entries.now c.self.invariant.0 c.self.inside.life.now c.self.invariant.1) ∙ ap (λ (l : Life). current l) c.self.view_is)
