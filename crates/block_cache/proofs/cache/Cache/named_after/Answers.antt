use Rattle.std.proofs.Common.{◌∙◌, ap, sym}
use Rattle.xn_model.specs.Lives.{Lives, root_on_disk}
use Rattle.block_cache.specs.Named.{places_named}
use Rattle.block_cache.proofs.Named.{settled_other}
use Rattle.block_cache.proofs.cache.Cache.named_after.Goals as goal

pub returns-then-block-ne0 : goal.returns-then-block-ne0
returns-then-block-ne0 c =
    c.self.invariant.named
    ∙ ap places_named (ap (λ (ls : Lives). root_on_disk ls) c.self.view_is ∙ sym (settled_other c.args.self.now c.args.block c.args.count c.if-block-ne0.true))
