use Rattle.std.proofs.Common.{◌∙◌, ap, length, sym}
use Rattle.std.proofs.lemmas.List.{length-map}
use Rattle.std.specs.Prelude.{option_map}
use Rattle.xn_model.specs.Lives.{Lives}
use Rattle.block_cache.specs.Undone.{life_of}
use Rattle.block_cache.proofs.GroupLives.{length-places_of}
use Rattle.block_cache.proofs.cache.Cache.blocks.Goals as goal

pub returns : goal.returns
returns c =
    sym (length-places_of c.lives.inside.blocks c.lives.inside.groups.items)
    ∙ (ap (λ os. length os) c.lives.view_is
    ∙ (sym (length-map c.self.inside.lives (option_map (life_of c.self.inside.entries))) ∙ ap (λ (ls : Lives). length ls) c.self.view_is))
