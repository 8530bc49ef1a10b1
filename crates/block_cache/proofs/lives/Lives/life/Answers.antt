use Rattle.std.proofs.Common.{◌∙◌, arith, sym}
use Rattle.block_cache.proofs.GroupLives.{group_place, no_place_in}
use Rattle.block_cache.proofs.lives.Lives.life.Goals as goal

pub returns-then-block-self : goal.returns-then-block-self
returns-then-block-self c = sym (no_place_in c.self.inside.blocks c.self.inside.groups.items c.args.self.now c.args.block c.self.view_is c.if-block-self.true)

pub returns : goal.returns
returns c =
    c.life.ensures
    ∙ group_place c.self.inside.blocks c.self.inside.groups.items c.args.self.now c.args.block c.index.result.now c.self.view_is c.if-block-self.false
    (omega (arith, c.if-block-self.false, c.self.invariant.room)) c.index.ensures
