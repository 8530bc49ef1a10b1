use Rattle.std.proofs.Common.{◌≡◌, ◌∙◌, Option, sym, subst}
use Rattle.std.specs.Prelude.{IfSome}
use Rattle.xn_model.specs.Lives.{Life}
use Rattle.block_cache.specs.Views.{image_at}
use Rattle.block_cache.proofs.Steps.{image_there, life_there}
use Rattle.block_cache.proofs.cache.Cache.image.Goals as goal

pub image_of-requires : goal.image_of-requires
image_of-requires c =
    (image_there c.self.inside.entries c.self.inside.lives c.args.self.now c.args.block c.in-Some.life.now c.args.count c.self.invariant.kept c.self.view_is c.in-Some.ensures c.requires.has).0

pub returns : goal.returns
returns c =
    let slab = c.self.inside.entries in
    let places = c.self.inside.lives in
    let life = c.in-Some.life.now in
    let image = image_there slab places c.args.self.now c.args.block life c.args.count c.self.invariant.kept c.self.view_is c.in-Some.ensures c.requires.has in
    let there = life_there slab places c.args.self.now c.args.block life c.self.view_is c.in-Some.ensures in
    let P : Option Life → Type 0 = λ o. IfSome o (λ l. c.image_of.result ≡ image_at c.args.count l) in
    subst P (sym there) (c.image_of.ensures ∙ image.1)
