use Rattle.std.proofs.Common.{◌∙◌, ap}
use Rattle.std.specs.Prelude.{List, Bool}
use Rattle.xn_model.specs.Lives.{Lives, root_on_disk}
use Rattle.block_cache.specs.Named.{names_type, places_named}
use Rattle.block_cache.proofs.Named.{has_named, named_within}
use Rattle.block_cache.proofs.cache.Cache.has_type_on_disk.Goals as goal

pub returns-then-ty : goal.returns-then-ty
returns-then-ty c =
    named_within c.self.inside.named.places c.args.ty c.if-ty-lt-BUILT_IN_TYPES.false c.if-ty.true
    ∙ (ap (λ (ns : List Bool). names_type ns c.args.ty) (c.self.invariant.named ∙ ap (λ (ls : Lives). places_named (root_on_disk ls)) c.self.view_is)
    ∙ has_named (root_on_disk c.args.self.now) c.args.ty)
