use Rattle.std.proofs.Common.{◌==◌, false, rules}
use Rattle.std.specs.Prelude.{not}
use Rattle.std.proofs.lemmas.List.FromFn.{fill_by_all}
use Rattle.xn_model.specs.Root.{pointer}
use Rattle.block_cache.specs.Named.{places_named}
use Rattle.block_cache.proofs.named_places.NamedPlaces.of.Goals as goal

pub returns : goal.returns
unfolding places_named
returns c = fill_by_all (λ k. not (pointer c.args.root.now k == 0)) c.loop-place.places 16 false c.loop-place.invariant.0 (search rules)
