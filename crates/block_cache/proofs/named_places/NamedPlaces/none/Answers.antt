use Rattle.block_cache.proofs.Named.{none_named}
use Rattle.block_cache.proofs.named_places.NamedPlaces.none.Goals as goal

pub returns : goal.returns
returns c = none_named
