use Rattle.std.proofs.Common.{◌≡◌, map, take, length}
use Rattle.templates.specs.Meaning.{numbers_of_pair}
use Rattle.claims.proofs.pairs.owned_pairs.Given as goal

abbrev pub invariant-loop-pair : goal.invariant-loop-pair
invariant-loop-pair l = (l.pairs.items ≡ map numbers_of_pair (take l.pair-index l.pair-items)) × (length l.pairs.items ≡ l.pair-index)
