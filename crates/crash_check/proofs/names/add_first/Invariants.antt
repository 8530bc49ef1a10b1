use Rattle.std.proofs.Common.{◌≡◌, map, drop}
use Rattle.xn_model.specs.Types.{Types}
use Rattle.image_model.specs.Walk.{named_by, add_all}
use Rattle.templates.specs.Meaning.{numbers_of_pair}
use Rattle.crash_check.specs.Known.{AreKnown}
use Rattle.crash_check.proofs.names.add_first.Given as goal

abbrev pub invariant-loop-at : goal.invariant-loop-at
invariant-loop-at l =
    (T : Types) → AreKnown T l.known → add_all T l.count l.owner l.fn.named.entries (map (named_by l.owner l.fs) (map numbers_of_pair l.pairs))
    ≡ add_all T l.count l.owner l.named.entries (map (named_by l.owner l.fs) (map numbers_of_pair (drop l.at l.pairs)))
